-- `grouping::drains::share_out` meets its contract. The loop's invariant: each node has the shares of its devices below v. Assumes nothing.
use Rattle.std.proofs.Common.{◌≤◌}
use Rattle.grouping.proofs.GroupSums.{Tally, none}
use Rattle.grouping.proofs.DrainLaws.{share}
use Rattle.grouping.proofs.drains.share_out.Given as goal

abbrev pub invariant-loop-v : goal.invariant-loop-v
invariant-loop-v l = (l.v ≤ l.n) × Tally l.n none (share l.p l.node) l.shares l.v
