-- `network::reach::Queue::first_used` meets its contract. The loop's invariant is `Used`: of the places on the way those above j have been gone through. The measure is j.
-- Assumes nothing.
use Rattle.std.proofs.Common.{◌≡◌, ◌+◌, ◌≤◌}
use Rattle.std.specs.Prelude.{IfSome, unwrap_or}
use Rattle.network.specs.Search.{spare_to}
use Rattle.network.proofs.PathLaws.{Used}
use Rattle.network.proofs.reach.Queue.first_used.Given as goal

abbrev pub invariant-loop-j : goal.invariant-loop-j
invariant-loop-j l = record {
  used : Used l.lines.network.firsts.now l.spare.forth l.spare.back l.self.node l.self.via l.self.from l.end (unwrap_or l.used (l.end + 1)) l.j;
  below : IfSome l.used (λ j. (1 ≤ j) × (j ≤ l.end));
  zero : IfSome l.used (λ j. spare_to l.lines.network.firsts.now l.spare.forth l.spare.back l.self.node l.self.via l.self.from j ≡ 0);
}

abbrev pub decreases-loop-j : goal.decreases-loop-j
decreases-loop-j l = l.j
