-- `grouping::hierarchy::put_row` meets its contract. The loop's invariant is `Put` of `RowLaws`: the entries of the row that are written, and
-- all others as they were. Assumes nothing.
use Prim.Native.Nat.{◌≤◌}
use lib.ListN.{get_or}
use Rattle.grouping.proofs.RowLaws.{Put}
use Rattle.grouping.proofs.hierarchy.put_row.Given as goal

abbrev pub invariant-loop-v : goal.invariant-loop-v
invariant-loop-v l = (l.v ≤ l.n) × Put l.start (λ u. get_or l.level u 0) l.initial.labels l.labels l.v
