-- `desk::put_labels` meets its contract. The loop's invariant: the labels of the devices passed are filled, and the rest is as it was.
-- Assumes nothing.
use Prim.Native.Nat.{◌≤◌}
use mathlib.Core.Path.{◌≡◌}
use lib.ListN.{get_or}
use Rattle.rules.specs.Groups.{table}
use Rattle.rules.specs.Lists.{over}
use Rattle.desk.proofs.put_labels.Given as goal

abbrev pub invariant-loop-v : goal.invariant-loop-v
invariant-loop-v l = (l.v ≤ l.n) × (l.labels ≡ over (table l.v (λ u. get_or l.found u 0)) l.initial.labels)
