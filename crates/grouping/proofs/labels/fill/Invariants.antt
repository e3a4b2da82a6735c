-- `grouping::labels::fill` meets its contract. The loop's invariant is that of `OwnerLaws`: the firsts that are known, and the labels
-- written so far. Assumes nothing.
use Prim.Native.Nat.{◌≤◌}
use mathlib.Core.Path.{◌≡◌}
use Rattle.rules.specs.Groups.{table}
use Rattle.rules.specs.Lists.{over}
use Rattle.grouping.specs.Level.{first_with}
use Rattle.grouping.proofs.OwnerLaws.{Firsts}
use Rattle.grouping.proofs.labels.fill.Given as goal

abbrev pub invariant-loop-v : goal.invariant-loop-v
invariant-loop-v l =
    (l.v ≤ l.n) × (l.labels ≡ over (table l.v (first_with l.n l.owner)) l.initial.labels) × Firsts l.n l.owner l.first l.groups l.v
