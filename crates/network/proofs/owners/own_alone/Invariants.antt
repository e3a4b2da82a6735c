-- `network::owners::own_alone` meets its contract. The loop's invariant: the entries of the nodes below x are filled, and the rest is as it was.
-- Assumes nothing.
use Prim.Native.Nat.{◌≤◌}
use mathlib.Core.Path.{◌≡◌}
use mathlib.Core.Bool.{cond}
use Rattle.rules.specs.Groups.{table}
use Rattle.rules.specs.Lists.{over}
use Rattle.rules.specs.Sweep.{wanted_in}
use Rattle.network.proofs.owners.own_alone.Given as goal

abbrev pub invariant-loop-x : goal.invariant-loop-x
invariant-loop-x l = (l.x ≤ l.k) × (l.owner ≡ over (table l.x (λ v. cond (wanted_in l.wanted v) v l.k)) l.initial.owner)
