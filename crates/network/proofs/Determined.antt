-- The contract of the public call determines what it answers and leaves in the owners: two results that it allows are equal.
-- Assumes nothing.
use Prim.Native.Nat.{ℕ}
use mathlib.Core.Path.{◌≡◌, refl, sym, ◌∙◌}
use mathlib.Core.Bool.{Bool, true, false}
use mathlib.Core.List.{List}
use native.Mathlib.Nat.{le_refl}
use Rattle.rules.specs.Sweep.{wanted_in}
use Rattle.rules.proofs.FillLaws.{over_agree}
use Rattle.rules.proofs.NetworkLaws.{least-only}
use Rattle.rules.proofs.SweepLaws.{sweep-both}
use Rattle.network.specs.Calls.{OwnersOf, OwnersAre}

module _ {k : ℕ} {xs ys zs ds wanted owner os os' : List ℕ} where
  same-owners : OwnersOf k xs ys zs ds wanted owner os → OwnersOf k xs ys zs ds wanted owner os' → os ≡ os'
  same-owners a b =
      a.filled
      ∙ over_agree k _ _ owner (λ v h. sweep-both k a.sets b.sets (wanted_in wanted) k (λ i c s t. least-only (a.least i c s) (b.least i c t)) k v (le_refl k) h)
      ∙ sym b.filled

  same_answer : (r r' : Bool) → OwnersAre k xs ys zs ds wanted owner r os → OwnersAre k xs ys zs ds wanted owner r' os' → r ≡ r'
  same_answer true true a b = refl
  same_answer false false a b = refl
  same_answer true false a b = absurd ((b.refused refl).0 (a.taken refl))
  same_answer false true a b = absurd ((a.refused refl).0 (b.taken refl))

  same-list : (r : Bool) → OwnersAre k xs ys zs ds wanted owner r os → OwnersAre k xs ys zs ds wanted owner r os' → os ≡ os'
  same-list false a b = (a.refused refl).1 ∙ sym (b.refused refl).1
  same-list true a b = same-owners (a.found refl) (b.found refl)

  pub owners-determined : {r r' : Bool} → OwnersAre k xs ys zs ds wanted owner r os → OwnersAre k xs ys zs ds wanted owner r' os' → (r ≡ r') × (os ≡ os')
  owners-determined {r} {r'} a b =
      let e = same_answer r r' a b in
      (e, same-list r a (rw e b))
