-- Document 01, "The order of devices in the search has no influence": whatever the order in which the devices are gone through, each at
-- least once, the devices with one owner are one group, so that the labels from the owners are the labels of the groups.
-- Assumes nothing.
use mathlib.Core.Path.{◌≡◌, refl}
use mathlib.Core.Bool.{true, false≢true}
use mathlib.Core.List.{List, [], ◌∷◌}
use mathlib.Core.Logic.{◌⊎◌, inl, inr, ⊎_elim}
use Prim.Native.Nat.{ℕ, ◌<◌}
use lib.Dec.{eqb}
use borrow.Author.Tests.{eqb-true, eq-eqb}
use Rattle.rules.specs.Plant.{Plant}
use Rattle.rules.specs.Cut.{Devices, size}
use Rattle.rules.specs.Community.{community}
use Rattle.rules.specs.Groups.{among, label}
use Rattle.rules.specs.Order.{visit, visit_all, sweep_over, Order, lowest_with}
use Rattle.rules.proofs.Family.{Family}
use Rattle.rules.proofs.SetLaws.{or_right, or_cases}
use Rattle.rules.proofs.Owners.{Owned, State, state-fewer, visited-all, owner-label}

-- in a list with d in front stand d and what stands in the rest
front : (f d : ℕ) (ds : List ℕ) → among f (d ∷ ds) ≡ true → (f ≡ d) ⊎ (among f ds ≡ true)
unfolding among
front f d ds h = ⊎_elim (λ e. inl (eqb-true f d e)) (λ r. inr r) (or_cases (eqb f d) (among f ds) h)

first-among : (d : ℕ) (ds : List ℕ) → among d (d ∷ ds) ≡ true
unfolding among
first-among d ds = rw (eq-eqb d d refl)

rest-among : (f d : ℕ) (ds : List ℕ) → among f ds ≡ true → among f (d ∷ ds) ≡ true
unfolding among
rest-among f d ds h = or_right (eqb f d) (among f ds) h

module _ (n : ℕ) (weigh : Devices → ℕ) (C : ℕ → Devices) (fam : Family n weigh C) where
  -- the state of each device after the devices of a list
  gone : (order : List ℕ) (Gone : ℕ → Type 0) (owner : ℕ → ℕ) → ((d : ℕ) → among d order ≡ true → d < n) → ((v : ℕ) → v < n → State n C Gone owner v (owner v))
      → (v : ℕ) → v < n → State n C (λ f. Gone f ⊎ (among f order ≡ true)) (visit_all C n order owner) v (visit_all C n order owner v)
  unfolding visit_all among
  gone [] Gone owner only all v h = state-fewer n C (λ f. ⊎_elim (λ g. g) (λ a. absurd (false≢true a))) (all v h)
  gone (d ∷ ds) Gone owner only all v h =
      state-fewer n C
      (λ f. ⊎_elim (λ g. inl (inl g)) (λ a. ⊎_elim (λ e. inl (inr e)) (λ r. inr r) (front f d ds a)))
      (gone ds (λ f. Gone f ⊎ (f ≡ d)) (visit C n d owner) (λ e a. only e (rest-among e d ds a)) (visited-all n weigh C fam Gone owner all d (only d (first-among d ds))) v h)

  pub order-owned : (order : List ℕ) → Order n order → (v : ℕ) → v < n → Owned n C (sweep_over C n order) v (sweep_over C n order v)
  unfolding sweep_over
  order-owned order o v h =
      ⊎_elim
      (λ f. absurd (f.none v (inr (o.each v h)) (fam.own v h)))
      (λ w. w)
      (gone order (λ f. ⊥) (λ u. n) o.only (λ u hu. inl (record { nobody = refl; none = λ f a. absurd a })) v h)

module _ (g : Plant) (p q : ℕ) (fam : Family g.devices (size g) (community g p q)) where
  pub order-label : (order : List ℕ) → Order g.devices order → (v : ℕ) → v < g.devices
      → label g p q v ≡ lowest_with g.devices (sweep_over (community g p q) g.devices order) v
  order-label order o = owner-label g p q fam (sweep_over (community g p q) g.devices order) (order-owned g.devices (size g) (community g p q) fam order o)
