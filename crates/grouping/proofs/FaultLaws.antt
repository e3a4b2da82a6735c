-- The first fault of the grouping call. The search for owners gives the numbers 1 to 9, and 12 is left for the labels.
-- Assumes nothing.
use mathlib.Core.Path.{◌≡◌, refl, sym, ◌∙◌, ap}
use mathlib.Core.Bool.{Bool, true, false}
use mathlib.Core.List.{List, [], ◌∷◌}
use mathlib.Core.Logic.{◌⊎◌, inl, inr}
use Prim.Native.Nat.{ℕ, ◌≤◌, ◌<◌}
use native.Mathlib.Decide.{ℕ_discrete}
use native.Mathlib.Omega.{arith}
use borrow.Author.Tests.{le-ltb, lt-ltb}
use Rattle.rules.specs.Refusal.{Refusal}
use Rattle.rules.specs.Rates.{rate_ok}
use Rattle.rules.specs.Refusals.{done, cause, or_else, first_of, rate_fault, room_fault, after_plant, about, nothing, plant_says, plant_fault}
use Rattle.rules.specs.Accepted.{Accepted}
use Rattle.rules.proofs.RefusalLaws.{done_next, call-is, call-plant, plant-clean, plant-accepted, accepted-done}
use Rattle.rules.proofs.RangeLaws.{in-range}
use Rattle.cut.specs.declared.plant.Plant as lists
use Rattle.cut.specs.declared.rate.AcceptedRate.{AcceptedRate}
use Rattle.cut.specs.Calls.{owners_fault}
use Rattle.grouping.specs.Calls.{grouping_fault}

module _ (n : ℕ) (xs ys zs : List ℕ) (p q : ℕ) where
  abbrev plant : Refusal
  plant = plant_fault n xs ys zs

  -- plant and rate are accepted
  pub record Clear : Type 0 where
    pub accepted : Accepted n xs ys zs
    pub rate : rate_ok p q ≡ true

  pub cleared : Accepted n xs ys zs → rate_ok p q ≡ true → Clear
  cleared a r = record { accepted = a; rate = r }

  -- a call with a plant, a rate and a room
  abbrev call : Refusal → Refusal
  call room = or_else plant (first_of (rate_fault p q ∷ room ∷ []))

  good : Clear → plant ≡ done
  good c = accepted-done n xs ys zs c.accepted

  call-9 : (room : Refusal) → plant ≡ done → rate_ok p q ≡ false → call room ≡ record { number = 9; place = 0 }
  unfolding first_of or_else cause done rate_fault
  call-9 room e off = rw (e, off)

  call-room : (room : Refusal) → Clear → call room ≡ or_else room done
  unfolding first_of or_else cause done rate_fault
  call-room room c = rw (good c, c.rate)

  -- the search for owners, with room for 128 devices, is refused for plant or rate alone
  rooms : Refusal
  rooms = room_fault n 128

  fault : Refusal
  fault = owners_fault n xs ys zs p q 128

  fault-is : fault ≡ call rooms
  unfolding fault owners_fault rooms after_plant about plant_says nothing first_of
  fault-is = call-is n xs ys zs _ refl refl refl refl ∙ simp done_next

  grouping-is : (room : ℕ) → grouping_fault n xs ys zs p q room ≡ call (room_fault n room)
  unfolding grouping_fault after_plant about plant_says nothing first_of
  grouping-is room = call-is n xs ys zs _ refl refl refl refl ∙ simp done_next

  pub owners-done : Clear → owners_fault n xs ys zs p q 128 ≡ done
  unfolding fault rooms first_of or_else cause done room_fault
  owners-done c = fault-is ∙ call-room rooms c ∙ rw (le-ltb 128 n c.accepted.most_devices)

  -- of a call that is refused for plant or rate the grouping call says the same
  pub owners-cases : (room : ℕ) → Clear ⊎ ((grouping_fault n xs ys zs p q room ≡ owners_fault n xs ys zs p q 128) × ((owners_fault n xs ys zs p q 128).number ≡ 0 → ⊥))
  unfolding fault
  owners-cases room = go (ℕ_discrete plant.number 0) (rate_ok p q) refl
    where
      go : Dec (plant.number ≡ 0) → (b : Bool) → rate_ok p q ≡ b → Clear ⊎ ((grouping_fault n xs ys zs p q room ≡ fault) × (fault.number ≡ 0 → ⊥))
      go (no h) b e = inr (grouping-is room ∙ call-plant n xs ys zs _ h ∙ sym same, λ z. h (ap (λ (r : Refusal). r.number) (sym same) ∙ z))
        where
          same : fault ≡ plant
          same = fault-is ∙ call-plant n xs ys zs _ h
      go (yes h) true e = inl (cleared (plant-accepted n xs ys zs _ refl h) e)
      go (yes h) false e = inr (grouping-is room ∙ call-9 (room_fault n room) ok e ∙ sym same, λ z. absurd (omega (arith, ap (λ (r : Refusal). r.number) (sym same) ∙ z)))
        where
          ok : plant ≡ done
          ok = (plant-clean n xs ys zs).whole h

          same : fault ≡ record { number = 9; place = 0 }
          same = fault-is ∙ call-9 rooms ok e

  pub grouping-short : Clear → (room : ℕ) → room < n → grouping_fault n xs ys zs p q room ≡ record { number = 12; place = 0 }
  unfolding or_else cause done room_fault
  grouping-short c room h = grouping-is room ∙ call-room (room_fault n room) c ∙ rw (lt-ltb room n h)

  pub grouping-done : Clear → (room : ℕ) → n ≤ room → grouping_fault n xs ys zs p q room ≡ done
  unfolding or_else cause done room_fault
  grouping-done c room h = grouping-is room ∙ call-room (room_fault n room) c ∙ rw (le-ltb room n h)

-- a rate in range, and with an accepted plant
pub rate-taken : (r : AcceptedRate) → rate_ok r.p r.q ≡ true
rate-taken r = in-range (record { p_least = r.p_least; p_most = r.p_most; q_least = r.q_least; q_most = r.q_most })

pub clear-at : (g : lists.Plant) (r : AcceptedRate) → Clear g.devices g.firsts.now g.seconds.now g.signals.now r.p r.q
clear-at g r = cleared _ _ _ _ _ _ g.accepted (rate-taken r)
