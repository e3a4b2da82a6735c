-- The row of a level as it is shown: its first fault, test by test; an accepted row has n labels, and is not empty.
-- Assumes nothing.
use Prim.Native.Nat.{ℕ, ◌+◌, ◌-◌, ◌*◌, ◌≤◌, ◌<◌}
use mathlib.Core.Path.{◌≡◌, sym, ap, ◌∙◌}
use mathlib.Core.Bool.{true, false, ◌||◌, false≢true}
use mathlib.Core.List.{List, []}
use native.Mathlib.Nat.{add-sub_cancel_left}
use native.Mathlib.Decide.{ℕ_discrete, dec_lt}
use native.Mathlib.Omega.{arith}
use lib.Dec.{leb, ltb}
use lib.ListN.{length, take, drop}
use borrow.Author.Tests.{eq-eqb, ne_eqb, le-leb, lt-leb, le-ltb, lt-ltb}
use Rattle.std.specs.Prelude.{Result, Ok, Err, is_err}
use Rattle.rules.specs.Refusal.{Refusal}
use Rattle.rules.specs.Faults.{refusal_of, told}
use Rattle.rules.specs.declared.Fault.{Fault}
use Rattle.rules.proofs.FaultLaws.{fault-not-0, first-fault}
use Rattle.rules.specs.Refusals.{done, cause, or_else, first_of, devices_fault, level_fault, room_fault, after_plant, fixed_order, in_order, nothing, about}
use Rattle.rules.proofs.RefusalLaws.{done_next, or_else-done, clean-cause}
use Rattle.grouping.specs.Calls.{row_of, row_fault, row_shown}
use Rattle.grouping.proofs.RowLaws.{row_room, row-length}

-- what is told of an answer that is an error, and of one that is none
pub told-refused : (r : Result Unit Fault) {f : Refusal} → told r ≡ f → is_err r ≡ true → f.number ≡ 0 → ⊥
told-refused (Ok x) e h = absurd (false≢true h)
told-refused (Err f) e h = fault-not-0 f e

pub told-done : (r : Result Unit Fault) {f : Refusal} → told r ≡ f → is_err r ≡ false → f.number ≡ 0
told-done (Ok x) e h = ap (λ (t : Refusal). t.number) (sym e)
told-done (Err f) e h = absurd (false≢true (sym h))

module _ (labels : List ℕ) (n levels k : ℕ) where
  -- what is accepted
  pub record Row : Type 0 where
    pub some_device : 1 ≤ n
    pub most_devices : n ≤ 128
    pub level_there : k < levels
    pub most_levels : levels ≤ n
    pub room : levels * n ≤ length labels

  -- the causes in their order
  row_is : row_fault labels n levels k ≡ or_else (devices_fault n) (or_else (level_fault n levels k) (room_fault (levels * n) (length labels)))
  unfolding row_fault about nothing in_order fixed_order after_plant first_of room_fault
  row_is = simp done_next (ap (λ (r : Refusal). or_else (devices_fault n) (or_else (level_fault n levels k) r)) (or_else-done _ (clean-cause _ 11 0)))

  pub row-devices : (f : Fault) → refusal_of f ≡ devices_fault n → refusal_of f ≡ row_fault labels n levels k
  row-devices f e = first-fault f _ e ∙ sym row_is

  pub row-1 : n ≡ 0 → row_fault labels n levels k ≡ record { number = 1; place = 0 }
  unfolding first_of or_else cause done devices_fault
  row-1 e = row_is ∙ rw (eq-eqb n 0 e)

  pub row-2 : 128 < n → row_fault labels n levels k ≡ record { number = 2; place = 0 }
  unfolding first_of or_else cause done devices_fault
  row-2 h = row_is ∙ rw (ne_eqb n 0 (λ e. omega arith), lt-ltb 128 n h)

  module _ (some : 1 ≤ n) (most : n ≤ 128) where
    devices-done : devices_fault n ≡ done
    unfolding first_of or_else cause done devices_fault
    devices-done = rw (ne_eqb n 0 (λ e. omega arith), le-ltb 128 n most)

    row-16 : (leb levels k || ltb n levels) ≡ true → row_fault labels n levels k ≡ record { number = 16; place = 0 }
    unfolding or_else cause done level_fault
    row-16 e = row_is ∙ rw (devices-done, e)

    pub row-past : levels ≤ k → row_fault labels n levels k ≡ record { number = 16; place = 0 }
    row-past h = row-16 (rw (le-leb levels k h))

    module _ (there : k < levels) where
      pub row-over : n < levels → row_fault labels n levels k ≡ record { number = 16; place = 0 }
      row-over h = row-16 (rw (lt-leb levels k there, lt-ltb n levels h))

      module _ (few : levels ≤ n) where
        row-rest : row_fault labels n levels k ≡ room_fault (levels * n) (length labels)
        unfolding or_else cause done level_fault
        row-rest = row_is ∙ rw (devices-done, lt-leb levels k there, le-ltb n levels few)

        pub row-12 : length labels < levels * n → row_fault labels n levels k ≡ record { number = 12; place = 0 }
        unfolding cause room_fault
        row-12 h = row-rest ∙ rw (lt-ltb (length labels) (levels * n) h)

        pub row_done : levels * n ≤ length labels → row_fault labels n levels k ≡ done
        unfolding cause room_fault
        row_done h = row-rest ∙ rw (le-ltb (length labels) (levels * n) h)

  pub row-accepted : (row_fault labels n levels k).number ≡ 0 → Row
  row-accepted z = go (ℕ_discrete n 0) (dec_lt 128 n) (dec_lt k levels) (dec_lt n levels) (dec_lt (length labels) (levels * n))
    where
      refused : {number : ℕ} → row_fault labels n levels k ≡ record { number = number; place = 0 } → number ≡ 0
      refused e = ap (λ (r : Refusal). r.number) (sym e) ∙ z

      go : Dec (n ≡ 0) → Dec (128 < n) → Dec (k < levels) → Dec (n < levels) → Dec (length labels < levels * n) → Row
      go (yes e) b c d r = absurd (omega (arith, refused (row-1 e)))
      go (no a) (yes h) c d r = absurd (omega (arith, refused (row-2 h)))
      go (no a) (no b) (no c) d r = absurd (omega (arith, refused (row-past (omega arith) (omega arith) (omega arith))))
      go (no a) (no b) (yes c) (yes d) r = absurd (omega (arith, refused (row-over (omega arith) (omega arith) c d)))
      go (no a) (no b) (yes c) (no d) (yes r) = absurd (omega (arith, refused (row-12 (omega arith) (omega arith) c (omega arith) r)))
      go (no a) (no b) (yes c) (no d) (no r) = record { some_device = omega arith; most_devices = omega arith; level_there = c; most_levels = omega arith; room = omega arith }

  pub row-refused : ((row_fault labels n levels k).number ≡ 0 → ⊥) → row_shown labels n levels k ≡ []
  unfolding row_shown
  row-refused h = rw (ne_eqb (row_fault labels n levels k).number 0 h)

  module _ (z : (row_fault labels n levels k).number ≡ 0) where
    pub row-shown : row_shown labels n levels k ≡ row_of n labels k
    unfolding row_shown
    row-shown = rw (eq-eqb (row_fault labels n levels k).number 0 z)

    -- from its first entry to its last
    pub row_cut : take (k * n + n - k * n) (drop (k * n) labels) ≡ row_shown labels n levels k
    unfolding row_of
    row_cut = rw add-sub_cancel_left (sym row-shown)

    -- the row is a part of the list
    pub row-part : k * n + n ≤ length labels
    row-part = let r = row-accepted z in row_room n k levels (length labels) r.level_there r.room

    -- "no accepted call gives an empty one"
    pub row-not-empty : (length (row_shown labels n levels k) ≡ n) × (1 ≤ n)
    row-not-empty = (ap length row-shown ∙ row-length n k labels row-part, (row-accepted z).some_device)
