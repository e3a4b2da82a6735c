-- The rules of a line, and of the lines from k on, as the check of a plant goes through them.
-- Assumes nothing.
use Prim.Native.Nat.{ℕ, zero, suc, ◌+◌, ◌-◌, ◌≤◌, ◌<◌}
use mathlib.Core.Path.{◌≡◌, refl, sym, ◌∙◌}
use mathlib.Core.Bool.{true, false, ◌&&◌, ◌||◌}
use mathlib.Core.List.{List}
use native.Mathlib.Nat.{sub-zero}
use native.Mathlib.Numerals.{add-one, sub-one}
use native.Mathlib.Omega.{arith}
use borrow.Author.Tests.{eq-eqb, ne_eqb, le-leb, lt-leb, le-ltb, lt-ltb}
use lib.Dec.{leb, ltb, eqb, eqb-suc-zero}
use lib.ListN.{length, get_or}
use Rattle.rules.specs.Refusal.{Refusal}
use Rattle.rules.specs.Faults.{refusal_of}
use Rattle.rules.specs.declared.Fault.{Fault}
use Rattle.rules.proofs.FaultLaws.{first-fault}
use Rattle.rules.proofs.RefusalLaws.{plant-is}
use Rattle.rules.specs.Refusals.{done, cause, or_else, first_of, devices_fault, lists_fault, rises, line_fault, lines_from, lines_fault, plant_fault}

-- line i is above the line before it, as the code compares them
pub rises-at : (xs ys : List ℕ) (i : ℕ) → (i ≡ 0 → ⊥)
    → rises xs ys i ≡ (ltb (get_or xs (i - 1) 0) (get_or xs i 0) || (eqb (get_or xs (i - 1) 0) (get_or xs i 0) && ltb (get_or ys (i - 1) 0) (get_or ys i 0)))
unfolding rises
rises-at xs ys zero h = absurd (h refl)
rises-at xs ys (suc i) h = rw sub-one

-- the answer at line i with number k
abbrev pub at : ℕ → ℕ → Refusal
at k i = record { number = k; place = i }

-- a line that breaks its first rule with number k
module _ (n : ℕ) (xs ys zs : List ℕ) (i : ℕ) where
  pub breaks-5 : (leb n (get_or xs i 0) || leb n (get_or ys i 0)) ≡ true → line_fault n xs ys zs i ≡ at 5 i
  unfolding line_fault first_of or_else cause
  breaks-5 e = simp e

  module _ (e5 : (leb n (get_or xs i 0) || leb n (get_or ys i 0)) ≡ false) where
    pub breaks-6 : get_or ys i 0 ≤ get_or xs i 0 → line_fault n xs ys zs i ≡ at 6 i
    unfolding line_fault first_of or_else cause done
    breaks-6 h = simp (e5, le-leb _ _ h)

    module _ (h6 : get_or xs i 0 < get_or ys i 0) where
      pub breaks-7 : rises xs ys i ≡ false → line_fault n xs ys zs i ≡ at 7 i
      unfolding line_fault first_of or_else cause done
      breaks-7 e = simp (e5, lt-leb _ _ h6, e)

      module _ (e7 : rises xs ys i ≡ true) where
        pub breaks-8 : (eqb (get_or zs i 0) 0 || ltb 65535 (get_or zs i 0)) ≡ true → line_fault n xs ys zs i ≡ at 8 i
        unfolding line_fault first_of or_else cause done
        breaks-8 e = simp (e5, lt-leb _ _ h6, e7, e)

        pub breaks-none : (eqb (get_or zs i 0) 0 || ltb 65535 (get_or zs i 0)) ≡ false → line_fault n xs ys zs i ≡ done
        unfolding line_fault first_of or_else cause done
        breaks-none e = simp (e5, lt-leb _ _ h6, e7, e)

-- the lines below i break no rule: what is left to answer is the fault of those from i on
pub record Passed (n : ℕ) (xs ys zs : List ℕ) (r : Refusal) (i : ℕ) : Type 0 where
  pub within : i ≤ length xs
  pub so_far : r ≡ at 0 0
  pub left : lines_fault n xs ys zs ≡ lines_from n xs ys zs i (length xs - i)

module _ (n : ℕ) (xs ys zs : List ℕ) where
  pub passed_start : Passed n xs ys zs (at 0 0) 0
  unfolding lines_fault
  passed_start = record { within = omega arith; so_far = refl; left = rw sub-zero }

  from-i : (i : ℕ) → i < length xs → length xs - i ≡ suc (length xs - (i + 1))
  from-i i l = omega arith

  module _ {r : Refusal} {i : ℕ} (passed : Passed n xs ys zs r i) (l : i < length xs) where
    pub passed-step : line_fault n xs ys zs i ≡ done → Passed n xs ys zs r (i + 1)
    unfolding lines_from or_else done
    passed-step e = record {
      within = omega arith;
      so_far = passed.so_far;
      left = passed.left ∙ (rw (from-i i l, e, add-one));
    }

    pub passed-found : (k : ℕ) → line_fault n xs ys zs i ≡ at (suc k) i → at (suc k) i ≡ lines_fault n xs ys zs
    unfolding lines_from or_else
    passed-found k e = sym (passed.left ∙ (rw (from-i i l, e, eqb-suc-zero k)))

  pub passed-all : {r : Refusal} {i : ℕ} → Passed n xs ys zs r i → length xs ≤ i → r ≡ lines_fault n xs ys zs
  unfolding lines_from done
  passed-all {r} {i} passed l =
      let e : length xs - i ≡ 0 = omega arith in
      passed.so_far ∙ sym (passed.left ∙ (rw e))

-- the answers before the lines are looked at
pub plant-devices : (n : ℕ) (xs ys zs : List ℕ) (f : Fault) → refusal_of f ≡ devices_fault n → refusal_of f ≡ plant_fault n xs ys zs
plant-devices n xs ys zs f e = first-fault f _ e ∙ sym (plant-is n xs ys zs)

module _ (n : ℕ) (xs ys zs : List ℕ) where
  module _ (some : n ≡ 0 → ⊥) where
    module _ (few : n ≤ 128) where
      pub plant-uneven : (length xs ≡ length ys → ⊥) → plant_fault n xs ys zs ≡ at 3 0
      unfolding devices_fault lists_fault first_of or_else cause done
      plant-uneven h = plant-is n xs ys zs ∙ simp (ne_eqb _ _ some, le-ltb _ _ few, ne_eqb _ _ h)

      module _ (even : length xs ≡ length ys) where
        pub plant-uneven' : (length xs ≡ length zs → ⊥) → plant_fault n xs ys zs ≡ at 3 0
        unfolding devices_fault lists_fault first_of or_else cause done
        plant-uneven' h = plant-is n xs ys zs ∙ simp (ne_eqb _ _ some, le-ltb _ _ few, eq-eqb _ _ even, ne_eqb (length ys) (length zs) (λ e. h (even ∙ e)))

        module _ (even' : length xs ≡ length zs) where
          pub plant-long : 1024 < length xs → plant_fault n xs ys zs ≡ at 4 0
          unfolding devices_fault lists_fault first_of or_else cause done
          plant-long h = plant-is n xs ys zs ∙ simp (ne_eqb _ _ some, le-ltb _ _ few, eq-eqb _ _ even, eq-eqb (length ys) (length zs) (sym even ∙ even'), lt-ltb _ _ h)

          pub plant-lines : length xs ≤ 1024 → plant_fault n xs ys zs ≡ lines_fault n xs ys zs
          unfolding devices_fault lists_fault first_of or_else cause done
          plant-lines h = plant-is n xs ys zs ∙ simp (ne_eqb _ _ some, le-ltb _ _ few, eq-eqb _ _ even, eq-eqb (length ys) (length zs) (sym even ∙ even'), le-ltb _ _ h)
