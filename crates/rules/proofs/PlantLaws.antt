-- Document 01, "The plant", of an accepted plant.
--     pair-once       two different lines are different pairs
--     signals-most    all signals together are at most 67,107,840
--     out-total, out-most   no set of devices has more signals out than all signals together
-- Assumes nothing.
use Prim.Native.Nat.{ℕ, zero, suc, ◌*◌, ◌≤◌, ◌<◌, zero-le, suc-le-suc}
use mathlib.Core.Path.{◌≡◌, sym}
use mathlib.Core.Bool.{Bool, true, false}
use mathlib.Core.List.{List, [], ◌∷◌}
use mathlib.Core.Logic.{⊎_elim}
use native.Mathlib.Nat.{le_refl, le_trans, mul-le-mul_right, suc-mul}
use native.Mathlib.Omega.{arith}
use borrow.Author.Tests.{leb-true, eqb-true}
use lib.Dec.{eqb}
use lib.ListN.{length, get_or}
use Rattle.rules.specs.Plant.{Line, lines_of, plant_of}
use Rattle.rules.specs.Accepted.{total, Accepted}
use Rattle.rules.specs.Cut.{Devices, crossing, out}
use Rattle.rules.specs.Refusals.{rises}
use Rattle.rules.proofs.SetLaws.{and_left, and_right, or_cases, below_suc}

-- line i comes before line j: by first end, then second end
record Before (xs ys : List ℕ) (i j : ℕ) : Type 0 where
  first : get_or xs i 0 ≤ get_or xs j 0
  second : get_or xs i 0 ≡ get_or xs j 0 → get_or ys i 0 < get_or ys j 0

before-trans : {xs ys : List ℕ} {i j k : ℕ} → Before xs ys i j → Before xs ys j k → Before xs ys i k
before-trans {xs} {ys} {i} {j} {k} a b = record { first = le_trans a.first b.first; second = both }
  where
    both : get_or xs i 0 ≡ get_or xs k 0 → get_or ys i 0 < get_or ys k 0
    both e = omega (arith, a.second (omega (arith, a.first, b.first)), b.second (omega (arith, a.first, b.first)))

module _ (xs ys : List ℕ) where
  rises-before : (k : ℕ) → rises xs ys (suc k) ≡ true → Before xs ys k (suc k)
  unfolding rises
  rises-before k e =
      ⊎_elim
      (λ t. up (leb-true _ _ t))
      (λ t. level (eqb-true _ _ (and_left _ _ t)) (leb-true _ _ (and_right (eqb (get_or xs k 0) (get_or xs (suc k) 0)) _ t)))
      (or_cases _ _ e)
    where
      up : get_or xs k 0 < get_or xs (suc k) 0 → Before xs ys k (suc k)
      up l = record { first = omega arith; second = λ s. absurd (omega arith) }

      level : get_or xs k 0 ≡ get_or xs (suc k) 0 → get_or ys k 0 < get_or ys (suc k) 0 → Before xs ys k (suc k)
      level s l = record { first = omega arith; second = λ t. l }

  -- each line comes before every later one
  all-before : ((k : ℕ) → k < length xs → rises xs ys k ≡ true) → (j : ℕ) → j < length xs → (i : ℕ) → i < j → Before xs ys i j
  all-before up zero h = λ i l. absurd (omega arith)
  all-before up (suc j) h = below_suc (λ i. Before xs ys i (suc j)) j (λ i l. before-trans (all-before up j (omega arith) i l) last) last
    where
      last : Before xs ys j (suc j)
      last = rises-before j (up (suc j) h)

-- as many lines as there are, each with at most 65,535
total-most : (xs ys zs : List ℕ) → ((k : ℕ) → k < length xs → get_or zs k 0 ≤ 65535) → total (lines_of xs ys zs) ≤ length xs * 65535
unfolding total lines_of
total-most [] ys zs h = zero-le
total-most (x ∷ xs) [] zs h = zero-le
total-most (x ∷ xs) (y ∷ ys) [] h = zero-le
total-most (x ∷ xs) (y ∷ ys) (z ∷ zs) h =
    omega (arith, suc-mul (length xs) 65535, h 0 (suc-le-suc zero-le), total-most xs ys zs (λ k l. h (suc k) (suc-le-suc l)))

module _ (n : ℕ) (xs ys zs : List ℕ) (a : Accepted n xs ys zs) where
  -- "Lines rise strictly by first end, then second end, so a pair occurs once."
  pub pair-once : (i j : ℕ) → i < length xs → j < length xs → get_or xs i 0 ≡ get_or xs j 0 → get_or ys i 0 ≡ get_or ys j 0 → i ≡ j
  pair-once i j hi hj e f = omega (arith, apart i j hj e f, apart j i hi (sym e) (sym f))
    where
      apart : (i j : ℕ) → j < length xs → get_or xs i 0 ≡ get_or xs j 0 → get_or ys i 0 ≡ get_or ys j 0 → i < j → ⊥
      apart i j h e f l = omega (arith, (all-before xs ys a.rising j h i l).second e)

  -- "All signals together are at most 67,107,840."
  pub signals-most : total (plant_of n xs ys zs).lines ≤ 67107840
  unfolding plant_of
  signals-most = le_trans (total-most xs ys zs a.most_signals) (mul-le-mul_right 65535 a.most_lines)

-- a line has no more in a cut than it carries
pub crossing_most : (s : ℕ) (a b : Bool) → crossing s a b ≤ s
unfolding crossing
crossing_most s true true = zero-le
crossing_most s true false = le_refl s
crossing_most s false true = le_refl s
crossing_most s false false = zero-le

pub out-total : (ls : List Line) (S : Devices) → out ls S ≤ total ls
unfolding out total
out-total [] S = zero-le
out-total (l ∷ ls) S = omega (arith, crossing_most l.signals (S l.first) (S l.second), out-total ls S)

-- nor of an accepted plant more than 67,107,840
pub out-most : (n : ℕ) (xs ys zs : List ℕ) → Accepted n xs ys zs → (S : Devices) → out (plant_of n xs ys zs).lines S ≤ 67107840
out-most n xs ys zs a S = omega (arith, out-total (plant_of n xs ys zs).lines S, signals-most n xs ys zs a)
