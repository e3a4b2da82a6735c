-- A fraction has only one form in lowest terms, and its denominator is no larger than that of any other form. Assumes nothing.
use Prim.Native.Nat.{ℕ, zero, suc, ◌+◌, ◌*◌, ◌/◌, ◌%◌, ◌∣◌, ◌≤◌, ◌<◌}
use mathlib.Core.Path.{◌≡◌, sym, ap, subst, ◌∙◌}
use native.Mathlib.Nat.{le-suc, le_refl, not-suc-le-zero, zero-lt-suc, mul_assoc, mul_left_comm, mul_right_comm, add-mul, mod-lt, div-add-mod, eq_of_mul-eq-mul_left, eq_of_mul-eq-mul_right, mul-div_cancel', one-dvd, dvd-zero, dvd_refl, dvd-mod_iff, dvd-mul_left, dvd-mul_right, dvd_antisymm, dvd-add_iff_right, le_of_dvd}
use native.Mathlib.Omega.{arith}
use Rattle.rules.specs.Rates.{Same, Lowest}

-- a number that has nothing in common with r and divides r times t divides t
Divides : ℕ → Type 0
Divides fuel = (r s t : ℕ) → r ≤ fuel → Lowest r s → s ∣ r * t → s ∣ t

divides-zero : (s t : ℕ) → Lowest 0 s → s ∣ t
unfolding Lowest
divides-zero s t low = subst (λ (n : ℕ). n ∣ t) (sym (low s (dvd-zero s) (dvd_refl s))) (one-dvd t)

divides-step : (fuel : ℕ) → Divides fuel → Divides (suc fuel)
unfolding Divides Lowest
divides-step fuel ih zero s t h low d = divides-zero s t low
divides-step fuel ih (suc r) s t h low d =
    let R = suc r in
    let m = R * t / s in
    let em : s * m ≡ R * t = mul-div_cancel' s d in
    let rest : s % R < R = mod-lt s (zero-lt-suc r) in
    let split : R * (s / R * m) + s % R * m ≡ R * t =
    sym (ap (λ (n : ℕ). n + s % R * m) (mul_assoc R (s / R) m)) ∙ sym (add-mul (R * (s / R)) (s % R) m) ∙ ap (λ (n : ℕ). n * m) (div-add-mod s R) ∙ em in
    let rm : R ∣ s % R * m = (dvd-add_iff_right R (dvd-mul_right R (s / R * m))).1 (subst (λ (n : ℕ). R ∣ n) (sym split) (dvd-mul_right R t)) in
    let low' : (k : ℕ) → k ∣ s % R → k ∣ R → k ≡ 1 = λ k x y. low k y ((dvd-mod_iff k y).0 x) in
    let dm : R ∣ m = ih (s % R) R m (omega arith) low' rm in
    let j = m / R in
    let ej : R * j ≡ m = mul-div_cancel' R dm in
    let et : s * j ≡ t =
    eq_of_mul-eq-mul_left R (zero-lt-suc r) (s * j) t (mul_left_comm R s j ∙ ap (λ (n : ℕ). s * n) ej ∙ em) in
    subst (λ (n : ℕ). s ∣ n) et (dvd-mul_right s j)

coprime-divides : (fuel : ℕ) → Divides fuel
unfolding Divides Lowest
coprime-divides zero = none
  where
    none : (r s t : ℕ) → r ≤ 0 → Lowest r s → s ∣ r * t → s ∣ t
    none zero s t h low d = divides-zero s t low
    none (suc r) s t h low d = absurd (not-suc-le-zero h)
coprime-divides (suc fuel) = divides-step fuel (coprime-divides fuel)

-- a fraction has one form in lowest terms
module _ (p q r s r' s' : ℕ) (some : 1 ≤ q) (e : Same p q r s) (e' : Same p q r' s') (low : Lowest r s) (low' : Lowest r' s') where
  cross : r * s' ≡ r' * s
  cross =
      eq_of_mul-eq-mul_left q some (r * s') (r' * s)
      (mul_left_comm q r s' ∙ sym (mul_assoc r q s') ∙ ap (λ (n : ℕ). n * s') (sym e) ∙ mul_right_comm p s s' ∙ ap (λ (n : ℕ). n * s) e' ∙ mul_assoc r' q s ∙ mul_left_comm r' q s)

  pub lowest-second : s ≡ s'
  unfolding Divides
  lowest-second =
      dvd_antisymm
      (coprime-divides (suc r) r s s' (le-suc r) low (subst (λ (n : ℕ). s ∣ n) (sym cross) (dvd-mul_left s r')))
      (coprime-divides (suc r') r' s' s (le-suc r') low' (subst (λ (n : ℕ). s' ∣ n) cross (dvd-mul_left s' r)))

  pub lowest-first : r ≡ r'
  lowest-first = eq_of_mul-eq-mul_right q some r r' (sym e ∙ ap (λ (n : ℕ). p * n) lowest-second ∙ e')

-- the form in lowest terms has the least denominator
pub lowest-least : (p q r s : ℕ) → 1 ≤ q → Same p q r s → Lowest r s → s ≤ q
unfolding Divides
lowest-least p q r s some e low = le_of_dvd some (coprime-divides r r s q (le_refl r) low (subst (λ (n : ℕ). s ∣ n) e (dvd-mul_left s p)))
