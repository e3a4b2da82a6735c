-- Rates: the common divisor that a reduction finds, that the result is in lowest terms, and that a reduction's contract determines its answer.
-- Assumes nothing.
use Prim.Native.Nat.{ℕ, ◌*◌, ◌/◌, ◌%◌, ◌∣◌, ◌≤◌, ◌<◌}
use mathlib.Core.Path.{◌≡◌, refl, sym, ap, subst, ◌∙◌}
use mathlib.Core.Bool.{Bool, true, false, cond}
use lib.Dec.{eqb, ltb}
use borrow.Author.Tests.{eq-eqb, ne_eqb, lt-ltb, le-ltb}
use Rattle.std.specs.Ordering.{nat_cmp, MatchOrdering}
use Rattle.std.specs.declared.cmp.Ordering.{Ordering}
use Rattle.std.specs.declared.cmp.Ordering.TheVariants.{Less, Equal, Greater}
use Rattle.std.specs.Cmp.{ranks}
use native.Mathlib.Nat.{mul-le-mul, mul_assoc, mul_comm, mul_left_comm, one-mul, mul-div_cancel', dvd-zero, dvd_refl, dvd-mod_iff, dvd_of_mul-dvd-mul_right, mul-dvd-mul_right, eq-one_of_dvd-one}
use native.Mathlib.Omega.{arith}
use Rattle.rules.proofs.RangeLaws.{range-in}
use Rattle.rules.proofs.LowestLaws.{lowest-first, lowest-second}
use Rattle.rules.specs.Rates.{rate_ok, Same, Lowest}
use Rattle.cut.specs.RateCalls.{Reduced}
use Rattle.cut.specs.RateCalls.{Reduction, order_of}
use Rattle.cut.specs.RateLoop.{Divisor}

-- a and b have the common divisors of p and q
pub record Alike (p q a b : ℕ) : Type 0 where
  pub some : 1 ≤ a
  pub down : (k : ℕ) → k ∣ p → k ∣ q → (k ∣ a) × (k ∣ b)
  pub up : (k : ℕ) → k ∣ a → k ∣ b → (k ∣ p) × (k ∣ q)

pub alike-start : {p : ℕ} (q : ℕ) → 1 ≤ p → Alike p q p q
alike-start q h = record { some = h; down = λ k l r. (l, r); up = λ k l r. (l, r) }

pub alike-step : {p q a b : ℕ} → Alike p q a b → 0 < b → Alike p q b (a % b)
alike-step h l = record {
  some = l;
  down = λ k x y. let w = h.down k x y in (w.1, (dvd-mod_iff k w.1).1 w.0);
  up = λ k x y. h.up k ((dvd-mod_iff k x).0 y) x;
}

pub alike-done : {p q a b : ℕ} → Alike p q a b → b ≤ 0 → Divisor p q a
alike-done {p} {q} {a} {b} h z =
    let e : b ≡ 0 = omega arith in
    let w = h.up a (dvd_refl a) (subst (λ (n : ℕ). a ∣ n) (sym e) (dvd-zero a)) in
    record { some = h.some; left = w.0; right = w.1; most = λ k x y. (h.down k x y).0 }

-- p and q divided by their greatest common divisor: the same fraction, in lowest terms
module _ {p q c : ℕ} (h : Divisor p q c) where
  whole-p : c * (p / c) ≡ p
  whole-p = mul-div_cancel' c h.left

  whole-q : c * (q / c) ≡ q
  whole-q = mul-div_cancel' c h.right

  pub reduced-same : Same p q (p / c) (q / c)
  reduced-same =
      ap (λ (n : ℕ). n * (q / c)) (sym whole-p)
      ∙ mul_assoc c (p / c) (q / c)
      ∙ mul_left_comm c (p / c) (q / c)
      ∙ ap (λ (n : ℕ). p / c * n) whole-q

  times : (k n : ℕ) → c * (n / c) ≡ n → k ∣ n / c → k * c ∣ n
  times k n e d = subst (λ (m : ℕ). k * c ∣ m) (mul_comm (n / c) c ∙ e) (mul-dvd-mul_right k d c)

  pub reduced-lowest : Lowest (p / c) (q / c)
  unfolding Lowest
  reduced-lowest k x y =
      eq-one_of_dvd-one
      (dvd_of_mul-dvd-mul_right k h.some (subst (λ (n : ℕ). k * c ∣ n) (sym (one-mul c)) (h.most (k * c) (times k p whole-p x) (times k q whole-q y))))

-- a cross product of two accepted rates is small
pub cross-most : (p q r s : ℕ) → rate_ok p q ≡ true → rate_ok r s ≡ true → p * s ≤ 100000000000
cross-most p q r s e f = mul-le-mul (range-in p q e).p_most (range-in r s f).q_most

-- what a comparison of the cross products answers
pub order-told : (a b : ℕ) → order_of (nat_cmp a b) ≡ cond (ltb a b) 1 (cond (eqb a b) 2 3)
order-told a b = go (nat_cmp a b) (ranks a b)
  where
    go : (o : Ordering) → MatchOrdering o (a < b) (a ≡ b) (b < a) → order_of o ≡ cond (ltb a b) 1 (cond (eqb a b) 2 3)
    go Less h = rw (lt-ltb a b h)
    go Equal h = rw (le-ltb a b (omega (arith, h)), eq-eqb a b h)
    go Greater h = rw (le-ltb a b (omega (arith, h)), ne_eqb a b (λ e. omega (arith, h, e)))

-- the contract of a reduction determines its answer
pub reduction-determined : (p q : ℕ) (r r' : Reduced) → Reduction p q r → Reduction p q r' → r ≡ r'
reduction-determined p q r r' h h' = go (rate_ok p q) refl
  where
    go : (b : Bool) → rate_ok p q ≡ b → r ≡ r'
    go false e = h.refused e ∙ sym (h'.refused e)
    go true e =
        let some = (range-in p q e).q_least in
        let one = lowest-first p q r.p r.q r'.p r'.q some (h.same e) (h'.same e) (h.lowest e) (h'.lowest e) in
        let two = lowest-second p q r.p r.q r'.p r'.q some (h.same e) (h'.same e) (h.lowest e) (h'.lowest e) in
        λ i. record {
          number = (h.number e ∙ sym (h'.number e)) i;
          place = (h.place e ∙ sym (h'.place e)) i;
          p = one i;
          q = two i;
        }
