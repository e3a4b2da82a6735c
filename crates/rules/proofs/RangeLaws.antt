-- The range test of a rate, bound by bound; the least and the largest rate are accepted, and no accepted rate is below the least or above the largest. Assumes nothing.
use Prim.Native.Nat.{ℕ, ◌*◌, ◌≤◌}
use mathlib.Core.Path.{◌≡◌, refl}
use mathlib.Core.Bool.{Bool, true, false, ◌&&◌}
use native.Mathlib.Omega.{arith}
use borrow.Author.Tests.{le-leb, leb-true}
use lib.Dec.{leb}
use Rattle.rules.specs.Rates.{rate_ok}
use Rattle.rules.specs.Limits.{least_rate, largest_rate}
use Rattle.rules.proofs.SetLaws.{and_left, and_right}

-- p and q in range
pub record InRange (p q : ℕ) : Type 0 where
  pub p_least : 1 ≤ p
  pub p_most : p ≤ 100000000
  pub q_least : 1 ≤ q
  pub q_most : q ≤ 1000

pub in-range : {p q : ℕ} → InRange p q → rate_ok p q ≡ true
unfolding rate_ok
in-range r = simp (le-leb _ _ r.p_least, le-leb _ _ r.p_most, le-leb _ _ r.q_least, le-leb _ _ r.q_most)

pub range-in : (p q : ℕ) → rate_ok p q ≡ true → InRange p q
unfolding rate_ok
range-in p q e =
    let ps = and_left (leb 1 p && leb p 100000000) (leb 1 q && leb q 1000) e in
    let qs = and_right (leb 1 p && leb p 100000000) (leb 1 q && leb q 1000) e in
    record {
      p_least = leb-true _ _ (and_left (leb 1 p) (leb p 100000000) ps);
      p_most = leb-true _ _ (and_right (leb 1 p) (leb p 100000000) ps);
      q_least = leb-true _ _ (and_left (leb 1 q) (leb q 1000) qs);
      q_most = leb-true _ _ (and_right (leb 1 q) (leb q 1000) qs);
    }

pub off-range : {p q : ℕ} → (InRange p q → ⊥) → rate_ok p q ≡ false
off-range {p} {q} h = go (rate_ok p q) refl
  where
    go : (b : Bool) → rate_ok p q ≡ b → b ≡ false
    go true e = absurd (h (range-in p q e))
    go false e = refl

-- "A rate is a kind of value with its own least and largest": both are in range
pub least-accepted : rate_ok least_rate.0 least_rate.1 ≡ true
unfolding rate_ok
least-accepted = refl

pub largest-accepted : rate_ok largest_rate.0 largest_rate.1 ≡ true
unfolding rate_ok
largest-accepted = refl

module _ (p q : ℕ) (ok : rate_ok p q ≡ true) where
  -- "A rate is a kind of value with its own least and largest": p/q is neither below the one nor above the other
  pub not-below-least : least_rate.0 * q ≤ p * least_rate.1
  not-below-least = omega (arith, range-in p q ok)

  pub not-above-largest : p * largest_rate.1 ≤ largest_rate.0 * q
  not-above-largest = omega (arith, range-in p q ok)
