-- The order of fractions by cross products: it is transitive. Beside it, that one of two numbers is not above the other. Assumes nothing.
use Prim.Native.Nat.{ℕ, ◌*◌, ◌≤◌, ◌<◌}
use mathlib.Core.Logic.{◌⊎◌, inl, inr}
use native.Mathlib.Decide.{dec_le}
use native.Mathlib.Nat.{lt_of_not-le, le_of_mul-le-mul_left, lt_of_mul-lt-mul_left, mul-le-mul_left, mul-lt-mul_of_pos_left}
use native.Mathlib.Omega.{arith}

pub le-or-below : (a b : ℕ) → (a ≤ b) ⊎ (b < a)
le-or-below a b = go (dec_le a b)
  where
    go : Dec (a ≤ b) → (a ≤ b) ⊎ (b < a)
    go (yes h) = inl h
    go (no h) = inr (lt_of_not-le h)

-- p/q, then r/s, then u/v
module _ (p q r s u v : ℕ) where
  pub at-most-trans : 1 ≤ s → p * s ≤ r * q → r * v ≤ u * s → p * v ≤ u * q
  at-most-trans o a b =
      let first = mul-le-mul_left v a in
      let second = mul-le-mul_left q b in
      let all : s * (p * v) ≤ s * (u * q) = omega arith in
      le_of_mul-le-mul_left all o

  pub at-most-below : 1 ≤ q → p * s ≤ r * q → r * v < u * s → p * v < u * q
  at-most-below o a b =
      let first = mul-le-mul_left v a in
      let second = mul-lt-mul_of_pos_left {k = q} b o in
      lt_of_mul-lt-mul_left s (omega arith)

  pub below-at-most : 1 ≤ v → p * s < r * q → r * v ≤ u * s → p * v < u * q
  below-at-most o a b =
      let first = mul-lt-mul_of_pos_left {k = v} a o in
      let second = mul-le-mul_left q b in
      lt_of_mul-lt-mul_left s (omega arith)
