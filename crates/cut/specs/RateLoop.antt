-- What the loop of a reduction finds. No public contract cites this file.
-- Assumes nothing.
use Rattle.std.specs.Prelude.{ℕ, ◌≤◌}
use Rattle.std.specs.Int.{◌∣◌}

-- c divides p and q, and each common divisor of p and q divides c
pub record Divisor (p q c : ℕ) : Type 0 where
  pub some : 1 ≤ c
  pub left : c ∣ p
  pub right : c ∣ q
  pub most : (k : ℕ) → k ∣ p → k ∣ q → k ∣ c
