-- Document 01, "The plant", on rates.
-- Assumes nothing.
use Rattle.std.specs.Prelude.{ℕ, ◌*◌, ◌<◌, ◌≡◌, Bool, ◌&&◌, leb}
use Rattle.std.specs.Int.{◌∣◌}

-- "p 1 to 100,000,000; q 1 to 1,000"
unfoldable pub rate_ok : ℕ → ℕ → Bool
rate_ok p q = leb 1 p && leb p 100000000 && (leb 1 q && leb q 1000)

-- "fractions compare by cross products": p/q is below r/s
abbrev pub Below : ℕ → ℕ → ℕ → ℕ → Type 0
Below p q r s = p * s < r * q

-- p/q and r/s are one fraction
abbrev pub Same : ℕ → ℕ → ℕ → ℕ → Type 0
Same p q r s = p * s ≡ r * q

-- in lowest terms: only 1 divides both
unfoldable pub Lowest : ℕ → ℕ → Type 0
Lowest p q = (k : ℕ) → k ∣ p → k ∣ q → k ≡ 1
