-- What the code asks of a product, a turn of a loop and a measure, each from the facts that it rests on: at the places where it is asked
-- much else is known. Assumes nothing.
use Prim.Native.Nat.{ℕ, ◌+◌, ◌-◌, ◌≤◌, ◌<◌}
use native.Mathlib.Omega.{arith}
use mir.Syntax.{w64}
use mir.Val.{Fits}

-- a product of two numbers of rates
pub product-fits : (x : ℕ) → x ≤ 8589803520 → Fits w64 x
product-fits x h = omega arith

-- a turn goes on by one
pub turn-within : (v n : ℕ) → v < n → v + 1 ≤ n
turn-within v n h = omega arith

-- a number between two is nearer to each of them
pub gap-lower : {a m b : ℕ} → (a < m) × (m < b) → m - a < b - a
gap-lower h = omega arith

pub gap-upper : {a m b : ℕ} → (a < m) × (m < b) → b - m < b - a
gap-upper h = omega arith
