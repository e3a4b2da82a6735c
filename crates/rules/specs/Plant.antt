-- Document 01, "The plant".
-- Assumes nothing.
use Rattle.std.specs.Prelude.{ℕ, List, [], ◌∷◌}

-- "A line joins two devices and carries a whole number of signals."
pub record Line : Type 0 where
  pub first : ℕ
  pub second : ℕ
  pub signals : ℕ

-- "Devices are numbered 0 to n − 1." "A plant is n with three lists of one length: first end, second end, signals."
pub record Plant : Type 0 where
  pub devices : ℕ
  pub lines : List Line

-- the lines that three lists of one length state
unfoldable pub lines_of : List ℕ → List ℕ → List ℕ → List Line
lines_of [] ys zs = []
lines_of (a ∷ xs) [] zs = []
lines_of (a ∷ xs) (b ∷ ys) [] = []
lines_of (a ∷ xs) (b ∷ ys) (c ∷ zs) = record { first = a; second = b; signals = c } ∷ lines_of xs ys zs

-- the plant that n and the three lists state
unfoldable pub plant_of : ℕ → List ℕ → List ℕ → List ℕ → Plant
plant_of n xs ys zs = record { devices = n; lines = lines_of xs ys zs }
