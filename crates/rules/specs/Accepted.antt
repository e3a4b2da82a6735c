-- An accepted plant, as the laws speak of it: document 01, "The plant". No public contract cites this file.
-- Assumes nothing.
use Rattle.std.specs.Prelude.{ℕ, ◌+◌, ◌≤◌, ◌<◌, ◌≡◌, true, List, [], ◌∷◌, length, get_or}
use Rattle.rules.specs.Plant.{Line, Plant}
use Rattle.rules.specs.Refusals.{rises}

-- what "The plant" accepts, quantity by quantity: devices, lists, and of each line its ends, its place after the one before, and its signals
pub record Accepted (n : ℕ) (xs ys zs : List ℕ) : Type 0 where
  pub some_device : 1 ≤ n
  pub most_devices : n ≤ 128
  pub one_length : length xs ≡ length ys
  pub one_length' : length ys ≡ length zs
  pub most_lines : length xs ≤ 1024
  pub first_device : (k : ℕ) → k < length xs → get_or xs k 0 < n
  pub second_device : (k : ℕ) → k < length xs → get_or ys k 0 < n
  pub first_below_second : (k : ℕ) → k < length xs → get_or xs k 0 < get_or ys k 0
  pub rising : (k : ℕ) → k < length xs → rises xs ys k ≡ true
  pub some_signal : (k : ℕ) → k < length xs → 1 ≤ get_or zs k 0
  pub most_signals : (k : ℕ) → k < length xs → get_or zs k 0 ≤ 65535

-- "All signals together": their sum over the lines
unfoldable pub total : List Line → ℕ
total [] = 0
total (l ∷ ls) = l.signals + total ls

-- every end of every line is a device
unfoldable pub EndsBelow : ℕ → List Line → Type 0
EndsBelow n [] = Unit {0}
EndsBelow n (l ∷ ls) = (l.first < n) × (l.second < n) × EndsBelow n ls

-- a plant whose lines all join devices of it: what number 5 of the check secures
abbrev pub Sound : Plant → Type 0
Sound g = EndsBelow g.devices g.lines
