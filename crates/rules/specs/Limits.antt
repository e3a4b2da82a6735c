-- The least and the largest rate, of which the laws speak; no public contract cites this file.
-- Assumes nothing.
use Rattle.std.specs.Prelude.{ℕ}

-- "A rate is a kind of value with its own least and largest": 1/1,000 and 100,000,000/1, as p and q
abbrev pub least_rate : ℕ × ℕ
least_rate = (1, 1000)

abbrev pub largest_rate : ℕ × ℕ
largest_rate = (100000000, 1)
