-- Document 01, "Cuts, communities, groups", first paragraph.
-- Assumes nothing.
use Rattle.std.specs.Prelude.{ℕ, zero, suc, ◌+◌, ◌*◌, Bool, true, false, cond, List, [], ◌∷◌}
use Rattle.rules.specs.Plant.{Line, Plant}

-- a set of devices: of each number, whether it is in the set. Only the numbers below n count.
abbrev pub Devices : Type 0
Devices = ℕ → Bool

-- "signals on lines with exactly one end in S": s, where just one of the two ends is in
unfoldable pub crossing : ℕ → Bool → Bool → ℕ
crossing s true true = 0
crossing s true false = s
crossing s false true = s
crossing s false false = 0

-- "For a set S of devices, out(S) is the sum of signals on lines with exactly one end in S."
unfoldable pub out : List Line → Devices → ℕ
out [] S = 0
out (l ∷ ls) S = crossing l.signals (S l.first) (S l.second) + out ls S

-- what one device adds to |S|
unfoldable pub size_at : Plant → ℕ → ℕ
size_at g i = 1

-- |S|, of the devices below k
unfoldable pub size_below : Plant → ℕ → Devices → ℕ
size_below g zero S = 0
size_below g (suc k) S = size_below g k S + cond (S k) (size_at g k) 0

-- |S|
unfoldable pub size : Plant → Devices → ℕ
size g S = size_below g g.devices S

-- "At rate p/q the cost of S is q × out(S) + p × |S|."
unfoldable pub cost : Plant → ℕ → ℕ → Devices → ℕ
cost g p q S = q * out g.lines S + p * size g S
