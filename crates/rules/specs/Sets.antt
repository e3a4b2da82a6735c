-- Sets of devices against each other. The contract of the crate `network` cites `Inside`; only the laws speak of the rest.
-- Assumes nothing.
use Rattle.std.specs.Prelude.{ℕ, ◌+◌, ◌<◌, ◌≡◌, true, not, ◌&&◌, ◌||◌, cond, List, [], ◌∷◌}
use Rattle.rules.specs.Plant.{Line}
use Rattle.rules.specs.Cut.{Devices}

-- each device that is in S is in T
abbrev pub Inside : ℕ → Devices → Devices → Type 0
Inside n S T = (i : ℕ) → i < n → S i ≡ true → T i ≡ true

-- S and T hold the same devices
abbrev pub Agree : ℕ → Devices → Devices → Type 0
Agree n S T = (i : ℕ) → i < n → S i ≡ T i

-- the devices of S that are not in T
abbrev pub minus : Devices → Devices → Devices
minus S T i = S i && not (T i)

-- "the signals between P and the rest of C": on lines with one end in P and the other in Q
unfoldable pub between : List Line → Devices → Devices → ℕ
between [] P Q = 0
between (l ∷ ls) P Q = cond ((P l.first && Q l.second) || (P l.second && Q l.first)) l.signals 0 + between ls P Q
