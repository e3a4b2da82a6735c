-- The connected parts of a plant, document 01, "Levels and joining rates": the groups of the last level. No public contract cites this file.
-- Assumes nothing.
use Rattle.std.specs.Prelude.{ℕ, ◌≡◌, true, List, [], ◌∷◌}
use Rattle.rules.specs.Plant.{Line, Plant}
use Rattle.rules.specs.Cut.{Devices}

-- no line leaves S: of each line both ends are in S, or neither
unfoldable pub Closed : List Line → Devices → Type 0
Closed [] S = Unit {0}
Closed (l ∷ ls) S = (S l.first ≡ S l.second) × Closed ls S

-- devices i and j are connected: no set that holds the one, and that no line leaves, lacks the other
unfoldable pub Connected : Plant → ℕ → ℕ → Type 0
Connected g i j = (S : Devices) → Closed g.lines S → S i ≡ true → S j ≡ true
