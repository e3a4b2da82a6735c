-- Document 01, "Figures on each side of a tie": K1 to K12, as one table. `proofs/Figures.antt` proves it. No public contract cites this file.
-- Assumes nothing.
use Rattle.std.specs.Prelude.{ℕ, List, [], ◌∷◌}
use Rattle.rules.specs.Plant.{Plant, plant_of}

-- a row of the table: a plant, a rate p/q, and for each device the lowest device of its group
pub record Figure : Type 0 where
  pub plant : Plant
  pub p : ℕ
  pub q : ℕ
  pub labels : List ℕ

alone : Plant
alone = plant_of 1 [] [] []

pair : Plant
pair = plant_of 2 (0 ∷ []) (1 ∷ []) (5 ∷ [])

apart : Plant
apart = plant_of 2 [] [] []

path : Plant
path = plant_of 3 (0 ∷ 1 ∷ []) (1 ∷ 2 ∷ []) (3 ∷ 2 ∷ [])

ring : Plant
ring = plant_of 4 (0 ∷ 0 ∷ 1 ∷ 2 ∷ []) (1 ∷ 3 ∷ 2 ∷ 3 ∷ []) (1 ∷ 1 ∷ 1 ∷ 1 ∷ [])

chain : Plant
chain = plant_of 4 (0 ∷ 1 ∷ 2 ∷ []) (1 ∷ 2 ∷ 3 ∷ []) (4 ∷ 1 ∷ 4 ∷ [])

figure : Plant → ℕ → ℕ → List ℕ → Figure
figure g p q labels = record { plant = g; p = p; q = q; labels = labels }

unfoldable pub figures : List Figure
unfolding alone pair apart path ring chain figure
figures =
    figure alone 1 1 (0 ∷ [])
    ∷ figure pair 5 1 (0 ∷ 1 ∷ [])
    ∷ figure pair 499 100 (0 ∷ 0 ∷ [])
    ∷ figure apart 1 1000 (0 ∷ 1 ∷ [])
    ∷ figure path 3 1 (0 ∷ 1 ∷ 2 ∷ [])
    ∷ figure path 2 1 (0 ∷ 0 ∷ 2 ∷ [])
    ∷ figure path 199 100 (0 ∷ 0 ∷ 0 ∷ [])
    ∷ figure ring 2 3 (0 ∷ 1 ∷ 2 ∷ 3 ∷ [])
    ∷ figure ring 33 50 (0 ∷ 0 ∷ 0 ∷ 0 ∷ [])
    ∷ figure chain 4 1 (0 ∷ 1 ∷ 2 ∷ 3 ∷ [])
    ∷ figure chain 1 2 (0 ∷ 0 ∷ 2 ∷ 2 ∷ [])
    ∷ figure chain 49 100 (0 ∷ 0 ∷ 0 ∷ 0 ∷ [])
    ∷ []
