-- Document 01, "This is q times the cut of document 004's graph with its added vertex t." Document 004, section 3: "augment G by inserting an artificial vertex t and connecting t to each vertex in G by an edge of costs α". With α = p/q all costs times q are whole numbers, and these are stated here. No public contract cites this file.
-- Assumes nothing.
use Rattle.std.specs.Prelude.{ℕ, zero, suc, ◌*◌, List, [], ◌∷◌, ◌++◌}
use Rattle.rules.specs.Plant.{Line, Plant}
use Rattle.rules.specs.Cut.{size_at}

-- the lines with q times their signals
unfoldable pub scaled : ℕ → List Line → List Line
scaled q [] = []
scaled q (l ∷ ls) = record { first = l.first; second = l.second; signals = q * l.signals } ∷ scaled q ls

-- a line to t from each device below k, with p for what the device adds to |S|
unfoldable pub lines_to : Plant → ℕ → ℕ → ℕ → List Line
lines_to g p t zero = []
lines_to g p t (suc k) = record { first = k; second = t; signals = p * size_at g k } ∷ lines_to g p t k

-- the graph with its added vertex t, which is number n
unfoldable pub added : Plant → ℕ → ℕ → Plant
added g p q = record {
  devices = suc g.devices;
  lines = scaled q g.lines ++ lines_to g p g.devices g.devices;
}
