-- The search for a community as a part of its own, with no plant and no rate: a network has nodes 0 to k − 1, lines that join two nodes and have a width, and a drain for each node. The width of a line stands where a plant's line has its signals.
-- Assumes nothing.
use Rattle.std.specs.Prelude.{ℕ, zero, suc, ◌+◌, ◌≤◌, ◌≡◌, true, cond, List}
use Rattle.rules.specs.Plant.{Line}
use Rattle.rules.specs.Cut.{Devices, out}
use Rattle.rules.specs.Sets.{Inside}

-- the drains of those nodes below k that are in S
unfoldable pub drained : (ℕ → ℕ) → ℕ → Devices → ℕ
drained drains zero S = 0
drained drains (suc k) S = drained drains k S + cond (S k) (drains k) 0

-- what a set S of nodes costs: the widths of the lines with exactly one end in S, and the drains of its nodes
unfoldable pub net_cost : List Line → (ℕ → ℕ) → ℕ → Devices → ℕ
net_cost lines drains k S = out lines S + drained drains k S

-- S holds the start, no set that holds it costs less, and S lies inside each that costs no more
pub record IsLeast (lines : List Line) (drains : ℕ → ℕ) (k start : ℕ) (S : Devices) : Type 0 where
  pub holds : S start ≡ true
  pub least : (T : Devices) → T start ≡ true → net_cost lines drains k S ≤ net_cost lines drains k T
  pub inside : (T : Devices) → T start ≡ true → net_cost lines drains k T ≤ net_cost lines drains k S → Inside k S T
