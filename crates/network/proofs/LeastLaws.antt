-- A search that has found a node with drain left, the last in its queue: the way to it.
-- Assumes nothing.
use Prim.Native.Nat.{ℕ, ◌+◌, ◌-◌, ◌<◌}
use mathlib.Core.Path.{◌≡◌}
use mathlib.Core.List.{List}
use native.Mathlib.Omega.{arith}
use lib.ListN.{get_or}
use Rattle.network.specs.Calls.{Network}
use Rattle.network.specs.Search.{Tree, Found}
use Rattle.network.proofs.SpareLaws.{nodes-below}

module _ {xs ys fs rs ws : List ℕ} {d : ℕ} {nodes vias froms marks : List ℕ} {count h k : ℕ} (found : Found xs ys fs rs ws d nodes vias froms marks count h k) where
  tree : Tree xs ys fs rs d nodes vias froms marks count
  tree = found.covered.tree

  pub found-last : count - 1 + 1 ≡ count
  found-last = omega (arith, tree.some)

  pub found-device : get_or nodes (count - 1) 0 < 128
  found-device = tree.device (count - 1) (omega (arith, found-last))

  -- it is a node of the network
  pub found-node : {n : ℕ} {zs ds : List ℕ} → Network n xs ys zs ds → d < n → get_or nodes (count - 1) 0 < n
  found-node network start =
      nodes-below _ tree.way (rw tree.root start) (λ l b. omega (arith, (network.line l b).rising, (network.line l b).ends)) (λ l b. (network.line l b).ends) (count - 1) (omega (arith, found-last))
