-- Networks whose nodes stand for sets of devices, one network for all walls at once: node v is the node of device v, a number below the number of devices, and wall x is the wall in which node x lies. No public contract cites this file.
-- Assumes nothing.
use Rattle.std.specs.Prelude.{ℕ, ◌+◌, ◌*◌, ◌<◌, ◌≡◌, cond, List, [], ◌∷◌, eqb}
use Rattle.rules.specs.Plant.{Line, Plant}
use Rattle.rules.specs.Cut.{Devices, crossing, out, size}

-- the signals on lines between nodes of one wall of which exactly one is in N
unfoldable pub inner_cut : (ℕ → ℕ) → (ℕ → ℕ) → List Line → Devices → ℕ
inner_cut node wall [] N = 0
inner_cut node wall (l ∷ ls) N =
    cond (eqb (wall (node l.first)) (wall (node l.second))) (crossing l.signals (N (node l.first)) (N (node l.second))) 0
    + inner_cut node wall ls N

-- the signals on lines from the devices of node x to devices of another wall
unfoldable pub outer_signals : (ℕ → ℕ) → (ℕ → ℕ) → List Line → ℕ → ℕ
outer_signals node wall [] x = 0
outer_signals node wall (l ∷ ls) x =
    cond (eqb (wall (node l.first)) (wall (node l.second)))
    0
    (cond (eqb (node l.first) x) l.signals 0 + cond (eqb (node l.second) x) l.signals 0)
    + outer_signals node wall ls x

-- a network at the rate p/q whose nodes stand for their devices. Its lines, however many there are, join nodes of one wall and are q times as wide as the signals between their devices: so says the cut of each set N of nodes. A node's drain is p × the size of its devices, and q × the signals on their lines to another wall.
pub record Stands (g : Plant) (p q : ℕ) (node wall : ℕ → ℕ) (lines : List Line) (drains : ℕ → ℕ) : Type 0 where
  pub numbered : (v : ℕ) → v < g.devices → node v < g.devices
  pub cut : (N : Devices) → out lines N ≡ q * inner_cut node wall g.lines N
  pub drain : (x : ℕ) → x < g.devices
      → drains x ≡ p * size g (λ v. eqb (node v) x) + q * outer_signals node wall g.lines x
