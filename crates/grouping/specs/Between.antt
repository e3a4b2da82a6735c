-- The network between two levels, as the functions that make it say it to each other. No public contract cites this file.
-- Assumes nothing.
use Rattle.std.specs.Prelude.{ℕ, ◌+◌, ◌*◌, ◌≤◌, ◌<◌, ◌≡◌, cond, List, eqb, get_or}
use Rattle.rules.specs.Plant.{Plant}
use Rattle.rules.specs.Cut.{Devices, crossing, size}
use Rattle.rules.specs.Numbers.{sum}
use Rattle.rules.specs.Nodes.{outer_signals}

-- every node of n devices is a device
abbrev pub NodesBelow : ℕ → List ℕ → Type 0
NodesBelow n node = (v : ℕ) → v < n → get_or node v 0 < n

-- what line l of the plant adds to the cut of a set N of nodes: its signals, where its two nodes lie in one wall and just one of them is in N
abbrev pub inner_part : List ℕ → List ℕ → List ℕ → List ℕ → List ℕ → Devices → ℕ → ℕ
inner_part xs ys zs node wall N l =
    cond (eqb (get_or wall (get_or node (get_or xs l 0) 0) 0) (get_or wall (get_or node (get_or ys l 0) 0) 0))
    (crossing (get_or zs l 0) (N (get_or node (get_or xs l 0) 0)) (N (get_or node (get_or ys l 0) 0)))
    0

-- the cut of a set N of nodes in a network of m lines: the widths of those with just one end in N
abbrev pub cut_of : List ℕ → List ℕ → List ℕ → Devices → ℕ → ℕ
cut_of lower upper widths N m = sum m (λ j. crossing (get_or widths j 0) (N (get_or lower j 0)) (N (get_or upper j 0)))

-- there is room for one more line's width in each of m lines
abbrev pub WidthsBelow : ℕ → List ℕ → Type 0
WidthsBelow m widths = (j : ℕ) → j < m → get_or widths j 0 ≤ 1024 * 65535000

-- a line of that width between the nodes x and y is put to the m lines that were, and r lines are then there. A bound of the upper ends and one of the widths are kept, the second but for the width that is put
pub record LinePut (width x y : ℕ) (lower upper widths : List ℕ) (m : ℕ) (lower' upper' widths' : List ℕ) (r : ℕ) : Type 0 where
  pub few : r ≤ m + 1
  pub rising : ((j : ℕ) → j < m → get_or lower j 0 < get_or upper j 0) → (j : ℕ) → j < r → get_or lower' j 0 < get_or upper' j 0
  pub ends : (n : ℕ) → x < n → y < n → ((j : ℕ) → j < m → get_or upper j 0 < n) → (j : ℕ) → j < r → get_or upper' j 0 < n
  pub width_most : (b : ℕ) → ((j : ℕ) → j < m → get_or widths j 0 ≤ b) → (j : ℕ) → j < r → get_or widths' j 0 ≤ b + width
  pub cut : (N : Devices) → cut_of lower' upper' widths' N r ≡ cut_of lower upper widths N m + crossing width (N x) (N y)

-- the first m lines of the network, of which the first k lines of the plant are made: each has its lower end first, and every set of nodes has q times the cut that those k lines give it
pub record Joined (n : ℕ) (xs ys zs : List ℕ) (q : ℕ) (node wall : List ℕ) (k : ℕ) (lower upper widths : List ℕ) (m : ℕ) : Type 0 where
  pub few : m ≤ k
  pub rising : (j : ℕ) → j < m → get_or lower j 0 < get_or upper j 0
  pub ends : (j : ℕ) → j < m → get_or upper j 0 < n
  pub width : (j : ℕ) → j < m → get_or widths j 0 ≤ k * 65535000
  pub cut : (N : Devices) → cut_of lower upper widths N m ≡ q * sum k (inner_part xs ys zs node wall N)

-- the shares of n devices, p for each, in their nodes
abbrev pub Shared : ℕ → ℕ → List ℕ → List ℕ → Type 0
Shared n p node drains = (g : Plant) → g.devices ≡ n → (x : ℕ) → x < n → get_or drains x 0 ≡ p * size g (λ v. eqb (get_or node v 0) x)

-- the drains of the nodes at the rate p/q
pub record Drained (g : Plant) (p q : ℕ) (node wall drains : List ℕ) : Type 0 where
  pub drain : (x : ℕ) → x < g.devices
      → get_or drains x 0 ≡ p * size g (λ v. eqb (get_or node v 0) x) + q * outer_signals (λ v. get_or node v 0) (λ i. get_or wall i 0) g.lines x
  pub most : (x : ℕ) → x < g.devices → get_or drains x 0 ≤ 2000000000000
