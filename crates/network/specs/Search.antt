-- What the functions of the search say to each other. No public contract cites this file.
-- A line l joins the nodes `get_or xs l 0` and `get_or ys l 0`. `get_or fs l 0` is what can still go from its first end to its second (forth), `get_or rs l 0` the other way (back), and `get_or ws v 0` what can still go from node v to the added vertex (its drain).
-- Assumes nothing.
use Rattle.std.specs.Prelude.{ℕ, ◌+◌, ◌-◌, ◌*◌, ◌≤◌, ◌<◌, ◌≡◌, ◌⊎◌, Bool, true, false, ◌||◌, cond, List, Option, None, Some, eqb, length, get_or, set}
use Rattle.rules.specs.Plant.{lines_of}
use Rattle.rules.specs.Cut.{Devices}
use Rattle.rules.specs.Numbers.{sum}
use Rattle.rules.specs.Network.{net_cost}

-- what can leave a set over one line: its forth where only the first end is in the set, its back where only the second is
unfoldable pub passing : Bool → Bool → ℕ → ℕ → ℕ
passing true true f r = 0
passing true false f r = f
passing false true f r = r
passing false false f r = 0

-- what can leave S over its lines
unfoldable pub lines_leave : List ℕ → List ℕ → List ℕ → List ℕ → Devices → ℕ
lines_leave xs ys fs rs S = sum (length xs) (λ l. passing (S (get_or xs l 0)) (S (get_or ys l 0)) (get_or fs l 0) (get_or rs l 0))

-- what can leave S to the added vertex
unfoldable pub drains_leave : ℕ → List ℕ → Devices → ℕ
drains_leave n ws S = sum n (λ v. cond (S v) (get_or ws v 0) 0)

-- what can still go over line l out of node u, where u is one of its ends, and its other end
unfoldable pub spare_from_of : List ℕ → List ℕ → List ℕ → ℕ → ℕ → ℕ
spare_from_of xs fs rs l u = cond (eqb (get_or xs l 0) u) (get_or fs l 0) (get_or rs l 0)

unfoldable pub far_end_of : List ℕ → List ℕ → ℕ → ℕ → ℕ
far_end_of xs ys l u = cond (eqb (get_or xs l 0) u) (get_or ys l 0) (get_or xs l 0)

-- whether u is an end of line l
unfoldable pub touches : List ℕ → List ℕ → ℕ → ℕ → Bool
touches xs ys l u = eqb (get_or xs l 0) u || eqb (get_or ys l 0) u

-- the lists of a network as the search needs them: every end is one of the 128 nodes, the first end is below the second, few enough lines
pub record Laid (xs ys : List ℕ) : Type 0 where
  pub few : length xs ≤ 1024
  pub even : length xs ≡ length ys
  pub first : (l : ℕ) → l < length xs → get_or xs l 0 < 128
  pub second : (l : ℕ) → l < length xs → get_or ys l 0 < 128
  pub differ : (l : ℕ) → l < length xs → get_or xs l 0 < get_or ys l 0

-- t is one more than the last line below k that touches v, and 0 where there is none
pub record Before (xs ys : List ℕ) (v k t : ℕ) : Type 0 where
  pub at_most : t ≤ k
  pub real : (l : ℕ) → t ≡ l + 1 → touches xs ys l v ≡ true
  pub gap : (l : ℕ) → t ≤ l → l < k → touches xs ys l v ≡ false

-- one more than a line, and 0 for none
abbrev pub behind : Option ℕ → ℕ
behind None = 0
behind (Some l) = l + 1

-- the index of each node's lines, of those among the first k lines: each node's last, and of each line the one before it of its first and of its second end
pub record Lasts (xs ys : List ℕ) (k : ℕ) (lasts : List ℕ) : Type 0 where
  pub last : (v : ℕ) → v < 128 → Before xs ys v k (get_or lasts v 0)

pub record Priors (xs ys : List ℕ) (k : ℕ) (firsts seconds : List ℕ) : Type 0 where
  pub by_first : (l : ℕ) → l < k → Before xs ys (get_or xs l 0) l (get_or firsts l 0)
  pub by_second : (l : ℕ) → l < k → Before xs ys (get_or ys l 0) l (get_or seconds l 0)

-- the nodes in a queue of that count: of each but the first the line it came by and the place it came from
pub record Way (xs ys nodes vias froms : List ℕ) (count : ℕ) : Type 0 where
  pub parent : (j : ℕ) → 1 ≤ j → j < count → get_or froms j 0 < j
  pub line : (j : ℕ) → 1 ≤ j → j < count → get_or vias j 0 < length xs
  pub leaves : (j : ℕ) → 1 ≤ j → j < count → touches xs ys (get_or vias j 0) (get_or nodes (get_or froms j 0) 0) ≡ true
  pub reaches : (j : ℕ) → 1 ≤ j → j < count → far_end_of xs ys (get_or vias j 0) (get_or nodes (get_or froms j 0) 0) ≡ get_or nodes j 0
  pub once : (i j : ℕ) → i < count → j < count → get_or nodes i 0 ≡ get_or nodes j 0 → i ≡ j

-- what can still go over the line by which place j came, out of the node that it came from
abbrev pub spare_to : List ℕ → List ℕ → List ℕ → List ℕ → List ℕ → List ℕ → ℕ → ℕ
spare_to xs fs rs nodes vias froms j = spare_from_of xs fs rs (get_or vias j 0) (get_or nodes (get_or froms j 0) 0)

-- each came over a line with something to spare
abbrev pub Passable : List ℕ → List ℕ → List ℕ → List ℕ → List ℕ → List ℕ → ℕ → Type 0
Passable xs fs rs nodes vias froms count = (j : ℕ) → 1 ≤ j → j < count → 1 ≤ spare_to xs fs rs nodes vias froms j

-- what line l of node u leads to stands at a place below j, if it has something to spare
abbrev pub Within : List ℕ → List ℕ → List ℕ → List ℕ → List ℕ → ℕ → ℕ → ℕ → Type 0
Within xs ys fs rs nodes j u l =
    touches xs ys l u ≡ true → 1 ≤ spare_from_of xs fs rs l u → (p : ℕ) × (p < j) × (get_or nodes p 0 ≡ far_end_of xs ys l u)

-- place j of a queue is filled from place i over line k, and not before: every line of the nodes at places below i, and those lines of the node at i that are above k, lead to places below j
pub record Earliest (xs ys fs rs nodes : List ℕ) (j i k : ℕ) : Type 0 where
  pub shut : (p : ℕ) → p < i → (l : ℕ) → l < length xs → Within xs ys fs rs nodes j (get_or nodes p 0) l
  pub here : (l : ℕ) → k < l → l < length xs → Within xs ys fs rs nodes j (get_or nodes i 0) l

-- the nodes of a queue are those marked 1, and all others are marked 0
pub record Marks (nodes marks : List ℕ) (count : ℕ) : Type 0 where
  pub once : (i j : ℕ) → i < count → j < count → get_or nodes i 0 ≡ get_or nodes j 0 → i ≡ j
  pub device : (j : ℕ) → j < count → get_or nodes j 0 < 128
  pub marked : (j : ℕ) → j < count → get_or marks (get_or nodes j 0) 0 ≡ 1
  pub listed : (v : ℕ) → v < 128 → (get_or marks v 0 ≡ 0) ⊎ ((j : ℕ) × (j < count) × (get_or nodes j 0 ≡ v))
  pub counted : count ≡ sum 128 (λ v. get_or marks v 0)

-- the tree that a search from d has reached: the nodes of the queue are those marked 1, and all others are marked 0; each place was filled as soon as it could be
pub record Tree (xs ys fs rs : List ℕ) (d : ℕ) (nodes vias froms marks : List ℕ) (count : ℕ) : Type 0 where
  pub way : Way xs ys nodes vias froms count
  pub passable : Passable xs fs rs nodes vias froms count
  pub some : 1 ≤ count
  pub root : get_or nodes 0 0 ≡ d
  pub device : (j : ℕ) → j < count → get_or nodes j 0 < 128
  pub marked : (j : ℕ) → j < count → get_or marks (get_or nodes j 0) 0 ≡ 1
  pub listed : (v : ℕ) → v < 128 → (get_or marks v 0 ≡ 0) ⊎ ((j : ℕ) × (j < count) × (get_or nodes j 0 ≡ v))
  pub counted : count ≡ sum 128 (λ v. get_or marks v 0)
  pub order : (j : ℕ) → 1 ≤ j → j < count → Earliest xs ys fs rs nodes j (get_or froms j 0) (get_or vias j 0)

-- what line l of node u leads to is marked, if it has something to spare
abbrev pub Shut : List ℕ → List ℕ → List ℕ → List ℕ → List ℕ → ℕ → ℕ → Type 0
Shut xs ys fs rs marks u l =
    touches xs ys l u ≡ true → 1 ≤ spare_from_of xs fs rs l u → get_or marks (far_end_of xs ys l u) 0 ≡ 1

-- a search at place h of the queue: over every line of the nodes at places below h, and over those lines of the node at h that are not below k, all that can be reached is marked
pub record Covered (xs ys fs rs : List ℕ) (d : ℕ) (nodes vias froms marks : List ℕ) (count h k : ℕ) : Type 0 where
  pub tree : Tree xs ys fs rs d nodes vias froms marks count
  pub place : h ≤ count
  pub shut : (j : ℕ) → j < h → (l : ℕ) → l < length xs → Shut xs ys fs rs marks (get_or nodes j 0) l
  pub here : h < count → (l : ℕ) → k ≤ l → l < length xs → Shut xs ys fs rs marks (get_or nodes h 0) l

-- such a search that has found no drain
pub record Scan (xs ys fs rs ws : List ℕ) (d : ℕ) (nodes vias froms marks : List ℕ) (count h k : ℕ) : Type 0 where
  pub covered : Covered xs ys fs rs d nodes vias froms marks count h k
  pub dry : (j : ℕ) → j < count → get_or ws (get_or nodes j 0) 0 ≡ 0

-- one that has found a node with drain left, the last in its queue
pub record Found (xs ys fs rs ws : List ℕ) (d : ℕ) (nodes vias froms marks : List ℕ) (count h k : ℕ) : Type 0 where
  pub covered : Covered xs ys fs rs d nodes vias froms marks count h k
  pub dry : (j : ℕ) → j + 1 < count → get_or ws (get_or nodes j 0) 0 ≡ 0
  pub wet : (j : ℕ) → count ≡ j + 1 → 1 ≤ get_or ws (get_or nodes j 0) 0

-- rest is one more than a line of u, and 0 for none
pub record Rest (xs ys : List ℕ) (u rest : ℕ) : Type 0 where
  pub within : rest ≤ length xs
  pub own : (l : ℕ) → rest ≡ l + 1 → touches xs ys l u ≡ true

-- where a search can go on: the lines of the node at h that are not below `rest` are done, and the one before is its own
pub record Standing (xs ys fs rs ws : List ℕ) (d : ℕ) (nodes vias froms marks : List ℕ) (count h rest : ℕ) : Type 0 where
  pub scan : Scan xs ys fs rs ws d nodes vias froms marks count h rest
  pub ahead : Rest xs ys (get_or nodes h 0) rest

-- on the way back from place j to place 0 at least δ can go over each line
pub data Clear (xs fs rs nodes vias froms : List ℕ) (δ : ℕ) : ℕ → Type 0 where
  start : Clear xs fs rs nodes vias froms δ 0
  onward : {j : ℕ} → 1 ≤ j → δ ≤ spare_to xs fs rs nodes vias froms j
      → Clear xs fs rs nodes vias froms δ (get_or froms j 0) → Clear xs fs rs nodes vias froms δ j

-- place i lies on the way back from place j to place 0
pub data On (froms : List ℕ) : ℕ → ℕ → Type 0 where
  here : {j : ℕ} → On froms j j
  back : {j i : ℕ} → 1 ≤ j → On froms (get_or froms j 0) i → On froms j i

-- forth and back of the lines after δ has gone over line l out of node u
unfoldable pub forth_after : List ℕ → List ℕ → ℕ → ℕ → ℕ → List ℕ
forth_after xs fs l u δ = set fs l (cond (eqb (get_or xs l 0) u) (get_or fs l 0 - δ) (get_or fs l 0 + δ))

unfoldable pub back_after : List ℕ → List ℕ → ℕ → ℕ → ℕ → List ℕ
back_after xs rs l u δ = set rs l (cond (eqb (get_or xs l 0) u) (get_or rs l 0 + δ) (get_or rs l 0 - δ))

-- δ has gone from node d to node e over lines: fs and rs before, fs' and rs' after
pub record Sent (xs ys : List ℕ) (d e δ : ℕ) (fs rs fs' rs' : List ℕ) : Type 0 where
  pub kept : (l : ℕ) → l < length xs → get_or fs' l 0 + get_or rs' l 0 ≡ get_or fs l 0 + get_or rs l 0
  pub moved : (T : Devices) → lines_leave xs ys fs' rs' T + cond (T d) δ 0 ≡ lines_leave xs ys fs rs T + cond (T e) δ 0

-- what δ that went along the way to place `last` of a queue left of the spares: a spare grew only over a line by which a place of the queue came, and not out of the node that it came from; the line of a place lost something only where the place lies on the way, and there it lost δ
pub record Kept (xs nodes vias froms : List ℕ) (last δ : ℕ) (fs rs fs' rs' : List ℕ) : Type 0 where
  pub grown : (l u : ℕ) → (spare_from_of xs fs' rs' l u ≤ spare_from_of xs fs rs l u) ⊎ ((j : ℕ) × (1 ≤ j) × (j < last + 1) × (get_or vias j 0 ≡ l) × (u ≡ get_or nodes (get_or froms j 0) 0 → ⊥))
  pub lost : (j : ℕ) → 1 ≤ j → j < last + 1 → (spare_to xs fs' rs' nodes vias froms j ≡ spare_to xs fs rs nodes vias froms j) ⊎ On froms last j
  pub took : (j : ℕ) → 1 ≤ j → On froms last j → spare_to xs fs' rs' nodes vias froms j + δ ≡ spare_to xs fs rs nodes vias froms j

-- what is still to go and what has been sent, of the network with the lines xs, ys of the widths zs and the drains ds: each set that holds the start costs what has been sent and what can still leave it
pub record Spares (k : ℕ) (xs ys zs ds : List ℕ) (start : ℕ) (fs rs ws : List ℕ) : Type 0 where
  pub sent : ℕ
  pub whole : (l : ℕ) → l < length xs → get_or fs l 0 + get_or rs l 0 ≡ 2 * get_or zs l 0
  pub share : (T : Devices) → T start ≡ true
      → net_cost (lines_of xs ys zs) (λ v. get_or ds v 0) k T ≡ sent + (lines_leave xs ys fs rs T + drains_leave k ws T)
