-- A level of the hierarchy as a value: its labels, its number of groups, and for each device one whose community is its group. No public contract cites this file.
-- Assumes nothing.
use Rattle.std.specs.Prelude.{ℕ, ◌*◌, ◌≤◌, ◌<◌, ◌≡◌, Bool, true, List, eqb, get_or}
use Rattle.rules.specs.Plant.{Plant}
use Rattle.rules.specs.Sets.{Agree}
use Rattle.rules.specs.Community.{community}
use Rattle.rules.specs.Groups.{group_of, label, groups, distinct}
use Rattle.rules.specs.Order.{lowest_with}
use Rattle.rules.specs.Sweep.{sweep}
use Rattle.grouping.specs.declared.level.Level.{Level}

-- the lowest of n devices with the owner of v
unfoldable pub first_with : ℕ → List ℕ → ℕ → ℕ
first_with n owner = lowest_with n (λ u. get_or owner u 0)

-- the labels are those of the grouping at p/q
abbrev pub Labelled : Plant → ℕ → ℕ → List ℕ → Type 0
Labelled g p q labels = (v : ℕ) → v < g.devices → get_or labels v 0 ≡ label g p q v

-- the entry of a device v is a device whose community is the group of v at p/q, and which owns itself
pub record Owned (g : Plant) (p q : ℕ) (owner : List ℕ) : Type 0 where
  pub device : (v : ℕ) → v < g.devices → get_or owner v 0 < g.devices
  pub group : (v : ℕ) → v < g.devices → Agree g.devices (community g p q (get_or owner v 0)) (group_of g p q v)
  pub self : (v : ℕ) → v < g.devices → get_or owner (get_or owner v 0) 0 ≡ get_or owner v 0

-- the grouping at p/q as a level
pub record IsLevel (g : Plant) (p q : ℕ) (level : Level) : Type 0 where
  pub labelled : Labelled g p q level.labels
  pub counted : level.groups ≡ distinct (groups g p q)
  pub owned : Owned g p q level.owner

-- the owners that going once through the wanted devices leaves, each device lying in the community of a wanted one
pub record Swept (g : Plant) (p q : ℕ) (owner : List ℕ) : Type 0 where
  pub wanted : ℕ → Bool
  pub covers : (d : ℕ) → d < g.devices → (r : ℕ) × (r < g.devices) × (wanted r ≡ true) × (community g p q r d ≡ true)
  pub owns : (v : ℕ) → v < g.devices → get_or owner v 0 ≡ sweep (community g p q) wanted g.devices g.devices v

-- the devices that own themselves: one for each group
unfoldable pub owns_itself : List ℕ → ℕ → Bool
owns_itself owner v = eqb (get_or owner v 0) v

-- the rate p/q lies between those of two levels, the finer one's owners and the coarser one's labels being known: it is not above the finer one's rate and not below the coarser one's
pub record Between (g : Plant) (p q : ℕ) (owner wall : List ℕ) : Type 0 where
  pub high_p : ℕ
  pub high_q : ℕ
  pub low_p : ℕ
  pub low_q : ℕ
  pub some_high_p : 1 ≤ high_p
  pub some_low_p : 1 ≤ low_p
  pub some_low_q : 1 ≤ low_q
  pub finer_is : Owned g high_p high_q owner
  pub coarser_is : Labelled g low_p low_q wall
  pub not_above : p * high_q ≤ high_p * q
  pub not_below : low_p * q ≤ p * low_q
