-- The community of a device: the same sentences as in `Community` as properties, which the laws prove; no public contract cites this file.
-- Assumes nothing.
use Rattle.std.specs.Prelude.{ℕ, ◌≤◌, ◌≡◌, true}
use Rattle.rules.specs.Plant.{Plant}
use Rattle.rules.specs.Cut.{Devices, size, cost}
use Rattle.rules.specs.Sets.{Inside}

-- the best set that holds d inside F, as a property of a set C: it holds d and lies inside F, no such set costs less, and none that costs no more has fewer devices
pub record IsCommunityIn (g : Plant) (p q : ℕ) (F : Devices) (d : ℕ) (C : Devices) : Type 0 where
  pub holds : C d ≡ true
  pub inside : Inside g.devices C F
  pub least : (T : Devices) → T d ≡ true → Inside g.devices T F → cost g p q C ≤ cost g p q T
  pub fewest : (T : Devices) → T d ≡ true → Inside g.devices T F → cost g p q T ≤ cost g p q C → size g C ≤ size g T

-- and of the community itself, among all sets
pub record IsCommunity (g : Plant) (p q : ℕ) (d : ℕ) (C : Devices) : Type 0 where
  pub holds : C d ≡ true
  pub least : (T : Devices) → T d ≡ true → cost g p q C ≤ cost g p q T
  pub fewest : (T : Devices) → T d ≡ true → cost g p q T ≤ cost g p q C → size g C ≤ size g T
