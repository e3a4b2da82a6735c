-- Document 01, "A lower rate never divides a group of a higher one": devices with one label at a rate have one label at each rate whose
-- communities contain those of the first. Assumes nothing.
use mathlib.Core.Path.{◌≡◌}
use Prim.Native.Nat.{ℕ, ◌<◌}
use Rattle.rules.specs.Plant.{Plant}
use Rattle.rules.specs.Cut.{size}
use Rattle.rules.specs.Sets.{Inside}
use Rattle.rules.specs.Community.{community}
use Rattle.rules.specs.Groups.{group_of, label}
use Rattle.rules.proofs.Family.{Family}
use Rattle.rules.proofs.GroupLaws.{group-community, group-holds, group-largest}
use Rattle.rules.proofs.LabelLaws.{label_same}

module _ (g : Plant) (p q p' q' : ℕ) (fam : Family g.devices (size g) (community g p q)) (fam' : Family g.devices (size g) (community g p' q'))
    (coarser : (d : ℕ) → d < g.devices → Inside g.devices (community g p q d) (community g p' q' d)) where
  abbrev n : ℕ
  n = g.devices

  -- the group of i at p/q lies in its group at p'/q'
  pub group-coarser : (i : ℕ) → i < n → Inside n (group_of g p q i) (group_of g p' q' i)
  group-coarser i hi j hj m = group-largest g p' q' fam' i d hi hd (coarser d hd i hi (rw same at (group-holds g p q fam i hi))) j hj (coarser d hd j hj (rw same at m))
    where
      d : ℕ
      d = (group-community g p q fam i hi).0

      hd : d < n
      hd = (group-community g p q fam i hi).1

      same : group_of g p q i ≡ community g p q d
      same = (group-community g p q fam i hi).2

  pub divides-never : (i j : ℕ) → i < n → j < n → label g p q i ≡ label g p q j → label g p' q' i ≡ label g p' q' j
  divides-never i j hi hj e = (label_same g p' q' fam' i j hi hj).1 (group-coarser i hi j hj ((label_same g p q fam i j hi hj).0 e))
