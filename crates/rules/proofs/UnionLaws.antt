-- Between two levels: the community, at a rate that is not above the finer level's, of a device whose community at the finer level is its group there, is a union of the finer level's groups. So the search for it may take each finer group as one node.
-- Assumes nothing.
use Prim.Native.Nat.{ℕ, ◌*◌, ◌≤◌, ◌<◌}
use mathlib.Core.Path.{◌≡◌, refl, ap}
use mathlib.Core.Bool.{Bool, true, false}
use native.Mathlib.Nat.{lt_of_not-le, mul-add, le_of_mul-le-mul_left, lt_of_mul-lt-mul_left}
use native.Mathlib.Omega.{arith}
use Rattle.rules.specs.Plant.{Plant}
use Rattle.rules.specs.Accepted.{Sound}
use Rattle.rules.specs.Cut.{Devices, out, size, cost}
use Rattle.rules.specs.Sets.{Inside, Agree, minus}
use Rattle.rules.specs.Community.{community}
use Rattle.rules.specs.CommunityIs.{IsCommunity}
use Rattle.rules.specs.Groups.{group_of}
use Rattle.rules.proofs.SetLaws.{agree-sym, agree_trans, agree-inside}
use Rattle.rules.proofs.Sums.{meet, out-posimodular, size-minus, size_holds}
use Rattle.rules.proofs.Best.{community-is}
use Rattle.rules.proofs.Communities.{nested}
use Rattle.rules.proofs.Rates.{coarser}
use Rattle.rules.proofs.Family.{Family}
use Rattle.rules.proofs.GroupLaws.{group-community, group-holds, group-same}
use Rattle.rules.proofs.Instance.{family}

-- two communities at any two rates that share a device: one of them holds the other's device
pub meets :
    {g : Plant} {p q p' q' r s : ℕ} {X C : Devices} (v : ℕ) →
    1 ≤ q →
    IsCommunity g p q r X →
    IsCommunity g p' q' s C →
    v < g.devices →
    X v ≡ true →
    C v ≡ true →
    C r ≡ false →
    X s ≡ true
unfolding cost
meets {g} {p} {q} {p'} {q'} {r} {s} {X} {C} v o x c b xv cv off = go (X s) refl
  where
    go : (m : Bool) → X s ≡ m → m ≡ true
    go true h = refl
    go false h =
        let low = x.least (minus X C) (rw (x.holds, off)) in
        let shrunk = size-minus g C X in
        let shared = size_holds g (meet C X) v b (rw (cv, xv)) in
        let dearer : cost g p' q' C < cost g p' q' (minus C X) =
        lt_of_not-le (λ l. let k = c.fewest (minus C X) (rw (c.holds, h)) l in omega arith) in
        let rest : out g.lines X ≤ out g.lines (minus X C) =
        le_of_mul-le-mul_left {k = q} (omega (arith, simp mul-add at (ap (λ (m : ℕ). p * m) (size-minus g X C)))) o in
        let part : out g.lines C < out g.lines (minus C X) =
        lt_of_mul-lt-mul_left q' (omega (arith, simp mul-add at (ap (λ (m : ℕ). p' * m) shrunk))) in
        absurd (omega (arith, out-posimodular g.lines X C))

-- ap/aq is the finer level's rate, p/q one that is not above it, and r a device whose community at ap/aq is its group there: the community of r at p/q holds of each group at ap/aq all or nothing
module _ (g : Plant) (ap aq p q r : ℕ) (s : Sound g) (oa : 1 ≤ ap) (o : 1 ≤ q) (lower : p * aq ≤ ap * q)
    (br : r < g.devices) (head : Agree g.devices (community g ap aq r) (group_of g ap aq r)) where
  abbrev n : ℕ
  n = g.devices

  pub union-of-finer : (v : ℕ) → v < n → community g p q r v ≡ true → Inside n (group_of g ap aq v) (community g p q r)
  union-of-finer v bv m = go (group_of g ap aq v r) refl
    where
      fam : Family n (size g) (community g ap aq)
      fam = family g ap aq s oa

      -- the group of v is the community of d at ap/aq
      d : ℕ
      d = (group-community g ap aq fam v bv).0

      bd : d < n
      bd = (group-community g ap aq fam v bv).1

      same : group_of g ap aq v ≡ community g ap aq d
      same = (group-community g ap aq fam v bv).2

      go : (x : Bool) → group_of g ap aq v r ≡ x → Inside n (group_of g ap aq v) (community g p q r)
      go true h i b e =
          coarser g ap aq p q r s br o lower i b (agree-inside (agree-sym (agree_trans head (agree-sym (group-same g ap aq fam v r bv br h)))) i b e)
      go false h i b e =
          nested g p q r d s br bd
          (meets v o (community-is g p q r s br) (community-is g ap aq d s bd) bv m (rw same at (group-holds g ap aq fam v bv)) (rw same at h))
          i b
          (coarser g ap aq p q d s bd o lower i b (rw same at e))
