-- Levels: going through enough devices ends in the grouping at the rate. It is enough to take every device; and between two known levels
-- the owners of the finer, whose communities lie inside the groups of the coarser.
-- Assumes nothing.
use mathlib.Core.Path.{◌≡◌, refl, sym, ◌∙◌, ap}
use mathlib.Core.Bool.{Bool, true}
use mathlib.Core.List.{List}
use Prim.Native.Nat.{ℕ, ◌≤◌, ◌<◌}
use lib.ListN.{get_or, replicate}
use Rattle.rules.specs.Plant.{Plant}
use Rattle.rules.specs.Accepted.{Sound}
use Rattle.rules.specs.Cut.{size}
use Rattle.rules.specs.Community.{community}
use Rattle.rules.specs.Groups.{label, groups, table, distinct}
use Rattle.rules.specs.Sweep.{sweep}
use Rattle.rules.specs.Order.{lowest_with}
use Rattle.rules.proofs.Rates.{coarser}
use Rattle.rules.proofs.Family.{Family}
use Rattle.rules.proofs.GroupLaws.{group-holds, group-largest}
use Rattle.rules.proofs.LabelLaws.{lowest-agree, table-agree, label_same}
use Rattle.rules.proofs.Sweep.{sweep-owner, sweep-self, sweep-group, sweep-label}
use Rattle.rules.proofs.Instance.{family}
use Rattle.rules.specs.Lists.{over}
use Rattle.cut.specs.Calls.{owners_of}
use Rattle.rules.proofs.FillLaws.{over-front}
use Rattle.grouping.specs.Level.{first_with, Owned, IsLevel, Swept, Between}

module _ (g : Plant) (p q : ℕ) where
  abbrev n : ℕ
  n = g.devices

  abbrev owned : (ℕ → Bool) → ℕ → ℕ
  owned wanted = sweep (community g p q) wanted g.devices g.devices

  module _ (fam : Family g.devices (size g) (community g p q)) (wanted : ℕ → Bool)
      (cover : (d : ℕ) → d < g.devices → (r : ℕ) × (r < g.devices) × (wanted r ≡ true) × (community g p q r d ≡ true))
      (owner : List ℕ) (at : (v : ℕ) → v < g.devices → get_or owner v 0 ≡ sweep (community g p q) wanted g.devices g.devices v) where
    abbrev s : ℕ → ℕ
    s = owned wanted

    -- the owners are devices
    owners-devices : (v : ℕ) → v < g.devices → get_or owner v 0 < g.devices
    owners-devices v h = rw (at v h) (sweep-owner n (size g) (community g p q) fam wanted cover v h).0

    -- the lowest devices with an owner are the labels
    owners-groups : table g.devices (first_with g.devices owner) ≡ groups g p q
    unfolding groups first_with lowest_with
    owners-groups = table-agree n (first_with n owner) (label g p q) (λ v h. lowest-agree n _ _ (λ u hu. rw (at u hu, at v h)) ∙ sym (sweep-label g p q fam wanted cover v h))

    owners-owned : Owned g p q owner
    owners-owned = record {
      device = owners-devices;
      group = λ v h. rw (at v h) (sweep-group g p q fam wanted cover v h);
      self = λ v h. rw (at v h, at (s v) (rw (at v h) at (owners-devices v h))) (sweep-self n (size g) (community g p q) fam wanted cover v h);
    }

  -- what a search of enough devices and the labels from its owners make is the level
  module _ (s : Sound g) (o : 1 ≤ p) {owner : List ℕ} (swept : Swept g p q owner) where
    fam : Family g.devices (size g) (community g p q)
    fam = family g p q s o

    pub swept-devices : (v : ℕ) → v < g.devices → get_or owner v 0 < g.devices
    swept-devices = owners-devices fam swept.wanted swept.covers owner swept.owns

    pub swept-groups : table g.devices (first_with g.devices owner) ≡ groups g p q
    swept-groups = owners-groups fam swept.wanted swept.covers owner swept.owns

    pub swept-level : {labels : List ℕ} {count : ℕ}
        → labels ≡ over (table g.devices (first_with g.devices owner)) (replicate 128 0) → count ≡ distinct (table g.devices (first_with g.devices owner))
        → IsLevel g p q (record { labels = labels; owner = owner; groups = count })
    swept-level b d = record {
      labelled = λ v h. ap (λ (l : List ℕ). get_or l v 0) (b ∙ ap (λ (l : List ℕ). over l (replicate 128 0)) swept-groups) ∙ (unfold groups in over-front n (label g p q) (replicate 128 0) v h);
      counted = d ∙ ap distinct swept-groups;
      owned = owners-owned fam swept.wanted swept.covers owner swept.owns;
    }

-- every device is gone through
pub swept_all : (g : Plant) (p q : ℕ) → Sound g → 1 ≤ p → (old owner : List ℕ) → owner ≡ over (owners_of g p q) old → Swept g p q owner
unfolding owners_of
swept_all g p q s o old owner e = record {
  wanted = λ d. true;
  covers = λ d hd. (d, hd, refl, (family g p q s o).own d hd);
  owns = λ v h. ap (λ (l : List ℕ). get_or l v 0) e ∙ over-front g.devices _ old v h;
}

-- between two known levels the owners of the finer are enough, and each community lies inside a group of the coarser
module _ (g : Plant) (p q : ℕ) (s : Sound g) (u : 1 ≤ q) (owner wall : List ℕ) (b : Between g p q owner wall) where
  abbrev node : ℕ → ℕ
  node v = get_or owner v 0

  low : Family g.devices (size g) (community g b.low_p b.low_q)
  low = family g b.low_p b.low_q s b.some_low_p

  together : (d i : ℕ) → d < g.devices → i < g.devices → community g p q d i ≡ true → label g b.low_p b.low_q d ≡ label g b.low_p b.low_q i
  together d i hd hi m = (label_same g b.low_p b.low_q low d i hd hi).1
      (group-largest g b.low_p b.low_q low d d hd hd (low.own d hd) i hi (coarser g p q b.low_p b.low_q d s hd b.some_low_q b.not_below i hi m))

  pub between-walled : (d i : ℕ) → d < g.devices → i < g.devices → community g p q d i ≡ true → get_or wall i 0 ≡ get_or wall d 0
  between-walled d i hd hi m = b.coarser_is i hi ∙ sym (together d i hd hi m) ∙ sym (b.coarser_is d hd)

  pub between-covers : (d : ℕ) → d < g.devices → community g p q (get_or owner d 0) d ≡ true
  between-covers d hd = coarser g b.high_p b.high_q p q (node d) s (b.finer_is.device d hd) u b.not_above d hd (b.finer_is.group d hd d hd ∙ group-holds g b.high_p b.high_q (family g b.high_p b.high_q s b.some_high_p) d hd)
