-- Labels: document 01, "A group list has for each device the lowest device number in its group." The lowest device of a set, a list by
-- its entries, and the label of a device, which two devices share exactly if they share a group. Assumes nothing.
use mathlib.Core.Path.{◌≡◌, refl, sym, ◌∙◌, ap, ap₂}
use mathlib.Core.Bool.{Bool, true, false, cond, false≢true}
use mathlib.Core.List.{◌∷◌}
use mathlib.Core.Logic.{◌↔◌}
use Prim.Native.Nat.{ℕ, zero, suc, ◌≤◌, ◌<◌, zero-le, suc-le-suc}
use native.Mathlib.Nat.{le_of_suc-le-suc}
use native.Mathlib.Omega.{arith}
use lib.ListN.{length, get_or}
use Rattle.rules.specs.Plant.{Plant}
use Rattle.rules.specs.Cut.{Devices, size}
use Rattle.rules.specs.Sets.{Agree}
use Rattle.rules.specs.Community.{community}
use Rattle.rules.specs.Groups.{group_of, lowest, table, label, groups}
use Rattle.rules.proofs.Family.{Family}
use Rattle.rules.proofs.SetLaws.{agree-sym}
use Rattle.rules.proofs.GroupLaws.{group-holds, group-same}

-- S without device 0, each other device numbered one lower
abbrev later : Devices → Devices
later S i = S (suc i)

-- l is in S and not above i
record Least (S : Devices) (i l : ℕ) : Type 0 where
  holds : S l ≡ true
  least : l ≤ i

lowest_step : (n : ℕ) (S : Devices) (i : ℕ) → i < suc n → S i ≡ true → (b : Bool) → S 0 ≡ b
    → ((j : ℕ) → j < n → S (suc j) ≡ true → Least (later S) j (lowest n (later S)))
    → Least S i (cond b 0 (suc (lowest n (later S))))
lowest_step n S i h m true e rec = record { holds = e; least = zero-le }
lowest_step n S zero h m false e rec = absurd (false≢true (sym e ∙ m))
lowest_step n S (suc i) h m false e rec = record { holds = at.holds; least = suc-le-suc at.least }
  where
    at : Least (later S) i (lowest n (later S))
    at = rec i (le_of_suc-le-suc h) m

lowest-is : (n : ℕ) (S : Devices) (i : ℕ) → i < n → S i ≡ true → Least S i (lowest n S)
unfolding lowest
lowest-is zero S i h m = absurd (omega arith)
lowest-is (suc n) S i h m = lowest_step n S i h m _ refl (lowest-is n (later S))

pub lowest-in : (n : ℕ) (S : Devices) (i : ℕ) → i < n → S i ≡ true → S (lowest n S) ≡ true
lowest-in n S i h m = (lowest-is n S i h m).holds

pub lowest-le : (n : ℕ) (S : Devices) (i : ℕ) → i < n → S i ≡ true → lowest n S ≤ i
lowest-le n S i h m = (lowest-is n S i h m).least

pub lowest-agree : (n : ℕ) (S T : Devices) → Agree n S T → lowest n S ≡ lowest n T
unfolding lowest
lowest-agree zero S T a = refl
lowest-agree (suc n) S T a = ap₂ (λ (b : Bool) (l : ℕ). cond b 0 (suc l)) (a 0 (suc-le-suc zero-le)) (lowest-agree n (later S) (later T) (λ i h. a (suc i) (suc-le-suc h)))

-- before the lowest there is none
pub lowest-below : (n : ℕ) (S : Devices) (j : ℕ) → j < lowest n S → j < n → S j ≡ false
lowest-below n S j h below = go (S j) refl
  where
    go : (b : Bool) → S j ≡ b → S j ≡ false
    go true m = absurd (omega (arith, lowest-le n S j below m))
    go false m = m

-- a list by its entries
pub length-table : (n : ℕ) (f : ℕ → ℕ) → length (table n f) ≡ n
unfolding table
length-table zero f = refl
length-table (suc n) f = ap suc (length-table n (λ i. f (suc i)))

pub get_or-table : (n : ℕ) (f : ℕ → ℕ) (i : ℕ) → i < n → get_or (table n f) i 0 ≡ f i
unfolding table
get_or-table zero f i h = absurd (omega arith)
get_or-table (suc n) f zero h = refl
get_or-table (suc n) f (suc i) h = get_or-table n (λ i. f (suc i)) i (le_of_suc-le-suc h)

pub table-agree : (n : ℕ) (f h : ℕ → ℕ) → ((i : ℕ) → i < n → f i ≡ h i) → table n f ≡ table n h
unfolding table
table-agree zero f h a = refl
table-agree (suc n) f h a = ap₂ ◌∷◌ (a 0 (suc-le-suc zero-le)) (table-agree n (λ i. f (suc i)) (λ i. h (suc i)) (λ i b. a (suc i) (suc-le-suc b)))

module _ (g : Plant) (p q : ℕ) where
  abbrev n : ℕ
  n = g.devices

  abbrev G : ℕ → Devices
  G = group_of g p q

  -- the label is the lowest device of any set that holds the devices of the group
  pub label-from : (i : ℕ) (S : Devices) → Agree n S (group_of g p q i) → label g p q i ≡ lowest n S
  unfolding label
  label-from i S a = lowest-agree n (G i) S (agree-sym a)

  module _ (fam : Family n (size g) (community g p q)) where
    pub label-le : (i : ℕ) → i < n → label g p q i ≤ i
    unfolding label
    label-le i h = lowest-le n (G i) i h (group-holds g p q fam i h)

    pub label-below : (i : ℕ) → i < n → label g p q i < n
    label-below i h = omega (arith, label-le i h)

    pub label-in : (i : ℕ) → i < n → group_of g p q i (label g p q i) ≡ true
    unfolding label
    label-in i h = lowest-in n (G i) i h (group-holds g p q fam i h)

    shared : (i j : ℕ) → i < n → j < n → G i j ≡ true → label g p q i ≡ label g p q j
    unfolding label
    shared i j hi hj m = lowest-agree n (G i) (G j) (group-same g p q fam i j hi hj m)

    pub label-label : (i : ℕ) → i < n → label g p q (label g p q i) ≡ label g p q i
    label-label i h = sym (shared i (label g p q i) h (label-below i h) (label-in i h))

    -- labels are equal exactly in one group
    pub label_same : (i j : ℕ) → i < n → j < n → (label g p q i ≡ label g p q j) ↔ (group_of g p q i j ≡ true)
    label_same i j hi hj = (together, shared i j hi hj)
      where
        to : (k : ℕ) → k < n → Agree n (G k) (G (label g p q k))
        to k h = group-same g p q fam k (label g p q k) h (label-below k h) (label-in k h)

        together : label g p q i ≡ label g p q j → G i j ≡ true
        together e = to i hi j hj ∙ (rw e (sym (to j hj j hj))) ∙ group-holds g p q fam j hj

  pub groups-length : length (groups g p q) ≡ n
  unfolding groups
  groups-length = length-table n (label g p q)

  pub groups-at : (i : ℕ) → i < n → get_or (groups g p q) i 0 ≡ label g p q i
  unfolding groups
  groups-at i h = get_or-table n (label g p q) i h
