-- Two group lists of one plant: equal exactly if each device has the same group in both; the lists between two equal ones; and their numbers of groups.
--     groups-agree, agree-groups   from equal lists to equal groups, and back
--     squeeze                      between two rates with one grouping there is no other
--     fewer-or-same, same_number   a lower rate has no more groups, and as many only if they are the same
--     fewer                        and fewer if they are not
--     some-group, most-groups      at least one group, at most n
-- Assumes nothing.
use Prim.Native.Nat.{ℕ, zero, suc, ◌*◌, ◌≤◌, ◌<◌}
use mathlib.Core.Path.{◌≡◌, refl, sym, ap, ◌∙◌}
use mathlib.Core.Bool.{Bool, true, false, cond}
use mathlib.Core.List.{List}
use mathlib.Core.Logic.{◌↔◌, ⊎_elim}
use native.Mathlib.Nat.{le_refl, le_step, lt-suc_self, eq-or-lt_of_le}
use native.Mathlib.Omega.{arith}
use lib.Dec.{eqb}
use lib.ListN.{get_or}
use borrow.Author.Tests.{eqb-true, eqb-false, eq-eqb}
use Rattle.rules.specs.Plant.{Plant}
use Rattle.rules.specs.Accepted.{Sound}
use Rattle.rules.specs.Sets.{Agree}
use Rattle.rules.specs.Groups.{group_of, label, groups, distinct}
use Rattle.rules.proofs.SetLaws.{same_bool, agree-inside, agree-sym, agree-both, below_suc}
use Rattle.rules.proofs.LabelLaws.{table-agree, lowest-agree, label-le, label-below, label-label, label_same, groups-at}
use Rattle.rules.proofs.DistinctLaws.{owns, owns-most, groups-distinct}
use Rattle.rules.proofs.Instance.{family, group-within, never-divides}

-- the same group of each device, the same list
pub agree-groups : (g : Plant) (p q p' q' : ℕ) → ((u : ℕ) → u < g.devices → Agree g.devices (group_of g p q u) (group_of g p' q' u)) → groups g p q ≡ groups g p' q'
unfolding groups label
agree-groups g p q p' q' a = table-agree g.devices (label g p q) (label g p' q') (λ u h. lowest-agree g.devices (group_of g p q u) (group_of g p' q' u) (a u h))

module _ (g : Plant) (p q p' q' : ℕ) (same : groups g p q ≡ groups g p' q') where
  pub groups-label : (u : ℕ) → u < g.devices → label g p q u ≡ label g p' q' u
  groups-label u h = sym (groups-at g p q u h) ∙ ap (λ (l : List ℕ). get_or l u 0) same ∙ groups-at g p' q' u h

  pub groups-agree : Sound g → 1 ≤ p → 1 ≤ p' → (u : ℕ) → u < g.devices → Agree g.devices (group_of g p q u) (group_of g p' q' u)
  groups-agree s o o' u hu v hv =
      same_bool (group_of g p q u v) (group_of g p' q' u v)
      (λ m. there.0 (sym (groups-label u hu) ∙ here.1 m ∙ groups-label v hv))
      (λ m. here.0 (groups-label u hu ∙ there.1 m ∙ sym (groups-label v hv)))
    where
      here : (label g p q u ≡ label g p q v) ↔ (group_of g p q u v ≡ true)
      here = label_same g p q (family g p q s o) u v hu hv

      there : (label g p' q' u ≡ label g p' q' v) ↔ (group_of g p' q' u v ≡ true)
      there = label_same g p' q' (family g p' q' s o') u v hu hv

-- a rate p/q between a higher one and a lower one that have the same grouping has it too
pub squeeze :
    (g : Plant) (ap aq p q bp bq : ℕ) →
    Sound g →
    1 ≤ ap →
    1 ≤ p →
    1 ≤ q →
    1 ≤ bp →
    1 ≤ bq →
    p * aq ≤ ap * q →
    bp * q ≤ p * bq →
    groups g ap aq ≡ groups g bp bq →
    groups g p q ≡ groups g ap aq
squeeze g ap aq p q bp bq s oa o u ob ub high low e =
    agree-groups g p q ap aq
    (λ v h.
    agree-both (group_of g p q v) (group_of g ap aq v)
    (λ i hi m. agree-inside (agree-sym (groups-agree g ap aq bp bq e s oa ob v h)) i hi (group-within g p q bp bq s o ob ub low v h i hi m))
    (group-within g ap aq p q s oa o u high v h))

-- numbers that are their own value under f, and then under h, are no more under f; and if they are as many, they are the same
own-le : (i k l : ℕ) → (k ≡ i → l ≡ i) → cond (eqb k i) 1 0 ≤ cond (eqb l i) 1 0
own-le i k l to = go (eqb k i) (eqb l i) refl refl
  where
    go : (a b : Bool) → eqb k i ≡ a → eqb l i ≡ b → cond a 1 0 ≤ cond b 1 0
    go true true ea eb = le_refl 1
    go true false ea eb = absurd (eqb-false l i eb (to (eqb-true k i ea)))
    go false b ea eb = omega arith

own_back : (i k l : ℕ) → cond (eqb l i) 1 0 ≤ cond (eqb k i) 1 0 → l ≡ i → k ≡ i
own_back i k l le e = go (eqb k i) refl
  where
    go : (a : Bool) → eqb k i ≡ a → k ≡ i
    go true ea = eqb-true k i ea
    go false ea = absurd (omega (arith, rw (eq-eqb l i e, ea) at le))

owns-le : (k : ℕ) (f h : ℕ → ℕ) → ((i : ℕ) → i < k → f i ≡ i → h i ≡ i) → owns k f ≤ owns k h
unfolding owns
owns-le zero f h to = le_refl 0
owns-le (suc k) f h to =
    let rest = owns-le k f h (λ i b. to i (le_step b)) in
    omega (arith, own-le k (f k) (h k) (to k (lt-suc_self k)))

owns_back : (k : ℕ) (f h : ℕ → ℕ) → ((i : ℕ) → i < k → f i ≡ i → h i ≡ i) → owns k h ≤ owns k f → (i : ℕ) → i < k → h i ≡ i → f i ≡ i
unfolding owns
owns_back zero f h to le = λ i b e. absurd (omega arith)
owns_back (suc k) f h to le =
    let rest = owns-le k f h (λ i b. to i (le_step b)) in
    let last = own-le k (f k) (h k) (to k (lt-suc_self k)) in
    below_suc (λ i. h i ≡ i → f i ≡ i) k (owns_back k f h (λ i b. to i (le_step b)) (omega arith)) (own_back k (f k) (h k) (omega arith))

-- p'/q' is not above p/q
module _ (g : Plant) (p q p' q' : ℕ) (s : Sound g) (o : 1 ≤ p) (o' : 1 ≤ p') (u' : 1 ≤ q') (lower : p' * q ≤ p * q') where
  abbrev n : ℕ
  n = g.devices

  -- a device and its label at the higher rate have one label at the lower rate
  through : (i : ℕ) → i < n → label g p' q' (label g p q i) ≡ label g p' q' i
  through i h =
      never-divides g p q p' q' s o o' u' lower (label g p q i) i (label-below g p q (family g p q s o) i h) h (label-label g p q (family g p q s o) i h)

  -- the lowest device of a group of the lower rate is the lowest of its group at the higher rate
  own-higher : (i : ℕ) → i < n → label g p' q' i ≡ i → label g p q i ≡ i
  own-higher i h e =
      omega (
        arith,
        through i h,
        label-le g p q (family g p q s o) i h,
        label-le g p' q' (family g p' q' s o') (label g p q i) (label-below g p q (family g p q s o) i h),
      )

  pub fewer-or-same : distinct (groups g p' q') ≤ distinct (groups g p q)
  fewer-or-same =
      rw (groups-distinct g p' q' (family g p' q' s o'), groups-distinct g p q (family g p q s o))
      (owns-le n (label g p' q') (label g p q) own-higher)

  pub same_number : distinct (groups g p' q') ≡ distinct (groups g p q) → groups g p' q' ≡ groups g p q
  unfolding groups
  same_number e = table-agree n (label g p' q') (label g p q) (λ i h. sym (through i h) ∙ own-lower (label g p q i) (label-below g p q (family g p q s o) i h) (label-label g p q (family g p q s o) i h))
    where
      as_many : owns n (label g p q) ≤ owns n (label g p' q')
      as_many = omega (arith, e, groups-distinct g p' q' (family g p' q' s o'), groups-distinct g p q (family g p q s o))

      own-lower : (i : ℕ) → i < n → label g p q i ≡ i → label g p' q' i ≡ i
      own-lower = owns_back n (label g p' q') (label g p q) own-higher as_many

  -- so there are fewer where the two differ
  pub fewer : (groups g p q ≡ groups g p' q' → ⊥) → distinct (groups g p' q') < distinct (groups g p q)
  fewer differ = ⊎_elim (λ e. absurd (differ (sym (same_number e)))) (λ h. h) (eq-or-lt_of_le fewer-or-same)

-- a number that is its own value counts
owns-some : (k : ℕ) (f : ℕ → ℕ) → f 0 ≡ 0 → 1 ≤ k → 1 ≤ owns k f
unfolding owns
owns-some zero f e h = absurd (omega arith)
owns-some (suc zero) f e h = rw (eq-eqb (f 0) 0 e) (le_refl 1)
owns-some (suc (suc k)) f e h = omega (arith, owns-some (suc k) f e (omega arith))

module _ (g : Plant) (p q : ℕ) (s : Sound g) (o : 1 ≤ p) where
  pub some-group : 1 ≤ g.devices → 1 ≤ distinct (groups g p q)
  some-group h =
      rw (groups-distinct g p q (family g p q s o))
      (owns-some g.devices (label g p q) (omega (arith, label-le g p q (family g p q s o) 0 h)) h)

  pub most-groups : distinct (groups g p q) ≤ g.devices
  most-groups = rw (groups-distinct g p q (family g p q s o)) (owns-most g.devices (label g p q))
