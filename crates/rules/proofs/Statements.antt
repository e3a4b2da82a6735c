-- Document 01's sentences on cuts, communities and groups, for every sound plant and every positive fraction p/q, as it says them.
--     cost-cut              the cost is q times the cut of document 004's graph with its added vertex t
--     one-community         the community is the set of least cost with fewest devices, and there is exactly one such set
--     nested-or-apart       two communities at one rate are nested or share nothing
--     group-is-community    each group is a community
--     groups-maximal        the groups are exactly the communities contained in no larger community
--     one-group             each device lies in exactly one group
--     any_order             the search gives these labels in any order of the devices
--     order-no-influence    so the order has no influence
--     group-out             q × out(C) ≤ p × (n − |C|)
--     group-part            q × signals between P and the rest of C ≥ p × min(|P|, |C| − |P|)
--     lower-never-divides   a lower rate never divides a group of a higher one
--     groups-same           equal fractions have the same labels
--     group-list            a group list has an entry for each device, its label
--     label-lowest          which is the lowest device number in its group
--     label-shared          two devices have one label exactly if they lie in one group
--     groups-number         the number of distinct labels is the number of groups: of devices that are their own label
--     one-head              each group has exactly one such device
-- Assumes nothing.
use Prim.Native.Nat.{ℕ, ◌-◌, ◌*◌, ◌≤◌, ◌<◌, min}
use mathlib.Core.Path.{◌≡◌, refl, sym, ◌∙◌, subst}
use mathlib.Core.Bool.{Bool, true, false, false≢true}
use mathlib.Core.List.{List}
use mathlib.Core.Logic.{◌↔◌, ◌⊎◌, inl, inr, ⊎_elim}
use native.Mathlib.Nat.{le_of_eq}
use lib.ListN.{length, get_or}
use Rattle.rules.specs.Plant.{Plant}
use Rattle.rules.specs.Accepted.{Sound}
use Rattle.rules.specs.Cut.{Devices, out, size, cost}
use Rattle.rules.specs.Sets.{Inside, Agree, minus, between}
use Rattle.rules.specs.Added.{added}
use Rattle.rules.specs.Community.{community}
use Rattle.rules.specs.CommunityIs.{IsCommunity}
use Rattle.rules.specs.Groups.{group_of, label, groups, distinct}
use Rattle.rules.specs.Order.{sweep_over, Order, lowest_with}
use Rattle.rules.proofs.SetLaws.{agree-both}
use Rattle.rules.proofs.AddedLaws.{cost_added}
use Rattle.rules.proofs.Best.{community-is}
use Rattle.rules.proofs.Communities.{community-only, nested, laminar}
use Rattle.rules.proofs.Bounds.{everyone-size, out-bound-rest, part-bound}
use Rattle.rules.proofs.GroupLaws.{group-community, group-holds, group-same, group-maximal}
use Rattle.rules.proofs.LabelLaws.{table-agree, lowest-le, label-from, label-in, label-label, label_same, groups-length, groups-at}
use Rattle.rules.proofs.DistinctLaws.{owns, groups-distinct}
use Rattle.rules.proofs.Order.{order-label}
use Rattle.rules.proofs.Instance.{family, group-within, never-divides}

module _ (g : Plant) (p q : ℕ) (s : Sound g) (o : 1 ≤ p) where
  abbrev n : ℕ
  n = g.devices

  abbrev C : ℕ → Devices
  C = community g p q

  -- "At rate p/q the cost of S is q × out(S) + p × |S|. This is q times the cut of document 004's graph with its added vertex t.": t is number n
  pub cost-cut : (S : Devices) → S n ≡ false → cost g p q S ≡ out (added g p q).lines S
  cost-cut = cost_added g p q

  -- "The community of device d is the set of least cost among sets containing d; among those of equal cost, the one with fewest devices. There is exactly one such set."
  pub one-community : (d : ℕ) → d < n → IsCommunity g p q d (community g p q d) × ((S : Devices) → IsCommunity g p q d S → Agree n S (community g p q d))
  one-community d h = (community-is g p q d s h, λ S c. community-only s h c)

  -- "Two communities at one rate are nested or share nothing."
  pub nested-or-apart : (d e : ℕ) → d < n → e < n
      → (Inside n (community g p q d) (community g p q e) ⊎ Inside n (community g p q e) (community g p q d))
      ⊎ ((x : ℕ) → x < n → community g p q d x ≡ true → community g p q e x ≡ true → ⊥)
  nested-or-apart d e hd he = go (C e d) (C d e) refl refl
    where
      own : (i : ℕ) → i < n → C i i ≡ true
      own i h = (community-is g p q i s h).holds

      go : (a b : Bool) → C e d ≡ a → C d e ≡ b → (Inside n (C d) (C e) ⊎ Inside n (C e) (C d)) ⊎ ((x : ℕ) → x < n → C d x ≡ true → C e x ≡ true → ⊥)
      go true b u v = inl (inl (nested g p q e d s he hd u))
      go false true u v = inl (inr (nested g p q d e s hd he v))
      go false false u v =
          inr
          (λ x h a b.
          ⊎_elim
          (λ i. false≢true (sym u ∙ i d hd (own d hd)))
          (λ i. false≢true (sym v ∙ i e he (own e he)))
          (laminar g p q d e x s o hd he h a b))

  -- "The groups at a rate are the communities contained in no larger community": each group is a community
  pub group-is-community : (i : ℕ) → i < n → (d : ℕ) × (d < n) × (group_of g p q i ≡ community g p q d)
  group-is-community = group-community g p q (family g p q s o)

  -- and a community is a group exactly if it is contained in no larger one
  pub groups-maximal : (d : ℕ) → d < n
      → ((e : ℕ) → e < n → Inside n (community g p q d) (community g p q e) → Agree n (community g p q d) (community g p q e))
      ↔ ((i : ℕ) × (i < n) × Agree n (group_of g p q i) (community g p q d))
  groups-maximal = group-maximal g p q (family g p q s o)

  -- "each device lies in exactly one group": it lies in its group, and every group that it lies in is that one
  pub one-group : (i : ℕ) → i < n → (group_of g p q i i ≡ true) × ((j : ℕ) → j < n → group_of g p q j i ≡ true → Agree n (group_of g p q j) (group_of g p q i))
  one-group i h = (group-holds g p q (family g p q s o) i h, λ j hj m. group-same g p q (family g p q s o) j i hj h m)

  -- "The order of devices in the search has no influence.": the labels from the owners that any order ends in are those of the groups
  pub any_order : (order : List ℕ) → Order n order → (v : ℕ) → v < n → lowest_with n (sweep_over (community g p q) n order) v ≡ label g p q v
  any_order order a v h = sym (order-label g p q (family g p q s o) order a v h)

  -- so two orders have the same labels
  pub order-no-influence : (order order' : List ℕ) → Order n order → Order n order' → (v : ℕ) → v < n
      → lowest_with n (sweep_over (community g p q) n order) v ≡ lowest_with n (sweep_over (community g p q) n order') v
  order-no-influence order order' a a' v h = any_order order a v h ∙ sym (any_order order' a' v h)

  -- "for a group C, q × out(C) ≤ p × (n − |C|)"
  pub group-out : (i : ℕ) → i < n → q * out g.lines (group_of g p q i) ≤ p * (n - size g (group_of g p q i))
  group-out i h =
      let c = group-community g p q (family g p q s o) i h in
      rw c.2
      (subst (λ (m : ℕ). q * out g.lines (community g p q c.0) ≤ p * (m - size g (community g p q c.0))) (everyone-size g) (out-bound-rest g p q c.0 s c.1))

  -- "for each nonempty proper part P of C, q times the signals between P and the rest of C is at least p × min(|P|, |C| − |P|)": P holds x and not y
  pub group-part : (i : ℕ) → i < n → (P : Devices) (x y : ℕ) → Inside n P (group_of g p q i) → x < n → P x ≡ true → y < n → minus (group_of g p q i) P y ≡ true
      → p * min (size g P) (size g (group_of g p q i) - size g P) ≤ q * between g.lines P (minus (group_of g p q i) P)
  group-part i h P x y =
      let c = group-community g p q (family g p q s o) i h in
      rw c.2 (part-bound g p q c.0 P x y s c.1)

  -- "A lower rate never divides a group of a higher one.": p'/q' is not higher
  pub lower-never-divides : (p' q' : ℕ) → 1 ≤ p' → 1 ≤ q' → p' * q ≤ p * q'
      → (i j : ℕ) → i < n → j < n → label g p q i ≡ label g p q j → label g p' q' i ≡ label g p' q' j
  lower-never-divides p' q' o' u' lower = never-divides g p q p' q' s o o' u' lower

  -- "10/2 answers as 5/1": p'/q' is the same fraction
  pub groups-same : (p' q' : ℕ) → 1 ≤ p' → 1 ≤ q → 1 ≤ q' → p * q' ≡ p' * q → groups g p q ≡ groups g p' q'
  unfolding groups
  groups-same p' q' o' u u' e =
      table-agree n (label g p q) (label g p' q')
      (λ i h.
      label-from g p q i (group_of g p' q' i)
      (agree-both (group_of g p' q' i) (group_of g p q i) (group-within g p' q' p q s o' o u (le_of_eq e) i h) (group-within g p q p' q' s o o' u' (le_of_eq (sym e)) i h))
      ∙ sym (label-from g p' q' i (group_of g p' q' i) (λ v l. refl)))

  -- "A group list has for each device the lowest device number in its group.": the entry of a device is its label
  pub group-list : (length (groups g p q) ≡ n) × ((i : ℕ) → i < n → get_or (groups g p q) i 0 ≡ label g p q i)
  group-list = (groups-length g p q, groups-at g p q)

  -- and the label lies in the group, and no device of the group is lower
  pub label-lowest : (i : ℕ) → i < n → (group_of g p q i (label g p q i) ≡ true) × ((j : ℕ) → j < n → group_of g p q i j ≡ true → label g p q i ≤ j)
  unfolding label
  label-lowest i h = (label-in g p q (family g p q s o) i h, λ j hj m. lowest-le n (group_of g p q i) j hj m)

  pub label-shared : (i j : ℕ) → i < n → j < n → (label g p q i ≡ label g p q j) ↔ (group_of g p q i j ≡ true)
  label-shared = label_same g p q (family g p q s o)

  -- "answers the number of groups", which is "the number of distinct labels": of devices that are their own label
  pub groups-number : distinct (groups g p q) ≡ owns n (label g p q)
  groups-number = groups-distinct g p q (family g p q s o)

  -- each group has exactly one device that is its own label
  pub one-head : (i : ℕ) → i < n
      → (label g p q (label g p q i) ≡ label g p q i) × ((j : ℕ) → j < n → group_of g p q i j ≡ true → label g p q j ≡ j → j ≡ label g p q i)
  one-head i h = (label-label g p q (family g p q s o) i h, λ j hj m e. sym ((label-shared i j h hj).1 m ∙ e))
