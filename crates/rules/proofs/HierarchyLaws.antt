-- Laws of the hierarchy.
--     every-listed           every rate lies in the stretch of a level, and `stretch-only` in no other
--     grouping-listed        every grouping that occurs at a positive rate is a level
--     each-occurs            each level is the grouping at some positive rate
--     all-differ             no two levels are equal
--     last-connected         the groups of the last level are the connected parts of the plant
--     hierarchy-determined   a plant has only one hierarchy
-- Assumes nothing.
use Prim.Native.Nat.{ℕ, zero, suc, ◌+◌, ◌-◌, ◌*◌, ◌≤◌, ◌<◌, zero-le}
use mathlib.Core.Path.{◌≡◌, refl, sym, ap, subst, ◌∙◌}
use mathlib.Core.List.{List}
use mathlib.Core.Logic.{◌⊎◌, inl, inr, ⊎_elim, ◌↔◌}
use native.Mathlib.Nat.{le_refl, le_of_lt, le_antisymm, eq-or-lt_of_le, le-suc_iff, le_of_suc-le-suc, lt_irrefl, suc_inj, mul-le-mul}
use native.Mathlib.Omega.{arith}
use lib.ListN.{get_or}
use Rattle.rules.specs.Plant.{Plant}
use Rattle.rules.specs.Accepted.{Sound}
use Rattle.rules.specs.Groups.{label, groups}
use Rattle.rules.specs.Rates.{Below, Lowest}
use Rattle.rules.specs.Hierarchy.{InStretch, IsHierarchy}
use Rattle.rules.specs.Connected.{Connected}
use Rattle.rules.proofs.OrderLaws.{le-or-below, at-most-trans, below-at-most}
use Rattle.rules.proofs.LowestLaws.{lowest-first, lowest-second}
use Rattle.rules.proofs.LabelLaws.{groups-at}
use Rattle.rules.proofs.LevelLaws.{squeeze}
use Rattle.rules.proofs.EndLaws.{EachCarries, bottom-connected}

-- a positive rate in the stretch of level i
pub record RateIn (count : ℕ) (low_ps low_qs : ℕ → ℕ) (i : ℕ) : Type 0 where
  pub p : ℕ
  pub q : ℕ
  pub some_p : 1 ≤ p
  pub some_q : 1 ≤ q
  pub rate : InStretch count low_ps low_qs i p q

-- the search for the stretch of p/q, which is below the low rates of the levels before i; m levels come after i
stretch-from : (count : ℕ) (low_ps low_qs : ℕ → ℕ) (p q m i : ℕ) → suc (i + m) ≡ count
    → ((j : ℕ) → i ≡ suc j → Below p q (low_ps j) (low_qs j)) → (k : ℕ) × InStretch count low_ps low_qs k p q
stretch-from count low_ps low_qs p q zero i e under = (i, record { listed = omega arith; under = under; from = λ h. absurd (omega arith) })
stretch-from count low_ps low_qs p q (suc m) i e under = go (stretch-from count low_ps low_qs p q m (suc i) (omega arith)) (le-or-below (low_ps i * q) (p * low_qs i))
  where
    go : (((j : ℕ) → suc i ≡ suc j → Below p q (low_ps j) (low_qs j)) → (k : ℕ) × InStretch count low_ps low_qs k p q)
        → (low_ps i * q ≤ p * low_qs i) ⊎ (p * low_qs i < low_ps i * q) → (k : ℕ) × InStretch count low_ps low_qs k p q
    go later (inl h) = (i, record { listed = omega arith; under = under; from = λ c. h })
    go later (inr h) = later (λ j c. subst (λ (k : ℕ). Below p q (low_ps k) (low_qs k)) (suc_inj c) h)

module _ (g : Plant) (count : ℕ) (level : ℕ → List ℕ) (low_ps low_qs : ℕ → ℕ) (h : IsHierarchy g count level low_ps low_qs) where
  -- "The last level holds for all positive rates under the previous low rate (a sole level: for all positive rates)": with the stretches above it every rate lies in one
  pub every-listed : (p q : ℕ) → (i : ℕ) × InStretch count low_ps low_qs i p q
  every-listed p q = stretch-from count low_ps low_qs p q (count - 1) 0 (omega (arith, h.some_level)) (λ j e. absurd (omega arith))

  -- "Low rates fall strictly": not only from one level to the next
  lows-fall : (i j : ℕ) → i ≤ j → suc j < count → low_ps j * low_qs i ≤ low_ps i * low_qs j
  lows-fall i zero l c = subst (λ (k : ℕ). low_ps 0 * low_qs k ≤ low_ps k * low_qs 0) (le_antisymm zero-le l) (le_refl _)
  lows-fall i (suc j) l c = ⊎_elim (λ a. further (lows-fall i j a (omega arith))) same (le-suc_iff.0 l)
    where
      further : low_ps j * low_qs i ≤ low_ps i * low_qs j → low_ps (suc j) * low_qs i ≤ low_ps i * low_qs (suc j)
      further a = at-most-trans _ _ _ _ _ _ (h.positive j (omega arith)).1 (le_of_lt (h.falling j c)) a

      same : i ≡ suc j → low_ps (suc j) * low_qs i ≤ low_ps i * low_qs (suc j)
      same e = subst (λ (k : ℕ). low_ps (suc j) * low_qs k ≤ low_ps k * low_qs (suc j)) (sym e) (le_refl _)

  -- rates of later levels are lower
  pub stretch-falls : (i j p q r t : ℕ) → 1 ≤ q → i < j → InStretch count low_ps low_qs i p q → InStretch count low_ps low_qs j r t → Below r t p q
  stretch-falls i zero p q r t u l a b = absurd (omega arith)
  stretch-falls i (suc j) p q r t u l a b =
      below-at-most _ _ _ _ _ _ u (b.under j refl)
      (at-most-trans _ _ _ _ _ _ (h.positive i before).1 (lows-fall i j (le_of_suc-le-suc l) b.listed) (a.from before))
    where
      before : suc i < count
      before = omega (arith, b.listed)

  -- a rate lies in one stretch only
  pub stretch-only : (i j p q : ℕ) → 1 ≤ q → InStretch count low_ps low_qs i p q → InStretch count low_ps low_qs j p q → i ≡ j
  stretch-only i j p q u a b =
      let first : i < j → ⊥ = λ l. lt_irrefl _ (stretch-falls i j p q p q u l a b) in
      let second : j < i → ⊥ = λ l. lt_irrefl _ (stretch-falls j i p q p q u l b a) in
      omega arith

  level-at : (i : ℕ) (x : RateIn count low_ps low_qs i) → level i ≡ groups g x.p x.q
  level-at i x = h.grouping i x.p x.q x.some_p x.some_q x.rate

  -- "the number of distinct groupings": every grouping is among the levels
  pub grouping-listed : (p q : ℕ) → 1 ≤ p → 1 ≤ q → (i : ℕ) × (i < count) × (level i ≡ groups g p q)
  grouping-listed p q o u =
      let y = every-listed p q in
      (y.0, y.1.listed, h.grouping y.0 p q o u y.1)

  -- "it is the grouping at that rate itself": a low rate lies in its own stretch
  pub low-in : (i : ℕ) → suc i < count → InStretch count low_ps low_qs i (low_ps i) (low_qs i)
  low-in i c = record {
    listed = le_of_lt c;
    under = λ j e. subst (λ (k : ℕ). Below (low_ps k) (low_qs k) (low_ps j) (low_qs j)) (sym e) (h.falling j (subst (λ (k : ℕ). suc k < count) e c));
    from = λ d. le_refl _;
  }

  -- "The last level holds for all positive rates under the previous low rate": one of them, as low as wanted
  pub last-rate : (m : ℕ) → 1 ≤ m → InStretch count low_ps low_qs (count - 1) 1 (m + low_qs (count - 2))
  last-rate m some = record {
    listed = omega (arith, h.some_level);
    under = λ j e. below j (omega arith) (omega arith);
    from = λ d. absurd (omega arith);
  }
    where
      below : (j : ℕ) → count - 2 ≡ j → suc j < count → Below 1 (m + low_qs (count - 2)) (low_ps j) (low_qs j)
      below j e c =
          subst (λ (k : ℕ). Below 1 (m + low_qs k) (low_ps j) (low_qs j)) (sym e)
          (omega (arith, mul-le-mul (h.positive j c).0 (le_refl (m + low_qs j))))

  rate-in : (i : ℕ) → i < count → RateIn count low_ps low_qs i
  rate-in i c = go (eq-or-lt_of_le c)
    where
      go : (suc i ≡ count) ⊎ (suc i < count) → RateIn count low_ps low_qs i
      go (inl e) = record {
        p = 1;
        q = 1 + low_qs (count - 2);
        some_p = le_refl 1;
        some_q = omega arith;
        rate = subst (λ (k : ℕ). InStretch count low_ps low_qs k 1 (1 + low_qs (count - 2))) (omega arith) (last-rate 1 (le_refl 1));
      }
      go (inr d) = record { p = low_ps i; q = low_qs i; some_p = (h.positive i d).0; some_q = (h.positive i d).1; rate = low-in i d }

  -- "the number of distinct groupings": each level is one
  pub each-occurs : (i : ℕ) → i < count → (x : RateIn count low_ps low_qs i) × (level i ≡ groups g x.p x.q)
  each-occurs i c = (rate-in i c, level-at i (rate-in i c))

  -- "the number of distinct groupings": no two levels are equal, not only "Neighbouring levels differ."
  pub all-differ : Sound g → (i j : ℕ) → i < j → j < count → level i ≡ level j → ⊥
  all-differ s i j l c e = go (eq-or-lt_of_le l)
    where
      between : suc i < j → RateIn count low_ps low_qs i → RateIn count low_ps low_qs (suc i) → RateIn count low_ps low_qs j → ⊥
      between d a m b =
          h.differ i (omega arith)
          (level-at i a
          ∙ sym (squeeze g a.p a.q m.p m.q b.p b.q s a.some_p m.some_p m.some_q b.some_p b.some_q
          (le_of_lt (stretch-falls i (suc i) _ _ _ _ a.some_q (le_refl _) a.rate m.rate))
          (le_of_lt (stretch-falls (suc i) j _ _ _ _ m.some_q d m.rate b.rate))
          (sym (level-at i a) ∙ e ∙ level-at j b))
          ∙ sym (level-at (suc i) m))

      go : (suc i ≡ j) ⊎ (suc i < j) → ⊥
      go (inl d) = h.differ i (omega arith) (e ∙ sym (ap level d))
      go (inr d) = between d (rate-in i (omega arith)) (rate-in (suc i) (omega arith)) (rate-in j c)

  -- of the last level, "its groups are the connected parts of the plant"
  pub last-connected : Sound g → EachCarries g.lines → (i j : ℕ) → i < g.devices → j < g.devices
      → (get_or (level (count - 1)) i 0 ≡ get_or (level (count - 1)) j 0) ↔ Connected g i j
  last-connected s carries i j hi hj =
      (λ e. connected.0 (sym (at i hi) ∙ e ∙ at j hj), λ c. at i hi ∙ connected.1 c ∙ sym (at j hj))
    where
      q : ℕ
      q = g.devices + low_qs (count - 2)

      connected : (label g 1 q i ≡ label g 1 q j) ↔ Connected g i j
      connected = bottom-connected g 1 q s carries (le_refl 1) (omega arith) i j hi hj

      at : (k : ℕ) → k < g.devices → get_or (level (count - 1)) k 0 ≡ label g 1 q k
      at k l =
          ap (λ (r : List ℕ). get_or r k 0) (h.grouping (count - 1) 1 q (le_refl 1) (omega arith) (last-rate g.devices (omega arith)))
          ∙ groups-at g 1 q k l

-- a rate of level i of one hierarchy and of level k of another: i is not above k
module _ (g : Plant) (count count' : ℕ) (level level' : ℕ → List ℕ) (low_ps low_qs low_ps' low_qs' : ℕ → ℕ)
    (h : IsHierarchy g count level low_ps low_qs) (h' : IsHierarchy g count' level' low_ps' low_qs') where
  not-later : (i k p q : ℕ) → 1 ≤ p → 1 ≤ q → InStretch count low_ps low_qs i p q → InStretch count' low_ps' low_qs' k p q → i ≤ k
  not-later zero k p q o u a b = zero-le
  not-later (suc i) k p q o u a b =
      let c : suc i < count = a.listed in
      let y = every-listed g count' level' low_ps' low_qs' h' (low_ps i) (low_qs i) in
      let some = h.positive i c in
      further y.0 some.0 some.1 y.1 (not-later i y.0 (low_ps i) (low_qs i) some.0 some.1 (low-in g count level low_ps low_qs h i c) y.1)
    where
      further : (j : ℕ) → 1 ≤ low_ps i → 1 ≤ low_qs i → InStretch count' low_ps' low_qs' j (low_ps i) (low_qs i) → i ≤ j → suc i ≤ k
      further j o' u' y l =
          let order : k < j → ⊥ = λ d. omega (arith, stretch-falls g count' level' low_ps' low_qs' h' k j p q (low_ps i) (low_qs i) u d b y, a.under i refl) in
          let other : j ≡ k → ⊥ = λ e.
          h.differ i a.listed
          (h.grouping i (low_ps i) (low_qs i) o' u' (low-in g count level low_ps low_qs h i a.listed)
          ∙ sym (h'.grouping j (low_ps i) (low_qs i) o' u' y)
          ∙ ap level' e
          ∙ h'.grouping k p q o u b
          ∙ sym (h.grouping (suc i) p q o u a)) in
          omega arith

  not_more : count ≤ count'
  not_more =
      let some : 1 ≤ 1 + low_qs (count - 2) = omega arith in
      let y = every-listed g count' level' low_ps' low_qs' h' 1 (1 + low_qs (count - 2)) in
      omega (arith, not-later (count - 1) y.0 1 (1 + low_qs (count - 2)) (le_refl 1) some (last-rate g count level low_ps low_qs h 1 (le_refl 1)) y.1, y.1.listed)

-- two hierarchies of one plant: as many levels, the same rows, and the same low rates
pub record SameHierarchy (count count' : ℕ) (level level' : ℕ → List ℕ) (low_ps low_qs low_ps' low_qs' : ℕ → ℕ) : Type 0 where
  pub counts : count ≡ count'
  pub levels : (i : ℕ) → i < count → level i ≡ level' i
  pub lows_p : (i : ℕ) → suc i < count → low_ps i ≡ low_ps' i
  pub lows_q : (i : ℕ) → suc i < count → low_qs i ≡ low_qs' i

module _ (g : Plant) (count count' : ℕ) (level level' : ℕ → List ℕ) (low_ps low_qs low_ps' low_qs' : ℕ → ℕ)
    (h : IsHierarchy g count level low_ps low_qs) (h' : IsHierarchy g count' level' low_ps' low_qs') where
  -- a rate in the stretch of level i of the one is in the stretch of level i of the other
  same-stretch : (i p q : ℕ) → 1 ≤ p → 1 ≤ q → InStretch count low_ps low_qs i p q → InStretch count' low_ps' low_qs' i p q
  same-stretch i p q o u a =
      let y = every-listed g count' level' low_ps' low_qs' h' p q in
      subst (λ (k : ℕ). InStretch count' low_ps' low_qs' k p q)
      (le_antisymm
      (not-later g count' count level' level low_ps' low_qs' low_ps low_qs h' h y.0 i p q o u y.1 a)
      (not-later g count count' level level' low_ps low_qs low_ps' low_qs' h h' i y.0 p q o u a y.1))
      y.1

  low-not-above : (i : ℕ) → suc i < count → suc i < count' → low_ps' i * low_qs i ≤ low_ps i * low_qs' i
  low-not-above i c c' = (same-stretch i (low_ps i) (low_qs i) (h.positive i c).0 (h.positive i c).1 (low-in g count level low_ps low_qs h i c)).from c'

  same_row : (i : ℕ) → RateIn count low_ps low_qs i → level i ≡ level' i
  same_row i x =
      level-at g count level low_ps low_qs h i x
      ∙ sym (h'.grouping i x.p x.q x.some_p x.some_q (same-stretch i x.p x.q x.some_p x.some_q x.rate))

-- "What the contracts have to determine": a plant has only one hierarchy
module _ (g : Plant) (count count' : ℕ) (level level' : ℕ → List ℕ) (low_ps low_qs low_ps' low_qs' : ℕ → ℕ)
    (h : IsHierarchy g count level low_ps low_qs) (h' : IsHierarchy g count' level' low_ps' low_qs') where
  same_count : count ≡ count'
  same_count = le_antisymm (not_more g count count' level level' low_ps low_qs low_ps' low_qs' h h') (not_more g count' count level' level low_ps' low_qs' low_ps low_qs h' h)

  same_low : (i : ℕ) → suc i < count → low_ps i * low_qs' i ≡ low_ps' i * low_qs i
  same_low i c =
      let c' : suc i < count' = omega (arith, same_count) in
      le_antisymm (low-not-above g count' count level' level low_ps' low_qs' low_ps low_qs h' h i c' c) (low-not-above g count count' level level' low_ps low_qs low_ps' low_qs' h h' i c c')

  pub hierarchy-determined : SameHierarchy count count' level level' low_ps low_qs low_ps' low_qs'
  hierarchy-determined = record {
    counts = same_count;
    levels = λ i c. same_row g count count' level level' low_ps low_qs low_ps' low_qs' h h' i (rate-in g count level low_ps low_qs h i c);
    lows_p = λ i c. lowest-first (low_ps i) (low_qs i) (low_ps i) (low_qs i) (low_ps' i) (low_qs' i) (h.positive i c).1 refl (same_low i c) (h.lowest i c) (low' i c);
    lows_q = λ i c. lowest-second (low_ps i) (low_qs i) (low_ps i) (low_qs i) (low_ps' i) (low_qs' i) (h.positive i c).1 refl (same_low i c) (h.lowest i c) (low' i c);
  }
    where
      low' : (i : ℕ) → suc i < count → Lowest (low_ps' i) (low_qs' i)
      low' i c = h'.lowest i (omega (arith, same_count))
