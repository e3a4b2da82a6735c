-- Levels between two rates, as the search finds them: a single breakpoint, two ladders that meet at a rate, and the hierarchy from a ladder between the two ends.
-- Assumes nothing.
use Prim.Native.Nat.{ℕ, zero, suc, ◌-◌, ◌*◌, ◌≤◌, ◌<◌, zero-le, suc-le-suc}
use mathlib.Core.Path.{◌≡◌, refl, sym, subst, subst₂, ◌∙◌}
use mathlib.Core.List.{List}
use mathlib.Core.Logic.{◌⊎◌, inl, inr, ⊎_elim}
use native.Mathlib.Nat.{le_refl, le_of_lt, le_antisymm, le_of_suc-le-suc, eq-or-lt_of_le}
use native.Mathlib.Omega.{arith}
use Rattle.rules.specs.Plant.{Plant}
use Rattle.rules.specs.Groups.{table, groups}
use Rattle.rules.specs.Rates.{Below, Lowest}
use Rattle.rules.specs.Hierarchy.{InStretch, IsHierarchy}
use Rattle.rules.specs.Stretch.{Ladder}
use Rattle.rules.proofs.OrderLaws.{le-or-below, at-most-trans, at-most-below, below-at-most}

-- what holds from f to k, and from k to t, holds from f to t
both-parts : (P : ℕ → Type 0) (f k t : ℕ) → ((i : ℕ) → f ≤ i → i < k → P i) → ((i : ℕ) → k ≤ i → i < t → P i) → (i : ℕ) → f ≤ i → i < t → P i
both-parts P f k t a b i l h = ⊎_elim (λ u. b i u h) (a i l) (le-or-below k i)

-- the levels f to k down to m, and k to t from m on
module _ (g : Plant) (ap aq mp mq bp bq f k t : ℕ) (level : ℕ → List ℕ) (low_ps low_qs : ℕ → ℕ)
    (some : 1 ≤ mq) (m-a : mp * aq ≤ ap * mq) (b-m : Below bp bq mp mq)
    (upper : Ladder g ap aq mp mq f k level low_ps low_qs) (lower : Ladder g mp mq bp bq k t level low_ps low_qs) where
  ladder-join-grouping : (i p q : ℕ) → f ≤ i → i ≤ t → 1 ≤ p → 1 ≤ q → p * aq ≤ ap * q → bp * q ≤ p * bq
      → ((j : ℕ) → i ≡ suc j → f ≤ j → Below p q (low_ps j) (low_qs j)) → (i < t → low_ps i * q ≤ p * low_qs i) → level i ≡ groups g p q
  ladder-join-grouping i p q l h o u p-a b-p under from = go (le-or-below k i)
    where
      first : mp * q ≤ p * mq → i ≤ k → level i ≡ groups g p q
      first m-p c = upper.grouping i p q l c o u p-a m-p under (λ d. from (omega (arith, lower.onward)))

      second : p * mq ≤ mp * q → k ≤ i → level i ≡ groups g p q
      second p-m c = lower.grouping i p q c h o u p-m b-p (λ j e d. under j e (omega (arith, upper.onward))) from

      seam : k ≡ i → (mp * q ≤ p * mq) ⊎ (p * mq < mp * q) → level i ≡ groups g p q
      seam e (inl m-p) = first m-p (omega arith)
      seam e (inr p-m) = second (le_of_lt p-m) (omega arith)

      after : (j : ℕ) → j ≡ i → k < j → p * mq ≤ mp * q
      after zero e c = absurd (omega arith)
      after (suc j) e c =
          le_of_lt (below-at-most _ _ _ _ _ _ some (under j (sym e) (omega (arith, upper.onward))) (lower.not_above j (omega arith) (omega arith)))

      go : (k ≤ i) ⊎ (i < k) → level i ≡ groups g p q
      go (inl c) = ⊎_elim (λ e. seam e (le-or-below (mp * q) (p * mq))) (λ d. second (after i refl d) c) (eq-or-lt_of_le c)
      go (inr c) = first (at-most-trans _ _ _ _ _ _ (upper.positive i l c).1 (le_of_lt (upper.over i l c)) (from (omega (arith, lower.onward)))) (le_of_lt c)

  ladder-join-falling : (i : ℕ) → f ≤ i → suc i < t → Below (low_ps (suc i)) (low_qs (suc i)) (low_ps i) (low_qs i)
  ladder-join-falling i l h = ⊎_elim (λ c. lower.falling i c h) (λ c. go c (le-or-below k (suc i))) (le-or-below k i)
    where
      go : i < k → (k ≤ suc i) ⊎ (suc i < k) → Below (low_ps (suc i)) (low_qs (suc i)) (low_ps i) (low_qs i)
      go c (inl d) = at-most-below _ _ _ _ _ _ (lower.positive (suc i) d h).1 (lower.not_above (suc i) d h) (upper.over i l c)
      go c (inr d) = upper.falling i l d

  pub ladder-join : Ladder g ap aq bp bq f t level low_ps low_qs
  ladder-join = record {
    onward = omega (arith, upper.onward, lower.onward);
    grouping = ladder-join-grouping;
    differ = both-parts _ f k t upper.differ lower.differ;
    positive = both-parts _ f k t upper.positive lower.positive;
    not_above = both-parts _ f k t upper.not_above (λ i l h. at-most-trans _ _ _ _ _ _ some (lower.not_above i l h) m-a);
    over = both-parts _ f k t (λ i l h. below-at-most _ _ _ _ _ _ (upper.positive i l h).1 b-m (le_of_lt (upper.over i l h))) lower.over;
    falling = ladder-join-falling;
    lowest = both-parts _ f k t upper.lowest lower.lowest;
    denominator = both-parts _ f k t upper.denominator lower.denominator;
  }

-- what holds of f holds from f to f + 1
one-part : (P : ℕ → Type 0) (f : ℕ) → P f → (i : ℕ) → f ≤ i → i < suc f → P i
one-part P f a i l h = subst P (le_antisymm l (le_of_suc-le-suc h)) a

-- a single breakpoint, the low rate of level f
module _ (g : Plant) (ap aq bp bq f : ℕ) (level : ℕ → List ℕ) (low_ps low_qs : ℕ → ℕ)
    (some : (1 ≤ low_ps f) × (1 ≤ low_qs f)) (m-a : low_ps f * aq ≤ ap * low_qs f) (b-m : Below bp bq (low_ps f) (low_qs f))
    (low : Lowest (low_ps f) (low_qs f)) (few : low_qs f ≤ g.devices - 1)
    (finer : level f ≡ groups g ap aq) (coarser : level (suc f) ≡ groups g bp bq) (change : level f ≡ level (suc f) → ⊥)
    (upper : (p q : ℕ) → 1 ≤ p → 1 ≤ q → p * aq ≤ ap * q → low_ps f * q ≤ p * low_qs f → groups g p q ≡ groups g ap aq)
    (lower : (p q : ℕ) → 1 ≤ p → 1 ≤ q → bp * q ≤ p * bq → Below p q (low_ps f) (low_qs f) → groups g p q ≡ groups g bp bq) where
  ladder-step-grouping : (i p q : ℕ) → f ≤ i → i ≤ suc f → 1 ≤ p → 1 ≤ q → p * aq ≤ ap * q → bp * q ≤ p * bq
      → ((j : ℕ) → i ≡ suc j → f ≤ j → Below p q (low_ps j) (low_qs j)) → (i < suc f → low_ps i * q ≤ p * low_qs i) → level i ≡ groups g p q
  ladder-step-grouping i p q l h o u p-a b-p under from = go (eq-or-lt_of_le h)
    where
      last : suc f ≡ i → Below p q (low_ps f) (low_qs f) → level i ≡ groups g p q
      last e p-m = subst (λ (k : ℕ). level k ≡ groups g p q) e (coarser ∙ sym (lower p q o u b-p p-m))

      first : f ≡ i → low_ps i * q ≤ p * low_qs i → level i ≡ groups g p q
      first e = subst (λ (k : ℕ). low_ps k * q ≤ p * low_qs k → level k ≡ groups g p q) e (λ m-p. finer ∙ sym (upper p q o u p-a m-p))

      go : (i ≡ suc f) ⊎ (i < suc f) → level i ≡ groups g p q
      go (inl e) = last (sym e) (under f e (le_refl f))
      go (inr c) = first (omega arith) (from c)

  pub ladder-step : Ladder g ap aq bp bq f (suc f) level low_ps low_qs
  ladder-step = record {
    onward = le_refl (suc f);
    grouping = ladder-step-grouping;
    differ = one-part _ f change;
    positive = one-part _ f some;
    not_above = one-part _ f m-a;
    over = one-part _ f b-m;
    falling = λ i l h. absurd (omega arith);
    lowest = one-part _ f low;
    denominator = one-part _ f few;
  }

-- a ladder asks only for its own levels and low rates
module _ (g : Plant) (ap aq bp bq f t : ℕ) (level level' : ℕ → List ℕ) (low_ps low_qs low_ps' low_qs' : ℕ → ℕ)
    (same : (i : ℕ) → f ≤ i → i ≤ t → level i ≡ level' i)
    (same-p : (i : ℕ) → f ≤ i → i < t → low_ps i ≡ low_ps' i) (same-q : (i : ℕ) → f ≤ i → i < t → low_qs i ≡ low_qs' i)
    (ladder : Ladder g ap aq bp bq f t level low_ps low_qs) where
  forth : (P : ℕ → ℕ → Type 0) (i : ℕ) → f ≤ i → i < t → P (low_ps i) (low_qs i) → P (low_ps' i) (low_qs' i)
  forth P i l h = subst₂ P (same-p i l h) (same-q i l h)

  back : (P : ℕ → ℕ → Type 0) (i : ℕ) → f ≤ i → i < t → P (low_ps' i) (low_qs' i) → P (low_ps i) (low_qs i)
  back P i l h = subst₂ P (sym (same-p i l h)) (sym (same-q i l h))

  pub ladder-same : Ladder g ap aq bp bq f t level' low_ps' low_qs'
  ladder-same = record {
    onward = ladder.onward;
    grouping = λ i p q l h o u p-a b-p under from.
        sym (same i l h)
        ∙ ladder.grouping i p q l h o u p-a b-p
        (λ j e d. back (Below p q) j d (omega arith) (under j e d))
        (λ c. back (λ x y. x * q ≤ p * y) i l c (from c));
    differ = λ i l h e. ladder.differ i l h (same i l (le_of_lt h) ∙ e ∙ sym (same (suc i) (omega arith) h));
    positive = λ i l h. forth (λ x y. (1 ≤ x) × (1 ≤ y)) i l h (ladder.positive i l h);
    not_above = λ i l h. forth (λ x y. x * aq ≤ ap * y) i l h (ladder.not_above i l h);
    over = λ i l h. forth (Below bp bq) i l h (ladder.over i l h);
    falling = λ i l h.
        forth (λ x y. Below (low_ps' (suc i)) (low_qs' (suc i)) x y) i l (omega arith)
        (forth (λ x y. Below x y (low_ps i) (low_qs i)) (suc i) (omega arith) h (ladder.falling i l h));
    lowest = λ i l h. forth Lowest i l h (ladder.lowest i l h);
    denominator = λ i l h. forth (λ x y. y ≤ g.devices - 1) i l h (ladder.denominator i l h);
  }

-- a ladder from level 0, between two rates beyond which nothing changes
module _ (g : Plant) (ap aq bp bq t : ℕ) (level : ℕ → List ℕ) (low_ps low_qs : ℕ → ℕ)
    (some-a : (1 ≤ ap) × (1 ≤ aq)) (some-b : (1 ≤ bp) × (1 ≤ bq)) (few : suc t ≤ g.devices)
    (alone : groups g ap aq ≡ table g.devices (λ v. v))
    (above : (p q : ℕ) → 1 ≤ p → 1 ≤ q → ap * q ≤ p * aq → groups g p q ≡ groups g ap aq)
    (below : (p q : ℕ) → 1 ≤ p → 1 ≤ q → p * bq ≤ bp * q → groups g p q ≡ groups g bp bq)
    (ladder : Ladder g ap aq bp bq 0 t level low_ps low_qs) where
  b-a : bp * aq ≤ ap * bq
  b-a = le_of_lt (below-at-most _ _ _ _ _ _ some-a.1 (ladder.over 0 (le_refl 0) ladder.onward) (ladder.not_above 0 (le_refl 0) ladder.onward))

  first-level : level 0 ≡ groups g ap aq
  first-level =
      ladder.grouping 0 ap aq (le_refl 0) (omega (arith, ladder.onward)) some-a.0 some-a.1 (le_refl _) b-a
      (λ j e l. absurd (omega arith)) (λ h. ladder.not_above 0 (le_refl 0) h)

  last-level : level t ≡ groups g bp bq
  last-level =
      ladder.grouping t bp bq zero-le (le_refl t) some-b.0 some-b.1 b-a (le_refl _)
      (λ j e l. ladder.over j zero-le (omega arith)) (λ h. absurd (omega arith))

  hierarchy-grouping : (i p q : ℕ) → 1 ≤ p → 1 ≤ q → InStretch (suc t) low_ps low_qs i p q → level i ≡ groups g p q
  hierarchy-grouping i p q o u st = go (le-or-below (p * aq) (ap * q)) (le-or-below (bp * q) (p * bq))
    where
      top : (k : ℕ) → k ≡ i → ap * q < p * aq → level k ≡ groups g p q
      top zero e c = first-level ∙ sym (above p q o u (le_of_lt c))
      top (suc j) e c = absurd (omega (arith, below-at-most _ _ _ _ _ _ some-a.1 (st.under j (sym e)) (ladder.not_above j zero-le (omega (arith, st.listed)))))

      bottom : p * bq < bp * q → (i ≡ t) ⊎ (i < t) → level i ≡ groups g p q
      bottom c (inl e) = subst (λ (k : ℕ). level k ≡ groups g p q) (sym e) (last-level ∙ sym (below p q o u (le_of_lt c)))
      bottom c (inr h) = absurd (omega (arith, below-at-most _ _ _ _ _ _ u (ladder.over i zero-le h) (st.from (suc-le-suc h))))

      go : (p * aq ≤ ap * q) ⊎ (ap * q < p * aq) → (bp * q ≤ p * bq) ⊎ (p * bq < bp * q) → level i ≡ groups g p q
      go (inl p-a) (inl b-p) =
          ladder.grouping i p q zero-le (le_of_suc-le-suc st.listed) o u p-a b-p (λ j e l. st.under j e) (λ h. st.from (suc-le-suc h))
      go (inl p-a) (inr c) = bottom c (eq-or-lt_of_le (le_of_suc-le-suc st.listed))
      go (inr c) b = top i refl c

  pub hierarchy-of : IsHierarchy g (suc t) level low_ps low_qs
  hierarchy-of = record {
    some_level = suc-le-suc zero-le;
    most_levels = few;
    alone = first-level ∙ alone;
    grouping = hierarchy-grouping;
    differ = λ i h. ladder.differ i zero-le (le_of_suc-le-suc h);
    positive = λ i h. ladder.positive i zero-le (le_of_suc-le-suc h);
    falling = λ i h. ladder.falling i zero-le (le_of_suc-le-suc h);
    lowest = λ i h. ladder.lowest i zero-le (le_of_suc-le-suc h);
    denominator = λ i h. ladder.denominator i zero-le (le_of_suc-le-suc h);
  }

-- "a sole level: for all positive rates"
pub hierarchy-sole : (g : Plant) (level : ℕ → List ℕ) (low_ps low_qs : ℕ → ℕ) → 1 ≤ g.devices → level 0 ≡ table g.devices (λ v. v)
    → ((p q : ℕ) → 1 ≤ p → 1 ≤ q → groups g p q ≡ table g.devices (λ v. v)) → IsHierarchy g 1 level low_ps low_qs
hierarchy-sole g level low_ps low_qs some first every = record {
  some_level = le_refl 1;
  most_levels = some;
  alone = first;
  grouping = λ i p q o u st. sole i st.listed ∙ sym (every p q o u);
  differ = λ i h. absurd (omega arith);
  positive = λ i h. absurd (omega arith);
  falling = λ i h. absurd (omega arith);
  lowest = λ i h. absurd (omega arith);
  denominator = λ i h. absurd (omega arith);
}
  where
    sole : (i : ℕ) → i < 1 → level i ≡ table g.devices (λ v. v)
    sole zero h = first
    sole (suc i) h = absurd (omega arith)
