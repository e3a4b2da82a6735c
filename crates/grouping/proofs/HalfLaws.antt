-- The two halves of the stretch between two known levels, split at the crossing rate p/q: `middle` is the level there.
--     half-rate, half-between   p/q is positive, over the coarser level's rate, and not above the finer one's
--     half-last                 as many groups as the finer level: it holds down to p/q, and the coarser one from there on
--     half-finer, half-coarser  otherwise each half is again a stretch between two known levels
--     half-fewer                and `middle` has fewer groups than the finer level and more than the coarser one
-- Assumes nothing.
use mathlib.Core.Path.{◌≡◌, sym, ◌∙◌}
use mathlib.Core.List.{List}
use mathlib.Core.Logic.{◌⊎◌, inl, inr}
use Prim.Native.Nat.{ℕ, ◌*◌, ◌≤◌, ◌<◌}
use native.Mathlib.Nat.{le_of_lt, eq-or-lt_of_le}
use native.Mathlib.Omega.{arith}
use Rattle.rules.specs.Plant.{Plant}
use Rattle.rules.specs.Accepted.{Sound}
use Rattle.rules.specs.Groups.{group_of, groups, distinct}
use Rattle.rules.specs.Rates.{Below}
use Rattle.rules.specs.Stretch.{Crossing}
use Rattle.rules.proofs.RangeLaws.{InRange, range-in}
use Rattle.rules.proofs.LevelLaws.{squeeze, fewer-or-same, same_number, fewer}
use Rattle.rules.proofs.CrossingLaws.{crossing-over, crossing-not-above, crossing-parts, crossing-last}
use Rattle.grouping.specs.declared.level.Level.{Level}
use Rattle.grouping.specs.Level.{IsLevel, Between}
use Rattle.grouping.specs.Stretch.{CrossingRate, Span}
use Rattle.grouping.proofs.CrossLaws.{crossing-groups}

module _ {g : Plant} {ap aq bp bq : ℕ} {finer owner : List ℕ} {fine : ℕ} {coarser : List ℕ} {coarse p q : ℕ}
    (s : Sound g) (span : Span g ap aq bp bq finer owner fine coarser coarse) (x : CrossingRate g finer coarser p q) where
  range : InRange p q
  range = range-in p q x.accepted

  between-rates : bp * aq ≤ ap * bq
  between-rates = le_of_lt span.apart.lower

  -- the crossing of the groups themselves
  crosses : Crossing g (group_of g ap aq) (group_of g bp bq) p q
  crosses = crossing-groups g ap aq bp bq finer coarser s span.apart x.crossing

  pub half-rate : (1 ≤ p) × (1 ≤ q) × Below bp bq p q × (p * aq ≤ ap * q)
  half-rate = (
    range.p_least,
    range.q_least,
    crossing-over g ap aq bp bq s span.apart.some_ap span.apart.some_bp span.apart.some_bq between-rates p q range.q_least crosses,
    crossing-not-above g ap aq bp bq s span.apart.some_ap span.apart.some_bp span.apart.some_bq between-rates p q range.q_least crosses,
  )

  -- the rate is between those of the two levels
  pub half-between : Between g p q owner coarser
  half-between = record {
    high_p = ap;
    high_q = aq;
    low_p = bp;
    low_q = bq;
    some_high_p = span.apart.some_ap;
    some_low_p = span.apart.some_bp;
    some_low_q = span.apart.some_bq;
    finer_is = span.owned;
    coarser_is = span.apart.coarser_is;
    not_above = half-rate.3;
    not_below = le_of_lt half-rate.2;
  }

  -- the grouping at p/q is not the coarser one
  parts : groups g p q ≡ groups g bp bq → ⊥
  parts = crossing-parts g ap aq bp bq s span.apart.some_ap span.apart.some_bp span.apart.some_bq between-rates p q range.q_least crosses

  -- the grouping at p/q has as many groups as the finer one
  module _ (e : fine ≡ distinct (groups g p q)) where
    -- as many groups, the same groups
    finer-same : groups g p q ≡ groups g ap aq
    finer-same = same_number g ap aq p q s span.apart.some_ap range.p_least range.q_least half-rate.3 (sym e ∙ span.finer_count)

    -- "at that rate itself and at all higher rates": down to p/q the grouping is the finer one, and under it the coarser one
    pub half-last : ((r t : ℕ) → 1 ≤ r → 1 ≤ t → r * aq ≤ ap * t → p * t ≤ r * q → groups g r t ≡ groups g ap aq)
        × ((r t : ℕ) → 1 ≤ r → 1 ≤ t → bp * t ≤ r * bq → Below r t p q → groups g r t ≡ groups g bp bq)
    half-last = (
      λ r t o u h l. squeeze g ap aq r t p q s span.apart.some_ap o u range.p_least range.q_least h l (sym finer-same),
      crossing-last g ap aq bp bq s span.apart.some_ap span.apart.some_bp span.apart.some_bq between-rates p q range.q_least crosses finer-same,
    )

  module _ {middle : Level} (level : IsLevel g p q middle) where
    -- the lower half
    pub half-coarser : Span g p q bp bq middle.labels middle.owner middle.groups coarser coarse
    half-coarser = record {
      apart = record {
        some_ap = range.p_least;
        some_aq = range.q_least;
        some_bp = span.apart.some_bp;
        some_bq = span.apart.some_bq;
        lower = half-rate.2;
        finer_is = level.labelled;
        coarser_is = span.apart.coarser_is;
        differ = parts;
      };
      owned = level.owned;
      finer_count = level.counted;
      coarser_count = span.coarser_count;
    }

    half-more : coarse < middle.groups
    half-more =
        omega (
          arith,
          span.coarser_count,
          level.counted,
          fewer g p q bp bq s range.p_least span.apart.some_bp span.apart.some_bq (le_of_lt half-rate.2) parts,
        )

    -- the grouping at p/q is not the finer one either
    module _ (other : middle.groups ≡ fine → ⊥) where
      less : middle.groups < fine
      less =
          omega (
            arith,
            other,
            span.finer_count,
            level.counted,
            fewer-or-same g ap aq p q s span.apart.some_ap range.p_least range.q_least half-rate.3,
          )

      pub half-fewer : (coarse < middle.groups) × (middle.groups < fine)
      half-fewer = (half-more, less)

      -- one fraction would have one number of groups
      under : Below p q ap aq
      under = go (eq-or-lt_of_le half-rate.3)
        where
          go : (p * aq ≡ ap * q) ⊎ (p * aq < ap * q) → Below p q ap aq
          go (inl e) =
              absurd
              (omega (
                arith,
                less,
                span.finer_count,
                level.counted,
                fewer-or-same g p q ap aq s range.p_least span.apart.some_ap span.apart.some_aq (omega arith),
              ))
          go (inr h) = h

      -- the upper half
      pub half-finer : Span g ap aq p q finer owner fine middle.labels middle.groups
      half-finer = record {
        apart = record {
          some_ap = span.apart.some_ap;
          some_aq = span.apart.some_aq;
          some_bp = range.p_least;
          some_bq = range.q_least;
          lower = under;
          finer_is = span.apart.finer_is;
          coarser_is = level.labelled;
          differ = λ e. other (level.counted ∙ (rw (← e) (sym span.finer_count)));
        };
        owned = span.owned;
        finer_count = span.finer_count;
        coarser_count = level.counted;
      }
