-- The recursive search between two known levels, on plain lists: where the stretch ends at its crossing rate one low rate and one row are filled in; and what two halves have filled in is what the whole has.
--     search-last     the stretch is not split: one low rate and the coarser level's row
--     search-known    the same where the crossing rate is the finer level's own
--     search-ready    between the two halves
--     search-join     the two halves in turn
--     search-halves   the same at the crossing rate
--     some-..         what two known levels are enough for
--     from-.., from_some the same where the finer one's rate is given
--     labels-groups   a list of labels as the groups at its rate
-- Assumes nothing.
use Prim.Native.Nat.{ℕ, suc, ◌+◌, ◌*◌, ◌≤◌, ◌<◌}
use mathlib.Core.Path.{◌≡◌, sym, ap, subst, ◌∙◌}
use mathlib.Core.List.{List}
use mathlib.Core.Logic.{⊎_elim}
use native.Mathlib.Nat.{mul-le-mul_right, suc-mul, le_refl, le_of_lt, le_antisymm, le_of_suc-le-suc}
use native.Mathlib.Omega.{arith}
use lib.ListN.{length, get_or, set}
use lib.Seq.{get_or-set_same}
use Rattle.rules.specs.Plant.{Plant}
use Rattle.rules.specs.Accepted.{Sound}
use Rattle.rules.specs.Groups.{table, label, groups, distinct}
use Rattle.rules.specs.Rates.{Below}
use Rattle.rules.specs.Stretch.{Ladder}
use Rattle.rules.proofs.OrderLaws.{le-or-below}
use Rattle.rules.proofs.LabelLaws.{table-agree}
use Rattle.rules.proofs.LevelLaws.{fewer, some-group}
use Rattle.rules.proofs.LadderLaws.{ladder-join, ladder-step, ladder-same}
use Rattle.grouping.specs.Calls.{row_of}
use Rattle.grouping.specs.declared.level.Level.{Level}
use Rattle.grouping.specs.Level.{Labelled, IsLevel, Between}
use Rattle.grouping.specs.Stretch.{CrossingRate, Span, SpanFrom, SomeSpan, Ready, KeptOutside, Settled, Searched}
use Rattle.grouping.proofs.RowLaws.{kept-join, kept_set, row_kept}
use Rattle.grouping.proofs.HalfLaws.{half-rate, half-between, half-last, half-finer, half-coarser, half-fewer}

module _ (g : Plant) where
  abbrev n : ℕ
  n = g.devices

  -- a row that ends before the filling starts is as it was
  row_before : {f t : ℕ} {old new : List ℕ} (i : ℕ) → KeptOutside f t old new → suc i * g.devices ≤ f → row_of g.devices new i ≡ row_of g.devices old i
  row_before {f} {t} {old} {new} i k l = row_kept n i old new k.length_same (λ j a b. k.before j (omega (arith, suc-mul i n)))

  -- after the finer half the lists are ready for the coarser one
  pub search-ready :
      {finer owner middle : List ℕ} {fine mid at k : ℕ} {labels low_ps low_qs labels₁ lowP₁ lowQ₁ : List ℕ} →
      Ready g.devices finer fine at labels low_ps low_qs →
      Searched g.devices g finer owner fine middle mid at k labels low_ps low_qs labels₁ lowP₁ lowQ₁ →
      Ready g.devices middle mid k labels₁ lowP₁ lowQ₁
  search-ready r x = record {
    labels_room = omega (arith, r.labels_room, x.labels_kept.length_same);
    low_p_room = omega (arith, r.low_p_room, x.low_p_kept.length_same);
    low_q_room = omega (arith, r.low_q_room, x.low_q_kept.length_same);
    within = x.within;
    row = x.row;
  }

  -- the finer half fills up to level k, where the middle level stands, and the coarser half from there on
  pub search-join :
      {finer owner middle owner' coarser : List ℕ} {fine mid coarse at k to : ℕ} {labels low_ps low_qs labels₁ lowP₁ lowQ₁ labels₂ lowP₂ lowQ₂ : List ℕ} →
      ((ap aq bp bq : ℕ) → Span g ap aq bp bq finer owner fine coarser coarse
      → (mp : ℕ) × (mq : ℕ) × (1 ≤ mq) × (mp * aq ≤ ap * mq) × Below bp bq mp mq × Span g ap aq mp mq finer owner fine middle mid × Span g mp mq bp bq middle owner' mid coarser coarse) →
      Searched g.devices g finer owner fine middle mid at k labels low_ps low_qs labels₁ lowP₁ lowQ₁ →
      Searched g.devices g middle owner' mid coarser coarse k to labels₁ lowP₁ lowQ₁ labels₂ lowP₂ lowQ₂ →
      Searched g.devices g finer owner fine coarser coarse at to labels low_ps low_qs labels₂ lowP₂ lowQ₂
  search-join {at = at} {k = k} {to = to} {labels₁ = labels₁} {lowP₁ = lowP₁} {lowQ₁ = lowQ₁} {labels₂ = labels₂} {lowP₂ = lowP₂} {lowQ₂ = lowQ₂} split x y = record {
    onward = omega (arith, x.onward, y.onward);
    within = y.within;
    labels_kept = kept-join (mul-le-mul_right n (omega (arith, x.onward))) (mul-le-mul_right n (omega (arith, y.onward))) x.labels_kept y.labels_kept;
    low_p_kept = kept-join (le_of_lt x.onward) (le_of_lt y.onward) x.low_p_kept y.low_p_kept;
    low_q_kept = kept-join (le_of_lt x.onward) (le_of_lt y.onward) x.low_q_kept y.low_q_kept;
    row = y.row;
    most = λ i l h. ⊎_elim (λ c. y.most i c h) (λ c. rw (y.low_p_kept.before i c) (x.most i l c)) (le-or-below k i);
    ladder = λ ap aq bp bq s.
        let (mp, mq, some, m-a, b-m, up, down) = split ap aq bp bq s in
        ladder-join g ap aq mp mq bp bq at k to (row_of n labels₂) (λ i. get_or lowP₂ i 0) (λ i. get_or lowQ₂ i 0) some m-a b-m
        (ladder-same g ap aq mp mq at k (row_of n labels₁) (row_of n labels₂) (λ i. get_or lowP₁ i 0) (λ i. get_or lowQ₁ i 0) (λ i. get_or lowP₂ i 0) (λ i. get_or lowQ₂ i 0)
        (λ i l h. sym (row_before i y.labels_kept (mul-le-mul_right n (omega arith))))
        (λ i l h. sym (y.low_p_kept.before i h))
        (λ i l h. sym (y.low_q_kept.before i h))
        (x.ladder ap aq mp mq up))
        (y.ladder mp mq bp bq down);
  }

  -- a list of labels as the groups at its rate
  pub labels-groups : (p q : ℕ) (labels : List ℕ) → Labelled g p q labels → table g.devices (λ v. get_or labels v 0) ≡ groups g p q
  unfolding groups
  labels-groups p q labels is = table-agree n (λ v. get_or labels v 0) (label g p q) is

  -- the coarser of two known levels has fewer groups
  some-less : {finer owner coarser : List ℕ} {fine coarse : ℕ} → Sound g → SomeSpan g finer owner fine coarser coarse → coarse < fine
  some-less s (ap, aq, bp, bq, span) =
      omega (
        arith,
        span.finer_count,
        span.coarser_count,
        fewer g ap aq bp bq s span.apart.some_ap span.apart.some_bp span.apart.some_bq (le_of_lt span.apart.lower) span.apart.differ,
      )

  -- the stretch is not split: the grouping at its crossing rate has as many groups as the finer one
  pub search-last :
      {finer owner coarser : List ℕ} {fine coarse at to p q : ℕ} {labels low_ps low_qs labels' low_ps' low_qs' : List ℕ} →
      Sound g →
      SomeSpan g finer owner fine coarser coarse →
      CrossingRate g finer coarser p q →
      fine ≡ distinct (groups g p q) →
      Ready g.devices finer fine at labels low_ps low_qs →
      Settled g.devices coarser at to p q labels low_ps low_qs labels' low_ps' low_qs' →
      Searched g.devices g finer owner fine coarser coarse at to labels low_ps low_qs labels' low_ps' low_qs'
  search-last {finer} {owner} {coarser} {fine} {coarse} {at} {to} {p} {q} {labels} {low_ps} {low_qs} {labels'} {low_ps'} {low_qs'} s some x e ready put =
      rw (put.next, put.low_p, put.low_q) (record {
        onward = le_refl (suc at);
        within = omega (arith, less, ready.within);
        labels_kept = subst (λ (t : ℕ). KeptOutside (suc at * n) t labels labels') (sym (suc-mul (suc at) n)) put.labels_kept;
        low_p_kept = kept_set at p low_ps;
        low_q_kept = kept_set at q low_qs;
        row = put.row;
        most = λ i l h. subst (λ (j : ℕ). get_or (set low_ps at p) j 0 ≤ 67107840) (le_antisymm l (le_of_suc-le-suc h)) (rw here-p x.most);
        ladder = ladder;
      })
    where
      less : coarse < fine
      less = some-less s some

      here-p : get_or (set low_ps at p) at 0 ≡ p
      here-p = get_or-set_same low_ps at p 0 (omega (arith, ready.low_p_room, ready.within, less))

      here-q : get_or (set low_qs at q) at 0 ≡ q
      here-q = get_or-set_same low_qs at q 0 (omega (arith, ready.low_q_room, ready.within, less))

      ladder : (ap aq bp bq : ℕ) → Span g ap aq bp bq finer owner fine coarser coarse
          → Ladder g ap aq bp bq at (suc at) (row_of n labels') (λ i. get_or (set low_ps at p) i 0) (λ i. get_or (set low_qs at q) i 0)
      ladder ap aq bp bq span =
          ladder-step g ap aq bp bq at (row_of n labels') (λ i. get_or (set low_ps at p) i 0) (λ i. get_or (set low_qs at q) i 0)
          (rw (here-p, here-q) (rate.0, rate.1))
          (rw (here-p, here-q) rate.3)
          (rw (here-p, here-q) rate.2)
          (rw (here-p, here-q) x.lowest)
          (rw here-q x.few)
          first second
          (λ c. span.apart.differ (sym first ∙ c ∙ second))
          (rw (here-p, here-q) (half-last s span x e).0)
          (rw (here-p, here-q) (half-last s span x e).1)
        where
          rate : (1 ≤ p) × (1 ≤ q) × Below bp bq p q × (p * aq ≤ ap * q)
          rate = half-rate s span x

          first : row_of n labels' at ≡ groups g ap aq
          first = row_before at put.labels_kept (le_refl _) ∙ ready.row ∙ labels-groups ap aq finer span.apart.finer_is

          second : row_of n labels' (suc at) ≡ groups g bp bq
          second = put.row ∙ labels-groups bp bq coarser span.apart.coarser_is

  -- the finer of two levels that differ has at least two groups
  some-two : {finer owner coarser : List ℕ} {fine coarse : ℕ} → Sound g → 1 ≤ g.devices → SomeSpan g finer owner fine coarser coarse → 2 ≤ fine
  some-two s o (ap, aq, bp, bq, span) =
      omega (arith, span.coarser_count, some-group g bp bq s span.apart.some_bp o, some-less s (ap, aq, bp, bq, span))

  -- so there is a row after `at`, and room for it
  pub some-room :
      {finer owner coarser : List ℕ} {fine coarse at : ℕ} {labels low_ps low_qs : List ℕ} →
      Sound g →
      1 ≤ g.devices →
      g.devices ≤ 128 →
      SomeSpan g finer owner fine coarser coarse →
      Ready g.devices finer fine at labels low_ps low_qs →
      ((g.devices ≤ 128) × (at + 1 < g.devices)) × ((g.devices * g.devices ≤ length labels) × (g.devices ≤ length low_ps) × (g.devices ≤ length low_qs))
  some-room s o m some ready = ((m, omega (arith, some-two s o some, ready.within)), (ready.labels_room, ready.low_p_room, ready.low_q_room))

  -- the finer one's rate is given
  pub from_some : {ap aq : ℕ} {finer owner coarser : List ℕ} {fine coarse : ℕ} → SpanFrom g ap aq finer owner fine coarser coarse → SomeSpan g finer owner fine coarser coarse
  from_some {ap} {aq} (bp, bq, span) = (ap, aq, bp, bq, span)

  -- and the crossing rate is the same: there the grouping is the finer one
  pub search-known :
      {finer owner coarser : List ℕ} {fine coarse at to ap aq p q : ℕ} {labels low_ps low_qs labels' low_ps' low_qs' : List ℕ} →
      Sound g →
      SpanFrom g ap aq finer owner fine coarser coarse →
      CrossingRate g finer coarser p q →
      (p ≡ ap) × (q ≡ aq) →
      Ready g.devices finer fine at labels low_ps low_qs →
      Settled g.devices coarser at to ap aq labels low_ps low_qs labels' low_ps' low_qs' →
      Searched g.devices g finer owner fine coarser coarse at to labels low_ps low_qs labels' low_ps' low_qs'
  search-known s from x (ep, eq) ready put = search-last s (from_some from) (rw (ep, eq) at x) from.2.finer_count ready put

  -- what the level at the crossing rate asks of two known levels
  pub some-between : {finer owner coarser : List ℕ} {fine coarse p q : ℕ} → Sound g → SomeSpan g finer owner fine coarser coarse → CrossingRate g finer coarser p q
      → Between g p q owner coarser
  some-between s (ap, aq, bp, bq, span) x = half-between s span x

  -- the stretch is split at its crossing rate
  module _
      {finer owner coarser : List ℕ} {fine coarse p q : ℕ} {middle : Level} (s : Sound g) (x : CrossingRate g finer coarser p q) (level : IsLevel g p q middle)
      (other : middle.groups ≡ fine → ⊥) where
    pub some-finer : SomeSpan g finer owner fine coarser coarse → SomeSpan g finer owner fine middle.labels middle.groups
    some-finer (ap, aq, bp, bq, span) = (ap, aq, p, q, half-finer s span x level other)

    pub some-coarser : SomeSpan g finer owner fine coarser coarse → SomeSpan g middle.labels middle.owner middle.groups coarser coarse
    some-coarser (ap, aq, bp, bq, span) = (p, q, bp, bq, half-coarser s span x level)

    pub from-finer : {ap aq : ℕ} → SpanFrom g ap aq finer owner fine coarser coarse → SpanFrom g ap aq finer owner fine middle.labels middle.groups
    from-finer (bp, bq, span) = (p, q, half-finer s span x level other)

    pub from-coarser : SomeSpan g finer owner fine coarser coarse → SpanFrom g p q middle.labels middle.owner middle.groups coarser coarse
    from-coarser (ap, aq, bp, bq, span) = (bp, bq, half-coarser s span x level)

    pub some-fewer : SomeSpan g finer owner fine coarser coarse → (coarse < middle.groups) × (middle.groups < fine)
    some-fewer (ap, aq, bp, bq, span) = half-fewer s span x level other

    pub search-halves :
        {at k to : ℕ} {labels low_ps low_qs labels₁ lowP₁ lowQ₁ labels₂ lowP₂ lowQ₂ : List ℕ} →
        Searched g.devices g finer owner fine middle.labels middle.groups at k labels low_ps low_qs labels₁ lowP₁ lowQ₁ →
        Searched g.devices g middle.labels middle.owner middle.groups coarser coarse k to labels₁ lowP₁ lowQ₁ labels₂ lowP₂ lowQ₂ →
        Searched g.devices g finer owner fine coarser coarse at to labels low_ps low_qs labels₂ lowP₂ lowQ₂
    search-halves = search-join (λ ap aq bp bq span.
        let rate = half-rate s span x in
        (p, q, rate.1, rate.3, rate.2, half-finer s span x level other, half-coarser s span x level))
