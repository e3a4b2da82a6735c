-- The call for the joining rate of two devices.
--     pair-plant to pair-done, pair-clear   its first fault, test by test
--     turn-.., turn_last                    a turn of the search between two known levels, in which the devices come together
--     start-.., join-..                     how that search begins, and what the call answers
-- Assumes nothing.
use mathlib.Core.Path.{◌≡◌, refl, sym, ◌∙◌, ap}
use mathlib.Core.List.{List, [], ◌∷◌}
use mathlib.Core.Logic.{◌⊎◌, inl, inr}
use Prim.Native.Nat.{ℕ, ◌≤◌, ◌<◌}
use native.Mathlib.Decide.{ℕ_discrete}
use native.Mathlib.Omega.{arith}
use lib.ListN.{get_or}
use borrow.Author.Tests.{le-leb, lt-leb, eq-eqb, ne_eqb}
use Rattle.rules.specs.Refusal.{Refusal}
use Rattle.rules.specs.Plant.{Plant, plant_of}
use Rattle.rules.specs.Accepted.{Sound, Accepted}
use Rattle.rules.specs.Groups.{label}
use Rattle.rules.specs.Refusals.{done, cause, or_else, first_of, device_fault, self_fault, after_plant, about, nothing, plant_says, plant_fault}
use Rattle.rules.specs.Hierarchy.{JoinsAt}
use Rattle.rules.proofs.OrderLaws.{le-or-below}
use Rattle.rules.proofs.RefusalLaws.{done_next, call-is, call-plant, call-rest, plant-accepted, accepted-sound}
use Rattle.rules.proofs.LevelLaws.{groups-label}
use Rattle.rules.proofs.JoinLaws.{joins_of, never-of}
use Rattle.grouping.specs.declared.level.Level.{Level}
use Rattle.grouping.specs.Calls.{pair_fault, JoiningIs}
use Rattle.grouping.specs.Level.{IsLevel, Between}
use Rattle.grouping.specs.Stretch.{CrossingRate, Span, SomeLevels}
use Rattle.grouping.proofs.HalfLaws.{half-rate, half-last}
use Rattle.grouping.proofs.SearchLaws.{some-between, some-finer, some-coarser, some-fewer}
use Rattle.grouping.proofs.EndCalls.{alone-label, ends-span}

-- plant and devices are accepted
pub record Pair (n : ℕ) (xs ys zs : List ℕ) (i j : ℕ) : Type 0 where
  pub accepted : Accepted n xs ys zs
  pub first : i < n
  pub second : j < n
  pub two : i ≡ j → ⊥

module _ (n : ℕ) (xs ys zs : List ℕ) (i j : ℕ) where
  abbrev plant : Refusal
  plant = plant_fault n xs ys zs

  -- the plant first, then 10, then 11
  abbrev rest : Refusal
  rest = first_of (first_of (device_fault n i ∷ device_fault n j ∷ []) ∷ self_fault i j ∷ [])

  pair_is : pair_fault n xs ys zs i j ≡ or_else plant rest
  unfolding pair_fault after_plant about plant_says nothing first_of
  pair_is = call-is n xs ys zs _ refl refl refl refl ∙ simp done_next

  -- r is what the check of the plant answers
  module _ {r : Refusal} (checked : r ≡ plant_fault n xs ys zs) where
    pub pair-plant : (r.number ≡ 0 → ⊥) → r ≡ pair_fault n xs ys zs i j
    pair-plant h = checked ∙ sym (pair_is ∙ call-plant n xs ys zs rest (rw checked at h))

    module _ (ok : r.number ≡ 0) where
      past : pair_fault n xs ys zs i j ≡ rest
      past = pair_is ∙ call-rest n xs ys zs rest (rw checked at ok)

      pub pair-first : n ≤ i → record { number = 10; place = 0 } ≡ pair_fault n xs ys zs i j
      unfolding first_of or_else cause device_fault
      pair-first h = sym (past ∙ simp (le-leb _ _ h))

      module _ (hi : i < n) where
        pub pair-second : n ≤ j → record { number = 10; place = 0 } ≡ pair_fault n xs ys zs i j
        unfolding first_of or_else cause done device_fault
        pair-second h = sym (past ∙ simp (lt-leb _ _ hi, le-leb _ _ h))

        module _ (hj : j < n) where
          pub pair-self : i ≡ j → record { number = 11; place = 0 } ≡ pair_fault n xs ys zs i j
          unfolding first_of or_else cause done device_fault self_fault
          pair-self e = sym (past ∙ simp (lt-leb _ _ hi, lt-leb _ _ hj, eq-eqb _ _ e))

          pub pair-done : (i ≡ j → ⊥) → record { number = 0; place = 0 } ≡ pair_fault n xs ys zs i j
          unfolding first_of or_else cause done device_fault self_fault
          pair-done h = sym (past ∙ simp (lt-leb _ _ hi, lt-leb _ _ hj, ne_eqb _ _ h))

  -- a pair that is not refused
  pub pair-clear : (pair_fault n xs ys zs i j).number ≡ 0 → Pair n xs ys zs i j
  pair-clear z = plants (ℕ_discrete plant.number 0)
    where
      numbered : {r : Refusal} → r ≡ pair_fault n xs ys zs i j → r.number ≡ 0
      numbered e = ap (λ (r : Refusal). r.number) e ∙ z

      selves : plant.number ≡ 0 → i < n → j < n → Dec (i ≡ j) → Pair n xs ys zs i j
      selves ok hi hj (yes e) = absurd (omega (arith, numbered (pair-self refl ok hi hj e)))
      selves ok hi hj (no h) = record { accepted = plant-accepted n xs ys zs _ refl ok; first = hi; second = hj; two = h }

      seconds : plant.number ≡ 0 → i < n → (n ≤ j) ⊎ (j < n) → Pair n xs ys zs i j
      seconds ok hi (inl h) = absurd (omega (arith, numbered (pair-second refl ok hi h)))
      seconds ok hi (inr h) = selves ok hi h (ℕ_discrete i j)

      firsts : plant.number ≡ 0 → (n ≤ i) ⊎ (i < n) → Pair n xs ys zs i j
      firsts ok (inl h) = absurd (omega (arith, numbered (pair-first refl ok h)))
      firsts ok (inr h) = seconds ok h (le-or-below n j)

      plants : Dec (plant.number ≡ 0) → Pair n xs ys zs i j
      plants (yes ok) = firsts ok (le-or-below n i)
      plants (no h) = absurd (h (numbered (pair-plant refl h)))

-- two known levels, of which only the coarser has devices i and j in one group
pub record Parted (g : Plant) (i j : ℕ) (finer coarser : Level) : Type 0 where
  pub levels : SomeLevels g finer coarser
  pub apart : get_or finer.labels i 0 ≡ get_or finer.labels j 0 → ⊥
  pub together : get_or coarser.labels i 0 ≡ get_or coarser.labels j 0

module _ {g : Plant} {i j : ℕ} {finer coarser : Level} (known : Parted g i j finer coarser) where
  module _ {p q : ℕ} (s : Sound g) (x : CrossingRate g finer.labels coarser.labels p q) where
    -- what the search for the level at the crossing rate asks
    pub turn-between : Between g p q finer.owner coarser.labels
    turn-between = some-between g s known.levels x

    module _ {middle : Level} (level : IsLevel g p q middle) where
      -- as many groups as the finer level: the devices join here
      pub turn_last : i < g.devices → j < g.devices → middle.groups ≡ finer.groups → JoinsAt g i j p q
      turn_last hi hj e =
          let (ap, aq, bp, bq, span) = known.levels in
          let rate = half-rate s span x in
          let last = half-last s span x (sym e ∙ level.counted) in
          let fine = span.apart.finer_is in
          let coarse = span.apart.coarser_is in
          joins_of g s i j hi hj ap aq bp bq p q
          (span.apart.some_ap, span.apart.some_aq) (span.apart.some_bp, span.apart.some_bq) (rate.0, rate.1) x.lowest last.0 last.1
          (λ c. known.apart (fine i hi ∙ c ∙ sym (fine j hj))) (sym (coarse i hi) ∙ known.together ∙ coarse j hj)

      module _ (other : middle.groups ≡ finer.groups → ⊥) where
        pub turn-fewer : (coarser.groups < middle.groups) × (middle.groups < finer.groups)
        turn-fewer = some-fewer g s x level other known.levels

        -- otherwise they come together in the upper half or in the lower one
        pub turn-upper : get_or middle.labels i 0 ≡ get_or middle.labels j 0 → Parted g i j finer middle
        turn-upper e = record { levels = some-finer g s x level other known.levels; apart = known.apart; together = e }

        pub turn-lower : (get_or middle.labels i 0 ≡ get_or middle.labels j 0 → ⊥) → Parted g i j middle coarser
        turn-lower h = record { levels = some-coarser g s x level other known.levels; apart = h; together = known.together }

module _ (n : ℕ) (xs ys zs : List ℕ) (i j : ℕ) where
  abbrev g : Plant
  g = plant_of n xs ys zs

  -- r is what the check of the pair answers
  module _ {r : Refusal} (checked : r ≡ pair_fault n xs ys zs i j) where
    pub join-refused : (r.number ≡ 0 → ⊥) → JoiningIs n xs ys zs i j (record { number = r.number; place = r.place; p = 0; q = 0 })
    join-refused h = record { refused = λ k. rw checked; answered = λ z. absurd (h (ap (λ (t : Refusal). t.number) checked ∙ z)) }

    module _ (ok : r.number ≡ 0) where
      none : (pair_fault n xs ys zs i j).number ≡ 0
      none = rw checked at ok

      pub join-pair : Pair n xs ys zs i j
      join-pair = pair-clear n xs ys zs i j none

      sound : Sound g
      sound = accepted-sound n xs ys zs join-pair.accepted

      pub join-answered : {p q : ℕ} → JoinsAt (plant_of n xs ys zs) i j p q → JoiningIs n xs ys zs i j (record { number = 0; place = 0; p = p; q = q })
      join-answered a = record { refused = λ h. absurd (h none); answered = λ e. inr (a, refl, refl) }

      -- the levels at the largest and at the least rate
      module _ {finest coarsest : Level} (top : IsLevel (plant_of n xs ys zs) 100000000 1 finest) (bottom : IsLevel (plant_of n xs ys zs) 1 1000 coarsest) where
        pub join-never : (get_or coarsest.labels i 0 ≡ get_or coarsest.labels j 0 → ⊥) → JoiningIs n xs ys zs i j (record { number = 13; place = 0; p = 0; q = 0 })
        unfolding plant_of
        join-never h = record {
          refused = λ k. absurd (k none);
          answered = λ e. inl (
            never-of g sound join-pair.accepted.most_devices i j join-pair.first join-pair.second
                (λ c. h (bottom.labelled i join-pair.first ∙ c ∙ sym (bottom.labelled j join-pair.second))),
            refl,
          );
        }

        own : (v : ℕ) → v < n → label g 100000000 1 v ≡ v
        own = alone-label n xs ys zs join-pair.accepted

        parted : label g 100000000 1 i ≡ label g 100000000 1 j → ⊥
        parted e = join-pair.two (sym (own i join-pair.first) ∙ e ∙ own j join-pair.second)

        pub start-parted : get_or coarsest.labels i 0 ≡ get_or coarsest.labels j 0 → Parted (plant_of n xs ys zs) i j finest coarsest
        unfolding plant_of
        start-parted e = record {
          levels = (100000000, 1, 1, 1000, span);
          apart = λ c. parted (sym (top.labelled i join-pair.first) ∙ c ∙ top.labelled j join-pair.second);
          together = e;
        }
          where
            joined : label g 1 1000 i ≡ label g 1 1000 j
            joined = sym (bottom.labelled i join-pair.first) ∙ e ∙ bottom.labelled j join-pair.second

            span : Span g 100000000 1 1 1000 finest.labels finest.owner finest.groups coarsest.labels coarsest.groups
            span =
                ends-span top bottom
                (λ c.
                parted
                (groups-label g 100000000 1 1 1000 c i join-pair.first ∙ joined ∙ sym (groups-label g 100000000 1 1 1000 c j join-pair.second)))
