-- The hierarchy call: the levels at the largest and at the least rate as the two ends of the search; what is filled in is the hierarchy; and its first fault, test by test.
--     same_ends                        the two levels at the ends are one: there is only one grouping
--     listed-sole, listed-all          what is filled in, with one level and with several
--     call-..                          the first fault, test by test, and what the call answers
-- Assumes nothing.
use Prim.Native.Nat.{ℕ, suc, ◌+◌, ◌-◌, ◌*◌, ◌≤◌, ◌<◌, zero-le}
use mathlib.Core.Path.{◌≡◌, refl, sym, ap, subst, ◌∙◌}
use mathlib.Core.Bool.{Bool, true, false, ◌||◌, false≢true}
use mathlib.Core.List.{List, [], ◌∷◌}
use mathlib.Core.Logic.{◌⊎◌, inl, inr}
use native.Mathlib.Nat.{le_refl, le_of_suc-le-suc, suc-mul}
use native.Mathlib.Omega.{arith}
use lib.Dec.{ltb}
use lib.ListN.{length, get_or, drop, length-drop}
use lib.Seq.{ext_get_or, get_or-drop}
use borrow.Author.Tests.{lt-ltb, le-ltb}
use Rattle.rules.specs.Refusal.{Refusal}
use Rattle.rules.specs.Plant.{Plant, plant_of}
use Rattle.rules.specs.Accepted.{Sound, Accepted}
use Rattle.rules.specs.Groups.{table, groups, distinct}
use Rattle.rules.specs.Refusals.{done, cause, or_else, first_of, room_fault, after_plant, about, nothing, plant_says, plant_fault}
use Rattle.rules.proofs.RefusalLaws.{done_next, call-is, call-plant, call-rest, accepted-sound}
use Rattle.rules.proofs.OrderLaws.{le-or-below}
use Rattle.rules.proofs.EndLaws.{top-accepted, bottom-accepted}
use Rattle.rules.proofs.LevelLaws.{squeeze, same_number, some-group, most-groups}
use Rattle.rules.proofs.LadderLaws.{hierarchy-of, hierarchy-sole}
use Rattle.grouping.specs.declared.level.Level.{Level}
use Rattle.grouping.specs.Calls.{row_of, hierarchy_fault, PastKept, Listed, HierarchyIs}
use Rattle.grouping.specs.Level.{IsLevel}
use Rattle.grouping.specs.Stretch.{Span, Ready, KeptOutside, Searched}
use Rattle.grouping.proofs.RowLaws.{kept-join}
use Rattle.grouping.proofs.SearchLaws.{labels-groups}
use Rattle.grouping.proofs.EndCalls.{alone, ends-span}

-- entries from k on that are the old ones
past-kept : {f k : ℕ} {old new : List ℕ} → KeptOutside f k old new → PastKept k old new
past-kept {f} {k} {old} {new} x = record { length_same = x.length_same; past = ext_get_or 0 (drop k new) (drop k old) same at_each }
  where
    same : length (drop k new) ≡ length (drop k old)
    same = length-drop k new ∙ ap (λ (l : ℕ). l - k) x.length_same ∙ sym (length-drop k old)

    at_each : (i : ℕ) → i < length (drop k new) → get_or (drop k new) i 0 ≡ get_or (drop k old) i 0
    at_each i h = get_or-drop k new i 0 ∙ x.past (k + i) (omega arith) ∙ sym (get_or-drop k old i 0)

kept-all : (k : ℕ) (l : List ℕ) → PastKept k l l
kept-all k l = record { length_same = refl; past = refl }

module _ (n : ℕ) (xs ys zs : List ℕ) (a : Accepted n xs ys zs) where
  abbrev g : Plant
  g = plant_of n xs ys zs

  sound : Sound g
  sound = accepted-sound n xs ys zs a

  -- from 100,000,000/1 on every device is alone, and down from 1/1000 nothing changes
  above : (p q : ℕ) → 1 ≤ p → 1 ≤ q → 100000000 * q ≤ p * 1 → groups g p q ≡ groups g 100000000 1
  above p q o u h = top-accepted n xs ys zs p q a u (omega arith) ∙ sym (alone n xs ys zs a)

  below : (p q : ℕ) → 1 ≤ p → 1 ≤ q → p * 1000 ≤ 1 * q → groups g p q ≡ groups g 1 1000
  unfolding plant_of
  below p q o u h = bottom-accepted g sound p q a.most_devices o (omega arith)

  module _ (finest coarsest : Level) (f : IsLevel g 100000000 1 finest) (c : IsLevel g 1 1000 coarsest) where
    -- the row of the finest level
    pub finest-row : table n (λ v. get_or finest.labels v 0) ≡ table n (λ v. v)
    unfolding plant_of
    finest-row = labels-groups g 100000000 1 finest.labels f.labelled ∙ alone n xs ys zs a

    ends : (finest.groups ≡ coarsest.groups → ⊥) → Span g 100000000 1 1 1000 finest.labels finest.owner finest.groups coarsest.labels coarsest.groups
    ends other = ends-span f c (λ e. other (f.counted ∙ ap distinct e ∙ sym c.counted))

    -- at every positive rate every device is alone
    same_ends : finest.groups ≡ coarsest.groups → (p q : ℕ) → 1 ≤ p → 1 ≤ q → groups g p q ≡ table n (λ v. v)
    same_ends e p q o u = go (le-or-below (p * 1) (100000000 * q)) (le-or-below (1 * q) (p * 1000)) ∙ alone n xs ys zs a
      where
        one : groups g 1 1000 ≡ groups g 100000000 1
        one = same_number g 100000000 1 1 1000 sound (omega arith) (le_refl 1) (omega arith) (omega arith) (sym c.counted ∙ sym e ∙ f.counted)

        go : (p * 1 ≤ 100000000 * q) ⊎ (100000000 * q < p * 1) → (1 * q ≤ p * 1000) ⊎ (p * 1000 < 1 * q) → groups g p q ≡ groups g 100000000 1
        go (inr h) l = above p q o u (omega arith)
        go (inl h) (inr l) = below p q o u (omega arith) ∙ one
        go (inl h) (inl l) = squeeze g 100000000 1 p q 1 1000 sound (omega arith) o u (le_refl 1) (omega arith) h l (sym one)

    -- one grouping: level 0 is filled in, and no low rate
    pub listed-sole : {labels labels' : List ℕ} (low_ps low_qs : List ℕ) → finest.groups ≡ coarsest.groups → KeptOutside (0 * n) (0 * n + n) labels labels'
        → row_of n labels' 0 ≡ table n (λ v. get_or finest.labels v 0) → Listed (plant_of n xs ys zs) 1 labels low_ps low_qs labels' low_ps low_qs
    unfolding plant_of
    listed-sole {labels} {labels'} low_ps low_qs e kept row = record {
      low_p_most = λ i h. absurd (omega arith);
      hierarchy = hierarchy-sole g (row_of n labels') _ _ a.some_device (row ∙ finest-row) (same_ends e);
      labels_past = subst (λ (k : ℕ). PastKept k labels labels') (sym whole) (past-kept kept);
      low_p_past = kept-all 0 low_ps;
      low_q_past = kept-all 0 low_qs;
    }
      where
        whole : 1 * n ≡ 0 * n + n
        whole = omega arith

    -- the lists after level 0 has been filled in
    pub ready-first : {labels labels' low_ps low_qs : List ℕ} → n * n ≤ length labels → n ≤ length low_ps → n ≤ length low_qs → KeptOutside (0 * n) (0 * n + n) labels labels'
        → row_of n labels' 0 ≡ table n (λ v. get_or finest.labels v 0) → Ready n finest.labels finest.groups 0 labels' low_ps low_qs
    unfolding plant_of
    ready-first h p q kept row = record {
      labels_room = omega (arith, kept.length_same);
      low_p_room = p;
      low_q_room = q;
      within = omega (arith, f.counted, most-groups g 100000000 1 sound (omega arith));
      row = row;
    }

    -- several groupings: the search fills in the rest
    pub listed-all : {labels labels₁ low_ps low_qs labels₂ lowP₂ lowQ₂ : List ℕ} {to : ℕ} → (finest.groups ≡ coarsest.groups → ⊥) → KeptOutside (0 * n) (0 * n + n) labels labels₁
        → Searched n (plant_of n xs ys zs) finest.labels finest.owner finest.groups coarsest.labels coarsest.groups 0 to labels₁ low_ps low_qs labels₂ lowP₂ lowQ₂
        → Listed (plant_of n xs ys zs) (suc to) labels low_ps low_qs labels₂ lowP₂ lowQ₂
    unfolding plant_of
    listed-all {labels} {labels₁} {low_ps} {low_qs} {labels₂} {lowP₂} {lowQ₂} {to} other kept x = record {
      low_p_most = λ i h. x.most i zero-le (le_of_suc-le-suc h);
      hierarchy = hierarchy-of g 100000000 1 1 1000 to (row_of n labels₂) (λ i. get_or lowP₂ i 0) (λ i. get_or lowQ₂ i 0)
          (omega arith, le_refl 1) (le_refl 1, omega arith) (omega (arith, x.within, c.counted, some-group g 1 1000 sound (le_refl 1) a.some_device))
          (alone n xs ys zs a) above below (x.ladder 100000000 1 1 1000 (ends other));
      labels_past = past-kept (kept-join {f = 0 * n} (omega arith) (omega (arith, suc-mul to n)) kept x.labels_kept);
      low_p_past = rw last (past-kept x.low_p_kept);
      low_q_past = rw last (past-kept x.low_q_kept);
    }
      where
        last : suc to - 1 ≡ to
        last = omega arith

-- the first fault
module _ (n : ℕ) (xs ys zs : List ℕ) (labels low_ps low_qs : List ℕ) where
  abbrev fault : Refusal
  fault = hierarchy_fault n xs ys zs (length labels) (length low_ps) (length low_qs)

  fault-is : hierarchy_fault n xs ys zs (length labels) (length low_ps) (length low_qs)
      ≡ or_else (plant_fault n xs ys zs) (first_of (first_of (room_fault (n * n) (length labels) ∷ room_fault n (length low_ps) ∷ room_fault n (length low_qs) ∷ []) ∷ []))
  unfolding hierarchy_fault after_plant about plant_says nothing first_of
  fault-is = call-is n xs ys zs _ refl refl refl refl ∙ simp done_next

  -- a refused call
  call-refused : {r : Refusal} → fault ≡ r → (r.number ≡ 0 → ⊥)
      → HierarchyIs n xs ys zs labels low_ps low_qs (record { number = r.number; place = r.place; levels = 0 }) labels low_ps low_qs
  call-refused e h = record {
    refused = λ o. (rw e, refl, refl, refl);
    filled = λ z. absurd (h (ap (λ (t : Refusal). t.number) (sym e) ∙ z));
  }

  module _ {r : Refusal} (checked : r ≡ plant_fault n xs ys zs) where
    pub call-plant-refused : (r.number ≡ 0 → ⊥) → HierarchyIs n xs ys zs labels low_ps low_qs (record { number = r.number; place = r.place; levels = 0 }) labels low_ps low_qs
    call-plant-refused h = call-refused (fault-is ∙ call-plant n xs ys zs _ (rw checked at h) ∙ sym checked) h

    module _ (ok : r.number ≡ 0) where
      past : fault ≡ first_of (first_of (room_fault (n * n) (length labels) ∷ room_fault n (length low_ps) ∷ room_fault n (length low_qs) ∷ []) ∷ [])
      past = fault-is ∙ call-rest n xs ys zs _ (rw checked at ok)

      pub call-short : (length labels < n * n) ⊎ (length low_ps < n) ⊎ (length low_qs < n)
          → HierarchyIs n xs ys zs labels low_ps low_qs (record { number = 12; place = 0; levels = 0 }) labels low_ps low_qs
      unfolding first_of or_else cause done room_fault
      call-short h =
          call-refused {r = record { number = 12; place = 0 }} (past ∙ short (ltb (length labels) (n * n)) (ltb (length low_ps) n) (ltb (length low_qs) n) (any h)) (λ z. omega arith)
        where
          right : (u v : Bool) → v ≡ true → (u || v) ≡ true
          right true v e = refl
          right false v e = e

          any : (length labels < n * n) ⊎ (length low_ps < n) ⊎ (length low_qs < n) → (ltb (length labels) (n * n) || (ltb (length low_ps) n || ltb (length low_qs) n)) ≡ true
          any (inl a) = rw (lt-ltb _ _ a)
          any (inr (inl b)) = right (ltb (length labels) (n * n)) _ (rw (lt-ltb _ _ b))
          any (inr (inr c)) = right (ltb (length labels) (n * n)) _ (right (ltb (length low_ps) n) _ (lt-ltb _ _ c))

          short : (u v w : Bool) → (u || (v || w)) ≡ true → first_of (first_of (cause u 12 0 ∷ cause v 12 0 ∷ cause w 12 0 ∷ []) ∷ []) ≡ record { number = 12; place = 0 }
          short true v w e = refl
          short false true w e = refl
          short false false true e = refl
          short false false false e = absurd (false≢true e)

      -- what was filled in stands in the lent lists
      pub call-filled : (n * n ≤ length labels) × (n ≤ length low_ps) × (n ≤ length low_qs)
          → {filled low_ps' low_qs' : List ℕ} {levels : ℕ} → Listed (plant_of n xs ys zs) levels labels low_ps low_qs filled low_ps' low_qs'
          → {labels'' low_ps'' low_qs'' : List ℕ} → labels'' ≡ filled → low_ps'' ≡ low_ps' → low_qs'' ≡ low_qs'
          → HierarchyIs n xs ys zs labels low_ps low_qs (record { number = 0; place = 0; levels = levels }) labels'' low_ps'' low_qs''
      unfolding first_of or_else cause done room_fault
      call-filled rooms x a b c = rw (a, b, c) (record {
        refused = λ o. absurd (o (ap (λ (t : Refusal). t.number) room));
        filled = λ z. (refl, refl, x);
      })
        where
          room : fault ≡ done
          room = past ∙ simp (le-ltb _ _ rooms.0, le-ltb _ _ rooms.1, le-ltb _ _ rooms.2)
