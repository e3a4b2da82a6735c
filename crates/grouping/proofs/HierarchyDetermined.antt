-- Document 01, "What the contracts have to determine", of the hierarchy call and of the call for a joining rate.
--     hierarchy-call-determined, joining-determined   two answers that the contract allows are equal, by number, place and value
--     hierarchy-result-determined, joining-result-determined   so are two results
--     thirteen-exactly                                13 exactly if the devices never join
--     listed-differ, listed-occurs, listed-every      the listed levels are "the number of distinct groupings"
--     listed-connected                                the last level's groups are the connected parts
-- Assumes nothing.
use mathlib.Core.Path.{◌≡◌, refl, sym, ap, ap₂, ◌∙◌}
use mathlib.Core.List.{List, ◌++◌}
use mathlib.Core.Logic.{◌⊎◌, inl, inr, ◌↔◌}
use Prim.Native.Nat.{ℕ, zero, suc, ◌-◌, ◌*◌, ◌≤◌, ◌<◌}
use native.Mathlib.Nat.{le_step, lt-suc_self, zero-mul, suc-mul, min-le_left}
use native.Mathlib.Decide.{ℕ_discrete}
use native.Mathlib.Omega.{arith}
use lib.ListN.{length, get_or, take, drop, take-append-drop, length-take}
use lib.Seq.{take-add, get_or-take, ext_get_or}
use Rattle.std.specs.Prelude.{Result}
use Rattle.rules.specs.Refusal.{Refusal}
use Rattle.rules.specs.declared.Fault.{Fault}
use Rattle.cut.specs.declared.rate.Rate.{Rate}
use Rattle.grouping.proofs.Determined.{levels-told-same, joining-told-same}
use Rattle.rules.specs.Plant.{Plant, plant_of}
use Rattle.rules.specs.Accepted.{Sound, Accepted}
use Rattle.rules.specs.Groups.{groups}
use Rattle.rules.specs.Refusals.{or_else, first_of, after_plant, about, nothing, plant_says, plant_fault}
use Rattle.rules.specs.Hierarchy.{IsHierarchy, JoinsAt, NeverJoin}
use Rattle.rules.specs.Connected.{Connected}
use Rattle.rules.proofs.RefusalLaws.{call-is, call-plant, plant-accepted, accepted-sound}
use Rattle.rules.proofs.EndLaws.{accepted-carries}
use Rattle.rules.proofs.HierarchyLaws.{SameHierarchy, grouping-listed, each-occurs, all-differ, last-connected, hierarchy-determined}
use Rattle.rules.proofs.JoinLaws.{joins-determined, joins-or-never}
use Rattle.grouping.specs.Calls.{Levels, Joining, levels_told, joining_told, row_of, hierarchy_fault, PastKept, Listed, HierarchyIs, pair_fault, JoiningIs}

-- lists that are equal before k and from k on
parts-equal : (k : ℕ) (a b : List ℕ) → take k a ≡ take k b → drop k a ≡ drop k b → a ≡ b
parts-equal k a b t d = sym (take-append-drop k a) ∙ ap₂ ◌++◌ t d ∙ take-append-drop k b

-- k equal rows
rows-equal : (n k : ℕ) (a b : List ℕ) → ((i : ℕ) → i < k → row_of n a i ≡ row_of n b i) → take (k * n) a ≡ take (k * n) b
unfolding row_of
rows-equal n zero a b e = simp zero-mul
rows-equal n (suc k) a b e =
    rw suc-mul (take-add (k * n) n a ∙ ap₂ ◌++◌ (rows-equal n k a b (λ i h. e i (le_step h))) (e k (lt-suc_self k)) ∙ sym (take-add (k * n) n b))

-- k equal entries
entries-equal : (k : ℕ) (a b : List ℕ) → length a ≡ length b → ((i : ℕ) → i < k → get_or a i 0 ≡ get_or b i 0) → take k a ≡ take k b
entries-equal k a b l e =
    ext_get_or 0 (take k a) (take k b) (simp (length-take, l))
    (λ i h.
    let below : i < k = omega (arith, h, length-take k a, min-le_left k (length a)) in
    get_or-take k a i 0 below ∙ e i below ∙ sym (get_or-take k b i 0 below))

same-levels : {a b c a' b' c' : ℕ} → a ≡ a' → b ≡ b' → c ≡ c'
    → ◌≡◌ {A = Levels} (record { number = a; place = b; levels = c }) (record { number = a'; place = b'; levels = c' })
same-levels a b c = rw (a, b, c)

-- a call on a plant that is not refused has an accepted one
call-accepted : (n : ℕ) (xs ys zs : List ℕ) (rest : Refusal) → (or_else (plant_fault n xs ys zs) rest).number ≡ 0 → Accepted n xs ys zs
call-accepted n xs ys zs rest z = go (ℕ_discrete (plant_fault n xs ys zs).number 0)
  where
    go : Dec ((plant_fault n xs ys zs).number ≡ 0) → Accepted n xs ys zs
    go (yes h) = plant-accepted n xs ys zs _ refl h
    go (no h) = absurd (h (ap (λ (r : Refusal). r.number) (sym (call-plant n xs ys zs rest h)) ∙ z))

-- past the filled entries two lists are as they came
past_equal : {k k'' : ℕ} {old new new'' : List ℕ} → k ≡ k'' → PastKept k old new → PastKept k'' old new'' → drop k new ≡ drop k new''
past_equal e u v = u.past ∙ (rw e (sym v.past))

-- two lists with the same k filled entries
filled-equal : {k k'' : ℕ} {old new new'' : List ℕ} → k ≡ k'' → PastKept k old new → PastKept k'' old new'' → ((i : ℕ) → i < k → get_or new i 0 ≡ get_or new'' i 0) → new ≡ new''
filled-equal {k} {new = new} {new'' = new''} e u v same =
    parts-equal k new new'' (entries-equal k new new'' (u.length_same ∙ sym v.length_same) same) (past_equal e u v)

-- the hierarchy of a plant can be listed in one way only
listed-determined : {g : Plant} {levels levels'' : ℕ} {labels low_ps low_qs labels' low_ps' low_qs' labels'' low_ps'' low_qs'' : List ℕ}
    → Listed g levels labels low_ps low_qs labels' low_ps' low_qs' → Listed g levels'' labels low_ps low_qs labels'' low_ps'' low_qs''
    → (levels ≡ levels'') × (labels' ≡ labels'') × (low_ps' ≡ low_ps'') × (low_qs' ≡ low_qs'')
listed-determined {g} {levels} {levels''} {labels' = labels'} {low_ps'} {low_qs'} {labels''} {low_ps''} {low_qs''} a b = (
  same.counts,
  parts-equal (levels * g.devices) labels' labels'' (rows-equal g.devices levels labels' labels'' same.levels)
      (past_equal (ap (λ (k : ℕ). k * g.devices) same.counts) a.labels_past b.labels_past),
  filled-equal (ap (λ (k : ℕ). k - 1) same.counts) a.low_p_past b.low_p_past (λ i h. same.lows_p i (omega arith)),
  filled-equal (ap (λ (k : ℕ). k - 1) same.counts) a.low_q_past b.low_q_past (λ i h. same.lows_q i (omega arith)),
)
  where
    same : SameHierarchy levels levels'' (row_of g.devices labels') (row_of g.devices labels'') (λ i. get_or low_ps' i 0) (λ i. get_or low_qs' i 0) (λ i. get_or low_ps'' i 0) (λ i. get_or low_qs'' i 0)
    same = hierarchy-determined g levels levels'' _ _ _ _ _ _ a.hierarchy b.hierarchy

-- the hierarchy call: the answer, and the three lent lists afterwards
pub hierarchy-call-determined : {n : ℕ} {xs ys zs labels low_ps low_qs : List ℕ} {r r'' : Levels} {labels' low_ps' low_qs' labels'' low_ps'' low_qs'' : List ℕ}
    → HierarchyIs n xs ys zs labels low_ps low_qs r labels' low_ps' low_qs' → HierarchyIs n xs ys zs labels low_ps low_qs r'' labels'' low_ps'' low_qs''
    → (r ≡ r'') × (labels' ≡ labels'') × (low_ps' ≡ low_ps'') × (low_qs' ≡ low_qs'')
hierarchy-call-determined {n} {xs} {ys} {zs} {labels} {low_ps} {low_qs} {r} {r''} {labels'} {low_ps'} {low_qs'} {labels''} {low_ps''} {low_qs''} a b =
    go (ℕ_discrete fault.number 0)
  where
    fault : Refusal
    fault = hierarchy_fault n xs ys zs (length labels) (length low_ps) (length low_qs)

    go : Dec (fault.number ≡ 0) → (r ≡ r'') × (labels' ≡ labels'') × (low_ps' ≡ low_ps'') × (low_qs' ≡ low_qs'')
    go (yes z) =
        let u = a.filled z in
        let v = b.filled z in
        let same = listed-determined u.2 v.2 in
        (same-levels (u.0 ∙ sym v.0) (u.1 ∙ sym v.1) same.0, same.1, same.2, same.3)
    go (no h) =
        let u = a.refused h in
        let v = b.refused h in
        (u.0 ∙ sym v.0, u.1 ∙ sym v.1, u.2 ∙ sym v.2, u.3 ∙ sym v.3)

pub hierarchy-result-determined : {n : ℕ} {xs ys zs labels low_ps low_qs : List ℕ} {r r'' : Result ℕ Fault} {labels' low_ps' low_qs' labels'' low_ps'' low_qs'' : List ℕ}
    → HierarchyIs n xs ys zs labels low_ps low_qs (levels_told r) labels' low_ps' low_qs' → HierarchyIs n xs ys zs labels low_ps low_qs (levels_told r'') labels'' low_ps'' low_qs''
    → (r ≡ r'') × (labels' ≡ labels'') × (low_ps' ≡ low_ps'') × (low_qs' ≡ low_qs'')
hierarchy-result-determined {r = r} {r'' = r''} a b = let same = hierarchy-call-determined a b in (levels-told-same r r'' same.0, same.1, same.2, same.3)

same-joining : {a b c d a' b' c' d' : ℕ} → a ≡ a' → b ≡ b' → c ≡ c' → d ≡ d'
    → ◌≡◌ {A = Joining} (record { number = a; place = b; p = c; q = d }) (record { number = a'; place = b'; p = c'; q = d' })
same-joining a b c d = rw (a, b, c, d)

-- the call for a joining rate
pub joining-determined : {n : ℕ} {xs ys zs : List ℕ} {i j : ℕ} {r r' : Joining} → JoiningIs n xs ys zs i j r → JoiningIs n xs ys zs i j r' → r ≡ r'
joining-determined {n} {xs} {ys} {zs} {i} {j} {r} {r'} a b = go (ℕ_discrete (pair_fault n xs ys zs i j).number 0)
  where
    g : Plant
    g = plant_of n xs ys zs

    Answered : Joining → Type 0
    Answered t = (NeverJoin g i j × (t ≡ record { number = 13; place = 0; p = 0; q = 0 })) ⊎ (JoinsAt g i j t.p t.q × (t.number ≡ 0) × (t.place ≡ 0))

    both : Answered r → Answered r' → r ≡ r'
    both (inl u) (inl v) = u.1 ∙ sym v.1
    both (inl u) (inr v) = absurd (joins-or-never v.0 u.0)
    both (inr u) (inl v) = absurd (joins-or-never u.0 v.0)
    both (inr u) (inr v) =
        let same = joins-determined u.0 v.0 in
        same-joining (u.1 ∙ sym v.1) (u.2 ∙ sym v.2) same.0 same.1

    go : Dec ((pair_fault n xs ys zs i j).number ≡ 0) → r ≡ r'
    go (yes z) = both (a.answered z) (b.answered z)
    go (no h) = a.refused h ∙ sym (b.refused h)

pub joining-result-determined : {n : ℕ} {xs ys zs : List ℕ} {i j : ℕ} {r r' : Result Rate Fault} → JoiningIs n xs ys zs i j (joining_told r) → JoiningIs n xs ys zs i j (joining_told r') → r ≡ r'
joining-result-determined {r = r} {r' = r'} a b = joining-told-same r r' (joining-determined a b)

-- "refused with 13 exactly if no positive rate puts them in one group"
pub thirteen-exactly : {n : ℕ} {xs ys zs : List ℕ} {i j : ℕ} {r : Joining} → JoiningIs n xs ys zs i j r → (pair_fault n xs ys zs i j).number ≡ 0
    → (r.number ≡ 13) ↔ NeverJoin (plant_of n xs ys zs) i j
thirteen-exactly {n} {xs} {ys} {zs} {i} {j} {r} a z = go (a.answered z)
  where
    g : Plant
    g = plant_of n xs ys zs

    go : (NeverJoin g i j × (r ≡ record { number = 13; place = 0; p = 0; q = 0 })) ⊎ (JoinsAt g i j r.p r.q × (r.number ≡ 0) × (r.place ≡ 0))
        → (r.number ≡ 13) ↔ NeverJoin g i j
    go (inl u) = (λ e. u.0, λ never. ap (λ (t : Joining). t.number) u.1)
    go (inr u) = (λ e. absurd (omega (arith, u.1)), λ never. absurd (joins-or-never u.0 never))

-- what the hierarchy call has filled, where it is not refused
module _ {n : ℕ} {xs ys zs labels low_ps low_qs : List ℕ} {r : Levels} {labels' low_ps' low_qs' : List ℕ}
    (a : HierarchyIs n xs ys zs labels low_ps low_qs r labels' low_ps' low_qs')
    (z : (hierarchy_fault n xs ys zs (length labels) (length low_ps) (length low_qs)).number ≡ 0) where
  pub hierarchy-accepted : Accepted n xs ys zs
  unfolding hierarchy_fault after_plant about plant_says nothing first_of
  hierarchy-accepted = call-accepted n xs ys zs _ (ap (λ (t : Refusal). t.number) (sym (call-is n xs ys zs _ refl refl refl refl)) ∙ z)

  abbrev g : Plant
  g = plant_of n xs ys zs

  sound : Sound g
  sound = accepted-sound n xs ys zs hierarchy-accepted

  is : IsHierarchy g r.levels (row_of n labels') (λ i. get_or low_ps' i 0) (λ i. get_or low_qs' i 0)
  unfolding plant_of
  is = (a.filled z).2.hierarchy

  -- "the number of distinct groupings": any two listed levels differ
  pub listed-differ : (i j : ℕ) → i < j → j < r.levels → row_of n labels' i ≡ row_of n labels' j → ⊥
  listed-differ = all-differ g r.levels _ _ _ is sound

  -- each is the grouping at some positive rate
  pub listed-occurs : (i : ℕ) → i < r.levels → (p : ℕ) × (q : ℕ) × (1 ≤ p) × (1 ≤ q) × (row_of n labels' i ≡ groups (plant_of n xs ys zs) p q)
  listed-occurs i h =
      let (x, e) = each-occurs g r.levels _ _ _ is i h in
      (x.p, x.q, x.some_p, x.some_q, e)

  -- and every grouping that occurs at a positive rate is listed
  pub listed-every : (p q : ℕ) → 1 ≤ p → 1 ≤ q → (i : ℕ) × (i < r.levels) × (row_of n labels' i ≡ groups (plant_of n xs ys zs) p q)
  listed-every = grouping-listed g r.levels _ _ _ is

  -- of the last level, "its groups are the connected parts of the plant"
  pub listed-connected : (i j : ℕ) → i < n → j < n
      → (get_or (row_of n labels' (r.levels - 1)) i 0 ≡ get_or (row_of n labels' (r.levels - 1)) j 0) ↔ Connected (plant_of n xs ys zs) i j
  unfolding plant_of
  listed-connected = last-connected g r.levels _ _ _ is sound (accepted-carries n xs ys zs hierarchy-accepted)
