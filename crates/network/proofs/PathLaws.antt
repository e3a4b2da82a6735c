-- The way back from a place of the queue to place 0, and what goes along it.
--     far-two, far-other                the far ends of two nodes of one line
--     over-sent                         what goes over one line out of one of its ends has gone to the other end
--     sent-none, sent-on                nothing has gone from a node to itself; what went on to a place went on from the place before
--     clear-spare, clear-rest            the last line of a way with something to spare, and the way before it
--     clear_kept                        what goes over the last line of a way leaves the way before it as clear as it was
--     Narrow, narrow_step, narrow-end    the least spare on the way, found from its end back to place 0
--     Used, used-spare, used-none, used-end   the least place of the way whose line has nothing to spare, found from its end back to place 0
--     Going, going_step      what has gone over the lines of the way, from its end back to place 0
--     going-kept, kept_full                and what that left of the spares
-- Assumes nothing.
use Rattle.std.specs.Prelude.{Option, None, Some, IfSome, IfNone}
use Prim.Native.Nat.{ℕ, ◌+◌, ◌-◌, ◌≤◌, ◌<◌}
use mathlib.Core.Path.{◌≡◌, refl, sym, ap, ◌∙◌}
use mathlib.Core.Logic.{◌⊎◌, inl, inr, ⊎_elim}
use mathlib.Core.Bool.{Bool, true, false, cond}
use mathlib.Core.List.{List}
use native.Mathlib.Decide.{ℕ_discrete, dec_lt}
use native.Mathlib.Omega.{arith}
use borrow.Author.Tests.{eq-eqb, ne_eqb}
use lib.Dec.{eqb}
use lib.ListN.{length, get_or}
use lib.Seq.{get_or-set_same, get_or-set_other}
use Rattle.rules.specs.Numbers.{sum}
use Rattle.rules.proofs.SumLaws.{sum-change}
use Rattle.network.proofs.EndLaws.{touches-other, far-first, far-second}
use Rattle.network.specs.Search.{passing, lines_leave, spare_from_of, spare_to, far_end_of, touches, Way, Clear, start, onward, On, here, back, forth_after, back_after, Sent, Kept}
use Rattle.rules.specs.Cut.{Devices}

-- of two nodes that a line touches, the far ends are the same, or the second is the far end of the first
pub far-two : (xs ys : List ℕ) (l u v : ℕ) → touches xs ys l u ≡ true → touches xs ys l v ≡ true
    → (far_end_of xs ys l u ≡ far_end_of xs ys l v) ⊎ (far_end_of xs ys l u ≡ v)
far-two xs ys l u v s t = go (ℕ_discrete (get_or xs l 0) u) (ℕ_discrete (get_or xs l 0) v)
  where
    go : Dec (get_or xs l 0 ≡ u) → Dec (get_or xs l 0 ≡ v) → (far_end_of xs ys l u ≡ far_end_of xs ys l v) ⊎ (far_end_of xs ys l u ≡ v)
    go (yes d) (yes e) = inl (far-first xs ys l u d ∙ sym (far-first xs ys l v e))
    go (yes d) (no i) = inr (far-first xs ys l u d ∙ touches-other xs ys l v t i)
    go (no h) (yes e) = inr (far-second xs ys l u h ∙ e)
    go (no h) (no i) = inl (far-second xs ys l u h ∙ sym (far-second xs ys l v i))

-- and two that differ are each other's far end
pub far-other : (xs ys : List ℕ) (l u v : ℕ) → touches xs ys l u ≡ true → touches xs ys l v ≡ true → (u ≡ v → ⊥) → far_end_of xs ys l u ≡ v
far-other xs ys l u v s t n = go (ℕ_discrete (get_or xs l 0) u) (ℕ_discrete (get_or xs l 0) v)
  where
    go : Dec (get_or xs l 0 ≡ u) → Dec (get_or xs l 0 ≡ v) → far_end_of xs ys l u ≡ v
    go (yes d) (yes e) = absurd (n (sym d ∙ e))
    go (yes d) (no i) = far-first xs ys l u d ∙ touches-other xs ys l v t i
    go (no h) (yes e) = far-second xs ys l u h ∙ e
    go (no h) (no i) = absurd (n (sym (touches-other xs ys l u s h) ∙ touches-other xs ys l v t i))

-- one line: a and b say whether its first and its second end are in the set, s whether δ goes out of the first end or out of the second
crossed : (s a b : Bool) (f r δ : ℕ) → δ ≤ cond s f r
    → passing a b (cond s (f - δ) (f + δ)) (cond s (r + δ) (r - δ)) + cond (cond s a b) δ 0 ≡ passing a b f r + cond (cond s b a) δ 0
unfolding passing
crossed true true true f r δ h = omega arith
crossed true true false f r δ h = omega arith
crossed true false true f r δ h = omega arith
crossed true false false f r δ h = omega arith
crossed false true true f r δ h = omega arith
crossed false true false f r δ h = omega arith
crossed false false true f r δ h = omega arith
crossed false false false f r δ h = omega arith

kept-both : (s : Bool) (f r δ : ℕ) → δ ≤ cond s f r → cond s (f - δ) (f + δ) + cond s (r + δ) (r - δ) ≡ f + r
kept-both true f r δ h = omega arith
kept-both false f r δ h = omega arith

-- what can leave T over line k
abbrev over : List ℕ → List ℕ → List ℕ → List ℕ → Devices → ℕ → ℕ
over xs ys fs rs T k = passing (T (get_or xs k 0)) (T (get_or ys k 0)) (get_or fs k 0) (get_or rs k 0)

-- δ goes over line l out of node u
module _ (xs fs rs : List ℕ) (l u δ : ℕ) where
  forth-same : l < length fs → get_or (forth_after xs fs l u δ) l 0 ≡ cond (eqb (get_or xs l 0) u) (get_or fs l 0 - δ) (get_or fs l 0 + δ)
  unfolding forth_after
  forth-same b = get_or-set_same fs l (cond (eqb (get_or xs l 0) u) (get_or fs l 0 - δ) (get_or fs l 0 + δ)) 0 b

  back-same : l < length rs → get_or (back_after xs rs l u δ) l 0 ≡ cond (eqb (get_or xs l 0) u) (get_or rs l 0 + δ) (get_or rs l 0 - δ)
  unfolding back_after
  back-same b = get_or-set_same rs l (cond (eqb (get_or xs l 0) u) (get_or rs l 0 + δ) (get_or rs l 0 - δ)) 0 b

  module _ (k : ℕ) (h : k ≡ l → ⊥) where
    forth-other : get_or (forth_after xs fs l u δ) k 0 ≡ get_or fs k 0
    unfolding forth_after
    forth-other = get_or-set_other fs l k (cond (eqb (get_or xs l 0) u) (get_or fs l 0 - δ) (get_or fs l 0 + δ)) 0 h

    back-other : get_or (back_after xs rs l u δ) k 0 ≡ get_or rs k 0
    unfolding back_after
    back-other = get_or-set_other rs l k (cond (eqb (get_or xs l 0) u) (get_or rs l 0 + δ) (get_or rs l 0 - δ)) 0 h

    pub spare-other : (v : ℕ) → spare_from_of xs (forth_after xs fs l u δ) (back_after xs rs l u δ) k v ≡ spare_from_of xs fs rs k v
    unfolding spare_from_of
    spare-other v = rw (forth-other, back-other)

  -- the spare over the line itself, the way that δ goes
  spare-same : l < length fs → l < length rs → spare_from_of xs (forth_after xs fs l u δ) (back_after xs rs l u δ) l u ≡ spare_from_of xs fs rs l u - δ
  unfolding spare_from_of
  spare-same p q = rw (forth-same p, back-same q) (go (eqb (get_or xs l 0) u))
    where
      go : (s : Bool) → cond s (cond s (get_or fs l 0 - δ) (get_or fs l 0 + δ)) (cond s (get_or rs l 0 + δ) (get_or rs l 0 - δ)) ≡ cond s (get_or fs l 0) (get_or rs l 0) - δ
      go true = refl
      go false = refl

  pub over-sent : (ys : List ℕ) → l < length xs → l < length fs → l < length rs → touches xs ys l u ≡ true → δ ≤ spare_from_of xs fs rs l u
      → Sent xs ys u (far_end_of xs ys l u) δ fs rs (forth_after xs fs l u δ) (back_after xs rs l u δ)
  unfolding spare_from_of lines_leave
  over-sent ys b p q t h = record { kept = λ k c. both k (ℕ_discrete k l); moved = leaves }
    where
      both : (k : ℕ) → Dec (k ≡ l) → get_or (forth_after xs fs l u δ) k 0 + get_or (back_after xs rs l u δ) k 0 ≡ get_or fs k 0 + get_or rs k 0
      both k (yes e) = rw (e, forth-same p, back-same q) (kept-both (eqb (get_or xs l 0) u) (get_or fs l 0) (get_or rs l 0) δ h)
      both k (no i) = rw (forth-other k i, back-other k i)

      near : (T : Devices) → T u ≡ cond (eqb (get_or xs l 0) u) (T (get_or xs l 0)) (T (get_or ys l 0))
      near T = go (ℕ_discrete (get_or xs l 0) u)
        where
          go : Dec (get_or xs l 0 ≡ u) → T u ≡ cond (eqb (get_or xs l 0) u) (T (get_or xs l 0)) (T (get_or ys l 0))
          go (yes e) = rw (eq-eqb _ _ e) (ap T (sym e))
          go (no i) = rw (ne_eqb _ _ i) (ap T (sym (touches-other xs ys l u t i)))

      far : (T : Devices) → T (far_end_of xs ys l u) ≡ cond (eqb (get_or xs l 0) u) (T (get_or ys l 0)) (T (get_or xs l 0))
      far T = go (ℕ_discrete (get_or xs l 0) u)
        where
          go : Dec (get_or xs l 0 ≡ u) → T (far_end_of xs ys l u) ≡ cond (eqb (get_or xs l 0) u) (T (get_or ys l 0)) (T (get_or xs l 0))
          go (yes e) = rw (eq-eqb _ _ e, far-first xs ys l u e)
          go (no i) = rw (ne_eqb _ _ i, far-second xs ys l u i)

      here : (T : Devices) → over xs ys (forth_after xs fs l u δ) (back_after xs rs l u δ) T l + cond (T u) δ 0 ≡ over xs ys fs rs T l + cond (T (far_end_of xs ys l u)) δ 0
      here T = rw (near T, far T, forth-same p, back-same q) (crossed (eqb (get_or xs l 0) u) (T (get_or xs l 0)) (T (get_or ys l 0)) (get_or fs l 0) (get_or rs l 0) δ h)

      leaves : (T : Devices) → sum (length xs) (over xs ys (forth_after xs fs l u δ) (back_after xs rs l u δ) T) + cond (T u) δ 0 ≡ sum (length xs) (over xs ys fs rs T) + cond (T (far_end_of xs ys l u)) δ 0
      leaves T = omega (arith, here T, sum-change (length xs) (over xs ys fs rs T) (over xs ys (forth_after xs fs l u δ) (back_after xs rs l u δ) T) l b (λ k c i. rw (forth-other k i, back-other k i)))

module _ (xs ys : List ℕ) where
  pub sent-none : (d δ : ℕ) (fs rs : List ℕ) → Sent xs ys d d δ fs rs fs rs
  sent-none d δ fs rs = record { kept = λ l b. refl; moved = λ T. refl }

  pub sent-on : {d u e δ : ℕ} {fs rs fs' rs' fs'' rs'' : List ℕ} → Sent xs ys u e δ fs rs fs' rs' → Sent xs ys d u δ fs' rs' fs'' rs''
      → Sent xs ys d e δ fs rs fs'' rs''
  sent-on p q = record { kept = λ l b. q.kept l b ∙ p.kept l b; moved = λ T. q.moved T ∙ p.moved T }

-- the last line of a way that is clear, and the way before it
module _ (xs fs rs nodes vias froms : List ℕ) (δ : ℕ) where
  pub clear-spare : {j : ℕ} → 1 ≤ j → Clear xs fs rs nodes vias froms δ j → δ ≤ spare_to xs fs rs nodes vias froms j
  clear-spare b start = absurd (omega arith)
  clear-spare b (onward p r rest) = r

  pub clear-rest : {j : ℕ} → 1 ≤ j → Clear xs fs rs nodes vias froms δ j → Clear xs fs rs nodes vias froms δ (get_or froms j 0)
  clear-rest b start = absurd (omega arith)
  clear-rest b (onward p r rest) = rest

-- no line comes twice on a way
module _ (xs ys nodes vias froms : List ℕ) (count : ℕ) (way : Way xs ys nodes vias froms count) (j : ℕ) (b : j < count) where
  via-differ : (i : ℕ) → 1 ≤ i → i < j → get_or vias i 0 ≡ get_or vias j 0 → ⊥
  via-differ i p m e =
      let c : i < count = omega arith in
      let o : 1 ≤ j = omega arith in
      let a : get_or froms i 0 < i = way.parent i p c in
      let s = way.reaches j o b in
      let r : far_end_of xs ys (get_or vias j 0) (get_or nodes (get_or froms i 0) 0) ≡ get_or nodes i 0 = rw e at (way.reaches i p c) in
      ⊎_elim (λ d. omega (arith, way.once j i b c (sym s ∙ d ∙ r))) (λ d. omega (arith, way.once j (get_or froms i 0) b (omega arith) (sym s ∙ d)))
      (far-two xs ys (get_or vias j 0) (get_or nodes (get_or froms j 0) 0) (get_or nodes (get_or froms i 0) 0) (way.leaves j o b) (rw e at (way.leaves i p c)))

  pub clear_kept : (fs rs : List ℕ) (u δ : ℕ) {ε i : ℕ} → i < j → Clear xs fs rs nodes vias froms ε i
      → Clear xs (forth_after xs fs (get_or vias j 0) u δ) (back_after xs rs (get_or vias j 0) u δ) nodes vias froms ε i
  clear_kept fs rs u δ m start = start
  clear_kept fs rs u δ m (onward {j = i} p r rest) =
      onward p (rw (spare-other xs fs rs (get_or vias j 0) u δ (get_or vias i 0) (via-differ i p m) (get_or nodes (get_or froms i 0) 0)) r)
      (clear_kept fs rs u δ (omega (arith, way.parent i p (omega arith))) rest)

-- one of two places comes first
apart : (i j : ℕ) → (i ≡ j → ⊥) → (i < j) ⊎ (j < i)
apart i j n = elim (dec_lt i j) [ yes m ↦ inl m | no m ↦ inr (omega arith) ]

-- whatever is at most `most` and can go to place j can go to place `last`; `most` is the limit or what the line of a place on the way has to spare
pub record Narrow (xs fs rs nodes vias froms : List ℕ) (last limit most j : ℕ) : Type 0 where
  pub some : 1 ≤ most
  pub capped : most ≤ limit
  pub within : j ≤ last
  pub on : (i : ℕ) → On froms j i → On froms last i
  pub full : (most ≡ limit) ⊎ ((i : ℕ) × (1 ≤ i) × (i < last + 1) × On froms last i × (spare_to xs fs rs nodes vias froms i ≡ most))
  pub clear : (δ : ℕ) → δ ≤ most → Clear xs fs rs nodes vias froms δ j → Clear xs fs rs nodes vias froms δ last

module _ (xs fs rs nodes vias froms : List ℕ) (last limit : ℕ) where
  pub narrow_step : {most j : ℕ} (least : ℕ) → Narrow xs fs rs nodes vias froms last limit most j → 1 ≤ j → get_or froms j 0 < j
      → 1 ≤ least → least ≤ most → least ≤ spare_to xs fs rs nodes vias froms j
      → (least ≡ most) ⊎ (least ≡ spare_to xs fs rs nodes vias froms j)
      → Narrow xs fs rs nodes vias froms last limit least (get_or froms j 0)
  narrow_step {most} {j} least n o p s m r which = record {
    some = s;
    capped = omega (arith, n.capped);
    within = omega (arith, n.within);
    on = λ i w. n.on i (back o w);
    full = ⊎_elim (λ e. rw e n.full) (λ e. inr (j, o, omega (arith, n.within), n.on j here, sym e)) which;
    clear = λ δ b c. n.clear δ (omega arith) (onward o (omega arith) c);
  }

  pub narrow-end : {most j : ℕ} → Narrow xs fs rs nodes vias froms last limit most j → j ≤ 0 → Clear xs fs rs nodes vias froms most last
  narrow-end {most} {j} n h =
      let e : 0 ≡ j = omega arith in
      let z : Clear xs fs rs nodes vias froms most 0 = start in
      n.clear most (omega arith) (rw e at z)

-- of the places on the way from `last` those above j have been gone through, and `used` is the least of them whose line has nothing to spare, or `last` + 1
pub record Used (xs fs rs nodes vias froms : List ℕ) (last used j : ℕ) : Type 0 where
  pub some : 1 ≤ used
  pub most : used ≤ last + 1
  pub none : used < last + 1 → spare_to xs fs rs nodes vias froms used ≡ 0
  pub within : j ≤ last
  pub each : (i : ℕ) → 1 ≤ i → On froms last i → On froms j i ⊎ ((j < i) × (i < used → 1 ≤ spare_to xs fs rs nodes vias froms i))

-- the first place on a way, and the way on from there
on-first : {froms : List ℕ} {j i : ℕ} → On froms j i → (i ≡ j) ⊎ On froms (get_or froms j 0) i
on-first here = inl refl
on-first (back o r) = inr r

-- no place on a way is above its end, and the way from place 0 has no other
on-most : {xs ys nodes vias froms : List ℕ} {count j i : ℕ} → Way xs ys nodes vias froms count → On froms j i → j < count → i ≤ j
on-most way here b = omega arith
on-most {j = j} way (back o r) b =
    let less = way.parent j o b in
    omega (arith, on-most way r (omega arith))

on_none : {froms : List ℕ} {j i : ℕ} → On froms j i → j ≤ 0 → i ≤ 0
on_none here z = z
on_none (back o r) z = absurd (omega arith)

module _ (xs fs rs nodes vias froms : List ℕ) (last : ℕ) where
  module _ {used j : ℕ} (u : Used xs fs rs nodes vias froms last used j) where
    module _ (o : 1 ≤ j) (p : get_or froms j 0 < j) where
      pub used-spare : 1 ≤ spare_to xs fs rs nodes vias froms j → Used xs fs rs nodes vias froms last used (get_or froms j 0)
      used-spare s = record {
        some = u.some;
        most = u.most;
        none = u.none;
        within = omega (arith, u.within);
        each = λ i m w. ⊎_elim (λ r. ⊎_elim (λ e. inr (rw e p, λ b. rw e s)) inl (on-first r)) (λ r. inr (omega (arith, r.0), r.1)) (u.each i m w);
      }

      pub used-none : spare_to xs fs rs nodes vias froms j ≡ 0 → Used xs fs rs nodes vias froms last j (get_or froms j 0)
      used-none z = record {
        some = o;
        most = omega (arith, u.within);
        none = λ b. z;
        within = omega (arith, u.within);
        each = λ i m w. ⊎_elim (λ r. ⊎_elim (λ e. inr (rw e p, λ b. absurd (omega arith))) inl (on-first r)) (λ r. inr (omega (arith, r.0), λ b. absurd (omega (arith, r.0)))) (u.each i m w);
      }

    pub used-end : j ≤ 0 → (i : ℕ) → 1 ≤ i → On froms last i → i < used → 1 ≤ spare_to xs fs rs nodes vias froms i
    used-end z i m w b = ⊎_elim (λ r. absurd (omega (arith, on_none r z))) (λ r. r.1 b) (u.each i m w)

-- δ has gone from place j to place `last`, and can still go to place j: the lines of the way above j have lost δ, and the lines of the places up to j nothing
pub record Going (xs ys fs₀ rs₀ nodes vias froms : List ℕ) (last δ : ℕ) (fs rs : List ℕ) (j : ℕ) : Type 0 where
  pub within : j ≤ last
  pub clear : Clear xs fs rs nodes vias froms δ j
  pub sent : Sent xs ys (get_or nodes j 0) (get_or nodes last 0) δ fs₀ rs₀ fs rs
  pub on : (i : ℕ) → On froms j i → On froms last i
  pub ahead : (i : ℕ) → 1 ≤ i → i < j + 1 → spare_to xs fs rs nodes vias froms i ≡ spare_to xs fs₀ rs₀ nodes vias froms i
  pub gone : (i : ℕ) → 1 ≤ i → On froms last i → On froms j i ⊎ ((j < i) × (spare_to xs fs rs nodes vias froms i + δ ≡ spare_to xs fs₀ rs₀ nodes vias froms i))
  pub grown : (l u : ℕ) → (spare_from_of xs fs rs l u ≤ spare_from_of xs fs₀ rs₀ l u) ⊎ ((i : ℕ) × (1 ≤ i) × (i < last + 1) × (get_or vias i 0 ≡ l) × (u ≡ get_or nodes (get_or froms i 0) 0 → ⊥))
  pub lost : (i : ℕ) → 1 ≤ i → i < last + 1 → (spare_to xs fs rs nodes vias froms i ≡ spare_to xs fs₀ rs₀ nodes vias froms i) ⊎ On froms last i

module _ (xs ys fs₀ rs₀ nodes vias froms : List ℕ) (last δ : ℕ) where
  pub going-kept : {fs rs : List ℕ} {j : ℕ} → Going xs ys fs₀ rs₀ nodes vias froms last δ fs rs j → j ≤ 0 → Kept xs nodes vias froms last δ fs₀ rs₀ fs rs
  going-kept g h = record {
    grown = g.grown;
    lost = g.lost;
    took = λ i m o. ⊎_elim (λ w. absurd (omega (arith, on_none w h))) (λ w. w.1) (g.gone i m o);
  }

  module _ (way : Way xs ys nodes vias froms (last + 1)) {fs rs : List ℕ} {j : ℕ} (g : Going xs ys fs₀ rs₀ nodes vias froms last δ fs rs j) (o : 1 ≤ j) where
    pub going-below : j < last + 1
    going-below = omega (arith, g.within)

    -- the lists after the line to place j, and the spares in them
    abbrev forth' : List ℕ
    forth' = forth_after xs fs (get_or vias j 0) (get_or nodes (get_or froms j 0) 0) δ

    abbrev back' : List ℕ
    back' = back_after xs rs (get_or vias j 0) (get_or nodes (get_or froms j 0) 0) δ

    elsewhere : (l : ℕ) → (l ≡ get_or vias j 0 → ⊥) → (v : ℕ) → spare_from_of xs forth' back' l v ≡ spare_from_of xs fs rs l v
    elsewhere = spare-other xs fs rs (get_or vias j 0) (get_or nodes (get_or froms j 0) 0) δ

    -- no other place of the queue came by that line
    differ : (i : ℕ) → 1 ≤ i → i < last + 1 → (i ≡ j → ⊥) → get_or vias i 0 ≡ get_or vias j 0 → ⊥
    differ i p b n e =
        ⊎_elim (λ m. via-differ xs ys nodes vias froms (last + 1) way j going-below i p m e) (λ m. via-differ xs ys nodes vias froms (last + 1) way i b j o m (sym e))
        (apart i j n)

    module _ (p : length xs ≤ length fs) (q : length xs ≤ length rs) where
      line : get_or vias j 0 < length xs
      line = way.line j o going-below

      -- out of the node that place j came from the spare over its line falls
      falls : (l u : ℕ) → l ≡ get_or vias j 0 → u ≡ get_or nodes (get_or froms j 0) 0 → spare_from_of xs forth' back' l u ≤ spare_from_of xs fs rs l u
      falls l u d e = rw (d, e, spare-same xs fs rs (get_or vias j 0) (get_or nodes (get_or froms j 0) 0) δ (omega (arith, line)) (omega (arith, line))) (omega arith)

      step-grown : (l u : ℕ) → Dec (l ≡ get_or vias j 0) → Dec (u ≡ get_or nodes (get_or froms j 0) 0)
          → (spare_from_of xs forth' back' l u ≤ spare_from_of xs fs₀ rs₀ l u) ⊎ ((i : ℕ) × (1 ≤ i) × (i < last + 1) × (get_or vias i 0 ≡ l) × (u ≡ get_or nodes (get_or froms i 0) 0 → ⊥))
      step-grown l u (yes d) (yes e) = ⊎_elim (λ h. inl (omega (arith, falls l u d e))) inr (g.grown l u)
      step-grown l u (yes d) (no n) = inr (j, o, going-below, sym d, n)
      step-grown l u (no n) e = ⊎_elim (λ h. inl (omega (arith, elsewhere l n u))) inr (g.grown l u)

      step-lost : (i : ℕ) → 1 ≤ i → i < last + 1 → Dec (i ≡ j)
          → (spare_to xs forth' back' nodes vias froms i ≡ spare_to xs fs₀ rs₀ nodes vias froms i) ⊎ On froms last i
      step-lost i m b (yes e) = inr (rw e (g.on j here))
      step-lost i m b (no n) = ⊎_elim (λ e. inl (elsewhere (get_or vias i 0) (differ i m b n) (get_or nodes (get_or froms i 0) 0) ∙ e)) inr (g.lost i m b)

      -- the line to place j loses δ
      step-took : spare_to xs forth' back' nodes vias froms j + δ ≡ spare_to xs fs₀ rs₀ nodes vias froms j
      step-took =
          rw (spare-same xs fs rs (get_or vias j 0) (get_or nodes (get_or froms j 0) 0) δ (omega (arith, line)) (omega (arith, line)))
          (omega (arith, clear-spare xs fs rs nodes vias froms δ o g.clear, g.ahead j o (omega arith)))

      step_gone : (i : ℕ) → 1 ≤ i → On froms last i
          → On froms (get_or froms j 0) i ⊎ ((get_or froms j 0 < i) × (spare_to xs forth' back' nodes vias froms i + δ ≡ spare_to xs fs₀ rs₀ nodes vias froms i))
      step_gone i m w = ⊎_elim (λ r. ⊎_elim at_last inl (on-first r)) before (g.gone i m w)
        where
          at_last : i ≡ j → On froms (get_or froms j 0) i ⊎ ((get_or froms j 0 < i) × (spare_to xs forth' back' nodes vias froms i + δ ≡ spare_to xs fs₀ rs₀ nodes vias froms i))
          at_last e = inr (omega (arith, way.parent j o going-below), rw e step-took)

          before : (j < i) × (spare_to xs fs rs nodes vias froms i + δ ≡ spare_to xs fs₀ rs₀ nodes vias froms i)
              → On froms (get_or froms j 0) i ⊎ ((get_or froms j 0 < i) × (spare_to xs forth' back' nodes vias froms i + δ ≡ spare_to xs fs₀ rs₀ nodes vias froms i))
          before r = inr (omega (arith, r.0, way.parent j o going-below), rw (elsewhere (get_or vias i 0) (differ i m (omega (arith, on-most way w (omega arith))) (λ e. omega (arith, r.0))) (get_or nodes (get_or froms i 0) 0)) r.1)

      step-ahead : (i : ℕ) → 1 ≤ i → i < get_or froms j 0 + 1 → spare_to xs forth' back' nodes vias froms i ≡ spare_to xs fs₀ rs₀ nodes vias froms i
      step-ahead i m b =
          let less : i < j = omega (arith, way.parent j o going-below) in
          elsewhere (get_or vias i 0) (differ i m (omega (arith, g.within)) (λ e. omega arith)) (get_or nodes (get_or froms i 0) 0) ∙ g.ahead i m (omega arith)

      clear-on : {ε : ℕ} → Clear xs fs rs nodes vias froms ε j → Clear xs forth' back' nodes vias froms ε (get_or froms j 0)
      clear-on {ε} c = clear_kept xs ys nodes vias froms (last + 1) way j going-below fs rs (get_or nodes (get_or froms j 0) 0) δ (way.parent j o going-below) (clear-rest xs fs rs nodes vias froms ε o c)

      pub going_step : Going xs ys fs₀ rs₀ nodes vias froms last δ forth' back' (get_or froms j 0)
      going_step = record {
        within = omega (arith, g.within, way.parent j o going-below);
        clear = clear-on g.clear;
        sent = sent-on xs ys g.sent (rw (way.reaches j o going-below) at (over-sent xs fs rs (get_or vias j 0) (get_or nodes (get_or froms j 0) 0) δ ys line (omega (arith, line)) (omega (arith, line)) (way.leaves j o going-below) (clear-spare xs fs rs nodes vias froms δ o g.clear)));
        on = λ i w. g.on i (back o w);
        ahead = step-ahead;
        gone = step_gone;
        grown = λ l u. step-grown l u (ℕ_discrete l (get_or vias j 0)) (ℕ_discrete u (get_or nodes (get_or froms j 0) 0));
        lost = λ i m b. step-lost i m b (ℕ_discrete i j);
      }

-- where every line of the way has something to spare after the most that could go went along it, that was the limit
pub kept_full : {xs nodes vias froms : List ℕ} {last δ : ℕ} {fs rs fs' rs' : List ℕ} → Kept xs nodes vias froms last δ fs rs fs' rs' → (limit : ℕ)
    → (δ ≡ limit) ⊎ ((i : ℕ) × (1 ≤ i) × (i < last + 1) × On froms last i × (spare_to xs fs rs nodes vias froms i ≡ δ))
    → ((i : ℕ) → 1 ≤ i → On froms last i → i < last + 1 → 1 ≤ spare_to xs fs' rs' nodes vias froms i) → δ ≡ limit
kept_full kept limit full some = ⊎_elim (λ e. e) (λ w. absurd (omega (arith, some w.0 w.1 w.3 w.2, kept.took w.0 w.1 w.3, w.4))) full

-- what holds of an answer that may be none, by what it is
pub on-none : {P : Type 0} (o : Option ℕ) → (o ≡ None → P) → IfNone o P
on-none None f = f refl
on-none (Some x) f = tt

pub on-some : {P : ℕ → Type 0} (o : Option ℕ) → ((x : ℕ) → o ≡ Some x → P x) → IfSome o P
on-some None f = tt
on-some (Some x) f = f x refl
