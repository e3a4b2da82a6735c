-- A loop that fills the front of a lent list, entry by entry: the first k entries are f's, and the rest is as it was. Filled to n it is `over (table n f)` of the list.
-- Assumes nothing.
use Prim.Native.Nat.{ℕ, suc, ◌+◌, ◌-◌, ◌≤◌, ◌<◌, zero-le}
use mathlib.Core.Path.{◌≡◌, refl, sym, ap, subst, ◌∙◌}
use mathlib.Core.Logic.{◌⊎◌, ⊎_elim}
use mathlib.Core.List.{List, [], ◌∷◌, ◌++◌, append_assoc}
use native.Mathlib.Nat.{not-suc-le-zero, eq-or-lt_of_le, le_of_suc-le-suc}
use native.Mathlib.Decide.{dec_lt}
use native.Mathlib.Numerals.{add-one}
use native.Mathlib.Omega.{arith}
use lib.ListN.{length, get_or, set, take, drop, length-set, length-append, length-drop, get_or-append}
use lib.Seq.{ext_get_or, get_or-take, length-take-le, get_or-set_same, get_or-set_other, get_or-append-add, get_or-drop, drop-append_seam, set_at, drop-cons}
use Rattle.rules.specs.Groups.{table}
use Rattle.rules.proofs.LabelLaws.{length-table, get_or-table, table-agree}
use Rattle.rules.proofs.DistinctLaws.{table-snoc}
use Rattle.rules.specs.Lists.{over}

pub record Filled (n : ℕ) (f : ℕ → ℕ) (old new : List ℕ) (k : ℕ) : Type 0 where
  pub within : k ≤ n
  pub room : n ≤ length old
  pub size : length new ≡ length old
  pub front : (v : ℕ) → v < k → get_or new v 0 ≡ f v
  pub rest : (v : ℕ) → k ≤ v → get_or new v 0 ≡ get_or old v 0

module _ (n : ℕ) (f : ℕ → ℕ) (old : List ℕ) where
  pub filled-start : n ≤ length old → Filled n f old old 0
  filled-start h = record {
    within = zero-le;
    room = h;
    size = refl;
    front = λ v l. absurd (not-suc-le-zero l);
    rest = λ v l. refl;
  }

  module _ {new : List ℕ} {k : ℕ} (w : Filled n f old new k) (l : k < n) where
    below : (v : ℕ) → v < k + 1 → (v ≡ k) ⊎ (v < k)
    below v h = eq-or-lt_of_le (le_of_suc-le-suc (subst (λ (m : ℕ). v < m) (add-one k) h))

    -- one entry is stored
    pub filled_more : (x : ℕ) → x ≡ f k → Filled n f old (set new k x) (k + 1)
    filled_more x e = record {
      within = omega arith;
      room = w.room;
      size = length-set new k x ∙ w.size;
      front = λ v h. ⊎_elim (here v) (λ b. get_or-set_other new k v x 0 (omega arith) ∙ w.front v b) (below v h);
      rest = λ v h. get_or-set_other new k v x 0 (omega arith) ∙ w.rest v (omega arith);
    }
      where
        here : (v : ℕ) → v ≡ k → get_or (set new k x) v 0 ≡ f v
        here v i = ap (λ (u : ℕ). get_or (set new k x) u 0) i ∙ get_or-set_same new k x 0 (omega (arith, w.room, w.size)) ∙ e ∙ ap f (sym i)

  over-length : n ≤ length old → length (over (table n f) old) ≡ length old
  unfolding over
  over-length h =
      length-append (table n f) (drop (length (table n f)) old)
      ∙ ap (λ (k : ℕ). length (table n f) + k) (length-drop (length (table n f)) old)
      ∙ ap (λ (k : ℕ). k + (length old - k)) (length-table n f)
      ∙ whole
    where
      whole : n + (length old - n) ≡ length old
      whole = omega arith

  pub over-front : (v : ℕ) → v < n → get_or (over (table n f) old) v 0 ≡ f v
  unfolding over
  over-front v l = get_or-append (table n f) (drop (length (table n f)) old) 0 v (subst (λ (k : ℕ). v < k) (sym (length-table n f)) l) ∙ get_or-table n f v l

  pub over-rest : (v : ℕ) → n ≤ v → get_or (over (table n f) old) v 0 ≡ get_or old v 0
  unfolding over
  over-rest v l =
      let t = table n f in
      let e : v ≡ length t + (v - n) = rw (length-table n f) whole in
      ap (λ (k : ℕ). get_or (t ++ drop (length t) old) k 0) e
      ∙ get_or-append-add t (drop (length t) old) (v - n) 0
      ∙ get_or-drop (length t) old (v - n) 0
      ∙ ap (λ (k : ℕ). get_or old k 0) (sym e)
    where
      whole : v ≡ n + (v - n)
      whole = omega arith

  pub filled-done : {new : List ℕ} {k : ℕ} → Filled n f old new k → n ≤ k → new ≡ over (table n f) old
  filled-done {new} {k} w l =
      ext_get_or 0 new (over (table n f) old) (w.size ∙ sym (over-length w.room)) at_each
    where
      at_each : (i : ℕ) → i < length new → get_or new i 0 ≡ get_or (over (table n f) old) i 0
      at_each i h = go (dec_lt i n)
        where
          go : Dec (i < n) → get_or new i 0 ≡ get_or (over (table n f) old) i 0
          go (yes b) = w.front i (omega (arith, w.within)) ∙ sym (over-front i b)
          go (no b) = w.rest i (omega (arith, w.within)) ∙ sym (over-rest i (omega arith))

-- filled again, the last counts
pub over-over : (n : ℕ) (f h : ℕ → ℕ) (old : List ℕ) → n ≤ length old → over (table n h) (over (table n f) old) ≡ over (table n h) old
unfolding over
over-over n f h old l =
    ap (λ (r : List ℕ). table n h ++ r)
    (ap (λ (k : ℕ). drop k (table n f ++ drop (length (table n f)) old)) (length-table n h ∙ sym (length-table n f))
    ∙ drop-append_seam (table n f) (drop (length (table n f)) old)
    ∙ ap (λ (k : ℕ). drop k old) (length-table n f ∙ sym (length-table n h)))

pub over-size : (n : ℕ) (f : ℕ → ℕ) (old : List ℕ) → n ≤ length old → length (over (table n f) old) ≡ length old
over-size n f old h = over-length n f old h

pub over_agree : (n : ℕ) (f h : ℕ → ℕ) (old : List ℕ) → ((v : ℕ) → v < n → f v ≡ h v) → over (table n f) old ≡ over (table n h) old
over_agree n f h old e = ap (λ (t : List ℕ). over t old) (table-agree n f h e)

-- no entry yet
pub over_none : (f : ℕ → ℕ) (old : List ℕ) → old ≡ over (table 0 f) old
unfolding over table
over_none f old = refl

-- one entry more
pub over-more : (v : ℕ) (f : ℕ → ℕ) (old : List ℕ) (x : ℕ) → v < length old → x ≡ f v → set (over (table v f) old) v x ≡ over (table (v + 1) f) old
unfolding over
over-more v f old x h e =
    rw (add-one, length-table, length-table, drop-cons old v 0, table-snoc, e, set_at (table v f) (get_or old v 0) (drop (suc v) old) (f v) v (length-table v f))
    (sym (append_assoc (table v f) (f v ∷ []) (drop (suc v) old)))

-- the front of a list, where its entries are f's
pub take-table : (n : ℕ) (f : ℕ → ℕ) (ms : List ℕ) → n ≤ length ms → ((v : ℕ) → v < n → get_or ms v 0 ≡ f v) → take n ms ≡ table n f
take-table n f ms l e =
    let long : length (take n ms) ≡ n = length-take-le n ms l in
    ext_get_or 0 (take n ms) (table n f) (long ∙ sym (length-table n f))
    (λ i h. let b : i < n = subst (λ (k : ℕ). i < k) long h in get_or-take n ms i 0 b ∙ e i b ∙ sym (get_or-table n f i b))

-- the front of a list is copied to the front of another
pub over-copied : (n : ℕ) (f : ℕ → ℕ) (new ms old : List ℕ) → new ≡ take n ms → n ≤ length ms → ((v : ℕ) → v < n → get_or ms v 0 ≡ f v)
    → new ++ drop n old ≡ over (table n f) old
unfolding over
over-copied n f new ms old e l h = rw (e, take-table n f ms l h, length-table n f) refl
