-- Labels from owners in one pass: after the devices below v, the first device with each owner is known, the labels below v are written,
-- and as many are counted as are their own label. Assumes nothing.
use mathlib.Core.Path.{◌≡◌, refl, sym, ◌∙◌, ap}
use mathlib.Core.Bool.{true}
use mathlib.Core.List.{List}
use mathlib.Core.Logic.{◌⊎◌, inl, inr, ⊎_elim}
use Prim.Native.Nat.{ℕ, ◌+◌, ◌≤◌, ◌<◌}
use native.Mathlib.Nat.{eq-or-lt_of_le, add-zero}
use native.Mathlib.Numerals.{add-one}
use native.Mathlib.Decide.{ℕ_discrete}
use native.Mathlib.Omega.{arith}
use lib.Dec.{eqb}
use lib.ListN.{length, get_or, set, replicate, length-set, length-replicate, get_or-replicate}
use lib.Seq.{get_or-set_same, get_or-set_other}
use borrow.Author.Tests.{eqb-true, eq-eqb, ne_eqb}
use borrow.Author.Count.{below_more}
use Rattle.rules.specs.Cut.{Devices}
use Rattle.rules.specs.Groups.{lowest, table, distinct}
use Rattle.rules.specs.Order.{lowest_with}
use Rattle.rules.proofs.LabelLaws.{lowest-in, lowest-le}
use Rattle.rules.proofs.DistinctLaws.{owns, distinct-owns}
use Rattle.rules.specs.Lists.{over}
use Rattle.grouping.specs.Level.{first_with}

-- the lowest device of a set is the first that the set holds
pub lowest-first : (n : ℕ) (S : Devices) (v : ℕ) → v < n → S v ≡ true → ((u : ℕ) → u < v → S u ≡ true → ⊥) → lowest n S ≡ v
lowest-first n S v h m none = ⊎_elim (λ e. e) (λ l. absurd (none (lowest n S) l (lowest-in n S v h m))) (eq-or-lt_of_le (lowest-le n S v h m))

owns-new : (v : ℕ) (f : ℕ → ℕ) → f v ≡ v → owns (v + 1) f ≡ owns v f + 1
unfolding owns
owns-new v f e = rw (add-one v, eq-eqb (f v) v e)

owns-old : (v : ℕ) (f : ℕ → ℕ) → f v < v → owns (v + 1) f ≡ owns v f
unfolding owns
owns-old v f h = rw (add-one v, ne_eqb (f v) v (λ e. omega arith)) (add-zero (owns v f))

module _ (n : ℕ) (owner : List ℕ) where
  abbrev at : ℕ → ℕ
  at u = get_or owner u 0

  abbrev f : ℕ → ℕ
  f = first_with n owner

  -- x says which is the first device with owner o among those below v, and n that there is none
  abbrev pub Seen : ℕ → ℕ → ℕ → Type 0
  Seen v o x = ((x ≡ n) × ((u : ℕ) → u < v → at u ≡ o → ⊥)) ⊎ ((x < v) × (lowest n (λ u. eqb (at u) o) ≡ x))

  pub record Firsts (first : List ℕ) (groups v : ℕ) : Type 0 where
    pub wide : length first ≡ 128
    pub seen : (o : ℕ) → o < n → Seen v o (get_or first o 0)
    pub counted : groups ≡ owns v f

  -- none is known yet
  pub firsts-start : n ≤ 128 → Firsts (replicate 128 n) 0 0
  firsts-start h = record {
    wide = length-replicate 128 n;
    seen = λ o l. inl (get_or-replicate 128 o n 0 (omega arith), λ u z. absurd (omega arith));
    counted = unfold owns in refl;
  }

  module _ (first : List ℕ) (groups v : ℕ) (h : v < n) (small : n ≤ 128) (device : at v < n) (now : Firsts first groups v) where
    abbrev o : ℕ
    o = at v

    more : (o' x : ℕ) → (at v ≡ o' → ⊥) → Seen v o' x → Seen (v + 1) o' x
    more o' x ne (inl s) = inl (s.0, below_more (λ u. at u ≡ o' → ⊥) v s.1 ne)
    more o' x ne (inr s) = inr (omega (arith, s.0), s.1)

    -- the device v is the first with its owner
    pub firsts-new : get_or first o 0 ≡ n → {first' : List ℕ} {groups' : ℕ} → first' ≡ set first o v → groups' ≡ groups + 1
        → Firsts first' groups' (v + 1) × (get_or first' o 0 ≡ first_with n owner v)
    unfolding first_with lowest_with
    firsts-new e a b = rw (a, b) (record { wide = rw length-set now.wide; seen = λ o' l. known o' l (ℕ_discrete o' o); counted = rw (owns-new v f low) (ap (λ (k : ℕ). k + 1) now.counted) }, here ∙ sym low)
      where
        none : (u : ℕ) → u < v → at u ≡ o → ⊥
        none = ⊎_elim (λ s. s.1) (λ s. absurd (omega (arith, s.0))) (now.seen o device)

        low : f v ≡ v
        low = lowest-first n (λ u. eqb (at u) o) v h (eq-eqb o o refl) (λ u l t. none u l (eqb-true (at u) o t))

        here : get_or (set first o v) o 0 ≡ v
        here = get_or-set_same first o v 0 (omega (arith, now.wide))

        known : (o' : ℕ) → o' < n → Dec (o' ≡ o) → Seen (v + 1) o' (get_or (set first o v) o' 0)
        known o' l (yes q) = rw (q, here) (inr (omega arith, low))
        known o' l (no ne) = rw (get_or-set_other first o o' v 0 ne) (more o' _ (λ q. ne (sym q)) (now.seen o' l))

    -- an earlier device has its owner
    pub firsts-old : (get_or first o 0 ≡ n → ⊥) → {first' : List ℕ} {groups' : ℕ} → first' ≡ first → groups' ≡ groups
        → Firsts first' groups' (v + 1) × (get_or first' o 0 ≡ first_with n owner v)
    unfolding first_with lowest_with
    firsts-old e a b = rw (a, b) (record { wide = now.wide; seen = λ o' l. known o' (now.seen o' l); counted = now.counted ∙ sym (owns-old v f (omega (arith, same.0, same.1))) }, sym same.1)
      where
        same : (get_or first o 0 < v) × (f v ≡ get_or first o 0)
        same = ⊎_elim (λ s. absurd (e s.0)) (λ s. s) (now.seen o device)

        known : (o' : ℕ) → Seen v o' (get_or first o' 0) → Seen (v + 1) o' (get_or first o' 0)
        known o' (inl s) = more o' _ (λ q. e (rw q s.0)) (inl s)
        known o' (inr s) = inr (omega (arith, s.0), s.1)

  -- each device is as the first with its owner says
  pub labels-distinct : distinct (table n (first_with n owner)) ≡ owns n (first_with n owner)
  unfolding first_with lowest_with
  labels-distinct = distinct-owns n f low twice
    where
      low : (i : ℕ) → i < n → f i ≤ i
      low i h = lowest-le n (λ u. eqb (at u) (at i)) i h (eq-eqb (at i) (at i) refl)

      twice : (i : ℕ) → i < n → f (f i) ≡ f i
      twice i h = rw (eqb-true (at (f i)) (at i) (lowest-in n (λ u. eqb (at u) (at i)) i h (eq-eqb (at i) (at i) refl)))

  -- after all devices
  pub firsts-all : {first labels : List ℕ} (old : List ℕ) {groups v : ℕ} → v ≡ n → labels ≡ over (table v (first_with n owner)) old → Firsts first groups v
      → (groups ≡ distinct (table n (first_with n owner))) × (labels ≡ over (table n (first_with n owner)) old)
  firsts-all old e written now =
      (now.counted ∙ ap (λ (k : ℕ). owns k f) e ∙ sym labels-distinct, written ∙ ap (λ (k : ℕ). over (table k f) old) e)
