-- The loop over the nodes, and the owners that it leaves.
--     Owning, owning-..        the owners so far are those of the sweep over the nodes below x
--     wanted-..                the flag of a wanted node
--     cleared, cleared-again   the owners before the loop
-- Assumes nothing.
use Prim.Native.Nat.{ℕ, zero, suc, ◌+◌, ◌≤◌, ◌<◌, zero-le}
use mathlib.Core.Path.{◌≡◌, refl, sym, ap, subst, fun_ext, ◌∙◌}
use mathlib.Core.Bool.{Bool, true, false, cond, true≢false}
use mathlib.Core.List.{List, ◌∷◌, ◌++◌}
use mathlib.Core.Logic.{◌⊎◌, ⊎_elim}
use native.Mathlib.Nat.{le_antisymm, eq-or-lt_of_le}
use native.Mathlib.Numerals.{add-one}
use native.Mathlib.Omega.{arith}
use lib.Dec.{eqb}
use lib.ListN.{length, get_or, take, drop, replicate}
use Rattle.std.proofs.lemmas.List.{length-take-le}
use borrow.Author.Tests.{eq-eqb, ne_eqb}
use Rattle.rules.specs.Plant.{lines_of}
use Rattle.rules.specs.Cut.{Devices}
use Rattle.rules.specs.Groups.{table}
use Rattle.rules.specs.Lists.{over}
use Rattle.rules.specs.Sweep.{sweep, Sought, wanted_in}
use Rattle.rules.specs.Network.{IsLeast}
use Rattle.rules.proofs.LabelLaws.{length-table}
use Rattle.rules.proofs.FillLaws.{over_agree, over-front, over-over}
use Rattle.rules.proofs.Sweep.{sweep-takes, sweep-passes, sweep-keeps}
use Rattle.rules.proofs.SweepLaws.{sweep-first}
use Rattle.network.specs.Calls.{OwnersOf}

-- the loop over the nodes, L x S saying that S is the least set that holds x
pub record Owning (k : ℕ) (L : ℕ → Devices → Type 0) (wanted : ℕ → Bool) (old new : List ℕ) (x : ℕ) : Type 0 where
  pub within : x ≤ k
  pub room : k ≤ length old
  pub sets : ℕ → Devices
  pub least : (i : ℕ) → i < x → Sought sets wanted k i → L i (sets i)
  pub so_far : new ≡ over (table k (sweep sets wanted k x)) old

module _ (k : ℕ) (L : ℕ → Devices → Type 0) (wanted : ℕ → Bool) (old : List ℕ) where
  pub owning-start : {new : List ℕ} → k ≤ length old → new ≡ over (table k (λ v. k)) old → Owning k L wanted old new 0
  unfolding sweep
  owning-start h e =
      record { within = zero-le; room = h; sets = λ i v. false; least = λ i b. absurd (omega arith); so_far = e }

  module _ {new : List ℕ} {x : ℕ} (w : Owning k L wanted old new x) (l : x < k) where
    own : (v : ℕ) → v < k → get_or new v 0 ≡ sweep w.sets wanted k x v
    own v h = ap (λ (t : List ℕ). get_or t v 0) w.so_far ∙ over-front k (sweep w.sets wanted k x) old v h

    -- the sets, and node x with a set of its own
    abbrev with-set : Devices → ℕ → Devices
    with-set S i v = cond (eqb i x) (S v) (w.sets i v)

    with-before : (S : Devices) (i v : ℕ) → i < x → with-set S i v ≡ w.sets i v
    with-before S i v b = rw (ne_eqb i x (λ e. omega arith))

    with-here : (S : Devices) (v : ℕ) → with-set S x v ≡ S v
    with-here S v = rw (eq-eqb x x refl)

    before_same : (S : Devices) (i v : ℕ) → i ≤ x → sweep (with-set S) wanted k i v ≡ sweep w.sets wanted k i v
    before_same S i v b = sweep-first (with-set S) w.sets wanted k i v (λ j u h. with-before S j u (omega arith))

    below : (i : ℕ) → i < x + 1 → (i ≡ x) ⊎ (i < x)
    below i h = eq-or-lt_of_le (omega arith)

    -- node x is not sought: the sets stay
    same : (Sought w.sets wanted k x → ⊥) → ((v : ℕ) → sweep w.sets wanted k (suc x) v ≡ sweep w.sets wanted k x v) → Owning k L wanted old new (x + 1)
    same none h = record {
      within = omega arith;
      room = w.room;
      sets = w.sets;
      least = λ i b t. ⊎_elim (λ e. absurd (none (rw e at t))) (λ c. w.least i c t) (below i b);
      so_far = w.so_far ∙ over_agree k _ _ old (λ v i. sym (h v)) ∙ ap (λ (j : ℕ). over (table k (sweep w.sets wanted k j)) old) (sym (add-one x));
    }

    pub owning-passed : wanted x ≡ false → Owning k L wanted old new (x + 1)
    owning-passed e = same (λ t. true≢false (sym t.chosen ∙ e)) (sweep-passes w.sets wanted k x e)

    pub owning-owned : (get_or new x 0 ≡ k → ⊥) → Owning k L wanted old new (x + 1)
    owning-owned h = same (λ t. h (own x l ∙ t.free)) (sweep-keeps w.sets wanted k x (λ e. h (own x l ∙ e)))

    -- node x takes its least set over
    pub owning-taken : {new' : List ℕ} (S : Devices) → L x S → ((T : Devices) → ((v : ℕ) → T v ≡ S v) → L x T) → wanted x ≡ true → get_or new x 0 ≡ k
        → new' ≡ over (table k (λ v. cond (S v) x (get_or new v 0))) new → Owning k L wanted old new' (x + 1)
    owning-taken S least again e z t = record {
      within = omega arith;
      room = w.room;
      sets = with-set S;
      least = λ i b s. ⊎_elim (λ j. rw j (again (with-set S x) (with-here S))) (λ c. earlier i c s) (below i b);
      so_far = t
          ∙ over_agree k _ _ new (λ v i. ap (λ (y : ℕ). cond (S v) x y) (own v i ∙ sym (before_same S x v (omega arith))) ∙ ap (λ (b : Bool). cond b x (sweep (with-set S) wanted k x v)) (sym (with-here S v)) ∙ sym (sweep-takes (with-set S) wanted k x e (before_same S x x (omega arith) ∙ sym (own x l) ∙ z) v))
          ∙ ap (over (table k (sweep (with-set S) wanted k (suc x)))) w.so_far
          ∙ over-over k (sweep w.sets wanted k x) (sweep (with-set S) wanted k (suc x)) old w.room
          ∙ ap (λ (j : ℕ). over (table k (sweep (with-set S) wanted k j)) old) (sym (add-one x));
    }
      where
        earlier : (i : ℕ) → i < x → Sought (with-set S) wanted k i → L i (with-set S i)
        earlier i c s = subst (λ (T : Devices). L i T) (fun_ext (λ v. sym (with-before S i v c))) (w.least i c (record { chosen = s.chosen; free = sym (before_same S i i (omega arith)) ∙ s.free }))

-- the flag of a wanted node
pub wanted-not : (wanted : List ℕ) (x : ℕ) → get_or wanted x 0 ≡ 0 → wanted_in wanted x ≡ false
unfolding wanted_in
wanted-not wanted x e = rw (eq-eqb _ _ e)

pub wanted-is : (wanted : List ℕ) (x : ℕ) → (get_or wanted x 0 ≡ 0 → ⊥) → wanted_in wanted x ≡ true
unfolding wanted_in
wanted-is wanted x h = rw (ne_eqb _ _ h)

-- the owners once the first k entries are filled with k
one-value : (n x : ℕ) → table n (λ v. x) ≡ replicate n x
unfolding table
one-value zero x = refl
one-value (suc n) x = ap (λ (t : List ℕ). x ∷ t) (one-value n x)

pub cleared : (k : ℕ) {front : List ℕ} (old : List ℕ) → k ≤ length old → front ≡ replicate (length (take k old)) k → front ++ drop k old ≡ over (table k (λ v. k)) old
unfolding over
cleared k old room e = rw (e, length-take-le k old room, length-table k (λ v. k), one-value k k)

pub cleared-again : (k : ℕ) (f : ℕ → ℕ) (old new : List ℕ) → k ≤ length old → new ≡ over (table k f) old → new ≡ over (table k f) new
cleared-again k f old new h e = e ∙ sym (over-over k f f old h) ∙ ap (over (table k f)) (sym e)

module _ {k : ℕ} {xs ys zs ds wanted : List ℕ} where
  -- the loop's end, over a list that was cleared first
  pub owning-done : {owner cleared owner' : List ℕ} {x : ℕ} → Owning k (λ i S. IsLeast (lines_of xs ys zs) (λ v. get_or ds v 0) k i S) (wanted_in wanted) cleared owner' x → k ≤ x
      → k ≤ length owner → cleared ≡ over (table k (λ v. k)) owner → OwnersOf k xs ys zs ds wanted owner owner'
  owning-done {owner} {cleared} {owner'} {x} w l room clear = record {
    sets = w.sets;
    least = λ i b s. w.least i (omega arith) s;
    filled = w.so_far
        ∙ ap (λ (j : ℕ). over (table k (sweep w.sets (wanted_in wanted) k j)) cleared) (le_antisymm w.within l)
        ∙ ap (over (table k (sweep w.sets (wanted_in wanted) k k))) clear
        ∙ over-over k (λ v. k) (sweep w.sets (wanted_in wanted) k k) owner room;
  }
