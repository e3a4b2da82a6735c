-- The first fault in the fixed order. A refusal whose number is 0 is `done`, so that number and place 0 go together; a plant is answered 0 exactly if it is accepted; and an accepted plant is sound.
-- Assumes nothing.
use Prim.Native.Nat.{ℕ, zero, suc, ◌+◌, ◌≤◌, ◌<◌, zero-le, suc-le-suc}
use mathlib.Core.Path.{◌≡◌, refl, sym, ap, subst, ◌∙◌}
use mathlib.Core.Bool.{Bool, true, false, cond}
use mathlib.Core.List.{List, [], ◌∷◌, map}
use mathlib.Core.Logic.{◌⊎◌, inl, inr}
use native.Mathlib.Nat.{suc-ne-zero, le_refl, lt_irrefl, eq-or-lt_of_le}
use native.Mathlib.Omega.{arith}
use borrow.Author.Tests.{eq-eqb, ne_eqb, lt-leb, le-ltb, eqb-true, eqb-false, leb-false, ltb-false}
use lib.Dec.{leb, eqb}
use lib.ListN.{length, get_or}
use Rattle.rules.proofs.SetLaws.{and_left, and_right, or-off-left, or-off-right, not-off}
use Rattle.rules.specs.Refusal.{Refusal}
use Rattle.rules.specs.Plant.{lines_of, plant_of}
use Rattle.rules.specs.Accepted.{EndsBelow, Sound, Accepted}
use Rattle.rules.specs.Refusals.{done, cause, or_else, first_of, devices_fault, lists_fault, rises, line_fault, lines_from, lines_fault, Kind, of_text, of_devices, of_lists, of_lines, after_plant, fixed_order, in_order, nothing, about, plant_says, plant_fault}

-- number 0 goes with place 0
pub record Clean (r : Refusal) : Type 0 where
  pub whole : r.number ≡ 0 → r ≡ done

pub clean-done : Clean done
clean-done = record { whole = λ e. refl }

pub clean-cause : (b : Bool) (k place : ℕ) → Clean (cause b (suc k) place)
unfolding cause
clean-cause true k place = record { whole = λ e. absurd (suc-ne-zero k e) }
clean-cause false k place = record { whole = λ e. refl }

pub clean-or_else : {r s : Refusal} → Clean r → Clean s → Clean (or_else r s)
unfolding or_else
clean-or_else {r} {s} cr cs = record { whole = go (eqb r.number 0) refl }
  where
    go : (b : Bool) → eqb r.number 0 ≡ b → (cond b s r).number ≡ 0 → cond b s r ≡ done
    go true e h = cs.whole h
    go false e h = cr.whole h

-- what comes last changes nothing where it is `done`
pub or_else-done : (r : Refusal) → Clean r → or_else r done ≡ r
unfolding or_else
or_else-done r cr = go (eqb r.number 0) refl
  where
    go : (b : Bool) → eqb r.number 0 ≡ b → cond b done r ≡ r
    go true e = sym (cr.whole (eqb-true _ _ e))
    go false e = refl

-- the second is asked only where the first is done
pub or_else-first : (r s : Refusal) → (r.number ≡ 0 → ⊥) → or_else r s ≡ r
unfolding or_else
or_else-first r s h = rw (ne_eqb _ _ h)

pub or_else-next : {r : Refusal} (s : Refusal) → r ≡ done → or_else r s ≡ s
unfolding or_else done
or_else-next s e = rw e

-- both are done where the first fault of the two is
pub or_else-left : {r : Refusal} (s : Refusal) → Clean r → or_else r s ≡ done → r ≡ done
unfolding or_else
or_else-left {r} s cr = go (eqb r.number 0) refl
  where
    go : (b : Bool) → eqb r.number 0 ≡ b → cond b s r ≡ done → r ≡ done
    go true e h = cr.whole (eqb-true _ _ e)
    go false e h = h

pub or_else-right : {r : Refusal} (s : Refusal) → Clean r → or_else r s ≡ done → s ≡ done
or_else-right s cr e = sym (or_else-next s (or_else-left s cr e)) ∙ e

-- what a call says nothing of is passed over
pub done_next : (s : Refusal) → or_else done s ≡ s
done_next s = or_else-next s refl

pub line_clean : (n : ℕ) (xs ys zs : List ℕ) (k : ℕ) → Clean (line_fault n xs ys zs k)
unfolding line_fault first_of
line_clean n xs ys zs k =
    clean-or_else (clean-cause _ 4 k) (clean-or_else (clean-cause _ 5 k) (clean-or_else (clean-cause _ 6 k) (clean-or_else (clean-cause _ 7 k) clean-done)))

pub from-clean : (n : ℕ) (xs ys zs : List ℕ) (k m : ℕ) → Clean (lines_from n xs ys zs k m)
unfolding lines_from
from-clean n xs ys zs k zero = clean-done
from-clean n xs ys zs k (suc m) = clean-or_else (line_clean n xs ys zs k) (from-clean n xs ys zs (suc k) m)

pub lines-clean : (n : ℕ) (xs ys zs : List ℕ) → Clean (lines_fault n xs ys zs)
unfolding lines_fault
lines-clean n xs ys zs = from-clean n xs ys zs 0 (length xs)

pub devices-clean : (n : ℕ) → Clean (devices_fault n)
unfolding devices_fault first_of
devices-clean n = clean-or_else (clean-cause _ 0 0) (clean-or_else (clean-cause _ 1 0) clean-done)

pub lists-clean : (a b c : ℕ) → Clean (lists_fault a b c)
unfolding lists_fault first_of
lists-clean a b c = clean-or_else (clean-cause _ 2 0) (clean-or_else (clean-cause _ 3 0) clean-done)

-- the check of a plant is these three, in order
pub plant-is : (n : ℕ) (xs ys zs : List ℕ)
    → plant_fault n xs ys zs ≡ or_else (devices_fault n) (or_else (lists_fault (length xs) (length ys) (length zs)) (lines_fault n xs ys zs))
unfolding plant_fault plant_says about nothing in_order fixed_order after_plant first_of
plant-is n xs ys zs =
    or_else-next _ refl
    ∙ ap (λ (r : Refusal). or_else (devices_fault n) (or_else (lists_fault (length xs) (length ys) (length zs)) r))
    (ap (or_else (lines_fault n xs ys zs)) (simp done_next) ∙ or_else-done (lines_fault n xs ys zs) (lines-clean n xs ys zs))

pub plant-clean : (n : ℕ) (xs ys zs : List ℕ) → Clean (plant_fault n xs ys zs)
plant-clean n xs ys zs =
    subst Clean (sym (plant-is n xs ys zs))
    (clean-or_else (devices-clean n) (clean-or_else (lists-clean _ _ _) (lines-clean n xs ys zs)))

cause-off : (b : Bool) (k place : ℕ) → cause b (suc k) place ≡ done → b ≡ false
unfolding cause done
cause-off true k place e = absurd (suc-ne-zero k (ap (λ (r : Refusal). r.number) e))
cause-off false k place e = refl

cause-none : {b : Bool} (k place : ℕ) → b ≡ false → cause b k place ≡ done
unfolding cause
cause-none k place e = rw e

-- the rules of one line
pub record LineAccepted (n : ℕ) (xs ys zs : List ℕ) (k : ℕ) : Type 0 where
  pub first : get_or xs k 0 < n
  pub second : get_or ys k 0 < n
  pub ends_in_order : get_or xs k 0 < get_or ys k 0
  pub above : rises xs ys k ≡ true
  pub some_signal : 1 ≤ get_or zs k 0
  pub most_signals : get_or zs k 0 ≤ 65535

module _ (n : ℕ) (xs ys zs : List ℕ) where
  pub line-accepted : (k : ℕ) → line_fault n xs ys zs k ≡ done → LineAccepted n xs ys zs k
  unfolding line_fault first_of
  line-accepted k e =
      let c5 = cause-off _ 4 k (or_else-left _ (clean-cause _ 4 k) e) in
      let e6 = or_else-right _ (clean-cause _ 4 k) e in
      let c6 = cause-off _ 5 k (or_else-left _ (clean-cause _ 5 k) e6) in
      let e7 = or_else-right _ (clean-cause _ 5 k) e6 in
      let c7 = cause-off _ 6 k (or_else-left _ (clean-cause _ 6 k) e7) in
      let e8 = or_else-right _ (clean-cause _ 6 k) e7 in
      let c8 = cause-off _ 7 k (or_else-left _ (clean-cause _ 7 k) e8) in
      record {
        first = leb-false _ _ (or-off-left (leb n (get_or xs k 0)) _ c5);
        second = leb-false _ _ (or-off-right (leb n (get_or xs k 0)) _ c5);
        ends_in_order = leb-false _ _ c6;
        above = not-off _ c7;
        some_signal = pos (eqb-false _ _ (or-off-left (eqb (get_or zs k 0) 0) _ c8));
        most_signals = ltb-false _ _ (or-off-right (eqb (get_or zs k 0) 0) _ c8);
      }
    where
      pos : (get_or zs k 0 ≡ 0 → ⊥) → 1 ≤ get_or zs k 0
      pos h = omega arith

  pub line-done : (k : ℕ) → LineAccepted n xs ys zs k → line_fault n xs ys zs k ≡ done
  unfolding line_fault first_of
  line-done k a =
      or_else-next _ (cause-none 5 k (rw (lt-leb _ _ a.first, lt-leb _ _ a.second)))
      ∙ or_else-next _ (cause-none 6 k (lt-leb _ _ a.ends_in_order))
      ∙ or_else-next _ (cause-none 7 k (rw a.above))
      ∙ or_else-next _ (cause-none 8 k (rw (ne_eqb (get_or zs k 0) 0 (omega (arith, a.some_signal)), le-ltb _ _ a.most_signals)))

  from-done : (k m : ℕ) → lines_from n xs ys zs k m ≡ done → (j : ℕ) → k ≤ j → j < k + m → line_fault n xs ys zs j ≡ done
  unfolding lines_from
  from-done k zero e j l h = absurd (lt_irrefl j (omega arith))
  from-done k (suc m) e j l h = go (from-done (suc k) m (or_else-right _ (line_clean n xs ys zs k) e) j) (eq-or-lt_of_le l)
    where
      go : (suc k ≤ j → j < suc k + m → line_fault n xs ys zs j ≡ done) → (k ≡ j) ⊎ (k < j) → line_fault n xs ys zs j ≡ done
      go later (inl i) = subst (λ (v : ℕ). line_fault n xs ys zs v ≡ done) i (or_else-left _ (line_clean n xs ys zs k) e)
      go later (inr i) = later i (omega arith)

  done-from : (k m : ℕ) → ((j : ℕ) → k ≤ j → j < k + m → line_fault n xs ys zs j ≡ done) → lines_from n xs ys zs k m ≡ done
  unfolding lines_from
  done-from k zero h = refl
  done-from k (suc m) h =
      or_else-next _ (h k (le_refl k) (omega arith)) ∙ done-from (suc k) m (λ j l i. h j (omega arith) (omega arith))

  -- "0 exactly for an accepted plant"
  pub done-accepted : plant_fault n xs ys zs ≡ done → Accepted n xs ys zs
  unfolding devices_fault lists_fault lines_fault first_of
  done-accepted e' =
      let e = sym (plant-is n xs ys zs) ∙ e' in
      let d = or_else-left _ (devices-clean n) e in
      let r = or_else-right _ (devices-clean n) e in
      let s = or_else-left _ (lists-clean (length xs) (length ys) (length zs)) r in
      let t = or_else-right _ (lists-clean (length xs) (length ys) (length zs)) r in
      let equal = not-off _ (cause-off _ 2 0 (or_else-left _ (clean-cause _ 2 0) s)) in
      let line : (k : ℕ) → k < length xs → LineAccepted n xs ys zs k = λ k l. line-accepted k (from-done 0 (length xs) t k zero-le (omega arith)) in
      record {
        some_device = pos (eqb-false _ _ (cause-off _ 0 0 (or_else-left _ (clean-cause _ 0 0) d)));
        most_devices = ltb-false _ _ (cause-off _ 1 0 (or_else-left _ (clean-cause _ 1 0) (or_else-right _ (clean-cause _ 0 0) d)));
        one_length = eqb-true _ _ (and_left (eqb (length xs) (length ys)) _ equal);
        one_length' = eqb-true _ _ (and_right (eqb (length xs) (length ys)) _ equal);
        most_lines = ltb-false _ _ (cause-off _ 3 0 (or_else-left _ (clean-cause _ 3 0) (or_else-right _ (clean-cause _ 2 0) s)));
        first_device = λ k l. (line k l).first;
        second_device = λ k l. (line k l).second;
        first_below_second = λ k l. (line k l).ends_in_order;
        rising = λ k l. (line k l).above;
        some_signal = λ k l. (line k l).some_signal;
        most_signals = λ k l. (line k l).most_signals;
      }
    where
      pos : (n ≡ 0 → ⊥) → 1 ≤ n
      pos h = omega arith

  pub accepted-done : Accepted n xs ys zs → plant_fault n xs ys zs ≡ done
  unfolding devices_fault lists_fault lines_fault first_of
  accepted-done a =
      plant-is n xs ys zs
      ∙ or_else-next _ (or_else-next _ (cause-none 1 0 (ne_eqb n 0 (omega (arith, a.some_device)))) ∙ or_else-next _ (cause-none 2 0 (le-ltb _ _ a.most_devices)))
      ∙ or_else-next _ (or_else-next _ (cause-none 3 0 (rw (eq-eqb _ _ a.one_length, eq-eqb _ _ a.one_length'))) ∙ or_else-next _ (cause-none 4 0 (le-ltb _ _ a.most_lines)))
      ∙ done-from 0 (length xs) (λ k l h. line-done k (line k (omega arith)))
    where
      line : (k : ℕ) → k < length xs → LineAccepted n xs ys zs k
      line k l = record {
        first = a.first_device k l;
        second = a.second_device k l;
        ends_in_order = a.first_below_second k l;
        above = a.rising k l;
        some_signal = a.some_signal k l;
        most_signals = a.most_signals k l;
      }

-- a plant with number 0 is accepted
pub plant-accepted : (n : ℕ) (xs ys zs : List ℕ) (r : Refusal) → r ≡ plant_fault n xs ys zs → r.number ≡ 0 → Accepted n xs ys zs
plant-accepted n xs ys zs r e z = done-accepted n xs ys zs ((plant-clean n xs ys zs).whole (sym (ap (λ (t : Refusal). t.number) e) ∙ z))

-- an accepted plant's lines join its devices
ends-below : (n : ℕ) (xs ys zs : List ℕ) → ((k : ℕ) → k < length xs → get_or xs k 0 < n) → ((k : ℕ) → k < length xs → get_or ys k 0 < n) → EndsBelow n (lines_of xs ys zs)
unfolding lines_of EndsBelow
ends-below n [] ys zs f s = tt
ends-below n (x ∷ xs) [] zs f s = tt
ends-below n (x ∷ xs) (y ∷ ys) [] f s = tt
ends-below n (x ∷ xs) (y ∷ ys) (z ∷ zs) f s =
    (f 0 (suc-le-suc zero-le), s 0 (suc-le-suc zero-le), ends-below n xs ys zs (λ k l. f (suc k) (suc-le-suc l)) (λ k l. s (suc k) (suc-le-suc l)))

pub accepted-sound : (n : ℕ) (xs ys zs : List ℕ) → Accepted n xs ys zs → Sound (plant_of n xs ys zs)
unfolding plant_of
accepted-sound n xs ys zs a = ends-below n xs ys zs a.first_device a.second_device

pub or_else-assoc : (r s t : Refusal) → or_else (or_else r s) t ≡ or_else r (or_else s t)
unfolding or_else
or_else-assoc r s t = go (eqb r.number 0) refl
  where
    go : (b : Bool) → eqb r.number 0 ≡ b → cond (eqb (cond b s r).number 0) t (cond b s r) ≡ cond b (cond (eqb s.number 0) t s) r
    go true e = refl
    go false e = rw e

-- a call on a plant: the plant first, then what the call adds
pub call-is : (n : ℕ) (xs ys zs : List ℕ) (says : Kind → Refusal) → says of_text ≡ done → says of_devices ≡ devices_fault n
    → says of_lists ≡ lists_fault (length xs) (length ys) (length zs) → says of_lines ≡ lines_fault n xs ys zs
    → in_order says ≡ or_else (plant_fault n xs ys zs) (first_of (map says after_plant))
unfolding in_order fixed_order first_of
call-is n xs ys zs says t d l k =
    let rest = first_of (map says after_plant) in
    let lists = lists_fault (length xs) (length ys) (length zs) in
    rw (t, d, l, k)
    (done_next _
    ∙ ap (or_else (devices_fault n)) (sym (or_else-assoc lists (lines_fault n xs ys zs) rest))
    ∙ sym (or_else-assoc (devices_fault n) (or_else lists (lines_fault n xs ys zs)) rest)
    ∙ ap (λ (r : Refusal). or_else r rest) (sym (plant-is n xs ys zs)))

-- a call that is refused for its plant, and one that is not
pub call-plant : (n : ℕ) (xs ys zs : List ℕ) (rest : Refusal) → ((plant_fault n xs ys zs).number ≡ 0 → ⊥) → or_else (plant_fault n xs ys zs) rest ≡ plant_fault n xs ys zs
call-plant n xs ys zs rest h = or_else-first _ _ h

pub call-rest : (n : ℕ) (xs ys zs : List ℕ) (rest : Refusal) → (plant_fault n xs ys zs).number ≡ 0 → or_else (plant_fault n xs ys zs) rest ≡ rest
call-rest n xs ys zs rest h = or_else-next rest ((plant-clean n xs ys zs).whole h)
