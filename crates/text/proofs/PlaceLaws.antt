-- The place of 15: "the first text line that is not as expected", or "the text line that should have come".
--     form-none           the form of a text names no text line exactly if the text is of the right form
--     place-one           a text has at most one place
--     form-place          the form of a text names the place exactly if there is one
--     fifteen-exactly     reading a text of at most 32,768 bytes gives 15 at k exactly if k is its place
--     read-fifteen        so does the contract of reading
-- Assumes nothing.
use Prim.Native.Nat.{ℕ, zero, suc, ◌≤◌, ◌<◌}
use native.Mathlib.Nat.{le_antisymm}
use native.Mathlib.Omega.{arith}
use mathlib.Core.Path.{◌≡◌, refl, sym, ap, subst, ◌∙◌}
use mathlib.Core.Bool.{Bool, true, false, not}
use mathlib.Core.Logic.{◌↔◌}
use mathlib.Core.List.{List}
use lib.Dec.{eqb}
use lib.ListN.{length}
use borrow.Author.Tests.{eqb-false, not-true}
use Rattle.rules.specs.Refusal.{Refusal}
use Rattle.rules.specs.Refusals.{done, cause, or_else, first_of, devices_fault, lists_fault, line_fault, lines_from, lines_fault}
use Rattle.text.specs.Reading.{Reading}
use Rattle.text.specs.Form.{form}
use Rattle.text.specs.Lines.{end_line}
use Rattle.text.specs.Reading.{long_fault, form_fault_of, rooms_fault, read_fault, read_answer, ReadIs, size_fault_of, head_fault_of}
use Rattle.text.specs.Place.{RightForm, Place}
use Rattle.text.proofs.Fields.{by_cond}
use Rattle.rules.proofs.RefusalLaws.{done_next}
use Rattle.text.proofs.Judged.{form-wrong, read-order, long-not}
use Rattle.text.proofs.TextLaws.{rows-read, text-read}
use Rattle.text.proofs.PlaceForms.{expected-less, form-past}
use Rattle.text.proofs.PlaceStated.{form-before, form-stated}

pub form-none : (t : List ℕ) → (form t).line ≡ 0 ↔ RightForm t
form-none t = (form-stated t, back)
  where
    back : RightForm t → (form t).line ≡ 0
    back r =
        rw r.text
        (text-read r.devices r.firsts r.seconds r.signals r.small_devices r.small_lines
        (rows-read _ _ _ end_line r.one_length r.one_length' r.small_firsts r.small_seconds r.small_signals)).line

-- a place is not before another: there the text lines are as expected
place-least : {t : List ℕ} {j k : ℕ} → Place t j → Place t k → k ≤ j
place-least {t} {j} {k} p q =
    let h : j < k → ⊥ = λ l. p.here (expected-less q.before j (omega arith)) in
    omega (arith, h)

pub place-one : {t : List ℕ} {j k : ℕ} → Place t j → Place t k → j ≡ k
place-one p q = le_antisymm (place-least q p) (place-least p q)

-- the form names the place
form-names : (t : List ℕ) → ((form t).line ≡ 0 → ⊥) → Place t (form t).line
form-names t h =
    record {
      wrong = λ r. h ((form-none t).1 r);
      from_one = omega (arith, h);
      before = form-before t h;
      here = λ x. omega (arith, form-past x h);
    }

pub form-place : (t : List ℕ) (k : ℕ) → ((form t).line ≡ k) × (k ≡ 0 → ⊥) ↔ Place t k
form-place t k = (
  λ x. subst (Place t) x.0 (form-names t (λ z. x.1 (sym x.0 ∙ z))),
  λ p. (place-one (form-names t (λ z. p.wrong ((form-none t).0 z))) p, λ z. omega (arith, p.from_one, z)),
)

-- where a refusal is 15, it is at the text line that the form names
record Says (line : ℕ) (r : Refusal) : Type 0 where
  fifteen : r.number ≡ 15 → (r.place ≡ line) × (line ≡ 0 → ⊥)

says-cause : {line : ℕ} (b : Bool) (k place : ℕ) → (k ≡ 15 → ⊥) → Says line (cause b k place)
unfolding cause done
says-cause true k place h = record { fifteen = λ e. absurd (h e) }
says-cause false k place h = record { fifteen = λ e. absurd (omega (arith, e)) }

says-done : {line : ℕ} → Says line done
unfolding done
says-done = record { fifteen = λ e. absurd (omega (arith, e)) }

says-or_else : {line : ℕ} {r s : Refusal} → Says line r → Says line s → Says line (or_else r s)
unfolding or_else
says-or_else {line} {r} x y = by_cond (Says line) (eqb r.number 0) (λ e. y) (λ e. x)

says-form : (line : ℕ) → Says line (form_fault_of line)
unfolding form_fault_of cause done
says-form line =
    by_cond (Says line) (not (eqb line 0))
    (λ e. record { fifteen = λ z. (refl, eqb-false line 0 (not-true (eqb line 0) e)) })
    (λ e. record { fifteen = λ z. absurd (omega (arith, z)) })

says-from : {line : ℕ} (n : ℕ) (xs ys zs : List ℕ) (k m : ℕ) → Says line (lines_from n xs ys zs k m)
unfolding lines_from line_fault first_of
says-from n xs ys zs k zero = says-done
says-from n xs ys zs k (suc m) =
    says-or_else
    (says-or_else (says-cause _ 5 k (omega arith)) (says-or_else (says-cause _ 6 k (omega arith)) (says-or_else (says-cause _ 7 k (omega arith)) (says-or_else (says-cause _ 8 k (omega arith)) says-done))))
    (says-from n xs ys zs (suc k) m)

says-read : (t : List ℕ) (a b c : ℕ) → Says (form t).line (read_fault t a b c)
unfolding long_fault head_fault_of size_fault_of devices_fault lists_fault lines_fault rooms_fault first_of
says-read t a b c =
    subst (Says (form t).line) (sym (read-order t a b c))
    (says-or_else (says-cause _ 14 0 (omega arith))
    (says-or_else
    (says-or_else (says-form (form t).line)
    (says-or_else
    (says-or_else (says-cause _ 1 0 (omega arith)) (says-or_else (says-cause _ 2 0 (omega arith)) says-done))
    (says-or_else (says-cause _ 3 0 (omega arith)) (says-or_else (says-cause _ 4 0 (omega arith)) says-done))))
    (says-or_else (says-from (form t).devices _ _ _ 0 _) (says-cause _ 12 0 (omega arith)))))

-- where reading gives 15, its place is the place
pub fifteen-place : (t : List ℕ) (a b c : ℕ) → (read_fault t a b c).number ≡ 15 → Place t (read_fault t a b c).place
fifteen-place t a b c e = let x : _ = (says-read t a b c).fifteen e in subst (Place t) (sym x.0) (form-names t x.1)

-- a text with a place is refused there, if it is not too long
place-fifteen : (t : List ℕ) (a b c k : ℕ) → length t ≤ 32768 → Place t k → read_fault t a b c ≡ record { number = 15; place = k }
unfolding head_fault_of or_else
place-fifteen t a b c k h p =
    let x : ((form t).line ≡ k) × (k ≡ 0 → ⊥) = (form-place t k).1 p in
    let z : form_fault_of (form t).line ≡ record { number = 15; place = k } = rw x.0 (sym (form-wrong k x.1)) in
    read-order t a b c ∙ rw (long-not (length t) h, done_next, z) refl

pub fifteen-exactly : (t : List ℕ) (a b c k : ℕ) → length t ≤ 32768 → read_fault t a b c ≡ record { number = 15; place = k } ↔ Place t k
fifteen-exactly t a b c k h =
    (λ e. subst (Place t) (ap (λ (r : Refusal). r.place) e) (fifteen-place t a b c (ap (λ (r : Refusal). r.number) e)), place-fifteen t a b c k h)

-- and so of any result that the contract allows
pub read-fifteen : {t xs ys zs us vs ws : List ℕ} {r : Reading} (k : ℕ) → ReadIs t xs ys zs r us vs ws → length t ≤ 32768
    → (r.number ≡ 15) × (r.place ≡ k) ↔ Place t k
unfolding read_answer
read-fifteen {t} {xs} {ys} {zs} {r = r} k i h = (
  λ e. (fifteen-exactly t _ _ _ k h).0 (λ i. record { number = (sym number ∙ e.0) i; place = (sym place ∙ e.1) i }),
  λ p.
      let e : read_fault t (length xs) (length ys) (length zs) ≡ record { number = 15; place = k } = (fifteen-exactly t _ _ _ k h).1 p in
      (number ∙ ap (λ (x : Refusal). x.number) e, place ∙ ap (λ (x : Refusal). x.place) e),
)
  where
    number : r.number ≡ (read_fault t (length xs) (length ys) (length zs)).number
    number = ap (λ (x : Reading). x.number) i.answer

    place : r.place ≡ (read_fault t (length xs) (length ys) (length zs)).place
    place = ap (λ (x : Reading). x.place) i.answer
