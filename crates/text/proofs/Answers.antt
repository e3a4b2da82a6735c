-- What writing answers and fills, by what was found on the way; and how many bytes the text of a plant takes.
-- Assumes nothing.
use Prim.Native.Nat.{ℕ, ◌+◌, ◌≤◌, ◌<◌}
use native.Mathlib.Nat.{zero-add}
use native.Mathlib.Omega.{arith}
use mathlib.Core.Path.{◌≡◌, refl, sym, subst, ◌∙◌}
use mathlib.Core.List.{List, ◌++◌}
use lib.Dec.{ltb}
use lib.ListN.{length, length-append}
use borrow.Author.Tests.{ne_eqb, lt-ltb, le-ltb}
use Rattle.rules.specs.Refusal.{Refusal}
use Rattle.rules.specs.Refusals.{done, cause, or_else, first_of, room_fault, after_plant, nothing, about, plant_says, plant_fault}
use Rattle.rules.specs.Accepted.{Accepted}
use Rattle.rules.specs.Lists.{over}
use Rattle.rules.proofs.RefusalLaws.{done_next, call-is, Clean, clean-cause, or_else-done, or_else-first, plant-clean, done-accepted}
use Rattle.text.specs.Numbers.{digits}
use Rattle.text.specs.Lines.{plant_line, devices_key, lines_key, end_line, newline, field_text}
use Rattle.text.specs.Form.{rows_text, plant_text}
use Rattle.text.specs.Writing.{placed, write_fault, write_answer, write_list, WriteIs}
use Rattle.text.proofs.Wrote.{field-length}

pub text-length : (n : ℕ) (xs ys zs : List ℕ)
    → length (plant_text n xs ys zs) ≡ 34 + length (digits n) + length (digits (length xs)) + length (rows_text xs ys zs)
unfolding plant_text
text-length n xs ys zs =
    length-append (plant_line ++ field_text devices_key newline n ++ field_text lines_key newline (length xs) ++ rows_text xs ys zs) end_line
    ∙ rw (
      length-append (plant_line ++ field_text devices_key newline n ++ field_text lines_key newline (length xs)) (rows_text xs ys zs),
      length-append (plant_line ++ field_text devices_key newline n) (field_text lines_key newline (length xs)),
      length-append plant_line (field_text devices_key newline n),
      field-length devices_key newline n,
      field-length lines_key newline (length xs),
    )
    (omega arith)

-- the fixed order, of what writing can give
pub write-order : (n : ℕ) (xs ys zs : List ℕ) (room : ℕ)
    → write_fault n xs ys zs room ≡ or_else (plant_fault n xs ys zs) (room_fault (length (plant_text n xs ys zs)) room)
unfolding write_fault after_plant about plant_says nothing first_of room_fault
write-order n xs ys zs room =
    let short = ltb room (length (plant_text n xs ys zs)) in
    call-is n xs ys zs _ refl refl refl refl ∙ simp (done_next, or_else-done (cause short 12 0) (clean-cause short 11 0)) refl

-- a refusal that comes first is the answer, and the list stays
write-refused : (n : ℕ) (xs ys zs old : List ℕ) (r : Refusal) → write_fault n xs ys zs (length old) ≡ r → (r.number ≡ 0 → ⊥)
    → WriteIs n xs ys zs old (record { number = r.number; place = r.place; count = 0 }) old
unfolding write_answer write_list
write-refused n xs ys zs old r e h =
    record { answer = rw (e, ne_eqb r.number 0 h) refl; bytes = rw (e, ne_eqb r.number 0 h) refl }

module _ (n : ℕ) (xs ys zs old : List ℕ) {r : Refusal} (p : r ≡ plant_fault n xs ys zs) where
  pub write-wrong : (r.number ≡ 0 → ⊥) → WriteIs n xs ys zs old (record { number = r.number; place = r.place; count = 0 }) old
  write-wrong h = write-refused n xs ys zs old r (write-order n xs ys zs (length old) ∙ rw (sym p) (or_else-first r _ h)) h

  module _ (h : r.number ≡ 0) where
    right : plant_fault n xs ys zs ≡ done
    right = sym p ∙ (subst Clean (sym p) (plant-clean n xs ys zs)).whole h

    pub right-accepted : Accepted n xs ys zs
    right-accepted = done-accepted n xs ys zs right

    pub write-no-room : {k : ℕ} → k ≡ length (plant_text n xs ys zs) → length old < k → WriteIs n xs ys zs old (record { number = 12; place = 0; count = 0 }) old
    unfolding room_fault cause
    write-no-room {k} e l =
        write-refused n xs ys zs old (record { number = 12; place = 0 })
        (write-order n xs ys zs (length old) ∙ rw (right, done_next, sym e, lt-ltb (length old) k l) refl)
        (λ z. absurd (omega (arith, z)))

    pub write_done : {k : ℕ} {new : List ℕ} → k ≡ length (plant_text n xs ys zs) → k ≤ length old → new ≡ placed old 0 (plant_text n xs ys zs)
        → WriteIs n xs ys zs old (record { number = 0; place = 0; count = k }) new
    unfolding write_answer write_list over room_fault cause done
    write_done {k} {new} e l w =
        let room : write_fault n xs ys zs (length old) ≡ done = write-order n xs ys zs (length old) ∙ rw (right, done_next, sym e, le-ltb (length old) k l) refl in
        record {
          answer = rw (room, e) refl;
          bytes = w ∙ rw (room, zero-add) refl;
        }
