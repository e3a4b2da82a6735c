-- What writing a plant answers and fills: document 01, "Plant text and listing": "Writing needs room for at least the bytes written, else 12,
-- and answers their number."
-- Assumes nothing.
use Rattle.std.specs.Prelude.{ℕ, ◌+◌, ◌≡◌, cond, List, ◌++◌, eqb, length, take, drop, Result, Ok, Err}
use Rattle.rules.specs.Refusal.{Refusal}
use Rattle.rules.specs.Refusals.{room_fault, of_room, in_order, about, plant_says}
use Rattle.rules.specs.Lists.{after}
use Rattle.rules.specs.Faults.{refusal_of}
use Rattle.rules.specs.declared.Fault.{Fault}
use Rattle.text.specs.Form.{plant_text}

-- the answer of writing and of listing: number and place, and how many bytes stand at the front of the list
pub record Written : Type 0 where
  pub number : ℕ
  pub place : ℕ
  pub count : ℕ

-- "For every answer that is an enum, a definition gives this paper's number and values for each case of the enum."
abbrev pub written_told : Result ℕ Fault → Written
written_told (Ok k) = record { number = 0; place = 0; count = k }
written_told (Err f) = record { number = (refusal_of f).number; place = (refusal_of f).place; count = 0 }

-- the word w in the place of as many bytes of the list old from `at` on
abbrev pub placed : List ℕ → ℕ → List ℕ → List ℕ
placed old at w = take at old ++ w ++ drop (at + length w) old

-- a wrong plant as the check has it, then 12, room being the length of the list to fill
unfoldable pub write_fault : ℕ → List ℕ → List ℕ → List ℕ → ℕ → Refusal
write_fault n xs ys zs room =
    in_order (about of_room (room_fault (length (plant_text n xs ys zs)) room) (plant_says n xs ys zs))

unfoldable pub write_answer : Refusal → ℕ → List ℕ → List ℕ → List ℕ → Written
write_answer r n xs ys zs =
    record { number = r.number; place = r.place; count = cond (eqb r.number 0) (length (plant_text n xs ys zs)) 0 }

-- the list that was old, after writing
unfoldable pub write_list : Refusal → ℕ → List ℕ → List ℕ → List ℕ → List ℕ → List ℕ
write_list r n xs ys zs old = after r (plant_text n xs ys zs) old

-- what writing the plant answers, r, and fills: the list was old, and is new afterwards
pub record WriteIs (n : ℕ) (xs ys zs old : List ℕ) (r : Written) (new : List ℕ) : Type 0 where
  pub answer : r ≡ write_answer (write_fault n xs ys zs (length old)) n xs ys zs
  pub bytes : new ≡ write_list (write_fault n xs ys zs (length old)) n xs ys zs old
