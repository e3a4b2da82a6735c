-- What reading a text answers and fills: document 01, "Plant text and listing", "What a call fills", "Refusal numbers".
-- Assumes nothing.
use Rattle.std.specs.Prelude.{ℕ, ◌≡◌, Bool, not, ◌||◌, cond, List, [], ◌∷◌, ltb, eqb, length, drop, Result, Ok, Err}
use Rattle.rules.specs.Refusal.{Refusal}
use Rattle.rules.specs.Refusals.{cause, or_else, first_of, devices_fault, lists_fault, lines_fault, of_text, of_devices, of_lists, of_lines, of_room, in_order, nothing, about}
use Rattle.rules.specs.Lists.{after}
use Rattle.text.specs.Lines.{Row}
use Rattle.rules.specs.Faults.{refusal_of}
use Rattle.rules.specs.declared.Fault.{Fault}
use Rattle.text.specs.declared.Size.{Size}
use Rattle.text.specs.Form.{Form, form, column}

-- "14: text over 32,768 bytes"
unfoldable pub long_fault : ℕ → Refusal
long_fault bytes = cause (ltb 32768 bytes) 14 0

-- "15: text line of wrong form", at the first text line that is not as expected, or 0
unfoldable pub form_fault_of : ℕ → Refusal
form_fault_of line = cause (not (eqb line 0)) 15 line

-- the numbers that stand at one place of each row
unfoldable pub values_of : (Row → ℕ) → List ℕ → List ℕ
values_of f t = column f (form t).lines (drop (form t).at t)

-- the first ends, the second ends and the signals of the lines that a text states
abbrev pub firsts_of : List ℕ → List ℕ
firsts_of t = values_of (λ r. r.first) t

abbrev pub seconds_of : List ℕ → List ℕ
seconds_of t = values_of (λ r. r.second) t

abbrev pub signals_of : List ℕ → List ℕ
signals_of t = values_of (λ r. r.signals) t

-- "it needs room for the stated lines in each of the three lists": m the stated lines, a, b and c the lengths of the lists
unfoldable pub no_room_of : ℕ → ℕ → ℕ → ℕ → Bool
no_room_of m a b c = ltb a m || ltb b m || ltb c m

unfoldable pub rooms_fault : ℕ → ℕ → ℕ → ℕ → Refusal
rooms_fault m a b c = cause (no_room_of m a b c) 12 0

-- "Reading a text can give 14, 15, 1, 2, 4 to 8 and 12", a, b and c being the lengths of the lists to fill.
-- "The form of the whole text is judged before any value."
unfoldable pub read_fault : List ℕ → ℕ → ℕ → ℕ → Refusal
read_fault t a b c =
    in_order
    (about of_text (first_of (long_fault (length t) ∷ form_fault_of (form t).line ∷ []))
    (about of_devices (devices_fault (form t).devices)
    (about of_lists (lists_fault (form t).lines (form t).lines (form t).lines)
    (about of_lines (lines_fault (form t).devices (firsts_of t) (seconds_of t) (signals_of t)) (about of_room (rooms_fault (form t).lines a b c) nothing)))))

-- the answer of reading: number and place, and how many devices and lines the text states
pub record Reading : Type 0 where
  pub number : ℕ
  pub place : ℕ
  pub devices : ℕ
  pub lines : ℕ

-- "For every answer that is an enum, a definition gives this paper's number and values for each case of the enum."
abbrev pub read_told : Result Size Fault → Reading
read_told (Ok s) = record { number = 0; place = 0; devices = s.devices; lines = s.lines }
read_told (Err f) = record { number = (refusal_of f).number; place = (refusal_of f).place; devices = 0; lines = 0 }

-- "answers n and the number of lines"; "every further answer is then absent or 0"
unfoldable pub read_answer : Refusal → List ℕ → Reading
read_answer r t =
    record {
      number = r.number;
      place = r.place;
      devices = cond (eqb r.number 0) (form t).devices 0;
      lines = cond (eqb r.number 0) (form t).lines 0;
    }

-- the answer to a refusal
abbrev pub refused_with : ℕ → ℕ → Reading
refused_with number place = record { number = number; place = place; devices = 0; lines = 0 }

-- the list that was old, after reading
unfoldable pub read_list : Refusal → (Row → ℕ) → List ℕ → List ℕ → List ℕ
read_list r f t old = after r (values_of f t) old

-- what reading the text t answers, r, and fills: the three lists were xs, ys and zs, and are us, vs and ws afterwards
pub record ReadIs (t xs ys zs : List ℕ) (r : Reading) (us vs ws : List ℕ) : Type 0 where
  pub answer : r ≡ read_answer (read_fault t (length xs) (length ys) (length zs)) t
  pub firsts : us ≡ read_list (read_fault t (length xs) (length ys) (length zs)) (λ w. w.first) t xs
  pub seconds : vs ≡ read_list (read_fault t (length xs) (length ys) (length zs)) (λ w. w.second) t ys
  pub signals : ws ≡ read_list (read_fault t (length xs) (length ys) (length zs)) (λ w. w.signals) t zs

-- the causes that the two stated numbers show: "1: n is 0", "2: n over 128", "4: over 1,024 lines"
unfoldable pub size_fault_of : ℕ → ℕ → Refusal
size_fault_of n m = or_else (devices_fault n) (lists_fault m m m)

-- the causes that the form of a text and its two stated numbers show
unfoldable pub head_fault_of : Form → Refusal
head_fault_of f = or_else (form_fault_of f.line) (size_fault_of f.devices f.lines)
