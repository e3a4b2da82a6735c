-- Worked texts, computed: document 01's input of the hierarchy program is the text of its plant and is accepted, and other texts are refused as it says.
-- Assumes nothing.
use Prim.Native.Nat.{ℕ}
use mathlib.Core.Path.{◌≡◌, refl}
use mathlib.Core.List.{List, [], ◌∷◌, map}
use Rattle.rules.specs.Refusals.{done, cause, or_else, first_of, devices_fault, lists_fault, rises, line_fault, lines_from, lines_fault, after_plant, fixed_order, in_order, nothing, about}
use Rattle.text.specs.Numbers.{is_digit, run, value_of, well_formed, number_from, number_of, decimal, digits}
use Rattle.text.specs.Lines.{begins, field_text, field_rest, field, row_text, row_of, row_second, row_first, row}
use Rattle.text.specs.Form.{rows_text, plant_text, good_rows, used_rows, column, end_fault_of, rows_fault_of, form_lines, form_devices, form}
use Rattle.text.specs.Reading.{long_fault, form_fault_of, values_of, no_room_of, rooms_fault, read_fault}

-- a text, and number and place of its refusal where there is room for ten lines
pub record Example : Type 0 where
  pub text : List ℕ
  pub number : ℕ
  pub place : ℕ

example : List ℕ → ℕ → ℕ → Example
example text number place = record { text = text; number = number; place = place }

-- document 01's input of the hierarchy program
abbrev pub path : List ℕ
path = 112 ∷ 108 ∷ 97 ∷ 110 ∷ 116 ∷ 61 ∷ 49 ∷ 10 ∷ 100 ∷ 101 ∷ 118 ∷ 105 ∷ 99 ∷ 101 ∷ 115 ∷ 61 ∷ 51 ∷ 10 ∷ 108 ∷ 105 ∷ 110 ∷ 101 ∷ 115 ∷ 61 ∷ 50 ∷ 10 ∷ 108 ∷ 105 ∷ 110 ∷ 101 ∷ 61 ∷ 48 ∷ 44 ∷ 49 ∷ 44 ∷ 51 ∷ 10 ∷ 108 ∷ 105 ∷ 110 ∷ 101 ∷ 61 ∷ 49 ∷ 44 ∷ 50 ∷ 44 ∷ 50 ∷ 10 ∷ 101 ∷ 110 ∷ 100 ∷ 61 ∷ 112 ∷ 108 ∷ 97 ∷ 110 ∷ 116 ∷ 10 ∷ []

-- a leading zero: 15 at text line 2
zero_first : Example
zero_first = example (112 ∷ 108 ∷ 97 ∷ 110 ∷ 116 ∷ 61 ∷ 49 ∷ 10 ∷ 100 ∷ 101 ∷ 118 ∷ 105 ∷ 99 ∷ 101 ∷ 115 ∷ 61 ∷ 48 ∷ 51 ∷ 10 ∷ 108 ∷ 105 ∷ 110 ∷ 101 ∷ 115 ∷ 61 ∷ 48 ∷ 10 ∷ 101 ∷ 110 ∷ 100 ∷ 61 ∷ 112 ∷ 108 ∷ 97 ∷ 110 ∷ 116 ∷ 10 ∷ []) 15 2

-- ten digits: 15 at text line 2
ten_digits : Example
ten_digits = example (112 ∷ 108 ∷ 97 ∷ 110 ∷ 116 ∷ 61 ∷ 49 ∷ 10 ∷ 100 ∷ 101 ∷ 118 ∷ 105 ∷ 99 ∷ 101 ∷ 115 ∷ 61 ∷ 49 ∷ 48 ∷ 48 ∷ 48 ∷ 48 ∷ 48 ∷ 48 ∷ 48 ∷ 48 ∷ 48 ∷ 10 ∷ 108 ∷ 105 ∷ 110 ∷ 101 ∷ 115 ∷ 61 ∷ 48 ∷ 10 ∷ 101 ∷ 110 ∷ 100 ∷ 61 ∷ 112 ∷ 108 ∷ 97 ∷ 110 ∷ 116 ∷ 10 ∷ []) 15 2

-- a missing last newline: 15 at the text line of end=plant
no_newline : Example
no_newline = example (112 ∷ 108 ∷ 97 ∷ 110 ∷ 116 ∷ 61 ∷ 49 ∷ 10 ∷ 100 ∷ 101 ∷ 118 ∷ 105 ∷ 99 ∷ 101 ∷ 115 ∷ 61 ∷ 50 ∷ 10 ∷ 108 ∷ 105 ∷ 110 ∷ 101 ∷ 115 ∷ 61 ∷ 48 ∷ 10 ∷ 101 ∷ 110 ∷ 100 ∷ 61 ∷ 112 ∷ 108 ∷ 97 ∷ 110 ∷ 116 ∷ []) 15 4

-- bytes after end=plant: 15 at the text line after it
more_bytes : Example
more_bytes = example (112 ∷ 108 ∷ 97 ∷ 110 ∷ 116 ∷ 61 ∷ 49 ∷ 10 ∷ 100 ∷ 101 ∷ 118 ∷ 105 ∷ 99 ∷ 101 ∷ 115 ∷ 61 ∷ 50 ∷ 10 ∷ 108 ∷ 105 ∷ 110 ∷ 101 ∷ 115 ∷ 61 ∷ 48 ∷ 10 ∷ 101 ∷ 110 ∷ 100 ∷ 61 ∷ 112 ∷ 108 ∷ 97 ∷ 110 ∷ 116 ∷ 10 ∷ 10 ∷ []) 15 5

-- a missing row: 15 at the text line where it should have come
missing_row : Example
missing_row = example (112 ∷ 108 ∷ 97 ∷ 110 ∷ 116 ∷ 61 ∷ 49 ∷ 10 ∷ 100 ∷ 101 ∷ 118 ∷ 105 ∷ 99 ∷ 101 ∷ 115 ∷ 61 ∷ 50 ∷ 10 ∷ 108 ∷ 105 ∷ 110 ∷ 101 ∷ 115 ∷ 61 ∷ 49 ∷ 10 ∷ 101 ∷ 110 ∷ 100 ∷ 61 ∷ 112 ∷ 108 ∷ 97 ∷ 110 ∷ 116 ∷ 10 ∷ []) 15 4

-- a surplus row: 15 at the text line where end=plant should have come
surplus_row : Example
surplus_row = example (112 ∷ 108 ∷ 97 ∷ 110 ∷ 116 ∷ 61 ∷ 49 ∷ 10 ∷ 100 ∷ 101 ∷ 118 ∷ 105 ∷ 99 ∷ 101 ∷ 115 ∷ 61 ∷ 50 ∷ 10 ∷ 108 ∷ 105 ∷ 110 ∷ 101 ∷ 115 ∷ 61 ∷ 48 ∷ 10 ∷ 108 ∷ 105 ∷ 110 ∷ 101 ∷ 61 ∷ 48 ∷ 44 ∷ 49 ∷ 44 ∷ 53 ∷ 10 ∷ 101 ∷ 110 ∷ 100 ∷ 61 ∷ 112 ∷ 108 ∷ 97 ∷ 110 ∷ 116 ∷ 10 ∷ []) 15 4

-- a text that stops early: 15 at the text line that should have come
stops_early : Example
stops_early = example (112 ∷ 108 ∷ 97 ∷ 110 ∷ 116 ∷ 61 ∷ 49 ∷ 10 ∷ 100 ∷ 101 ∷ 118 ∷ 105 ∷ 99 ∷ 101 ∷ 115 ∷ 61 ∷ 50 ∷ 10 ∷ 108 ∷ 105 ∷ 110 ∷ 101 ∷ 115 ∷ 61 ∷ 49 ∷ 10 ∷ 108 ∷ 105 ∷ 110 ∷ 101 ∷ 61 ∷ 48 ∷ 44 ∷ 49 ∷ 44 ∷ 53 ∷ 10 ∷ []) 15 5

-- no device, and a later form error: 15, since the form is judged before any value
form_first : Example
form_first = example (112 ∷ 108 ∷ 97 ∷ 110 ∷ 116 ∷ 61 ∷ 49 ∷ 10 ∷ 100 ∷ 101 ∷ 118 ∷ 105 ∷ 99 ∷ 101 ∷ 115 ∷ 61 ∷ 48 ∷ 10 ∷ 108 ∷ 105 ∷ 110 ∷ 101 ∷ 115 ∷ 61 ∷ 49 ∷ 10 ∷ 108 ∷ 105 ∷ 110 ∷ 101 ∷ 61 ∷ 48 ∷ 44 ∷ 49 ∷ 10 ∷ 101 ∷ 110 ∷ 100 ∷ 61 ∷ 112 ∷ 108 ∷ 97 ∷ 110 ∷ 116 ∷ 10 ∷ []) 15 4

-- no device: 1
no_device : Example
no_device = example (112 ∷ 108 ∷ 97 ∷ 110 ∷ 116 ∷ 61 ∷ 49 ∷ 10 ∷ 100 ∷ 101 ∷ 118 ∷ 105 ∷ 99 ∷ 101 ∷ 115 ∷ 61 ∷ 48 ∷ 10 ∷ 108 ∷ 105 ∷ 110 ∷ 101 ∷ 115 ∷ 61 ∷ 48 ∷ 10 ∷ 101 ∷ 110 ∷ 100 ∷ 61 ∷ 112 ∷ 108 ∷ 97 ∷ 110 ∷ 116 ∷ 10 ∷ []) 1 0

-- an end that is no device: 5 at line 0
no_end : Example
no_end = example (112 ∷ 108 ∷ 97 ∷ 110 ∷ 116 ∷ 61 ∷ 49 ∷ 10 ∷ 100 ∷ 101 ∷ 118 ∷ 105 ∷ 99 ∷ 101 ∷ 115 ∷ 61 ∷ 50 ∷ 10 ∷ 108 ∷ 105 ∷ 110 ∷ 101 ∷ 115 ∷ 61 ∷ 49 ∷ 10 ∷ 108 ∷ 105 ∷ 110 ∷ 101 ∷ 61 ∷ 48 ∷ 44 ∷ 50 ∷ 44 ∷ 53 ∷ 10 ∷ 101 ∷ 110 ∷ 100 ∷ 61 ∷ 112 ∷ 108 ∷ 97 ∷ 110 ∷ 116 ∷ 10 ∷ []) 5 0

-- eleven lines, and room for ten: 12
full_lists : Example
full_lists = example (112 ∷ 108 ∷ 97 ∷ 110 ∷ 116 ∷ 61 ∷ 49 ∷ 10 ∷ 100 ∷ 101 ∷ 118 ∷ 105 ∷ 99 ∷ 101 ∷ 115 ∷ 61 ∷ 49 ∷ 50 ∷ 10 ∷ 108 ∷ 105 ∷ 110 ∷ 101 ∷ 115 ∷ 61 ∷ 49 ∷ 49 ∷ 10 ∷ 108 ∷ 105 ∷ 110 ∷ 101 ∷ 61 ∷ 48 ∷ 44 ∷ 49 ∷ 44 ∷ 49 ∷ 10 ∷ 108 ∷ 105 ∷ 110 ∷ 101 ∷ 61 ∷ 48 ∷ 44 ∷ 50 ∷ 44 ∷ 49 ∷ 10 ∷ 108 ∷ 105 ∷ 110 ∷ 101 ∷ 61 ∷ 48 ∷ 44 ∷ 51 ∷ 44 ∷ 49 ∷ 10 ∷ 108 ∷ 105 ∷ 110 ∷ 101 ∷ 61 ∷ 48 ∷ 44 ∷ 52 ∷ 44 ∷ 49 ∷ 10 ∷ 108 ∷ 105 ∷ 110 ∷ 101 ∷ 61 ∷ 48 ∷ 44 ∷ 53 ∷ 44 ∷ 49 ∷ 10 ∷ 108 ∷ 105 ∷ 110 ∷ 101 ∷ 61 ∷ 48 ∷ 44 ∷ 54 ∷ 44 ∷ 49 ∷ 10 ∷ 108 ∷ 105 ∷ 110 ∷ 101 ∷ 61 ∷ 48 ∷ 44 ∷ 55 ∷ 44 ∷ 49 ∷ 10 ∷ 108 ∷ 105 ∷ 110 ∷ 101 ∷ 61 ∷ 48 ∷ 44 ∷ 56 ∷ 44 ∷ 49 ∷ 10 ∷ 108 ∷ 105 ∷ 110 ∷ 101 ∷ 61 ∷ 48 ∷ 44 ∷ 57 ∷ 44 ∷ 49 ∷ 10 ∷ 108 ∷ 105 ∷ 110 ∷ 101 ∷ 61 ∷ 48 ∷ 44 ∷ 49 ∷ 48 ∷ 44 ∷ 49 ∷ 10 ∷ 108 ∷ 105 ∷ 110 ∷ 101 ∷ 61 ∷ 48 ∷ 44 ∷ 49 ∷ 49 ∷ 44 ∷ 49 ∷ 10 ∷ 101 ∷ 110 ∷ 100 ∷ 61 ∷ 112 ∷ 108 ∷ 97 ∷ 110 ∷ 116 ∷ 10 ∷ []) 12 0

pub examples : List Example
examples = example path 0 0 ∷ zero_first ∷ ten_digits ∷ no_newline ∷ more_bytes ∷ missing_row ∷ surplus_row ∷ stops_early ∷ form_first ∷ no_device ∷ no_end ∷ full_lists ∷ []

pub path-text : plant_text 3 (0 ∷ 1 ∷ []) (1 ∷ 2 ∷ []) (3 ∷ 2 ∷ []) ≡ path
unfolding plant_text field_text row_text rows_text digits decimal
path-text = refl

pub examples-hold : map (λ (e : Example). read_fault e.text 10 10 10) examples ≡ map (λ (e : Example). record { number = e.number; place = e.place }) examples
unfolding examples example zero_first ten_digits no_newline more_bytes missing_row surplus_row stops_early form_first no_device no_end full_lists read_fault long_fault form_fault_of values_of no_room_of rooms_fault after_plant fixed_order in_order nothing about or_else first_of cause done devices_fault lists_fault lines_fault lines_from line_fault rises form form_devices form_lines rows_fault_of end_fault_of good_rows used_rows column row row_first row_second row_of field field_rest begins number_of number_from well_formed run value_of is_digit
examples-hold = refl
