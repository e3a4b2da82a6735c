-- Document 01, "Plant text and listing", on the form of a whole text: "plant=1, devices, lines, then one line= row for each stated line
-- (first end, second end, signals), then end=plant and nothing more."
-- Assumes nothing.
use Rattle.std.specs.Prelude.{ℕ, zero, suc, ◌+◌, cond, List, [], ◌∷◌, ◌++◌, eqb, length, drop}
use Rattle.text.specs.Numbers.{Number}
use Rattle.text.specs.Lines.{Row, plant_line, devices_key, lines_key, end_line, newline, begins, field, field_text, row, row_text}

-- the form of a text: the text line that is not as expected, or 0; the stated numbers; how many bytes come before the rows
pub record Form : Type 0 where
  pub line : ℕ
  pub devices : ℕ
  pub lines : ℕ
  pub at : ℕ

-- the rows of the lines that three lists state
unfoldable pub rows_text : List ℕ → List ℕ → List ℕ → List ℕ
rows_text [] ys zs = []
rows_text (a ∷ xs) [] zs = []
rows_text (a ∷ xs) (b ∷ ys) [] = []
rows_text (a ∷ xs) (b ∷ ys) (s ∷ zs) = row_text a b s ++ rows_text xs ys zs

-- the text of a plant
unfoldable pub plant_text : ℕ → List ℕ → List ℕ → List ℕ → List ℕ
plant_text n xs ys zs =
    plant_line ++ field_text devices_key newline n ++ field_text lines_key newline (length xs) ++ rows_text xs ys zs ++ end_line

-- how many of the m rows that should come are there, up to the first that is not as expected
unfoldable pub good_rows : ℕ → List ℕ → ℕ
good_rows zero l = 0
good_rows (suc m) l = cond (row l).ok (suc (good_rows m (drop (row l).used l))) 0

-- how many bytes those take
unfoldable pub used_rows : ℕ → List ℕ → ℕ
used_rows zero l = 0
used_rows (suc m) l = cond (row l).ok ((row l).used + used_rows m (drop (row l).used l)) 0

-- one number of each of the m rows from here
unfoldable pub column : (Row → ℕ) → ℕ → List ℕ → List ℕ
column f zero l = []
column f (suc m) l = f (row l) ∷ column f m (drop (row l).used l)

-- "then end=plant and nothing more": the text line that is not as expected, k being the number of the one that should be end=plant, or 0
unfoldable pub end_fault_of : List ℕ → ℕ → ℕ
end_fault_of l k = cond (begins end_line l) (cond (eqb (length l) (length end_line)) 0 (k + 1)) k

-- "A missing or surplus row .. is 15 at the first text line that is not as expected": of m rows, the first being text line 4, and the end
unfoldable pub rows_fault_of : ℕ → List ℕ → ℕ
rows_fault_of m l = cond (eqb (good_rows m l) m) (end_fault_of (drop (used_rows m l) l) (4 + m)) (4 + good_rows m l)

-- a text whose text line k is not as expected
abbrev pub wrong_line_of : ℕ → Form
wrong_line_of k = record { line = k; devices = 0; lines = 0; at = 0 }

-- the text after at bytes, where the field `lines` should come, n being the devices
unfoldable pub form_lines : List ℕ → ℕ → ℕ → Number → Form
form_lines t n at m =
    cond
    m.ok
    (record { line = rows_fault_of m.value (drop (at + m.used) t); devices = n; lines = m.value; at = at + m.used })
    (wrong_line_of 3)

-- the text after plant=1, where the field `devices` should come
unfoldable pub form_devices : List ℕ → Number → Form
form_devices t d = cond d.ok (form_lines t d.value (8 + d.used) (field lines_key newline (drop (8 + d.used) t))) (wrong_line_of 2)

-- the form of a text: the first text line that is not as expected, from 1, or 0; the two stated numbers; and where the rows start
unfoldable pub form : List ℕ → Form
form t = cond (begins plant_line t) (form_devices t (field devices_key newline (drop 8 t))) (wrong_line_of 1)
