-- Document 01, "Plant text and listing", on text lines: what should come, and the bytes from here.
-- Assumes nothing.
use Rattle.std.specs.Prelude.{ℕ, ◌+◌, Bool, true, false, ◌&&◌, cond, List, [], ◌∷◌, ◌++◌, eqb, length, drop}
use Rattle.text.specs.Numbers.{Number, number_of, no_number, digits}

-- what stands at a place, where a row should: whether it is one, its numbers, and how many bytes it takes
pub record Row : Type 0 where
  pub ok : Bool
  pub first : ℕ
  pub second : ℕ
  pub signals : ℕ
  pub used : ℕ

-- plant=1 and a newline
abbrev pub plant_line : List ℕ
plant_line = 112 ∷ 108 ∷ 97 ∷ 110 ∷ 116 ∷ 61 ∷ 49 ∷ 10 ∷ []

-- devices=
abbrev pub devices_key : List ℕ
devices_key = 100 ∷ 101 ∷ 118 ∷ 105 ∷ 99 ∷ 101 ∷ 115 ∷ 61 ∷ []

-- lines=
abbrev pub lines_key : List ℕ
lines_key = 108 ∷ 105 ∷ 110 ∷ 101 ∷ 115 ∷ 61 ∷ []

-- line=
abbrev pub line_key : List ℕ
line_key = 108 ∷ 105 ∷ 110 ∷ 101 ∷ 61 ∷ []

-- end=plant and a newline
abbrev pub end_line : List ℕ
end_line = 101 ∷ 110 ∷ 100 ∷ 61 ∷ 112 ∷ 108 ∷ 97 ∷ 110 ∷ 116 ∷ 10 ∷ []

-- "each ended by one newline byte"
abbrev pub newline : List ℕ
newline = 10 ∷ []

-- between the numbers of a row
abbrev pub comma : List ℕ
comma = 44 ∷ []

-- whether the bytes from here begin with the word
unfoldable pub begins : List ℕ → List ℕ → Bool
begins [] l = true
begins (w ∷ ws) [] = false
begins (w ∷ ws) (b ∷ l) = eqb w b && begins ws l

-- a field: a key, a number, and what ends it
unfoldable pub field_text : List ℕ → List ℕ → ℕ → List ℕ
field_text key stop v = key ++ digits v ++ stop

-- what follows the key: the number v, and what ends the field
unfoldable pub field_rest : ℕ → List ℕ → List ℕ → Number → Number
field_rest k stop l v =
    cond (v.ok && begins stop (drop (k + v.used) l)) (record { ok = true; value = v.value; used = k + v.used + length stop }) no_number

-- the field that stands here: whether it is as expected, its number, and how many bytes it takes
unfoldable pub field : List ℕ → List ℕ → List ℕ → Number
field key stop l = cond (begins key l) (field_rest (length key) stop l (number_of (drop (length key) l))) no_number

-- "line= row .. (first end, second end, signals)"
unfoldable pub row_text : ℕ → ℕ → ℕ → List ℕ
row_text a b s = field_text line_key comma a ++ field_text [] comma b ++ field_text [] newline s

-- no row here
abbrev pub no_row : Row
no_row = record { ok = false; first = 0; second = 0; signals = 0; used = 0 }

-- the row of the three fields a, b and s
unfoldable pub row_of : Number → Number → Number → Row
row_of a b s =
    cond
    s.ok
    (record { ok = true; first = a.value; second = b.value; signals = s.value; used = a.used + b.used + s.used })
    no_row

unfoldable pub row_second : List ℕ → Number → Number → Row
row_second l a b = cond b.ok (row_of a b (field [] newline (drop (a.used + b.used) l))) no_row

unfoldable pub row_first : List ℕ → Number → Row
row_first l a = cond a.ok (row_second l a (field [] comma (drop a.used l))) no_row

-- the row that stands here: whether it is as expected, its numbers, and how many bytes it takes
unfoldable pub row : List ℕ → Row
row l = row_first l (field line_key comma l)
