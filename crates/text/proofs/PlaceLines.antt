-- The text lines of a text, and of a text of the right form.
--     first-begins      a text begins with its first text lines
--     first-again       the first text lines of what begins with them are they
--     Line              one text line: its bytes, of which none is a newline, and its newline
--     words-first       the first text lines of the text of a plant, word by word
--     words_count       it has four text lines and the rows
-- Assumes nothing.
use Prim.Native.Nat.{ℕ, zero, suc, ◌+◌, ◌/◌, ◌%◌, ◌≤◌, zero-le, suc-le-suc}
use native.Mathlib.Nat.{suc-ne-zero, le_of_suc-le-suc, not-suc-le-zero}
use native.Mathlib.Omega.{arith}
use mathlib.Core.Path.{◌≡◌, refl, sym, ap, ◌∙◌}
use mathlib.Core.Bool.{Bool, true, false, cond}
use mathlib.Core.List.{List, [], ◌∷◌, ◌++◌, append_assoc}
use lib.Dec.{ltb, eqb}
use lib.ListN.{length}
use borrow.Author.Tests.{eq-eqb, ne_eqb}
use Rattle.text.specs.Numbers.{decimal, digits}
use Rattle.text.specs.Lines.{plant_line, devices_key, lines_key, line_key, end_line, newline, comma, begins, field_text, row_text}
use Rattle.text.specs.Form.{rows_text, plant_text}
use Rattle.text.specs.Place.{text_lines, first_lines}
use Rattle.text.proofs.Fields.{by_cond}
use Rattle.text.proofs.TextLaws.{text-words}

-- either of a test
either : (P : Bool → Type 0) (b : Bool) → P true → P false → P b
either P true t f = t
either P false t f = f

pub first-begins : (k : ℕ) (t : List ℕ) → begins (first_lines k t) t ≡ true
unfolding first_lines begins
first-begins zero t = refl
first-begins (suc k) [] = refl
first-begins (suc k) (b ∷ t) =
    rw (eq-eqb b b refl) (by_cond (λ (w : List ℕ). begins w t ≡ true) (eqb b 10) (λ e. first-begins k t) (λ e. first-begins (suc k) t))

pub first-again : (j k : ℕ) (t r : List ℕ) → j ≤ k → j ≤ text_lines t → first_lines j (first_lines k t ++ r) ≡ first_lines j t
unfolding first_lines text_lines
first-again zero k t r h l = refl
first-again (suc j) zero t r h l = absurd (not-suc-le-zero h)
first-again (suc j) (suc k) [] r h l = absurd (not-suc-le-zero l)
first-again (suc j) (suc k) (b ∷ t) r h l =
    let rest : Bool → List ℕ = λ c. cond c (first_lines k t) (first_lines (suc k) t) ++ r in
    either
    (λ c. suc j ≤ cond c (suc (text_lines t)) (text_lines t)
    → b ∷ cond c (first_lines j (rest c)) (first_lines (suc j) (rest c)) ≡ b ∷ cond c (first_lines j t) (first_lines (suc j) t))
    (eqb b 10)
    (λ l. ap (λ (u : List ℕ). b ∷ u) (first-again j k t r (le_of_suc-le-suc h) (le_of_suc-le-suc l)))
    (λ l. ap (λ (u : List ℕ). b ∷ u) (first-again (suc j) (suc k) t r h l))
    l

pub first_count : (k : ℕ) (t r : List ℕ) → k ≤ text_lines t → k ≤ text_lines (first_lines k t ++ r)
unfolding first_lines text_lines
first_count zero t r l = zero-le
first_count (suc k) [] r l = absurd (not-suc-le-zero l)
first_count (suc k) (b ∷ t) r l =
    let rest : Bool → List ℕ = λ c. cond c (first_lines k t) (first_lines (suc k) t) ++ r in
    either
    (λ c. suc k ≤ cond c (suc (text_lines t)) (text_lines t) → suc k ≤ cond c (suc (text_lines (rest c))) (text_lines (rest c)))
    (eqb b 10)
    (λ l. suc-le-suc (first_count k t r (le_of_suc-le-suc l)))
    (λ l. first_count (suc k) t r l)
    l

-- bytes without a newline
plain-first : (k : ℕ) (v l : List ℕ) → text_lines v ≡ 0 → first_lines (suc k) (v ++ l) ≡ v ++ first_lines (suc k) l
unfolding first_lines text_lines
plain-first k [] l e = refl
plain-first k (b ∷ v) l e =
    either
    (λ c. cond c (suc (text_lines v)) (text_lines v) ≡ 0 → b ∷ cond c (first_lines k (v ++ l)) (first_lines (suc k) (v ++ l)) ≡ b ∷ v ++ first_lines (suc k) l)
    (eqb b 10)
    (λ e. absurd (suc-ne-zero _ e))
    (λ e. ap (λ (u : List ℕ). b ∷ u) (plain-first k v l e))
    e

lines-append : (v l : List ℕ) → text_lines (v ++ l) ≡ text_lines v + text_lines l
unfolding text_lines
lines-append [] l = omega arith
lines-append (b ∷ v) l =
    let ih : text_lines (v ++ l) ≡ text_lines v + text_lines l = lines-append v l in
    either
    (λ c. cond c (suc (text_lines (v ++ l))) (text_lines (v ++ l)) ≡ cond c (suc (text_lines v)) (text_lines v) + text_lines l)
    (eqb b 10)
    (omega arith)
    ih

decimal-plain : (k v : ℕ) (ds : List ℕ) → text_lines ds ≡ 0 → text_lines (decimal k v ds) ≡ 0
unfolding decimal text_lines
decimal-plain zero v ds e = e
decimal-plain (suc k) v ds e =
    by_cond
    (λ (l : List ℕ). text_lines l ≡ 0)
    (ltb v 10)
    (λ h. rw (ne_eqb (48 + v) 10 (λ z. omega arith)) e)
    (λ h. decimal-plain k (v / 10) ((48 + v % 10) ∷ ds) (rw (ne_eqb (48 + v % 10) 10 (λ z. omega arith)) e))

pub record Line (w : List ℕ) : Type 0 where
  pub front : List ℕ
  pub plain : text_lines front ≡ 0
  pub is : w ≡ front ++ newline

pub line_first : {w : List ℕ} → Line w → (k : ℕ) (l : List ℕ) → first_lines (suc k) (w ++ l) ≡ w ++ first_lines k l
unfolding first_lines
line_first i k l =
    rw (i.is, append_assoc i.front newline l, append_assoc i.front newline (first_lines k l)) (plain-first k i.front (newline ++ l) i.plain)

pub line-count : {w : List ℕ} → Line w → (l : List ℕ) → text_lines (w ++ l) ≡ suc (text_lines l)
unfolding text_lines
line-count i l =
    rw (i.is, append_assoc i.front newline l) (lines-append i.front (newline ++ l) ∙ rw i.plain (omega arith))

plant-line : Line plant_line
unfolding text_lines
plant-line = record { front = 112 ∷ 108 ∷ 97 ∷ 110 ∷ 116 ∷ 61 ∷ 49 ∷ []; plain = refl; is = refl }

pub line_end : Line end_line
unfolding text_lines
line_end = record { front = 101 ∷ 110 ∷ 100 ∷ 61 ∷ 112 ∷ 108 ∷ 97 ∷ 110 ∷ 116 ∷ []; plain = refl; is = refl }

-- a key and a number
number-plain : (key : List ℕ) (v : ℕ) → text_lines key ≡ 0 → text_lines (key ++ digits v) ≡ 0
unfolding digits text_lines
number-plain key v e = lines-append key (digits v) ∙ omega (arith, e, decimal-plain 9 v [] refl)

field-line : (key : List ℕ) (v : ℕ) → text_lines key ≡ 0 → Line (field_text key newline v)
unfolding field_text
field-line key v e = record { front = key ++ digits v; plain = number-plain key v e; is = refl }

comma-plain : (key : List ℕ) (v : ℕ) → text_lines key ≡ 0 → text_lines (field_text key comma v) ≡ 0
unfolding field_text text_lines
comma-plain key v e = lines-append (key ++ digits v) comma ∙ omega (arith, number-plain key v e)

pub row_line : (a b s : ℕ) → Line (row_text a b s)
unfolding row_text field_text text_lines
row_line a b s =
    let f : List ℕ = field_text line_key comma a in
    let g : List ℕ = field_text [] comma b in
    let e : text_lines (f ++ g) ≡ 0 = lines-append f g ∙ omega (arith, comma-plain line_key a refl, comma-plain [] b refl) in
    record {
      front = f ++ g ++ digits s;
      plain = lines-append (f ++ g) (digits s) ∙ omega (arith, e, number-plain [] s refl);
      is = sym (append_assoc (f ++ g) (digits s) newline);
    }

-- rows, and then l
pub rows-first : (xs ys zs l : List ℕ) (k : ℕ) → length xs ≡ length ys → length ys ≡ length zs
    → first_lines (length xs + k) (rows_text xs ys zs ++ l) ≡ rows_text xs ys zs ++ first_lines k l
unfolding rows_text
rows-first [] ys zs l k p q = ap (λ (n : ℕ). first_lines n l) (omega arith)
rows-first (a ∷ xs) [] zs l k p q = absurd (suc-ne-zero _ p)
rows-first (a ∷ xs) (b ∷ ys) [] l k p q = absurd (suc-ne-zero _ q)
rows-first (a ∷ xs) (b ∷ ys) (s ∷ zs) l k p q =
    let e : suc (length xs) + k ≡ suc (length xs + k) = omega arith in
    ap (λ (n : ℕ). first_lines n (row_text a b s ++ rows_text xs ys zs ++ l)) e
    ∙ rw (append_assoc (row_text a b s) (rows_text xs ys zs) l, append_assoc (row_text a b s) (rows_text xs ys zs) (first_lines k l))
    (line_first (row_line a b s) (length xs + k) (rows_text xs ys zs ++ l)
    ∙ ap (λ (u : List ℕ). row_text a b s ++ u) (rows-first xs ys zs l k (omega arith) (omega arith)))

rows-count : (xs ys zs l : List ℕ) → length xs ≡ length ys → length ys ≡ length zs → text_lines (rows_text xs ys zs ++ l) ≡ length xs + text_lines l
unfolding rows_text
rows-count [] ys zs l p q = omega arith
rows-count (a ∷ xs) [] zs l p q = absurd (suc-ne-zero _ p)
rows-count (a ∷ xs) (b ∷ ys) [] l p q = absurd (suc-ne-zero _ q)
rows-count (a ∷ xs) (b ∷ ys) (s ∷ zs) l p q =
    rw (append_assoc (row_text a b s) (rows_text xs ys zs) l)
    (omega (arith, line-count (row_line a b s) (rows_text xs ys zs ++ l), rows-count xs ys zs l (omega arith) (omega arith)))

module _ (n : ℕ) (xs ys zs : List ℕ) where
  abbrev f : List ℕ
  f = field_text devices_key newline n

  abbrev g : List ℕ
  g = field_text lines_key newline (length xs)

  abbrev rows : List ℕ
  rows = rows_text xs ys zs ++ end_line

  f-line : Line f
  unfolding text_lines
  f-line = field-line devices_key n refl

  g-line : Line g
  unfolding text_lines
  g-line = field-line lines_key (length xs) refl

  -- after plant=1, after the devices, and after the lines
  pub words-plant : (k : ℕ) → first_lines (suc k) (plant_text n xs ys zs) ≡ plant_line ++ first_lines k (f ++ (g ++ rows))
  words-plant k = rw (text-words n xs ys zs) (line_first plant-line k (f ++ (g ++ rows)))

  pub words-devices : (k : ℕ) → first_lines (suc (suc k)) (plant_text n xs ys zs) ≡ plant_line ++ (f ++ first_lines k (g ++ rows))
  words-devices k = words-plant (suc k) ∙ rw (line_first f-line k (g ++ rows)) refl

  pub words_lines : (k : ℕ) → first_lines (suc (suc (suc k))) (plant_text n xs ys zs) ≡ plant_line ++ (f ++ (g ++ first_lines k rows))
  words_lines k = words-devices (suc k) ∙ rw (line_first g-line k rows) refl

  module _ (p : length xs ≡ length ys) (q : length ys ≡ length zs) where
    -- and after the end
    pub rows_end : first_lines (suc (length xs)) rows ≡ rows
    unfolding first_lines
    rows_end =
        let e : suc (length xs) ≡ length xs + 1 = omega arith in
        ap (λ (k : ℕ). first_lines k rows) e
        ∙ rows-first xs ys zs end_line 1 p q
        ∙ ap (λ (u : List ℕ). rows_text xs ys zs ++ u)
        (line_first line_end 0 [])

    pub words_count : text_lines (plant_text n xs ys zs) ≡ 4 + length xs
    unfolding text_lines
    words_count =
        rw (text-words n xs ys zs)
        (omega (
          arith,
          line-count plant-line (f ++ (g ++ rows)),
          line-count f-line (g ++ rows),
          line-count g-line rows,
          rows-count xs ys zs end_line p q,
        ))
