-- The text lines before the one that the form of a text names are as expected; where it names none, the text is of the right form.
--     stating-right     the numbers that are read in a text, and 0 for those that are not, make a text of the right form
--     good-written      whose first text lines are the good rows
--     form-before, form-stated
-- Assumes nothing.
use Prim.Native.Nat.{ℕ, zero, suc, ◌+◌, ◌-◌, ◌≤◌, ◌<◌, zero-le}
use native.Mathlib.Nat.{le_of_suc-le-suc, not-suc-le-zero}
use native.Mathlib.Omega.{arith}
use mathlib.Core.Path.{◌≡◌, refl, sym, ap, subst, ◌∙◌}
use mathlib.Core.Bool.{Bool, true, false, cond}
use mathlib.Core.List.{List, [], ◌++◌, append_assoc, append-nil}
use lib.ListN.{length, drop}
use lib.Seq.{drop-drop}
use Rattle.text.specs.Numbers.{Number}
use Rattle.text.specs.Lines.{Row, plant_line, devices_key, lines_key, line_key, end_line, newline, comma, begins, field_text, field, row_text, row_of, row_second, row_first, row}
use Rattle.text.specs.Form.{Form, rows_text, plant_text, good_rows, used_rows, column, form_lines, form_devices, form}
use Rattle.text.specs.Reading.{values_of}
use Rattle.text.specs.Place.{text_lines, first_lines, Small, RightForm, Expected}
use Rattle.text.proofs.Fields.{by_cond, field-small}
use Rattle.text.proofs.Forms.{rows-most}
use Rattle.text.proofs.Lists.{column-length}
use Rattle.text.proofs.LineLaws.{begins-split, row_written}
use Rattle.text.proofs.TextLaws.{rows_written, devices_at, lines_at, rows_at, form-written, devices-written, lines-written}
use Rattle.text.proofs.PlaceLines.{line_first, row_line, rows_end, words-plant, words-devices, words_lines, words_count}
use Rattle.text.proofs.PlaceForms.{expected, Ended, rows-by}

-- the numbers of a row have at most nine digits, and so do those of the rows
abbrev RowSmall : Row → Type 0
RowSmall r = (r.first < 1000000000) × (r.second < 1000000000) × (r.signals < 1000000000)

row_small : (l : List ℕ) → RowSmall (row l)
unfolding row row_first row_second row_of
row_small l =
    by_cond RowSmall a.ok
    (λ p. by_cond RowSmall b.ok (λ q. by_cond RowSmall s.ok (λ r. (field-small line_key comma l, field-small [] comma _, field-small [] newline _)) (λ r. none)) (λ q. none))
    (λ p. none)
  where
    a : Number
    a = field line_key comma l

    b : Number
    b = field [] comma (drop a.used l)

    s : Number
    s = field [] newline (drop (a.used + b.used) l)

    none : (0 < 1000000000) × (0 < 1000000000) × (0 < 1000000000)
    none = omega arith

column-small : (f : Row → ℕ) → ((l : List ℕ) → f (row l) < 1000000000) → (m : ℕ) (l : List ℕ) → Small (column f m l)
unfolding column
column-small f h zero l k less = absurd (not-suc-le-zero less)
column-small f h (suc m) l zero less = h l
column-small f h (suc m) l (suc k) less = column-small f h m (drop (row l).used l) k (le_of_suc-le-suc less)

column-same : (f g : Row → ℕ) (m : ℕ) (l : List ℕ) → length (column f m l) ≡ length (column g m l)
column-same f g m l = column-length f m l ∙ sym (column-length g m l)

-- the text of n and of the numbers of m rows, whether or not those are good
abbrev stating : ℕ → ℕ → List ℕ → List ℕ
stating n m l = plant_text n (column (λ w. w.first) m l) (column (λ w. w.second) m l) (column (λ w. w.signals) m l)

pub stating-right : (n m : ℕ) (l : List ℕ) → n < 1000000000 → m < 1000000000 → RightForm (stating n m l)
stating-right n m l hn hm =
    record {
      devices = n;
      firsts = column (λ w. w.first) m l;
      seconds = column (λ w. w.second) m l;
      signals = column (λ w. w.signals) m l;
      one_length = column-same _ _ m l;
      one_length' = column-same _ _ m l;
      small_devices = hn;
      small_lines = rw (column-length (λ w. w.first) m l) hm;
      small_firsts = column-small (λ w. w.first) (λ l. (row_small l).0) m l;
      small_seconds = column-small (λ w. w.second) (λ l. (row_small l).1) m l;
      small_signals = column-small (λ w. w.signals) (λ l. (row_small l).2) m l;
      text = refl;
    }

-- a row that is read is the first text line here, and then come g text lines, in n bytes
good-then : (l : List ℕ) (g n : ℕ) (r e : List ℕ) → first_lines g (r ++ e) ++ drop n (drop (row l).used l) ≡ drop (row l).used l
    → first_lines (cond (row l).ok (suc g) 0) (row_text (row l).first (row l).second (row l).signals ++ r ++ e) ++ drop (cond (row l).ok ((row l).used + n) 0) l ≡ l
unfolding first_lines
good-then l g n r e ih = go (row l).ok refl
  where
    here : List ℕ
    here = row_text (row l).first (row l).second (row l).signals

    go : (b : Bool) → (row l).ok ≡ b → first_lines (cond b (suc g) 0) (here ++ r ++ e) ++ drop (cond b ((row l).used + n) 0) l ≡ l
    go true o =
        rw (append_assoc here r e, line_first (row_line (row l).first (row l).second (row l).signals) g (r ++ e), ← drop-drop n (row l).used l)
        (append_assoc here (first_lines g (r ++ e)) _ ∙ rw ih (row_written l o))
    go false o = refl

-- the good rows are the first text lines of the rows that are stated
good-written : (m : ℕ) (l e : List ℕ)
    → first_lines (good_rows m l) (rows_text (column (λ w. w.first) m l) (column (λ w. w.second) m l) (column (λ w. w.signals) m l) ++ e)
    ++ drop (used_rows m l) l
    ≡ l
unfolding good_rows used_rows rows_text column first_lines
good-written zero l e = refl
good-written (suc m) l e = good-then l _ _ _ e (good-written m (drop (row l).used l) e)

-- a text that begins as the text of n and of the numbers of m rows l does
module _ (n m : ℕ) (l rest t : List ℕ) (hn : n < 1000000000) (hm : m < 1000000000) where
  abbrev ps : List ℕ
  ps = column (λ w. w.first) m l

  abbrev qs : List ℕ
  qs = column (λ w. w.second) m l

  abbrev ss : List ℕ
  ss = column (λ w. w.signals) m l

  right : RightForm (stating n m l)
  right = stating-right n m l hn hm

  stating-count : text_lines (stating n m l) ≡ 4 + m
  stating-count = words_count n ps qs ss (column-same _ _ m l) (column-same _ _ m l) ∙ rw (column-length (λ w. w.first) m l) refl

  none-expected : Expected t 0
  unfolding first_lines
  none-expected = expected 0 t t right zero-le refl

  plant-expected : plant_line ++ rest ≡ t → Expected t 1
  unfolding first_lines
  plant-expected e =
      expected 1 rest t right (omega (arith, stating-count)) (rw (words-plant n ps qs ss 0) e)

  devices-expected : plant_line ++ (field_text devices_key newline n ++ rest) ≡ t → Expected t 2
  unfolding first_lines
  devices-expected e =
      expected 2 rest t right (omega (arith, stating-count))
      (rw (words-devices n ps qs ss 0, append-nil (field_text devices_key newline n)) e)

  lines-expected : (j : ℕ) → j ≤ suc m → plant_line ++ (field_text devices_key newline n ++ (field_text lines_key newline m ++ l)) ≡ t
      → first_lines j (rows_text ps qs ss ++ end_line) ++ rest ≡ l → Expected t (3 + j)
  lines-expected j h e q =
      let f : List ℕ = field_text devices_key newline n in
      let g : List ℕ = field_text lines_key newline m in
      let rows : List ℕ = first_lines j (rows_text ps qs ss ++ end_line) in
      let three : suc (suc (suc j)) ≡ 3 + j = omega arith in
      subst (Expected t) three
      (expected (suc (suc (suc j))) rest t right (omega (arith, stating-count))
      (rw (words_lines n ps qs ss j, column-length (λ w. w.first) m l, append_assoc f (g ++ rows) rest, append_assoc g rows rest, q) e))

-- and where end=plant follows, the rows and the end are all of them
end-written : (m : ℕ) (l : List ℕ) → Ended m l
    → first_lines (suc m) (rows_text (column (λ w. w.first) m l) (column (λ w. w.second) m l) (column (λ w. w.signals) m l) ++ end_line)
    ++ drop 10 (drop (used_rows m l) l)
    ≡ l
end-written m l x =
    let e : first_lines (suc m) (rows ++ end_line) ≡ rows ++ end_line =
    ap (λ (k : ℕ). first_lines (suc k) (rows ++ end_line)) (sym (column-length (λ w. w.first) m l)) ∙ rows_end 0 _ _ _ (column-same _ _ m l) (column-same _ _ m l) in
    rw (e, append_assoc rows end_line (drop 10 (drop (used_rows m l) l)))
    (ap (λ (u : List ℕ). rows ++ u) (begins-split end_line (drop (used_rows m l) l) x.1) ∙ rows_written m l x.0)
  where
    rows : List ℕ
    rows = rows_text (column (λ w. w.first) m l) (column (λ w. w.second) m l) (column (λ w. w.signals) m l)

-- the text lines before the one that the form names are as expected
pub form-before : (t : List ℕ) → ((form t).line ≡ 0 → ⊥) → Expected t ((form t).line - 1)
unfolding form form_devices form_lines
form-before t =
    by_cond before (begins plant_line t)
    (λ e.
    by_cond before (devices_at t).ok
    (λ o.
    by_cond before (lines_at t).ok
    (λ q.
    rows-by (λ k. (k ≡ 0 → ⊥) → Expected t (k - 1)) m l
    (λ x z.
    subst (Expected t) (omega arith)
    (lines-expected n m l (drop (used_rows m l) l) t hn hm (good_rows m l) (omega (arith, rows-most m l)) (lines-written t e o q) (good-written m l end_line)))
    (λ z. absurd (z refl))
    (λ x z.
    subst (Expected t) (omega arith)
    (lines-expected n m l (drop 10 (drop (used_rows m l) l)) t hn hm (suc m) (omega arith) (lines-written t e o q) (end-written m l x))))
    (λ q z. devices-expected n 0 [] (drop (8 + (devices_at t).used) t) t hn small (devices-written t e o)))
    (λ o z. plant-expected 0 0 [] (drop 8 t) t small small (begins-split plant_line t e)))
    (λ e z. none-expected 0 0 [] [] t small small)
  where
    before : Form → Type 0
    before f = (f.line ≡ 0 → ⊥) → Expected t (f.line - 1)

    n : ℕ
    n = (devices_at t).value

    m : ℕ
    m = (lines_at t).value

    l : List ℕ
    l = rows_at t

    small : 0 < 1000000000
    small = omega arith

    hn : n < 1000000000
    hn = field-small devices_key newline (drop 8 t)

    hm : m < 1000000000
    hm = field-small lines_key newline (drop (8 + (devices_at t).used) t)

-- the two stated numbers have at most nine digits
form_small : (t : List ℕ) → ((form t).devices < 1000000000) × ((form t).lines < 1000000000)
unfolding form form_devices form_lines
form_small t =
    by_cond small (begins plant_line t)
    (λ e. by_cond small (devices_at t).ok (λ o. by_cond small (lines_at t).ok (λ q. (field-small devices_key newline (drop 8 t), field-small lines_key newline _)) (λ q. omega arith)) (λ o. omega arith))
    (λ e. omega arith)
  where
    small : Form → Type 0
    small f = (f.devices < 1000000000) × (f.lines < 1000000000)

-- a text whose form names no text line is of the right form
pub form-stated : (t : List ℕ) → (form t).line ≡ 0 → RightForm t
unfolding values_of
form-stated t h = subst RightForm (form-written t h) (stating-right (form t).devices (form t).lines (drop (form t).at t) (form_small t).0 (form_small t).1)
