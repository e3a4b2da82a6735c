-- The text of a plant has the right form and states that plant; a text of the right form is the text of the plant that it states.
-- Assumes nothing.
use Prim.Native.Nat.{ℕ, zero, suc, ◌+◌, ◌<◌, suc-le-suc}
use native.Mathlib.Nat.{suc-ne-zero}
use native.Mathlib.Omega.{arith}
use mathlib.Core.Path.{◌≡◌, refl, sym, ap, ◌∙◌}
use mathlib.Core.Bool.{Bool, true, false, cond}
use mathlib.Core.List.{List, [], ◌∷◌, ◌++◌, append_assoc, append-nil}
use lib.Dec.{eqb}
use lib.ListN.{length, drop, length-append}
use lib.Seq.{drop-drop, drop-append_seam}
use borrow.Author.Tests.{eq-eqb, eqb-true}
use Rattle.text.specs.Numbers.{Number}
use Rattle.text.specs.Lines.{Row, plant_line, devices_key, lines_key, end_line, newline, begins, field_text, field, row_text, row}
use Rattle.text.specs.Form.{Form, rows_text, plant_text, good_rows, used_rows, column, end_fault_of, rows_fault_of, form_lines, form_devices, form}
use Rattle.text.specs.Reading.{values_of, firsts_of, seconds_of, signals_of}
use Rattle.text.specs.Place.{Small}
use Rattle.text.proofs.Steps.{past}
use Rattle.text.proofs.Fields.{by_cond}
use Rattle.text.proofs.Lists.{column-length}
use Rattle.text.proofs.LineLaws.{begins-self, begins-split, no-newline, field-reads, field-written, row_reads, row_written}

-- what reading finds where the rows of three lists stand, and then rest
pub record RowsRead (xs ys zs rest : List ℕ) : Type 0 where
  pub good : good_rows (length xs) (rows_text xs ys zs ++ rest) ≡ length xs
  pub bytes : used_rows (length xs) (rows_text xs ys zs ++ rest) ≡ length (rows_text xs ys zs)
  pub firsts : column (λ w. w.first) (length xs) (rows_text xs ys zs ++ rest) ≡ xs
  pub seconds : column (λ w. w.second) (length xs) (rows_text xs ys zs ++ rest) ≡ ys
  pub signals : column (λ w. w.signals) (length xs) (rows_text xs ys zs ++ rest) ≡ zs

empty : (ys : List ℕ) → 0 ≡ length ys → [] ≡ ys
empty [] e = refl
empty (b ∷ ys) e = absurd (suc-ne-zero _ (sym e))

one_more : (a b s : ℕ) (xs ys zs rest : List ℕ) → a < 1000000000 → b < 1000000000 → s < 1000000000
    → RowsRead xs ys zs rest → RowsRead (a ∷ xs) (b ∷ ys) (s ∷ zs) rest
unfolding rows_text good_rows used_rows column
one_more a b s xs ys zs rest ha hb hs r =
    record {
      good = rw (moved, found, seam) (ap suc r.good);
      bytes = rw (moved, found, seam) (ap (λ (n : ℕ). length here + n) r.bytes ∙ sym (length-append here (rows_text xs ys zs)));
      firsts = rw (moved, found, seam) (ap (λ (l : List ℕ). a ∷ l) r.firsts);
      seconds = rw (moved, found, seam) (ap (λ (l : List ℕ). b ∷ l) r.seconds);
      signals = rw (moved, found, seam) (ap (λ (l : List ℕ). s ∷ l) r.signals);
    }
  where
    here : List ℕ
    here = row_text a b s

    moved : row_text a b s ++ rows_text xs ys zs ++ rest ≡ row_text a b s ++ (rows_text xs ys zs ++ rest)
    moved = append_assoc (row_text a b s) (rows_text xs ys zs) rest

    found : row (row_text a b s ++ (rows_text xs ys zs ++ rest)) ≡ record { ok = true; first = a; second = b; signals = s; used = length (row_text a b s) }
    found = row_reads a b s (rows_text xs ys zs ++ rest) ha hb hs

    seam : drop (length (row_text a b s)) (row_text a b s ++ (rows_text xs ys zs ++ rest)) ≡ rows_text xs ys zs ++ rest
    seam = drop-append_seam (row_text a b s) (rows_text xs ys zs ++ rest)

pub rows-read : (xs ys zs rest : List ℕ) → length xs ≡ length ys → length ys ≡ length zs → Small xs → Small ys → Small zs → RowsRead xs ys zs rest
unfolding rows_text good_rows used_rows column
rows-read [] ys zs rest p q hx hy hz = record { good = refl; bytes = refl; firsts = refl; seconds = empty ys p; signals = empty zs (p ∙ q) }
rows-read (a ∷ xs) [] zs rest p q hx hy hz = absurd (suc-ne-zero _ p)
rows-read (a ∷ xs) (b ∷ ys) [] rest p q hx hy hz = absurd (suc-ne-zero _ q)
rows-read (a ∷ xs) (b ∷ ys) (s ∷ zs) rest p q hx hy hz =
    one_more a b s xs ys zs rest (hx 0 (omega arith)) (hy 0 (omega arith)) (hz 0 (omega arith))
    (rows-read xs ys zs rest (omega arith) (omega arith) (λ k l. hx (suc k) (suc-le-suc l)) (λ k l. hy (suc k) (suc-le-suc l)) (λ k l. hz (suc k) (suc-le-suc l)))

-- a row that is read, and then text r up to the place n
row-then : (l : List ℕ) (m g n : ℕ) (r : List ℕ) → (g ≡ m → r ++ drop n (drop (row l).used l) ≡ drop (row l).used l)
    → cond (row l).ok (suc g) 0 ≡ suc m
    → row_text (row l).first (row l).second (row l).signals ++ r ++ drop (cond (row l).ok ((row l).used + n) 0) l ≡ l
row-then l m g n r ih = go (row l).ok refl
  where
    go : (b : Bool) → (row l).ok ≡ b → cond b (suc g) 0 ≡ suc m
        → row_text (row l).first (row l).second (row l).signals ++ r ++ drop (cond b ((row l).used + n) 0) l ≡ l
    go true o e =
        append_assoc (row_text (row l).first (row l).second (row l).signals) r _
        ∙ ap (λ (u : List ℕ). row_text (row l).first (row l).second (row l).signals ++ (r ++ u)) (sym (drop-drop n (row l).used l))
        ∙ ap (λ (u : List ℕ). row_text (row l).first (row l).second (row l).signals ++ u) (ih (omega (arith, e)))
        ∙ row_written l o
    go false o e = absurd (suc-ne-zero m (sym e))

-- where m rows are read, their text stands
pub rows_written : (m : ℕ) (l : List ℕ) → good_rows m l ≡ m
    → rows_text (column (λ w. w.first) m l) (column (λ w. w.second) m l) (column (λ w. w.signals) m l) ++ drop (used_rows m l) l ≡ l
unfolding rows_text good_rows used_rows column
rows_written zero l e = refl
rows_written (suc m) l e =
    row-then l m _ _ _ (rows_written m (drop (row l).used l)) e

-- the end of a text of the right form
end-written : (l : List ℕ) (k : ℕ) → end_fault_of l (suc k) ≡ 0 → end_line ≡ l
unfolding end_fault_of
end-written l k = go (begins end_line l) refl (eqb (length l) 10) refl
  where
    go : (b : Bool) → begins end_line l ≡ b → (c : Bool) → eqb (length l) 10 ≡ c → cond b (cond c 0 (suc k + 1)) (suc k) ≡ 0 → end_line ≡ l
    go true p true q e =
        let ten : length l ≡ 10 = eqb-true (length l) 10 q in
        sym (append-nil end_line) ∙ ap (λ (u : List ℕ). end_line ++ u) (sym (past l 10 (omega (arith, ten)))) ∙ begins-split end_line l p
    go true p false q e = absurd (omega (arith, e))
    go false p c q e = absurd (omega (arith, e))

rest-written : (m : ℕ) (l : List ℕ) → rows_fault_of m l ≡ 0
    → rows_text (column (λ w. w.first) m l) (column (λ w. w.second) m l) (column (λ w. w.signals) m l) ++ end_line ≡ l
unfolding rows_fault_of
rest-written m l = go (eqb (good_rows m l) m) refl
  where
    go : (b : Bool) → eqb (good_rows m l) m ≡ b → cond b (end_fault_of (drop (used_rows m l) l) (4 + m)) (4 + good_rows m l) ≡ 0
        → rows_text (column (λ w. w.first) m l) (column (λ w. w.second) m l) (column (λ w. w.signals) m l) ++ end_line ≡ l
    go true p e =
        rw (end-written (drop (used_rows m l) l) (3 + m) (ap (end_fault_of (drop (used_rows m l) l)) (omega arith) ∙ e)) (rows_written m l (eqb-true (good_rows m l) m p))
    go false p e = absurd (omega (arith, e))

-- the text of a plant, its words one after the other
pub text-words : (n : ℕ) (xs ys zs : List ℕ)
    → plant_text n xs ys zs
    ≡ plant_line ++ (field_text devices_key newline n ++ (field_text lines_key newline (length xs) ++ (rows_text xs ys zs ++ end_line)))
unfolding plant_text
text-words n xs ys zs =
    let f : List ℕ = field_text devices_key newline n in
    let g : List ℕ = field_text lines_key newline (length xs) in
    let r : List ℕ = rows_text xs ys zs in
    append_assoc (plant_line ++ f ++ g) r end_line ∙ append_assoc (plant_line ++ f) g (r ++ end_line) ∙ append_assoc plant_line f (g ++ (r ++ end_line))

-- the two fields of a text, and the bytes after them
abbrev pub devices_at : List ℕ → Number
devices_at t = field devices_key newline (drop 8 t)

abbrev pub lines_at : List ℕ → Number
lines_at t = field lines_key newline (drop (8 + (devices_at t).used) t)

abbrev pub rows_at : List ℕ → List ℕ
rows_at t = drop (8 + (devices_at t).used + (lines_at t).used) t

-- where they are read, their text stands
module _ (t : List ℕ) (e : begins plant_line t ≡ true) (o : (devices_at t).ok ≡ true) where
  pub devices-written : plant_line ++ (field_text devices_key newline (devices_at t).value ++ drop (8 + (devices_at t).used) t) ≡ t
  devices-written =
      rw (sym (drop-drop (devices_at t).used 8 t))
      (ap (λ (u : List ℕ). plant_line ++ u) (field-written devices_key newline (drop 8 t) o) ∙ begins-split plant_line t e)

  pub lines-written : (lines_at t).ok ≡ true
      → plant_line ++ (field_text devices_key newline (devices_at t).value ++ (field_text lines_key newline (lines_at t).value ++ rows_at t)) ≡ t
  lines-written q =
      rw (sym (drop-drop (lines_at t).used (8 + (devices_at t).used) t))
      (ap (λ (u : List ℕ). plant_line ++ (field_text devices_key newline (devices_at t).value ++ u)) (field-written lines_key newline (drop (8 + (devices_at t).used) t) q)
      ∙ devices-written)

-- a text of the right form is the text of what it states
pub form-written : (t : List ℕ) → (form t).line ≡ 0
    → plant_text (form t).devices (firsts_of t) (seconds_of t) (signals_of t) ≡ t
unfolding form form_devices form_lines values_of
form-written t =
    by_cond written (begins plant_line t)
    (λ e.
    by_cond written (devices_at t).ok
    (λ o. by_cond written (lines_at t).ok (λ q z. all e o q z) (λ q z. absurd (omega (arith, z))))
    (λ o z. absurd (omega (arith, z))))
    (λ e z. absurd (omega (arith, z)))
  where
    values : (Row → ℕ) → Form → List ℕ
    values g f = column g f.lines (drop f.at t)

    written : Form → Type 0
    written f = f.line ≡ 0 → plant_text f.devices (values (λ w. w.first) f) (values (λ w. w.second) f) (values (λ w. w.signals) f) ≡ t

    column-of : (Row → ℕ) → List ℕ
    column-of g = column g (lines_at t).value (rows_at t)

    all : begins plant_line t ≡ true → (devices_at t).ok ≡ true → (lines_at t).ok ≡ true → rows_fault_of (lines_at t).value (rows_at t) ≡ 0
        → plant_text (devices_at t).value (column-of (λ w. w.first)) (column-of (λ w. w.second)) (column-of (λ w. w.signals)) ≡ t
    all e o q z =
        text-words _ _ _ _
        ∙ rw (rest-written (lines_at t).value (rows_at t) z, column-length (λ w. w.first) (lines_at t).value (rows_at t)) (lines-written t e o q)

-- what reading finds in the text of a plant
pub record TextRead (n : ℕ) (xs ys zs t : List ℕ) : Type 0 where
  pub line : (form t).line ≡ 0
  pub devices : (form t).devices ≡ n
  pub lines : (form t).lines ≡ length xs
  pub firsts : firsts_of t ≡ xs
  pub seconds : seconds_of t ≡ ys
  pub signals : signals_of t ≡ zs

-- the form of a text whose first three text lines are as expected, whatever comes then
module _ (n m : ℕ) (rest : List ℕ) (hn : n < 1000000000) (hm : m < 1000000000) where
  abbrev f : List ℕ
  f = field_text devices_key newline n

  abbrev g : List ℕ
  g = field_text lines_key newline m

  abbrev t : List ℕ
  t = plant_line ++ (f ++ (g ++ rest))

  after-devices : drop (8 + length f) t ≡ g ++ rest
  after-devices = sym (drop-drop (length f) 8 t) ∙ drop-append_seam f (g ++ rest)

  after-lines : drop (8 + length f + length g) t ≡ rest
  after-lines = sym (drop-drop (length g) (8 + length f) t) ∙ rw after-devices (drop-append_seam g rest)

  pub form-is : record { line = rows_fault_of m rest; devices = n; lines = m; at = 8 + length f + length g } ≡ form t
  unfolding form form_devices form_lines
  form-is =
      rw (
        begins-self plant_line (f ++ (g ++ rest)),
        field-reads devices_key 10 n (g ++ rest) no-newline hn,
        after-devices,
        field-reads lines_key 10 m rest no-newline hm,
        after-lines,
      )
      refl

module _ (n : ℕ) (xs ys zs : List ℕ) (hn : n < 1000000000) (hm : length xs < 1000000000) (r : RowsRead xs ys zs end_line) where
  abbrev rows : List ℕ
  rows = rows_text xs ys zs ++ end_line

  rest-good : rows_fault_of (length xs) rows ≡ 0
  unfolding rows_fault_of end_fault_of begins
  rest-good = rw (r.good, eq-eqb (length xs) (length xs) refl, r.bytes, drop-append_seam (rows_text xs ys zs) end_line) refl

  words-read : TextRead n xs ys zs (t n (length xs) rows hn hm)
  unfolding values_of
  words-read =
      let e : _ = form-is n (length xs) rows hn hm in
      let there : _ = after-lines n (length xs) rows hn hm in
      record {
        line = rw (sym e) rest-good;
        devices = rw (sym e) refl;
        lines = rw (sym e) refl;
        firsts = rw (sym e, there) r.firsts;
        seconds = rw (sym e, there) r.seconds;
        signals = rw (sym e, there) r.signals;
      }

  pub text-read : TextRead n xs ys zs (plant_text n xs ys zs)
  text-read = rw text-words words-read
