-- How far a text is as expected: where its first k text lines are, its form names none of them.
--     expected, expected-front     a text whose first k text lines are as expected begins with those of a text of the right form
--     rows-by                      the text line that the rows and the end name, by cases
--     form-past                    what the form names comes after the text lines that are as expected
-- Assumes nothing.
use Prim.Native.Nat.{ℕ, zero, suc, ◌+◌, ◌≤◌, ◌<◌, zero-le, suc-le-suc}
use native.Mathlib.Nat.{suc-ne-zero, eq-or-lt_of_le, le_of_suc-le-suc, not-suc-le-zero}
use native.Mathlib.Omega.{arith}
use mathlib.Core.Path.{◌≡◌, refl, sym, ap, subst, ◌∙◌}
use mathlib.Core.Bool.{true, false, true≢false}
use mathlib.Core.Logic.{⊎_elim}
use mathlib.Core.List.{List, [], ◌∷◌, ◌++◌, append_assoc}
use lib.Dec.{eqb}
use lib.ListN.{length, drop}
use lib.Seq.{drop-append_seam}
use borrow.Author.Tests.{eqb-true, eqb-false}
use Rattle.text.specs.Numbers.{Number}
use Rattle.text.specs.Lines.{plant_line, devices_key, lines_key, end_line, newline, begins, field_text, row_text}
use Rattle.text.specs.Form.{Form, rows_text, plant_text, good_rows, used_rows, end_fault_of, rows_fault_of, form_lines, form_devices, form}
use Rattle.text.specs.Place.{text_lines, first_lines, Small, RightForm, Expected}
use Rattle.text.proofs.Fields.{by_cond}
use Rattle.text.proofs.LineLaws.{begins-self, begins-split, no-newline, field-reads, row_reads}
use Rattle.text.proofs.TextLaws.{RowsRead, rows-read, devices_at, lines_at, form-is}
use Rattle.text.proofs.PlaceLines.{first-begins, first-again, first_count, line_first, row_line, rows_end, words-plant, words-devices, words_lines, words_count}

-- a text that begins with the first k text lines of a text of the right form
pub expected : {w : List ℕ} (k : ℕ) (rest t : List ℕ) → RightForm w → k ≤ text_lines w → first_lines k w ++ rest ≡ t → Expected t k
expected {w} k rest t r h e =
    let same : first_lines k t ≡ first_lines k w = rw (sym e) (first-again k k w rest (omega arith) h) in
    record {
      has = rw (sym e) (first_count k w rest h);
      whole = w;
      right = r;
      begin = rw same (first-begins k w);
    }

module _ {t : List ℕ} {k : ℕ} (x : Expected t k) where
  abbrev rest : List ℕ
  rest = drop (length (first_lines k t)) x.whole

  whole_is : first_lines k t ++ rest ≡ x.whole
  whole_is = begins-split (first_lines k t) x.whole x.begin

  pub expected-front : first_lines k x.whole ++ drop (length (first_lines k t)) t ≡ t
  expected-front =
      rw (sym whole_is, first-again k k t rest (omega arith) x.has) (begins-split (first_lines k t) t (first-begins k t))

  pub expected-has : k ≤ text_lines x.whole
  expected-has = rw (sym whole_is) (first_count k t rest x.has)

  pub expected-less : (j : ℕ) → j ≤ k → Expected t j
  expected-less j h =
      record {
        has = omega (arith, x.has);
        whole = x.whole;
        right = x.right;
        begin = rw (sym same) (first-begins j x.whole);
      }
    where
      same : first_lines j x.whole ≡ first_lines j t
      same = rw (sym whole_is) (first-again j k t rest h (omega (arith, x.has)))

-- end=plant stands after m good rows
abbrev pub Ended : ℕ → List ℕ → Type 0
Ended m l = (good_rows m l ≡ m) × (begins end_line (drop (used_rows m l) l) ≡ true)

pub rows-by : (P : ℕ → Type 0) (m : ℕ) (l : List ℕ) → ((Ended m l → ⊥) → P (4 + good_rows m l)) → P 0 → (Ended m l → P (5 + m)) → P (rows_fault_of m l)
unfolding rows_fault_of end_fault_of
rows-by P m l stops none more =
    by_cond P (eqb (good_rows m l) m)
    (λ e.
    let all : good_rows m l ≡ m = eqb-true (good_rows m l) m e in
    by_cond P (begins end_line (drop (used_rows m l) l))
    (λ h. by_cond P (eqb (length (drop (used_rows m l) l)) (length end_line)) (λ z. none) (λ z. subst P (omega arith) (more (all, h))))
    (λ h. subst P (omega (arith, all)) (stops (λ x. true≢false (sym x.1 ∙ h)))))
    (λ e. stops (λ x. eqb-false (good_rows m l) m e x.0))

-- a text line past k, if it is one
abbrev Past : ℕ → ℕ → Type 0
Past k line = (line ≡ 0 → ⊥) → k < line

rows-some : (k m : ℕ) (l : List ℕ) → k < 4 → Past k (rows_fault_of m l)
rows-some k m l h = rows-by (Past k) m l (λ x z. omega arith) (λ z. absurd (z refl)) (λ x z. omega arith)

-- plant=1 stands, and the devices too unless k is 1
early-past : (k : ℕ) (t : List ℕ) → k < 3 → begins plant_line t ≡ true → ((devices_at t).ok ≡ false → k < 2) → Past k (form t).line
unfolding form form_devices form_lines
early-past k t h plant devices =
    by_cond past (begins plant_line t)
    (λ e. by_cond past (devices_at t).ok (λ o. by_cond past (lines_at t).ok (λ q. rows-some k _ _ (omega arith)) (λ q z. omega arith)) (λ o z. devices o))
    (λ e. absurd (true≢false (sym plant ∙ e)))
  where
    past : Form → Type 0
    past f = Past k f.line

plant-past : (l : List ℕ) → Past 1 (form (plant_line ++ l)).line
plant-past l = early-past 1 (plant_line ++ l) (omega arith) (begins-self plant_line l) (λ o. omega arith)

devices-past : (n : ℕ) (l : List ℕ) → n < 1000000000 → Past 2 (form (plant_line ++ (field_text devices_key newline n ++ l))).line
devices-past n l h =
    early-past 2 (plant_line ++ (field_text devices_key newline n ++ l)) (omega arith) (begins-self plant_line (field_text devices_key newline n ++ l))
    (λ o. absurd (true≢false (sym (ap (λ (v : Number). v.ok) (field-reads devices_key 10 n l no-newline h)) ∙ o)))

-- where the first j rows of three lists stand, as many are good
good-least : (xs ys zs e rest : List ℕ) (j : ℕ) → length xs ≡ length ys → length ys ≡ length zs → Small xs → Small ys → Small zs → j ≤ length xs
    → j ≤ good_rows (length xs) (first_lines j (rows_text xs ys zs ++ e) ++ rest)
unfolding good_rows rows_text
good-least xs ys zs e rest zero p q hx hy hz h = zero-le
good-least [] ys zs e rest (suc j) p q hx hy hz h = absurd (not-suc-le-zero h)
good-least (a ∷ xs) [] zs e rest (suc j) p q hx hy hz h = absurd (suc-ne-zero _ p)
good-least (a ∷ xs) (b ∷ ys) [] e rest (suc j) p q hx hy hz h = absurd (suc-ne-zero _ q)
good-least (a ∷ xs) (b ∷ ys) (s ∷ zs) e rest (suc j) p q hx hy hz h =
    let l : List ℕ = first_lines j (rows_text xs ys zs ++ e) ++ rest in
    let front : first_lines (suc j) (row_text a b s ++ rows_text xs ys zs ++ e) ++ rest ≡ row_text a b s ++ l =
    rw (append_assoc (row_text a b s) (rows_text xs ys zs) e, line_first (row_line a b s) j (rows_text xs ys zs ++ e)) (append_assoc (row_text a b s) _ rest) in
    rw (front, row_reads a b s l (hx 0 (omega arith)) (hy 0 (omega arith)) (hz 0 (omega arith)), drop-append_seam (row_text a b s) l)
    (suc-le-suc
    (good-least xs ys zs e rest j (omega arith) (omega arith) (λ k l. hx (suc k) (suc-le-suc l)) (λ k l. hy (suc k) (suc-le-suc l)) (λ k l. hz (suc k) (suc-le-suc l)) (le_of_suc-le-suc h)))

-- where a text begins with the first k text lines of a text of the right form, its form names none of them
module _ {w : List ℕ} (r : RightForm w) (rest : List ℕ) where
  abbrev xs : List ℕ
  xs = r.firsts

  abbrev rows : List ℕ
  rows = rows_text r.firsts r.seconds r.signals

  -- up to the end
  ended : Ended (length xs) (first_lines (suc (length xs)) (rows ++ end_line) ++ rest)
  ended =
      rw (rows_end r.devices r.firsts r.seconds r.signals r.one_length r.one_length', append_assoc rows end_line rest)
      (found.good, rw (found.bytes, drop-append_seam rows (end_line ++ rest)) (begins-self end_line rest))
    where
      found : RowsRead r.firsts r.seconds r.signals (end_line ++ rest)
      found = rows-read _ _ _ (end_line ++ rest) r.one_length r.one_length' r.small_firsts r.small_seconds r.small_signals

  rows-past : (j : ℕ) → j ≤ suc (length xs) → Past (3 + j) (rows_fault_of (length xs) (first_lines j (rows ++ end_line) ++ rest))
  rows-past j h =
      rows-by (Past (3 + j)) (length xs) (first_lines j (rows ++ end_line) ++ rest)
      (λ x z.
      ⊎_elim
      (λ e. absurd (x (rw e ended)))
      (λ l.
      omega (
        arith,
        good-least r.firsts r.seconds r.signals end_line rest j
            r.one_length r.one_length' r.small_firsts r.small_seconds r.small_signals (le_of_suc-le-suc l),
      ))
      (eq-or-lt_of_le h))
      (λ z. absurd (z refl))
      (λ x z. omega arith)

  abbrev words : List ℕ
  words = plant_text r.devices r.firsts r.seconds r.signals

  text-past : (k : ℕ) → k ≤ 4 + length xs → Past k (form (first_lines k words ++ rest)).line
  text-past zero h = λ z. omega (arith, z)
  text-past (suc zero) h =
      rw (words-plant r.devices r.firsts r.seconds r.signals 0, append_assoc plant_line _ rest) (plant-past _)
  text-past (suc (suc zero)) h =
      let f : List ℕ = field_text devices_key newline r.devices in
      rw (words-devices r.devices r.firsts r.seconds r.signals 0, append_assoc plant_line _ rest, append_assoc f _ rest)
      (devices-past r.devices _ r.small_devices)
  text-past (suc (suc (suc j))) h =
      let f : List ℕ = field_text devices_key newline r.devices in
      let g : List ℕ = field_text lines_key newline (length xs) in
      rw (
        words_lines r.devices r.firsts r.seconds r.signals j,
        append_assoc plant_line _ rest,
        append_assoc f _ rest,
        append_assoc g _ rest,
        sym (form-is r.devices (length xs) (first_lines j (rows ++ end_line) ++ rest) r.small_devices r.small_lines),
      )
      (λ z. omega (arith, rows-past j (omega arith) z))

pub form-past : {t : List ℕ} {k : ℕ} → Expected t k → Past k (form t).line
form-past {t} {k} x =
    let r : RightForm x.whole = x.right in
    let few : k ≤ 4 + length r.firsts =
    omega (arith, expected-has x, words_count r.devices r.firsts r.seconds r.signals r.one_length r.one_length', ap text_lines r.text) in
    subst (λ (u : List ℕ). Past k (form u).line) (ap (λ (u : List ℕ). first_lines k u ++ drop (length (first_lines k t)) t) (sym r.text) ∙ expected-front x)
    (text-past r (drop (length (first_lines k t)) t) k few)
