-- Words written one after the other: fields, rows, and the text of a plant.
--     Wrote       the word w was written at a place, up to the place `to`
--     Rows        what a loop over lines has written: the rows before those that are left
--     Sum         what a loop over lines has counted: the bytes before those that are left
-- Assumes nothing.
use Prim.Native.Nat.{ℕ, ◌+◌, ◌*◌, ◌-◌, ◌≤◌, ◌<◌}
use native.Mathlib.Nat.{add-zero}
use native.Mathlib.Omega.{arith}
use mathlib.Core.Path.{◌≡◌, refl, sym, ap, subst, ◌∙◌}
use mathlib.Core.List.{List, [], ◌++◌, append_assoc, append-nil}
use lib.ListN.{length, get_or, take, drop, take-append-drop, length-append, length-drop}
use lib.Seq.{take_all}
use Rattle.text.specs.Numbers.{digits}
use Rattle.text.specs.Lines.{field_text, row_text, line_key, comma, newline}
use Rattle.text.specs.Form.{rows_text}
use Rattle.text.specs.declared.write.Writer.{Writer}
use Rattle.text.specs.Writing.{placed}
use Rattle.text.specs.Writer.{HasRoom, Writes}
use Rattle.text.proofs.Steps.{here, past}
use Rattle.text.proofs.Placed.{placed-then, placed-length}

abbrev pub Wrote : List ℕ → ℕ → List ℕ → ℕ → List ℕ → Type 0
Wrote old at w to new = (to ≡ at + length w) × (new ≡ placed old at w)

-- nothing is written yet
pub wrote_none : (old : List ℕ) (at : ℕ) → at ≤ length old → Wrote old at [] at old
wrote_none old at h = (omega arith, rw (add-zero, append-nil) (sym (take-append-drop at old)))

module _ (old : List ℕ) (at : ℕ) (v w : List ℕ) (room : at + length (v ++ w) ≤ length old) {to : ℕ} {mid : List ℕ} (a : Wrote old at v to mid) where
  whole : at + length v + length w ≤ length old
  whole = omega (arith, length-append v w)

  -- there is room for the next word
  pub wrote-room : to + length w ≤ length mid
  wrote-room =
      omega (arith, whole, a.0, placed-length old at v (omega (arith, whole)), ap length a.1)

  pub wrote_then : (end : ℕ) (new : List ℕ) → Wrote mid to w end new → Wrote old at (v ++ w) end new
  wrote_then end new b = (
    omega (arith, a.0, b.0, length-append v w),
    b.1
        ∙ ap (λ (l : List ℕ). placed l to w) a.1
        ∙ ap (λ (k : ℕ). placed (placed old at v) k w) a.0
        ∙ placed-then old at v w whole,
  )

-- the same word, by another name
pub writes_as : {old new : Writer} {v w : List ℕ} → v ≡ w → Writes old v new → Writes old w new
writes_as {old} {new} e = subst (λ (u : List ℕ). Writes old u new) e

pub writes_none : (old : Writer) → old.at ≤ length old.bytes.now → Writes old [] old
writes_none old h = let n : Wrote old.bytes.now old.at [] old.at old.bytes.now = wrote_none old.bytes.now old.at h in record { at = n.0; bytes = n.1; same_list = refl }

-- two words one after the other
module _ {old mid : Writer} {v : List ℕ} (a : Writes old v mid) (w : List ℕ) (room : HasRoom old (v ++ w)) where
  pub writes-room : HasRoom mid w
  writes-room = wrote-room old.bytes.now old.at v w room (a.at, a.bytes)

  pub writes_then : {new : Writer} → Writes mid w new → Writes old (v ++ w) new
  writes_then {new} b =
      let both : Wrote old.bytes.now old.at (v ++ w) new.at new.bytes.now = wrote_then old.bytes.now old.at v w room (a.at, a.bytes) new.at new.bytes.now (b.at, b.bytes) in
      record { at = both.0; bytes = both.1; same_list = b.same_list ∙ a.same_list }

-- the list that a writer was made of, at its front, after the word w: γ is the list's name, and last what it holds in the end
pub wrote-front : {old new : Writer} {w : List ℕ} → Writes old w new → {γ : ℕ} {bytes : List ℕ} → (old.bytes.ghost_name ≡ γ) × (old.bytes.now ≡ bytes) × (old.at ≡ 0)
    → (last : List ℕ) → (γ ≡ new.bytes.ghost_name → last ≡ new.bytes.now) → last ≡ placed bytes 0 w
wrote-front a n last e = e (sym (a.same_list ∙ n.0)) ∙ a.bytes ∙ rw (n.1, n.2) refl

pub front-room : (old : Writer) {bytes : List ℕ} (w : List ℕ) → old.bytes.now ≡ bytes → old.at ≡ 0 → length w ≤ length bytes → HasRoom old w
front-room old w b a h = rw (a, b) (omega arith)

-- the digits that stand from `start` to the end of an array of nine
pub digits-part : (d : List ℕ) (start v : ℕ) → (start ≤ 9) × (length d ≡ 9) × (drop start d ≡ digits v) → take (9 - start) (drop start d) ≡ digits v
digits-part d start v h = take_all (9 - start) (drop start d) (omega (arith, length-drop start d, h.1)) ∙ h.2

-- the row of line i and those after it
pub rows-here : (xs ys zs : List ℕ) (i : ℕ) → length xs ≡ length ys → length ys ≡ length zs → i < length xs
    → rows_text (drop i xs) (drop i ys) (drop i zs)
    ≡ row_text (get_or xs i 0) (get_or ys i 0) (get_or zs i 0) ++ rows_text (drop (i + 1) xs) (drop (i + 1) ys) (drop (i + 1) zs)
unfolding rows_text
rows-here xs ys zs i p q h =
    let hy : i < length ys = omega arith in
    let hz : i < length zs = omega arith in
    rw (here xs i, here ys i, here zs i) refl

pub rows-past : (xs ys zs : List ℕ) (i : ℕ) → length xs ≤ i → rows_text (drop i xs) (drop i ys) (drop i zs) ≡ []
unfolding rows_text
rows-past xs ys zs i h = rw (past xs i) refl

pub record Rows (old : Writer) (xs ys zs : List ℕ) (now : Writer) (i : ℕ) : Type 0 where
  pub text : List ℕ
  pub all : text ++ rows_text (drop i xs) (drop i ys) (drop i zs) ≡ rows_text xs ys zs
  pub wrote : Writes old text now

module _ {old : Writer} {xs ys zs : List ℕ} (p : length xs ≡ length ys) (q : length ys ≡ length zs) (room : HasRoom old (rows_text xs ys zs))
    {now : Writer} {i : ℕ} (r : Rows old xs ys zs now i) where
  pub rows_all : length xs ≤ i → Writes old (rows_text xs ys zs) now
  rows_all h = writes_as (sym (append-nil r.text) ∙ ap (λ (l : List ℕ). r.text ++ l) (sym (rows-past xs ys zs i h)) ∙ r.all) r.wrote

  module _ (less : i < length xs) where
    abbrev next : List ℕ
    next = row_text (get_or xs i 0) (get_or ys i 0) (get_or zs i 0)

    rest : r.text ++ next ++ rows_text (drop (i + 1) xs) (drop (i + 1) ys) (drop (i + 1) zs) ≡ rows_text xs ys zs
    rest = append_assoc r.text next _ ∙ ap (λ (l : List ℕ). r.text ++ l) (sym (rows-here xs ys zs i p q less)) ∙ r.all

    fits : HasRoom old (r.text ++ next)
    fits = omega (arith, room, ap length (sym rest), length-append (r.text ++ next) (rows_text (drop (i + 1) xs) (drop (i + 1) ys) (drop (i + 1) zs)))

    pub rows-room : HasRoom now (row_text (get_or xs i 0) (get_or ys i 0) (get_or zs i 0))
    rows-room = writes-room r.wrote next fits

    pub rows_more : {last : Writer} → Writes now (row_text (get_or xs i 0) (get_or ys i 0) (get_or zs i 0)) last → Rows old xs ys zs last (i + 1)
    rows_more w = record { text = r.text ++ next; all = rest; wrote = writes_then r.wrote next fits w }

pub record Sum (xs ys zs : List ℕ) (sum i : ℕ) : Type 0 where
  pub most : i ≤ length xs
  pub all : sum + length (rows_text (drop i xs) (drop i ys) (drop i zs)) ≡ length (rows_text xs ys zs)
  pub small : sum ≤ 35 * i

module _ (xs ys zs : List ℕ) (p : length xs ≡ length ys) (q : length ys ≡ length zs) {sum i : ℕ} (s : Sum xs ys zs sum i) where
  pub sum-all : length xs ≤ i → sum ≡ length (rows_text xs ys zs)
  sum-all h = omega (arith, s.all, ap length (rows-past xs ys zs i h))

  pub sum_more : {r : ℕ} → i < length xs → (r ≡ length (row_text (get_or xs i 0) (get_or ys i 0) (get_or zs i 0))) × (r ≤ 35) → Sum xs ys zs (sum + r) (i + 1)
  sum_more {r} less e =
      record {
        most = omega arith;
        all =
            omega (
              arith,
              s.all,
              e.0,
              ap length (rows-here xs ys zs i p q less),
              length-append (row_text (get_or xs i 0) (get_or ys i 0) (get_or zs i 0)) (rows_text (drop (i + 1) xs) (drop (i + 1) ys) (drop (i + 1) zs)),
            );
        small = omega (arith, s.small, e.1);
      }

pub field-length : (key stop : List ℕ) (v : ℕ) → length (field_text key stop v) ≡ length key + length (digits v) + length stop
unfolding field_text
field-length key stop v = length-append (key ++ digits v) stop ∙ rw (length-append key (digits v)) refl

pub row-length : (a b s : ℕ) → length (row_text a b s) ≡ 8 + length (digits a) + length (digits b) + length (digits s)
unfolding row_text
row-length a b s =
    length-append (field_text line_key comma a ++ field_text [] comma b) (field_text [] newline s)
    ∙ rw (length-append (field_text line_key comma a) (field_text [] comma b), field-length, field-length, field-length) (omega arith)
