-- Words written one after the other, and the digits of a number written from its end.
--     placed-then     a word placed after a word is the two words placed at once
--     Digits          what a loop over digits has written: those after the place at, of which rest is what is left to write
-- Assumes nothing.
use Prim.Native.Nat.{ℕ, suc, ◌+◌, ◌-◌, ◌/◌, ◌%◌, ◌≤◌, ◌<◌}
use native.Mathlib.Nat.{add_assoc}
use native.Mathlib.Numerals.{add-one}
use native.Mathlib.Omega.{arith}
use mathlib.Core.Path.{◌≡◌, refl, sym, ap, ◌∙◌}
use mathlib.Core.List.{List, ◌∷◌, ◌++◌, append_assoc}
use lib.ListN.{length, set, take, drop, length-set, length-append, length-drop, drop_of_length-le}
use lib.Seq.{drop-cons, drop-drop, drop-set-lt, get_or-set_same, take_at, drop_at, length-take-le}
use borrow.Author.Tests.{lt-ltb, le-ltb}
use Rattle.text.specs.Numbers.{decimal, digits}
use Rattle.text.specs.Writing.{placed}

module _ (old : List ℕ) (at : ℕ) (w : List ℕ) (room : at + length w ≤ length old) where
  front : length (take at old ++ w) ≡ at + length w
  front = length-append (take at old) w ∙ rw (length-take-le at old (omega arith)) refl

  pub placed-length : length (placed old at w) ≡ length old
  placed-length = length-append (take at old ++ w) (drop (at + length w) old) ∙ rw (front, length-drop (at + length w) old) (omega arith)

pub placed-then : (old : List ℕ) (at : ℕ) (v w : List ℕ) → at + length v + length w ≤ length old
    → placed (placed old at v) (at + length v) w ≡ placed old at (v ++ w)
placed-then old at v w room =
    let h : at + length v ≤ length old = omega arith in
    let front-is : take (at + length v) (placed old at v) ≡ take at old ++ v = take_at (take at old ++ v) (drop (at + length v) old) (at + length v) (front old at v h) in
    let back_is : drop (at + length v + length w) (placed old at v) ≡ drop (at + length v + length w) old =
    sym (drop-drop (length w) (at + length v) (placed old at v))
    ∙ rw (drop_at (take at old ++ v) (drop (at + length v) old) (at + length v) (front old at v h)) (drop-drop (length w) (at + length v) old) in
    rw (front-is, back_is, length-append v w, ← add_assoc, append_assoc (take at old) v w) refl

pub record Digits (d : List ℕ) (v rest at : ℕ) : Type 0 where
  pub most : at ≤ 9
  pub long : length d ≡ 9
  pub left : digits v ≡ decimal at rest (drop at d)

pub digits-start : (d : List ℕ) (v : ℕ) → length d ≡ 9 → Digits d v v 9
unfolding digits
digits-start d v h = record { most = omega arith; long = h; left = rw (drop_of_length-le d {i = 9} (omega (arith, h))) refl }

-- the digit x stands before those that are written
pub digit-placed : (d : List ℕ) (k x : ℕ) → k < length d → drop k (set d k x) ≡ x ∷ drop (k + 1) d
digit-placed d k x h =
    drop-cons (set d k x) k 0 (rw (length-set d k x) h)
    ∙ rw (get_or-set_same d k x 0 h, drop-set-lt (suc k) d k x (omega arith), add-one) refl

module _ {d : List ℕ} {v rest at : ℕ} (i : Digits d v rest at) where
  pub digits-none : at ≤ 0 → drop 0 d ≡ digits v
  unfolding decimal
  digits-none h = let z : at ≡ 0 = omega arith in sym (i.left ∙ rw z refl)

  module _ (some : 0 < at) where
    one_less : digits v ≡ decimal (suc (at - 1)) rest (drop (at - 1 + 1) d)
    one_less =
        let a : at ≡ suc (at - 1) = omega arith in
        let b : at ≡ at - 1 + 1 = omega arith in
        i.left
        ∙ ap (λ (n : ℕ). decimal n rest (drop at d)) a
        ∙ ap (λ (n : ℕ). decimal (suc (at - 1)) rest (drop n d)) b

    written : drop (at - 1) (set d (at - 1) (48 + rest % 10)) ≡ (48 + rest % 10) ∷ drop (at - 1 + 1) d
    written = digit-placed d (at - 1) (48 + rest % 10) (omega (arith, i.long, i.most))

    pub digits_last : rest < 10 → drop (at - 1) (set d (at - 1) (48 + rest % 10)) ≡ digits v
    unfolding decimal
    digits_last h =
        let e : rest % 10 ≡ rest = omega arith in
        written ∙ sym (one_less ∙ rw (lt-ltb rest 10 h, e) refl)

    pub digits_more : 10 ≤ rest → Digits (set d (at - 1) (48 + rest % 10)) v (rest / 10) (at - 1)
    unfolding decimal
    digits_more h =
        record {
          most = omega (arith, i.most);
          long = length-set d (at - 1) (48 + rest % 10) ∙ i.long;
          left = one_less ∙ rw (le-ltb rest 10 h, written) refl;
        }
