-- A word and a number, byte by byte.
--     here          the bytes from a place are the byte there and the bytes after it
--     begins-..     whether a text goes on with a word
--     run-.., run_none the digits at the front
--     Count         what a loop over digits has read: v is the value of the first k, which are digits
-- Assumes nothing.
use Prim.Native.Nat.{ℕ, zero, suc, ◌+◌, ◌*◌, ◌-◌, ◌^◌, ◌≤◌, ◌<◌}
use native.Mathlib.Nat.{pow-suc, add-zero}
use native.Mathlib.Numerals.{add-one}
use native.Mathlib.Omega.{arith}
use mathlib.Core.Path.{◌≡◌, refl, sym, ap, ◌∙◌}
use mathlib.Core.Bool.{Bool, true, false, ◌&&◌, true≢false}
use mathlib.Core.List.{List, [], ◌∷◌}
use lib.ListN.{length, get_or, take, drop, drop_of_length-le}
use lib.Seq.{drop-cons}
use lib.Dec.{leb, eqb}
use borrow.Author.Tests.{le-leb, leb-true}
use Rattle.std.specs.Char.{is_ascii_digit}
use Rattle.std.specs.Cmp.Lexicographic.{pointwise}
use Rattle.text.specs.Numbers.{is_digit, run, value_of}
use Rattle.text.specs.Lines.{begins}

pub here : (t : List ℕ) (i : ℕ) → i < length t → drop i t ≡ get_or t i 0 ∷ drop (i + 1) t
here t i h = rw add-one (drop-cons t i 0 h)

pub past : (t : List ℕ) (i : ℕ) → length t ≤ i → drop i t ≡ []
past t i h = drop_of_length-le t h

pub both_left : (a b : Bool) → a && b ≡ true → a ≡ true
both_left true b e = refl
both_left false b e = e

pub both_right : (a b : Bool) → a && b ≡ true → b ≡ true
both_right true b e = e
both_right false b e = absurd (true≢false (sym e))

-- whether a text goes on with a word
pub begins-is : (w l : List ℕ) → pointwise eqb w (take (length w) l) ≡ begins w l
unfolding begins
begins-is [] l = refl
begins-is (x ∷ w) [] = refl
begins-is (x ∷ w) (b ∷ l) = ap (λ (r : Bool). eqb x b && r) (begins-is w l)

-- by what was found of the bytes m, which are the text l from a place on
pub begins-by : (w l m : List ℕ) {g b : Bool} → m ≡ l → g ≡ pointwise eqb w (take (length w) m) → g ≡ b → begins w l ≡ b
begins-by w l m e s h = sym (begins-is w l) ∙ ap (λ (k : List ℕ). pointwise eqb w (take (length w) k)) (sym e) ∙ sym s ∙ h

pub digit-is : (b : ℕ) → is_ascii_digit b ≡ is_digit b
unfolding is_digit
digit-is b = refl

pub digit-here : (b : ℕ) → 48 ≤ b → b ≤ 57 → is_digit b ≡ true
unfolding is_digit
digit-here b l u = simp (le-leb 48 b l, le-leb b 57 u)

pub digit-most : (b : ℕ) → is_digit b ≡ true → b ≤ 57
unfolding is_digit
digit-most b e = leb-true b 57 (both_right (leb 48 b) (leb b 57) e)

pub run_none : (k : ℕ) → run k [] ≡ []
unfolding run
run_none zero = refl
run_none (suc k) = refl

pub run-stop : (k b : ℕ) (l : List ℕ) → is_digit b ≡ false → run k (b ∷ l) ≡ []
unfolding run
run-stop zero b l h = refl
run-stop (suc k) b l h = rw h

-- the digits at the front that are read: k of them, which state v
pub record Count (l : List ℕ) (v k : ℕ) : Type 0 where
  pub most : k ≤ 9
  pub small : v < 10 ^ k
  pub value : value_of 0 (run 9 l) ≡ value_of v (run (9 - k) (drop k l))
  pub count : length (run 9 l) ≡ k + length (run (9 - k) (drop k l))

-- v and k are what the digits at the front state and how many they are
abbrev pub Read : List ℕ → ℕ → ℕ → Type 0
Read l v k = (v ≡ value_of 0 (run 9 l)) × (k ≡ length (run 9 l))

-- nothing more to read
module _ {l : List ℕ} {v k : ℕ} (c : Count l v k) where
  done-by : run (9 - k) (drop k l) ≡ [] → Read l v k
  unfolding value_of
  done-by e = (sym (c.value ∙ rw e refl), sym (c.count ∙ rw (e, add-zero) refl))

  pub count-end : length l ≤ k → Read l v k
  count-end h = done-by (rw (past l k) (run_none (9 - k)))

  pub count-stop : k < length l → is_digit (get_or l k 0) ≡ false → Read l v k
  count-stop h e = done-by (rw (here l k) (run-stop (9 - k) _ _ e))

  pub count-nine : 9 ≤ k → Read l v k
  unfolding run
  count-nine h = let z : 9 - k ≡ 0 = omega arith in done-by (rw z refl)

  more : k < 9 → k < length l → is_digit (get_or l k 0) ≡ true
      → run (9 - k) (drop k l) ≡ get_or l k 0 ∷ run (9 - (k + 1)) (drop (k + 1) l)
  unfolding run
  more less in-text d =
      let e : 9 - k ≡ suc (9 - (k + 1)) = omega arith in
      rw (here l k, e, d)

  pub count-more : k < 9 → k < length l → is_digit (get_or l k 0) ≡ true → Count l (10 * v + (get_or l k 0 - 48)) (k + 1)
  unfolding value_of
  count-more less in-text d =
      let high : get_or l k 0 ≤ 57 = digit-most _ d in
      record {
        most = omega arith;
        small = rw (add-one, pow-suc) (omega arith);
        value = c.value ∙ rw (more less in-text d) refl;
        count = c.count ∙ rw (more less in-text d) (omega arith);
      }
