-- Lists that are filled with the numbers of rows.
--     Kept        what a loop over rows has kept in one list: the numbers of the first i of m rows
-- Assumes nothing.
use Prim.Native.Nat.{ℕ, zero, suc, ◌+◌, ◌-◌, ◌<◌}
use native.Mathlib.Numerals.{add-one}
use native.Mathlib.Omega.{arith}
use mathlib.Core.Path.{◌≡◌, refl, sym, ap, ◌∙◌}
use mathlib.Core.List.{List, ◌++◌, append_assoc, append-nil}
use lib.ListN.{length, set, take, drop, length-set}
use lib.Seq.{take_all, take-suc-set}
use Rattle.text.specs.Lines.{Row, row}
use Rattle.text.specs.Form.{column}

pub column-length : (f : Row → ℕ) (m : ℕ) (l : List ℕ) → length (column f m l) ≡ m
unfolding column
column-length f zero l = refl
column-length f (suc m) l = ap suc (column-length f m (drop (row l).used l))

-- rest is what follows the first i rows
pub record Kept (f : Row → ℕ) (m : ℕ) (l a : List ℕ) (i : ℕ) (rest : List ℕ) : Type 0 where
  pub long : length a ≡ m
  pub all : column f m l ≡ take i a ++ column f (m - i) rest

module _ {f : Row → ℕ} {m : ℕ} {l a : List ℕ} {i : ℕ} {rest : List ℕ} (k : Kept f m l a i rest) where
  pub kept-all : i ≡ m → a ≡ column f m l
  unfolding column
  kept-all e =
      let z : m - m ≡ 0 = omega arith in
      sym (k.all ∙ rw (e, z, append-nil) (take_all m a (omega (arith, k.long))))

  pub kept_more : {x : ℕ} {rest' : List ℕ} → i < m → x ≡ f (row rest) → rest' ≡ drop (row rest).used rest → Kept f m l (set a i x) (i + 1) rest'
  unfolding column
  kept_more {x} {rest'} less e next =
      let in_list : i < length a = omega (arith, k.long) in
      let one : m - i ≡ suc (m - (i + 1)) = omega arith in
      record {
        long = length-set a i x ∙ k.long;
        all = k.all ∙ rw (one, sym e, sym next, add-one, take-suc-set a i x in_list, append_assoc) refl;
      }
