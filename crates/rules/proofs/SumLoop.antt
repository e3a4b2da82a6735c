-- A loop that adds up f 0, f 1, .. , each at most b: the total so far is `sum k f`, and it stays at most n times b.
-- Assumes nothing.
use Prim.Native.Nat.{ℕ, ◌+◌, ◌*◌, ◌≤◌, ◌<◌, zero-le}
use mathlib.Core.Path.{◌≡◌, refl, sym, ap, subst, ◌∙◌}
use native.Mathlib.Nat.{le_trans, le_of_eq, mul-le-mul_right, lt_of_lt_of_le, le_antisymm}
use native.Mathlib.Omega.{arith}
use native.Mathlib.Numerals.{add-one, add-one-le}
use Rattle.rules.specs.Numbers.{sum}
use Rattle.rules.proofs.SumLaws.{sum-most}

pub record Summed (n : ℕ) (f : ℕ → ℕ) (total k : ℕ) : Type 0 where
  pub within : k ≤ n
  pub so_far : total ≡ sum k f

module _ (n : ℕ) (f : ℕ → ℕ) where
  pub summed-start : Summed n f 0 0
  unfolding sum
  summed-start = record { within = zero-le; so_far = refl }

  module _ {total k : ℕ} (s : Summed n f total k) (l : k < n) where
    pub summed-more : (x : ℕ) → x ≡ f k → Summed n f (total + x) (k + 1)
    unfolding sum
    summed-more x e = record {
      within = add-one-le l;
      so_far = ap (λ (t : ℕ). t + x) s.so_far ∙ ap (λ (t : ℕ). sum k f + t) e ∙ ap (λ (j : ℕ). sum j f) (sym (add-one k));
    }

    -- a term of 0 adds nothing
    pub summed-none : 0 ≡ f k → Summed n f total (k + 1)
    summed-none e = subst (λ (t : ℕ). Summed n f t (k + 1)) nothing (summed-more 0 e)
      where
        nothing : total + 0 ≡ total
        nothing = omega arith

    -- the next sum is at most n times b
    pub summed-most : (b x : ℕ) → ((i : ℕ) → i < n → f i ≤ b) → x ≡ f k → total + x ≤ n * b
    summed-most b x h e =
        let next = summed-more x e in
        le_trans (le_of_eq next.so_far)
        (le_trans (sum-most (k + 1) f b (λ i j. h i (lt_of_lt_of_le j next.within))) (mul-le-mul_right b next.within))

  pub summed-done : {total k : ℕ} → Summed n f total k → n ≤ k → total ≡ sum n f
  summed-done s l = s.so_far ∙ ap (λ (j : ℕ). sum j f) (le_antisymm s.within l)
