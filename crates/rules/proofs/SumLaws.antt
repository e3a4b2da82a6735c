-- Laws of `sum`: sums that agree, that differ at one place, the numbers of a sum, sums that are 0, of multiples, and of a mark at one place; out and size as sums.
-- Assumes nothing.
use Prim.Native.Nat.{ℕ, zero, suc, ◌+◌, ◌*◌, ◌≤◌, ◌<◌, zero-le}
use mathlib.Core.Path.{◌≡◌, refl, sym, ap, ap₂}
use mathlib.Core.Logic.{◌⊎◌, inl, inr}
use mathlib.Core.Bool.{Bool, cond}
use mathlib.Core.List.{List, [], ◌∷◌}
use native.Mathlib.Nat.{le_step, lt-suc_self, le-suc_iff, suc_inj, suc-mul, mul-zero, mul-add}
use native.Mathlib.Omega.{arith}
use borrow.Author.Tests.{eq-eqb, ne_eqb}
use lib.Dec.{eqb}
use lib.ListN.{length, get_or}
use Rattle.rules.specs.Plant.{Plant, lines_of, plant_of}
use Rattle.rules.specs.Cut.{Devices, crossing, out, size_at, size_below, size}
use Rattle.rules.specs.Numbers.{sum}

pub sum-agree : (m : ℕ) (f h : ℕ → ℕ) → ((k : ℕ) → k < m → f k ≡ h k) → sum m f ≡ sum m h
unfolding sum
sum-agree zero f h a = refl
sum-agree (suc m) f h a = ap₂ ◌+◌ (sum-agree m f h (λ k b. a k (le_step b))) (a m (lt-suc_self m))

pub sum-most : (m : ℕ) (f : ℕ → ℕ) (b : ℕ) → ((k : ℕ) → k < m → f k ≤ b) → sum m f ≤ m * b
unfolding sum
sum-most zero f b a = zero-le
sum-most (suc m) f b a =
    let rest = sum-most m f b (λ k c. a k (le_step c)) in
    omega (arith, a m (lt-suc_self m), suc-mul m b)

-- two that differ only at l
pub sum-change : (m : ℕ) (f h : ℕ → ℕ) (l : ℕ) → l < m → ((k : ℕ) → k < m → (k ≡ l → ⊥) → h k ≡ f k) → sum m h + f l ≡ sum m f + h l
unfolding sum
sum-change zero f h l b a = absurd (omega arith)
sum-change (suc m) f h l b a = go (le-suc_iff.0 b) (λ c. sum-change m f h l c (λ k e. a k (le_step e)))
  where
    go : (l < m) ⊎ (suc l ≡ suc m) → (l < m → sum m h + f l ≡ sum m f + h l) → sum m h + h m + f l ≡ sum m f + f m + h l
    go (inl c) rec = omega (arith, rec c, a m (lt-suc_self m) (λ e. omega arith))
    go (inr e) rec =
        let last : l ≡ m = suc_inj e in
        let same : sum m h ≡ sum m f = sum-agree m h f (λ k c. a k (le_step c) (λ z. omega arith)) in
        rw last (omega arith)

-- one of the numbers of a sum, and two of them
abbrev without : (ℕ → ℕ) → ℕ → ℕ → ℕ
without f l v = cond (eqb v l) 0 (f v)

without-it : (m : ℕ) (f : ℕ → ℕ) (l : ℕ) → l < m → sum m (without f l) + f l ≡ sum m f
without-it m f l b = omega (arith, sum-change m f (without f l) l b (λ v h n. rw (ne_eqb v l n)), ap (λ (t : Bool). cond t 0 (f l)) (eq-eqb l l refl))

pub sum-part : (m : ℕ) (f : ℕ → ℕ) (l : ℕ) → l < m → f l ≤ sum m f
sum-part m f l b = omega (arith, without-it m f l b)

pub sum-two : (m : ℕ) (f : ℕ → ℕ) (k l : ℕ) → k < m → l < m → (k ≡ l → ⊥) → f k + f l ≤ sum m f
sum-two m f k l b c n = omega (arith, without-it m f l c, sum-part m (without f l) k b, ap (λ (t : Bool). cond t 0 (f k)) (ne_eqb k l n))

-- a sum is 0 exactly where each part is
pub sum-zero : (m : ℕ) (f : ℕ → ℕ) → sum m f ≡ 0 → (k : ℕ) → k < m → f k ≡ 0
unfolding sum
sum-zero zero f e k b = absurd (omega arith)
sum-zero (suc m) f e k b = go (le-suc_iff.0 b) (sum-zero m f (omega arith) k)
  where
    go : (k < m) ⊎ (suc k ≡ suc m) → (k < m → f k ≡ 0) → f k ≡ 0
    go (inl c) rec = rec c
    go (inr s) rec = rw (suc_inj s) (omega arith)

pub zero-sum : (m : ℕ) (f : ℕ → ℕ) → ((k : ℕ) → k < m → f k ≡ 0) → sum m f ≡ 0
unfolding sum
zero-sum zero f a = refl
zero-sum (suc m) f a = omega (arith, zero-sum m f (λ k b. a k (le_step b)), a m (lt-suc_self m))

pub sum-scale : (m c : ℕ) (f : ℕ → ℕ) → sum m (λ k. c * f k) ≡ c * sum m f
unfolding sum
sum-scale zero c f = sym (mul-zero c)
sum-scale (suc m) c f = rw (mul-add, sum-scale m c f)

pub sum-front : (m : ℕ) (f : ℕ → ℕ) → sum (suc m) f ≡ f 0 + sum m (λ k. f (suc k))
unfolding sum
sum-front zero f = omega arith
sum-front (suc m) f = omega (arith, sum-front m f)

-- of a list that marks d alone
pub sum_one : (k : ℕ) (f : ℕ → ℕ) (d : ℕ) → d < k → ((v : ℕ) → v < k → f v ≡ cond (eqb v d) 1 0) → sum k f ≡ 1
sum_one k f d l h =
    let others : (v : ℕ) → v < k → (v ≡ d → ⊥) → f v ≡ 0 = λ v m n. rw (h v m, ne_eqb v d n) in
    let own : f d ≡ 1 = rw (h d l, eq-eqb d d refl) in
    omega (arith, sum-change k (λ v. 0) f d l others, zero-sum k (λ v. 0) (λ v m. refl))

-- out and size as sums
pub size-one : (g : Plant) (v : ℕ) → size_at g v ≡ 1
unfolding size_at
size-one g v = refl

pub out-sum : (xs ys zs : List ℕ) (S : Devices) → length xs ≡ length ys → length ys ≡ length zs
    → out (lines_of xs ys zs) S ≡ sum (length xs) (λ l. crossing (get_or zs l 0) (S (get_or xs l 0)) (S (get_or ys l 0)))
unfolding out lines_of sum
out-sum [] ys zs S e e' = refl
out-sum (a ∷ xs) [] zs S e e' = absurd (omega arith)
out-sum (a ∷ xs) (b ∷ ys) [] S e e' = absurd (omega arith)
out-sum (a ∷ xs) (b ∷ ys) (c ∷ zs) S e e' =
    rw (out-sum xs ys zs S (suc_inj e) (suc_inj e')) (sym (sum-front (length xs) (λ l. crossing (get_or (c ∷ zs) l 0) (S (get_or (a ∷ xs) l 0)) (S (get_or (b ∷ ys) l 0)))))

pub below-sum : (g : Plant) (k : ℕ) (S : Devices) → size_below g k S ≡ sum k (λ v. cond (S v) (size_at g v) 0)
unfolding size_below sum
below-sum g zero S = refl
below-sum g (suc k) S = rw (below-sum g k S)

pub size-sum : (n : ℕ) (xs ys zs : List ℕ) (S : Devices) → size (plant_of n xs ys zs) S ≡ sum n (λ v. cond (S v) (size_at (plant_of n xs ys zs) v) 0)
unfolding size plant_of
size-sum n xs ys zs S = below-sum (plant_of n xs ys zs) n S
