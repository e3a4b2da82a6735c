-- Small laws that the others cite: of tests, of numbers below a bound, and of Inside and Agree alone.
-- Assumes nothing.
use mathlib.Core.Path.{◌≡◌, refl, sym, ◌∙◌, subst⁻¹}
use mathlib.Core.Bool.{Bool, true, false, not, ◌&&◌, ◌||◌, cond, true≢false, false≢true}
use mathlib.Core.Logic.{◌⊎◌, inl, inr, ⊎_elim}
use Prim.Native.Nat.{ℕ, suc, ◌≤◌, ◌<◌, zero-le}
use native.Mathlib.Nat.{le_refl, eq-or-lt_of_le, le_of_suc-le-suc}
use Rattle.rules.specs.Cut.{Devices}
use Rattle.rules.specs.Sets.{Inside, Agree}

pub and_left : (a b : Bool) → (a && b) ≡ true → a ≡ true
and_left true b e = refl
and_left false b e = e

pub and_right : (a b : Bool) → (a && b) ≡ true → b ≡ true
and_right true b e = e
and_right false b e = absurd (false≢true e)

pub or_right : (a b : Bool) → b ≡ true → (a || b) ≡ true
or_right true b e = refl
or_right false b e = e

-- a test of two parts that holds
pub or_cases : (a b : Bool) → (a || b) ≡ true → (a ≡ true) ⊎ (b ≡ true)
or_cases true b e = inl refl
or_cases false b e = inr e

-- a test of two parts that fails, and a negated one
pub or-off-left : (a b : Bool) → (a || b) ≡ false → a ≡ false
or-off-left true b e = e
or-off-left false b e = refl

pub or-off-right : (a b : Bool) → (a || b) ≡ false → b ≡ false
or-off-right true b e = absurd (true≢false e)
or-off-right false b e = e

pub not-off : (a : Bool) → not a ≡ false → a ≡ true
not-off true e = refl
not-off false e = absurd (true≢false e)

-- a Bool that is true exactly if another is, is that other
pub same_bool : (a b : Bool) → (a ≡ true → b ≡ true) → (b ≡ true → a ≡ true) → a ≡ b
same_bool true b f h = sym (f refl)
same_bool false true f h = h refl
same_bool false false f h = refl

pub agree-both : {n : ℕ} (S T : Devices) → Inside n S T → Inside n T S → Agree n S T
agree-both S T a b i h = same_bool (S i) (T i) (a i h) (b i h)

pub agree-inside : {n : ℕ} {S T : Devices} → Agree n S T → Inside n S T
agree-inside a i h m = sym (a i h) ∙ m

pub agree-sym : {n : ℕ} {S T : Devices} → Agree n S T → Agree n T S
agree-sym a i h = sym (a i h)

pub agree_trans : {n : ℕ} {S T U : Devices} → Agree n S T → Agree n T U → Agree n S U
agree_trans a b i h = a i h ∙ b i h

-- what a test lets count
pub cond-most : (b : Bool) (m : ℕ) → cond b m 0 ≤ m
cond-most true m = le_refl m
cond-most false m = zero-le

-- what holds of each number below k, and of k, holds of each below k + 1
pub below_suc : (P : ℕ → Type 0) (k : ℕ) → ((e : ℕ) → e < k → P e) → P k → (e : ℕ) → e < suc k → P e
below_suc P k f a e h = ⊎_elim (λ q. subst⁻¹ P q a) (f e) (eq-or-lt_of_le (le_of_suc-le-suc h))
