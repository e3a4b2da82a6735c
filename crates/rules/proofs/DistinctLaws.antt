-- The number of distinct labels is the number of devices that are their own label. Assumes nothing.
use mathlib.Core.Path.{◌≡◌, refl, sym, ap, ap₂}
use mathlib.Core.Bool.{Bool, true, false, ◌||◌, cond, or-true}
use mathlib.Core.List.{List, [], ◌∷◌, ◌++◌}
use Prim.Native.Nat.{ℕ, zero, suc, ◌+◌, ◌≤◌, ◌<◌, zero-le, suc-le-suc}
use native.Mathlib.Nat.{le_refl, le_of_suc-le-suc}
use native.Mathlib.Omega.{arith}
use lib.Dec.{eqb}
use borrow.Author.Tests.{eqb-true, eqb-false, eq-eqb, ne_eqb}
use Rattle.rules.specs.Plant.{Plant}
use Rattle.rules.specs.Cut.{size}
use Rattle.rules.specs.Community.{community}
use Rattle.rules.specs.Groups.{table, label, groups, among, distinct}
use Rattle.rules.proofs.SetLaws.{cond-most}
use Rattle.rules.proofs.Family.{Family}
use Rattle.rules.proofs.LabelLaws.{label-le, label-label}

-- how many numbers below k are their own value under f
unfoldable pub owns : ℕ → (ℕ → ℕ) → ℕ
owns zero f = 0
owns (suc k) f = owns k f + cond (eqb (f k) k) 1 0

-- there are no more than k
pub owns-most : (k : ℕ) (f : ℕ → ℕ) → owns k f ≤ k
unfolding owns
owns-most zero f = le_refl 0
owns-most (suc k) f = omega (arith, owns-most k f, cond-most (eqb (f k) k) 1)

-- a list's last entry
pub table-snoc : (n : ℕ) (f : ℕ → ℕ) → table (suc n) f ≡ table n f ++ (f n ∷ [])
unfolding table
table-snoc zero f = refl
table-snoc (suc n) f = ap (λ (l : List ℕ). f 0 ∷ l) (table-snoc n (λ i. f (suc i)))

-- how a test of the last entry goes past one of the first
swap : (a b c : Bool) → (a || (b || c)) ≡ (b || (a || c))
swap true b c = sym (or-true b)
swap false b c = refl

among-snoc : (x : ℕ) (xs : List ℕ) (y : ℕ) → among x (xs ++ (y ∷ [])) ≡ (eqb x y || among x xs)
unfolding among
among-snoc x [] y = refl
among-snoc x (z ∷ xs) y = rw (among-snoc x xs y) (swap (eqb x z) (eqb x y) (among x xs))

-- a new last entry counts where it does not stand in the list before it
pub distinct_snoc : (xs : List ℕ) (y : ℕ) → distinct (xs ++ (y ∷ [])) ≡ distinct xs + cond (among y xs) 0 1
unfolding distinct among
distinct_snoc [] y = refl
distinct_snoc (x ∷ xs) y = rw (among-snoc x xs y, distinct_snoc xs y) (go (eqb x y) refl)
  where
    go : (b : Bool) → eqb x y ≡ b → cond (b || among x xs) 0 1 + (distinct xs + cond (among y xs) 0 1) ≡ cond (among x xs) 0 1 + distinct xs + cond (eqb y x || among y xs) 0 1
    go true e = rw (eq-eqb y x (sym (eqb-true x y e)), ← eqb-true x y e) (omega arith)
    go false e = rw (ne_eqb y x (λ q. eqb-false x y e (sym q))) (omega arith)

pub among-table : (n : ℕ) (f : ℕ → ℕ) (x i : ℕ) → i < n → f i ≡ x → among x (table n f) ≡ true
unfolding among table
among-table zero f x i h e = absurd (omega arith)
among-table (suc n) f x zero h e = rw (eq-eqb x (f 0) (sym e))
among-table (suc n) f x (suc i) h e = rw (among-table n (λ i. f (suc i)) x i (le_of_suc-le-suc h) e, or-true)

pub among_none : (n : ℕ) (f : ℕ → ℕ) (x : ℕ) → ((i : ℕ) → i < n → f i ≡ x → ⊥) → among x (table n f) ≡ false
unfolding among table
among_none zero f x none = refl
among_none (suc n) f x none = rw (ne_eqb x (f 0) (λ e. none 0 (suc-le-suc zero-le) (sym e))) (among_none n (λ i. f (suc i)) x (λ i h. none (suc i) (suc-le-suc h)))

-- the last of n + 1 values is new exactly if it is its own
last-new : (n : ℕ) (f : ℕ → ℕ) → ((i : ℕ) → i < suc n → f i ≤ i) → f (f n) ≡ f n
    → ◌≡◌ {A = ℕ} (cond (among (f n) (table n f)) 0 1) (cond (eqb (f n) n) 1 0)
last-new n f low twice = go (eqb (f n) n) refl
  where
    go : (b : Bool) → eqb (f n) n ≡ b → ◌≡◌ {A = ℕ} (cond (among (f n) (table n f)) 0 1) (cond b 1 0)
    go true e = rw (among_none n f (f n) (λ i h q. absurd (omega (arith, low i (omega arith), eqb-true (f n) n e))))
    go false e = rw (among-table n f (f n) (f n) (omega (arith, low n (le_refl _), eqb-false (f n) n e)) twice)

pub distinct-owns : (n : ℕ) (f : ℕ → ℕ) → ((i : ℕ) → i < n → f i ≤ i) → ((i : ℕ) → i < n → f (f i) ≡ f i) → distinct (table n f) ≡ owns n f
unfolding owns
distinct-owns zero f low twice = unfold distinct table in refl
distinct-owns (suc n) f low twice =
    rw (table-snoc n f, distinct_snoc)
    (ap₂ ◌+◌ (distinct-owns n f (λ i h. low i (omega arith)) (λ i h. twice i (omega arith))) (last-new n f low (twice n (le_refl _))))

pub groups-distinct : (g : Plant) (p q : ℕ) → Family g.devices (size g) (community g p q) → distinct (groups g p q) ≡ owns g.devices (label g p q)
unfolding groups
groups-distinct g p q fam = distinct-owns g.devices (label g p q) (label-le g p q fam) (label-label g p q fam)
