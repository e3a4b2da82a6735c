-- Laws of cuts, with no rate in the argument: what `out`, `size` and `cost` say of two sets of devices together.
--     agree-..                        only devices below n count
--     ..-submodular, size-modular     the devices in both sets, and those in either, against the two sets
--     out-posimodular, size-minus     the differences of two sets
--     size-inside, inside-equal       a set inside another
--     size-most                       no set has more devices than the plant
-- Assumes nothing.
use Prim.Native.Nat.{ℕ, zero, suc, ◌+◌, ◌*◌, ◌≤◌, ◌<◌}
use mathlib.Core.Path.{◌≡◌, refl, ap, sym, ◌∙◌, fun_ext}
use mathlib.Core.Bool.{Bool, true, false, not, ◌&&◌, ◌||◌, cond, false≢true}
use mathlib.Core.List.{List, [], ◌∷◌}
use native.Mathlib.Nat.{le_refl, le_step, mul-add, mul-le-mul_left, lt-suc_self, eq-zero-or-pos}
use native.Mathlib.Omega.{arith}
use mathlib.Core.Logic.{◌⊎◌, inl, inr}
use Rattle.rules.proofs.SetLaws.{below_suc, cond-most}
use Rattle.rules.specs.Plant.{Line, Plant}
use Rattle.rules.specs.Accepted.{EndsBelow, Sound}
use Rattle.rules.specs.Cut.{Devices, crossing, out, size_at, size_below, size, cost}
use Rattle.rules.specs.Sets.{Inside, Agree, minus}

-- the devices that are in both
abbrev pub meet : Devices → Devices → Devices
meet S T i = S i && T i

-- the devices that are in one or the other
abbrev pub join : Devices → Devices → Devices
join S T i = S i || T i

-- a device counts for at least one
pub size-pos : (g : Plant) (i : ℕ) → 1 ≤ size_at g i
unfolding size_at
size-pos g i = le_refl 1

-- only the devices below n count
pub agree-out : (n : ℕ) (ls : List Line) (S T : Devices) → EndsBelow n ls → Agree n S T → out ls S ≡ out ls T
unfolding EndsBelow out
agree-out n [] S T e a = refl
agree-out n (l ∷ ls) S T e a = rw (a l.first e.0, a l.second e.1, agree-out n ls S T e.2 a)

agree-below : (g : Plant) (k : ℕ) (S T : Devices) → Agree k S T → size_below g k S ≡ size_below g k T
unfolding size_below
agree-below g zero S T a = refl
agree-below g (suc k) S T a = rw (a k (lt-suc_self k), agree-below g k S T (λ i h. a i (le_step h)))

pub agree-size : (g : Plant) (S T : Devices) → Agree g.devices S T → size g S ≡ size g T
unfolding size
agree-size g S T a = agree-below g g.devices S T a

pub agree-cost : (g : Plant) (p q : ℕ) (S T : Devices) → Sound g → Agree g.devices S T → cost g p q S ≡ cost g p q T
unfolding cost
agree-cost g p q S T s a = rw (agree-out g.devices g.lines S T s a, agree-size g S T a)

-- one line: its signals in the cut of what is in both and of what is in either, against the two cuts
crossing-submodular :
    (s : ℕ) (a b c d : Bool) →
    crossing s (a && c) (b && d) + crossing s (a || c) (b || d) ≤ crossing s a b + crossing s c d
unfolding crossing
crossing-submodular s true true true true = omega arith
crossing-submodular s true true true false = omega arith
crossing-submodular s true true false true = omega arith
crossing-submodular s true true false false = omega arith
crossing-submodular s true false true true = omega arith
crossing-submodular s true false true false = omega arith
crossing-submodular s true false false true = omega arith
crossing-submodular s true false false false = omega arith
crossing-submodular s false true true true = omega arith
crossing-submodular s false true true false = omega arith
crossing-submodular s false true false true = omega arith
crossing-submodular s false true false false = omega arith
crossing-submodular s false false true true = omega arith
crossing-submodular s false false true false = omega arith
crossing-submodular s false false false true = omega arith
crossing-submodular s false false false false = omega arith

pub out-submodular : (ls : List Line) (S T : Devices) → out ls (meet S T) + out ls (join S T) ≤ out ls S + out ls T
unfolding out
out-submodular [] S T = omega arith
out-submodular (l ∷ ls) S T =
    let h = out-submodular ls S T in
    omega (arith, crossing-submodular l.signals (S l.first) (S l.second) (T l.first) (T l.second))

-- one device
cond-modular : (m : ℕ) (a b : Bool) → cond (a && b) m 0 + cond (a || b) m 0 ≡ cond a m 0 + cond b m 0
cond-modular m true true = refl
cond-modular m true false = omega arith
cond-modular m false true = refl
cond-modular m false false = refl

below-modular :
    (g : Plant) (k : ℕ) (S T : Devices) →
    size_below g k (meet S T) + size_below g k (join S T) ≡ size_below g k S + size_below g k T
unfolding size_below
below-modular g zero S T = refl
below-modular g (suc k) S T =
    let h = below-modular g k S T in
    omega (arith, cond-modular (size_at g k) (S k) (T k))

pub size-modular : (g : Plant) (S T : Devices) → size g (meet S T) + size g (join S T) ≡ size g S + size g T
unfolding size
size-modular g S T = below-modular g g.devices S T

pub cost-submodular :
    (g : Plant) (p q : ℕ) (S T : Devices) →
    cost g p q (meet S T) + cost g p q (join S T) ≤ cost g p q S + cost g p q T
unfolding cost
cost-submodular g p q S T =
    omega (
      arith,
      simp mul-add at (mul-le-mul_left q (out-submodular g.lines S T)),
      simp mul-add at (ap (λ (m : ℕ). p * m) (size-modular g S T)),
    )

-- a set and the rest have one cut
crossing-not : (s : ℕ) (a b : Bool) → crossing s (not a) (not b) ≡ crossing s a b
unfolding crossing
crossing-not s true true = refl
crossing-not s true false = refl
crossing-not s false true = refl
crossing-not s false false = refl

out-not : (ls : List Line) (S : Devices) → out ls (λ i. not (S i)) ≡ out ls S
unfolding out
out-not [] S = refl
out-not (l ∷ ls) S = rw (crossing-not l.signals (S l.first) (S l.second), out-not ls S)

or-not : (a b : Bool) → (a || not b) ≡ not (b && not a)
or-not true true = refl
or-not true false = refl
or-not false true = refl
or-not false false = refl

pub out-posimodular : (ls : List Line) (S T : Devices) → out ls (minus S T) + out ls (minus T S) ≤ out ls S + out ls T
out-posimodular ls S T =
    let rest : Devices = λ i. not (T i) in
    let same : out ls (join S rest) ≡ out ls (λ i. not (minus T S i)) = ap (out ls) (fun_ext (λ i. or-not (S i) (T i))) in
    omega (arith, out-submodular ls S rest, out-not ls T, out-not ls (minus T S))

cond-minus : (m : ℕ) (a b : Bool) → cond (a && not b) m 0 + cond (a && b) m 0 ≡ cond a m 0
cond-minus m true true = omega arith
cond-minus m true false = omega arith
cond-minus m false b = refl

below-minus :
    (g : Plant) (k : ℕ) (S T : Devices) →
    size_below g k (minus S T) + size_below g k (meet S T) ≡ size_below g k S
unfolding size_below
below-minus g zero S T = refl
below-minus g (suc k) S T =
    let h = below-minus g k S T in
    omega (arith, cond-minus (size_at g k) (S k) (T k))

pub size-minus : (g : Plant) (S T : Devices) → size g (minus S T) + size g (meet S T) ≡ size g S
unfolding size
size-minus g S T = below-minus g g.devices S T

cond-inside : (m : ℕ) (a b : Bool) → (a ≡ true → b ≡ true) → cond a m 0 ≤ cond b m 0
cond-inside m true b h = rw (h refl) (le_refl m)
cond-inside m false b h = omega arith

below-inside : (g : Plant) (k : ℕ) (S T : Devices) → Inside k S T → size_below g k S ≤ size_below g k T
unfolding size_below
below-inside g zero S T h = omega arith
below-inside g (suc k) S T h =
    let r = below-inside g k S T (λ i b. h i (le_step b)) in
    omega (arith, cond-inside (size_at g k) (S k) (T k) (h k (lt-suc_self k)))

pub size-inside : (g : Plant) (S T : Devices) → Inside g.devices S T → size g S ≤ size g T
unfolding size
size-inside g S T h = below-inside g g.devices S T h

cond-equal : (m : ℕ) (a b : Bool) → 1 ≤ m → (a ≡ true → b ≡ true) → cond b m 0 ≤ cond a m 0 → a ≡ b
cond-equal m true b o h l = sym (h refl)
cond-equal m false true o h l = absurd (omega arith)
cond-equal m false false o h l = refl

below_equal : (g : Plant) (k : ℕ) (S T : Devices) → Inside k S T → size_below g k T ≤ size_below g k S → Agree k S T
unfolding size_below
below_equal g zero S T h l = λ i b. absurd (omega arith)
below_equal g (suc k) S T h l =
    let inner : Inside k S T = λ j c. h j (le_step c) in
    let rest = below-inside g k S T inner in
    let last = cond-inside (size_at g k) (S k) (T k) (h k (lt-suc_self k)) in
    below_suc
    _
    k
    (below_equal g k S T inner (omega arith))
    (cond-equal (size_at g k) (S k) (T k) (size-pos g k) (h k (lt-suc_self k)) (omega arith))

pub inside-equal : (g : Plant) (S T : Devices) → Inside g.devices S T → size g T ≤ size g S → Agree g.devices S T
unfolding size
inside-equal g S T h l = below_equal g g.devices S T h l

below-most : (g : Plant) (k : ℕ) (S : Devices) → size_below g k S ≤ k
unfolding size_below size_at
below-most g zero S = le_refl 0
below-most g (suc k) S = omega (arith, below-most g k S, cond-most (S k) 1)

-- no set has more devices than the plant
pub size-most : (g : Plant) (S : Devices) → size g S ≤ g.devices
unfolding size
size-most g S = below-most g g.devices S

-- a set that holds a device is not empty
pub size_holds : (g : Plant) (S : Devices) (x : ℕ) → x < g.devices → S x ≡ true → 1 ≤ size g S
size_holds g S x b e = go (eq-zero-or-pos (size g S))
  where
    go : (size g S ≡ 0) ⊎ (0 < size g S) → 1 ≤ size g S
    go (inl z) =
        absurd (false≢true (inside-equal g (λ i. false) S (λ i c h. absurd (false≢true h)) (omega arith) x b ∙ e))
    go (inr h) = h

-- the differences of two sets cost less than the sets by what the two share
pub cost-posimodular :
    (g : Plant) (p q : ℕ) (S T : Devices) →
    cost g p q (minus S T) + cost g p q (minus T S) + p * size g (meet S T) ≤ cost g p q S + cost g p q T
unfolding cost
cost-posimodular g p q S T =
    omega (
      arith,
      simp mul-add at (mul-le-mul_left q (out-posimodular g.lines S T)),
      simp mul-add at (ap (λ (m : ℕ). p * m) (size-minus g S T)),
      simp mul-add at (ap (λ (m : ℕ). p * m) (size-minus g T S)),
    )
