-- Networks: the least set is the only one, it is the community where a set of nodes costs what it costs in the plant, and laws of the drains of a set, which are a sum over its nodes.
-- Assumes nothing.
use Prim.Native.Nat.{ℕ, zero, suc, ◌+◌, ◌*◌, ◌<◌}
use mathlib.Core.Path.{◌≡◌, refl, sym, ap₂, ◌∙◌}
use mathlib.Core.Bool.{Bool, true, false, cond}
use mathlib.Core.List.{List}
use mathlib.Core.Logic.{◌⊎◌, inl, inr}
use native.Mathlib.Nat.{le_step, lt-suc_self, le_of_suc-le-suc, eq-or-lt_of_le, mul-zero, mul-add}
use native.Mathlib.Omega.{arith}
use lib.Dec.{eqb}
use borrow.Author.Tests.{eq-eqb, ne_eqb}
use Rattle.rules.specs.Plant.{Line, Plant}
use Rattle.rules.specs.Accepted.{Sound}
use Rattle.rules.specs.Cut.{Devices, cost}
use Rattle.rules.specs.Sets.{Agree}
use Rattle.rules.specs.Community.{community}
use Rattle.rules.specs.Network.{drained, net_cost, IsLeast}
use Rattle.rules.proofs.SetLaws.{agree-both}
use Rattle.rules.proofs.Sums.{size-inside}
use Rattle.rules.proofs.Communities.{community-only}

-- two least sets of one network and one start hold the same nodes
pub least-only :
    {lines : List Line} {drains : ℕ → ℕ} {k start : ℕ} {S T : Devices} →
    IsLeast lines drains k start S →
    IsLeast lines drains k start T →
    Agree k S T
least-only {S = S} {T = T} s t =
    agree-both S T (s.inside T t.holds (t.least S s.holds)) (t.inside S s.holds (s.least T t.holds))

-- a network of all devices in which each set costs what it costs in the plant: the least set that holds device d is the community of d
pub least-community :
    (g : Plant) (p q : ℕ) {lines : List Line} {drains : ℕ → ℕ} {d : ℕ} {S : Devices} →
    Sound g →
    d < g.devices →
    ((T : Devices) → net_cost lines drains g.devices T ≡ cost g p q T) →
    IsLeast lines drains g.devices d S →
    Agree g.devices S (community g p q d)
least-community g p q {S = S} s b e t =
    community-only s b
    (record {
      holds = t.holds;
      least = λ T h. omega (arith, e S, e T, t.least T h);
      fewest = λ T h l. size-inside g S T (t.inside T h (omega (arith, e S, e T)));
    })

-- only the drains of nodes of S count
cond-agree : (b : Bool) (x y : ℕ) → (b ≡ true → x ≡ y) → cond b x 0 ≡ cond b y 0
cond-agree true x y e = e refl
cond-agree false x y e = refl

pub drained-agree :
    (f h : ℕ → ℕ) (k : ℕ) (S : Devices) → ((x : ℕ) → x < k → S x ≡ true → f x ≡ h x) → drained f k S ≡ drained h k S
unfolding drained
drained-agree f h zero S a = refl
drained-agree f h (suc k) S a =
    ap₂ ◌+◌ (drained-agree f h k S (λ x b. a x (le_step b))) (cond-agree (S k) (f k) (h k) (a k (lt-suc_self k)))

cond-add : (b : Bool) (x y : ℕ) → cond b (x + y) 0 ≡ cond b x 0 + cond b y 0
cond-add true x y = refl
cond-add false x y = refl

pub drained-add : (f h : ℕ → ℕ) (k : ℕ) (S : Devices) → drained (λ x. f x + h x) k S ≡ drained f k S + drained h k S
unfolding drained
drained-add f h zero S = refl
drained-add f h (suc k) S = omega (arith, drained-add f h k S, cond-add (S k) (f k) (h k))

cond-scale : (c : ℕ) (b : Bool) (x : ℕ) → cond b (c * x) 0 ≡ c * cond b x 0
cond-scale c true x = refl
cond-scale c false x = sym (mul-zero c)

pub drained-scale : (c : ℕ) (f : ℕ → ℕ) (k : ℕ) (S : Devices) → drained (λ x. c * f x) k S ≡ c * drained f k S
unfolding drained
drained-scale c f zero S = sym (mul-zero c)
drained-scale c f (suc k) S =
    rw (mul-add c (drained f k S) (cond (S k) (f k) 0)) (ap₂ ◌+◌ (drained-scale c f k S) (cond-scale c (S k) (f k)))

-- drains of 0
zero-drained : (k : ℕ) (S : Devices) → drained (λ x. 0) k S ≡ 0
unfolding drained
zero-drained zero S = refl
zero-drained (suc k) S = rw (zero-drained k S) (same (S k))
  where
    same : (b : Bool) → 0 + cond b 0 0 ≡ 0
    same true = refl
    same false = refl

pub drained-none : (f : ℕ → ℕ) (k : ℕ) (S : Devices) → ((x : ℕ) → x < k → S x ≡ true → f x ≡ 0) → drained f k S ≡ 0
drained-none f k S a = drained-agree f (λ x. 0) k S a ∙ zero-drained k S

-- a drain at node a alone
pub drained-at : (a s k : ℕ) (S : Devices) → a < k → drained (λ x. cond (eqb a x) s 0) k S ≡ cond (S a) s 0
unfolding drained
drained-at a s zero S b = absurd (omega arith)
drained-at a s (suc k) S b = go (eq-or-lt_of_le (le_of_suc-le-suc b)) (drained-at a s k S)
  where
    go :
        (a ≡ k) ⊎ (a < k) →
        (a < k → drained (λ x. cond (eqb a x) s 0) k S ≡ cond (S a) s 0) →
        drained (λ x. cond (eqb a x) s 0) k S + cond (S k) (cond (eqb a k) s 0) 0 ≡ cond (S a) s 0
    go (inl e) rec =
        let before : drained (λ x. cond (eqb a x) s 0) k S ≡ 0 =
        drained-none (λ x. cond (eqb a x) s 0) k S (λ x c t. rw (ne_eqb a x (λ z. omega arith))) in
        rw (before, eq-eqb a k e, e) (omega arith)
    go (inr c) rec = rw (rec c, ne_eqb a k (λ z. omega arith)) (last (S k))
      where
        last : (t : Bool) → cond (S a) s 0 + cond t 0 0 ≡ cond (S a) s 0
        last true = omega arith
        last false = omega arith
