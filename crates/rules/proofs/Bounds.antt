-- Document 01's two bounds of a community, which are those of a group, since a group is a community: its out against the devices outside, and the signals between a part of it and the rest of it. `part-strict` is the sharper form of the second for a part without the community's device.
-- Assumes nothing.
use Prim.Native.Nat.{ℕ, zero, suc, ◌+◌, ◌*◌, ◌-◌, ◌≤◌, ◌<◌, min}
use mathlib.Core.Path.{◌≡◌, refl, ap, ◌∙◌}
use mathlib.Core.Bool.{Bool, true, false, not, ◌&&◌, ◌||◌, cond, false≢true, or_comm, and_comm}
use mathlib.Core.List.{List, [], ◌∷◌}
use native.Mathlib.Nat.{lt_of_not-le, mul-add, mul-sub, mul-le-mul_left, min-le_left, min-le_right}
use native.Mathlib.Numerals.{add-one}
use native.Mathlib.Omega.{arith}
use borrow.Author.Tests.{lt-ltb}
use Rattle.rules.specs.Plant.{Line, Plant}
use Rattle.rules.specs.Accepted.{EndsBelow, Sound}
use Rattle.rules.specs.Cut.{Devices, crossing, out, size_at, size_below, size, cost}
use Rattle.rules.specs.Sets.{Inside, Agree, minus, between}
use Rattle.rules.specs.Community.{everyone, community}
use Rattle.rules.specs.CommunityIs.{IsCommunity}
use Rattle.rules.proofs.SetLaws.{and_left}
use Rattle.rules.proofs.Sums.{meet, agree-size, size-minus, size_holds}
use Rattle.rules.proofs.Best.{community-is}

-- no line leaves the set of all devices
out-all : (ls : List Line) → out ls (λ i. true) ≡ 0
unfolding out crossing
out-all [] = refl
out-all (l ∷ ls) = omega (arith, out-all ls)

everyone-all : (g : Plant) → Agree g.devices (everyone g) (λ i. true)
unfolding everyone
everyone-all g i b = lt-ltb i g.devices b

below_all : (g : Plant) (k : ℕ) → size_below g k (λ i. true) ≡ k
unfolding size_below size_at
below_all g zero = refl
below_all g (suc k) = rw (below_all g k) (add-one k)

pub everyone-size : (g : Plant) → size g (everyone g) ≡ g.devices
everyone-size g = agree-size g (everyone g) (λ i. true) (everyone-all g) ∙ (unfold size in below_all g g.devices)

-- q × out(C) + p × |C| ≤ p × n
pub out-bound-of :
    {g : Plant} {p q d : ℕ} {C : Devices} →
    IsCommunity g p q d C →
    q * out g.lines C + p * size g C ≤ p * size g (everyone g)
unfolding cost
out-bound-of {g} {p} {q} {d} {C} c =
    rw
    (agree-size g (everyone g) (λ i. true) (everyone-all g))
    (omega (arith, rw (out-all g.lines) at (c.least (λ i. true) refl)))

pub out-bound :
    (g : Plant) (p q d : ℕ) →
    Sound g →
    d < g.devices →
    q * out g.lines (community g p q d) + p * size g (community g p q d) ≤ p * size g (everyone g)
out-bound g p q d s b = out-bound-of (community-is g p q d s b)

-- "for a group C, q × out(C) ≤ p × (n − |C|)"
pub out-bound-rest :
    (g : Plant) (p q d : ℕ) →
    Sound g →
    d < g.devices →
    q * out g.lines (community g p q d) ≤ p * (size g (everyone g) - size g (community g p q d))
out-bound-rest g p q d s b =
    rw (mul-sub p (size g (everyone g)) (size g (community g p q d))) (omega (arith, out-bound g p q d s b))

-- one line, by where its two ends lie: in the part, in the rest of the set, or outside
crossing-part :
    (s : ℕ) (x y u v : Bool) →
    (x ≡ true → u ≡ true) →
    (y ≡ true → v ≡ true) →
    crossing s (u && not x) (v && not y) + cond ((x && not v) || (y && not u)) s 0
    ≡ crossing s u v + cond ((x && (v && not y)) || (y && (u && not x))) s 0
unfolding crossing
crossing-part s true y false v f h = absurd (false≢true (f refl))
crossing-part s true true true false f h = absurd (false≢true (h refl))
crossing-part s true true true true f h = omega arith
crossing-part s true false true true f h = omega arith
crossing-part s true false true false f h = omega arith
crossing-part s false true u false f h = absurd (false≢true (h refl))
crossing-part s false true true true f h = omega arith
crossing-part s false true false true f h = omega arith
crossing-part s false false true true f h = omega arith
crossing-part s false false true false f h = omega arith
crossing-part s false false false true f h = omega arith
crossing-part s false false false false f h = omega arith

-- a part P taken out of C: the signals from P to the outside leave the cut, those from P to the rest of C enter it
out-part :
    (n : ℕ) (ls : List Line) (P C : Devices) →
    EndsBelow n ls →
    Inside n P C →
    out ls (minus C P) + between ls P (λ i. not (C i)) ≡ out ls C + between ls P (minus C P)
unfolding EndsBelow out between
out-part n [] P C e h = refl
out-part n (l ∷ ls) P C e h =
    let r = out-part n ls P C e.2 h in
    omega (
      arith,
      crossing-part
          l.signals
          (P l.first)
          (P l.second)
          (C l.first)
          (C l.second)
          (h l.first e.0)
          (h l.second e.1),
    )

pub part-size : (g : Plant) (P C : Devices) → Inside g.devices P C → size g (minus C P) + size g P ≡ size g C
part-size g P C h =
    rw (← agree-size g (meet C P) P (λ i b. go (C i) (P i) (h i b))) (size-minus g C P)
  where
    go : (x y : Bool) → (y ≡ true → x ≡ true) → (x && y) ≡ y
    go true y k = refl
    go false true k = k refl
    go false false k = refl

-- a part without the community's device
pub part-strict-of :
    {g : Plant} {p q d : ℕ} {C : Devices} (P : Devices) (x : ℕ) →
    Sound g →
    IsCommunity g p q d C →
    Inside g.devices P C →
    P d ≡ false →
    x < g.devices →
    P x ≡ true →
    p * size g P + q * between g.lines P (λ i. not (C i)) < q * between g.lines P (minus C P)
unfolding cost
part-strict-of {g} {p} {q} {d} {C} P x s c h o b e =
    let z = part-size g P C h in
    let m = size_holds g P x b e in
    let dearer : cost g p q C < cost g p q (minus C P) =
    lt_of_not-le (λ l. let k = c.fewest (minus C P) (rw (c.holds, o)) l in omega arith) in
    omega (
      arith,
      simp mul-add at (ap (λ (k : ℕ). q * k) (out-part g.devices g.lines P C s h)),
      simp mul-add at (ap (λ (k : ℕ). p * k) z),
    )

pub part-strict :
    (g : Plant) (p q d : ℕ) (P : Devices) (x : ℕ) →
    Sound g →
    d < g.devices →
    Inside g.devices P (community g p q d) →
    P d ≡ false →
    x < g.devices →
    P x ≡ true →
    p * size g P + q * between g.lines P (λ i. not (community g p q d i))
    < q * between g.lines P (minus (community g p q d) P)
part-strict g p q d P x s a h o b e = part-strict-of P x s (community-is g p q d s a) h o b e

-- the signals between two sets, from the one or from the other
between-sym : (ls : List Line) (P Q : Devices) → between ls P Q ≡ between ls Q P
unfolding between
between-sym [] P Q = refl
between-sym (l ∷ ls) P Q =
    rw (go (P l.first) (Q l.second) (P l.second) (Q l.first), between-sym ls P Q)
  where
    go : (a b c d : Bool) → ((a && b) || (c && d)) ≡ ((d && c) || (b && a))
    go a b c d = rw (or_comm (a && b) (c && d), and_comm a b, and_comm c d)

agree-between :
    (n : ℕ) (ls : List Line) (P Q R : Devices) →
    EndsBelow n ls →
    Agree n Q R →
    between ls P Q ≡ between ls P R
unfolding EndsBelow between
agree-between n [] P Q R e a = refl
agree-between n (l ∷ ls) P Q R e a =
    rw (a l.first e.0, a l.second e.1, agree-between n ls P Q R e.2 a)

-- "for each nonempty proper part P of C, q times the signals between P and the rest of C is at least p × min(|P|, |C| − |P|)"
pub part-bound-of :
    {g : Plant} {p q d : ℕ} {C : Devices} (P : Devices) (x y : ℕ) →
    Sound g →
    IsCommunity g p q d C →
    Inside g.devices P C →
    x < g.devices →
    P x ≡ true →
    y < g.devices →
    minus C P y ≡ true →
    p * min (size g P) (size g C - size g P) ≤ q * between g.lines P (minus C P)
part-bound-of {g} {p} {q} {d} {C} P x y s c h bx ex by ey = go (P d) refl
  where
    back : Agree g.devices (minus C (minus C P)) P
    back i b = same (C i) (P i) (h i b)
      where
        same : (a b : Bool) → (b ≡ true → a ≡ true) → (a && not (a && not b)) ≡ b
        same true true k = refl
        same true false k = refl
        same false true k = k refl
        same false false k = refl

    swapped : between g.lines (minus C P) (minus C (minus C P)) ≡ between g.lines P (minus C P)
    swapped =
        agree-between g.devices g.lines (minus C P) (minus C (minus C P)) P s back ∙ between-sym g.lines (minus C P) P

    go : (b : Bool) → P d ≡ b → p * min (size g P) (size g C - size g P) ≤ q * between g.lines P (minus C P)
    go false o =
        let k = part-strict-of P x s c h o bx ex in
        omega (arith, mul-le-mul_left p (min-le_left (size g P) (size g C - size g P)))
    go true o =
        let k = rw swapped at (part-strict-of (minus C P) y s c (λ i b e. and_left (C i) (not (P i)) e) (rw (c.holds, o)) by ey) in
        let z = part-size g P C h in
        let w : size g C - size g P ≡ size g (minus C P) = omega arith in
        rw w (omega (arith, mul-le-mul_left p (min-le_right (size g P) (size g (minus C P)))))

pub part-bound :
    (g : Plant) (p q d : ℕ) (P : Devices) (x y : ℕ) →
    Sound g →
    d < g.devices →
    Inside g.devices P (community g p q d) →
    x < g.devices →
    P x ≡ true →
    y < g.devices →
    minus (community g p q d) P y ≡ true →
    p * min (size g P) (size g (community g p q d) - size g P) ≤ q * between g.lines P (minus (community g p q d) P)
part-bound g p q d P x y s a h bx ex by ey = part-bound-of P x y s (community-is g p q d s a) h bx ex by ey
