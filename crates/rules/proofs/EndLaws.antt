-- Both ends of the rates. At a rate high enough every device is alone. At a rate low enough no line leaves a group, and the groups are the connected parts of the plant.
-- Assumes nothing.
use Prim.Native.Nat.{ℕ, zero, suc, ◌+◌, ◌-◌, ◌*◌, ◌≤◌, ◌<◌, zero-le, suc-le-suc}
use mathlib.Core.Path.{◌≡◌, refl, sym, ap, ◌∙◌}
use mathlib.Core.Bool.{Bool, true, false, not, cond, true≢false, false≢true}
use mathlib.Core.List.{List, [], ◌∷◌}
use mathlib.Core.Logic.{◌⊎◌, inl, inr, ◌↔◌}
use native.Mathlib.Nat.{le_refl, eq-zero-or-pos, mul-sub, mul-le-mul_left, le_of_mul-le-mul_left}
use native.Mathlib.Omega.{arith}
use lib.Dec.{ltb, eqb}
use lib.ListN.{length, get_or}
use borrow.Author.Tests.{ltb-true, ltb-false, eqb-true, eq-eqb, not-true}
use Rattle.rules.specs.Plant.{Line, Plant, lines_of, plant_of}
use Rattle.rules.specs.Accepted.{Sound, Accepted}
use Rattle.rules.specs.Cut.{Devices, crossing, out, size_at, size_below, size, cost}
use Rattle.rules.specs.Sets.{Inside, Agree, minus}
use Rattle.rules.specs.Community.{community}
use Rattle.rules.specs.Groups.{group_of, lowest, table, label, groups}
use Rattle.rules.specs.Connected.{Closed, Connected}
use Rattle.rules.proofs.RefusalLaws.{accepted-sound}
use Rattle.rules.proofs.SetLaws.{and_left, and_right, agree-both}
use Rattle.rules.proofs.Sums.{meet, out-submodular, out-posimodular, inside-equal, size_holds}
use Rattle.rules.proofs.Best.{community-is}
use Rattle.rules.proofs.Bounds.{everyone-size, out-bound}
use Rattle.rules.proofs.Family.{Family}
use Rattle.rules.proofs.GroupLaws.{group-community, group-holds}
use Rattle.rules.proofs.LabelLaws.{lowest-in, table-agree, label-from, label_same}
use Rattle.rules.proofs.Instance.{family}
use Rattle.rules.proofs.Divides.{group-coarser}
use Rattle.rules.proofs.PlantLaws.{out-most}
use Rattle.rules.proofs.LevelLaws.{agree-groups}

-- the set of one device
abbrev pub single : ℕ → Devices
single d i = eqb i d

below-single : (g : Plant) (d k : ℕ) → size_below g k (single d) ≤ cond (ltb d k) 1 0
unfolding size_below size_at
below-single g d zero = zero-le
below-single g d (suc k) = go (eqb k d) (ltb d k) (ltb d (suc k)) refl refl refl (below-single g d k)
  where
    go : (e b c : Bool) → eqb k d ≡ e → ltb d k ≡ b → ltb d (suc k) ≡ c → size_below g k (single d) ≤ cond b 1 0 → size_below g k (single d) + cond e 1 0 ≤ cond c 1 0
    go true true c he hb hc l = absurd (omega (arith, eqb-true, ltb-true))
    go true false true he hb hc l = omega arith
    go true false false he hb hc l = absurd (omega (arith, eqb-true, ltb-false))
    go false true true he hb hc l = omega arith
    go false true false he hb hc l = absurd (omega (arith, ltb-true, ltb-false))
    go false false c he hb hc l = omega arith

single-size : (g : Plant) (d : ℕ) → size g (single d) ≤ 1
unfolding size
single-size g d = go (ltb d g.devices) (below-single g d g.devices)
  where
    go : (b : Bool) → size_below g g.devices (single d) ≤ cond b 1 0 → size_below g g.devices (single d) ≤ 1
    go true l = l
    go false l = omega arith

-- p/q is so high that no signals outweigh a device
module _ (g : Plant) (p q most : ℕ) (s : Sound g) (o : 1 ≤ p) (bound : (S : Devices) → out g.lines S ≤ most) (high : q * most ≤ p) where
  abbrev n : ℕ
  n = g.devices

  alone : (d : ℕ) → d < n → size g (community g p q d) ≤ size g (single d)
  unfolding cost
  alone d h =
      let least = size_holds g (single d) d h (eq-eqb d d refl) in
      omega (arith, not_more)
    where
      not_more : 1 < size g (community g p q d) → ⊥
      not_more l =
          let outs = mul-le-mul_left q (bound (single d)) in
          let one = mul-le-mul_left p (single-size g d) in
          let more = mul-le-mul_left p l in
          omega (arith, single-size g d, (community-is g p q d s h).fewest (single d) (eq-eqb d d refl) (omega arith))

  community-single : (d : ℕ) → d < n → Agree n (single d) (community g p q d)
  community-single d h =
      inside-equal g (single d) (community g p q d) (λ i b e. rw (eqb-true i d e) (community-is g p q d s h).holds) (alone d h)

  -- "Level 0 holds every device alone."
  pub label-alone : (i : ℕ) → i < n → label g p q i ≡ i
  label-alone i h =
      let c = group-community g p q (family g p q s o) i h in
      let agree : Agree n (single c.0) (group_of g p q i) = rw c.2 (community-single c.0 c.1) in
      let same : i ≡ c.0 = eqb-true i c.0 (agree i h ∙ group-holds g p q (family g p q s o) i h) in
      label-from g p q i (single c.0) agree ∙ eqb-true (lowest n (single c.0)) c.0 (lowest-in n (single c.0) i h (eq-eqb i c.0 same)) ∙ sym same

  pub top : groups g p q ≡ table n (λ v. v)
  unfolding groups
  top = table-agree n (label g p q) (λ v. v) label-alone

-- of an accepted plant every device is alone from 100,000,000/1 on
pub top-accepted : (n : ℕ) (xs ys zs : List ℕ) (p q : ℕ) → Accepted n xs ys zs → 1 ≤ q → 100000000 * q ≤ p → groups (plant_of n xs ys zs) p q ≡ table n (λ v. v)
unfolding plant_of
top-accepted n xs ys zs p q a o h =
    top (plant_of n xs ys zs) p q 67107840 (accepted-sound n xs ys zs a) (omega arith) (out-most n xs ys zs a) (omega arith)

-- p/q is so low that every signal outweighs all devices but one
abbrev pub Low : Plant → ℕ → ℕ → Type 0
Low g p q = p * (g.devices - 1) < q

-- no line leaves a community
pub bottom-out : (g : Plant) (p q d : ℕ) → Sound g → Low g p q → d < g.devices → out g.lines (community g p q d) ≡ 0
bottom-out g p q d s low h = go (eq-zero-or-pos (out g.lines C))
  where
    C : Devices
    C = community g p q d

    go : (out g.lines C ≡ 0) ⊎ (0 < out g.lines C) → out g.lines C ≡ 0
    go (inl e) = e
    go (inr l) =
        let outs = mul-le-mul_left q l in
        let some = mul-le-mul_left p (size_holds g C d h (community-is g p q d s h).holds) in
        let all = ap (λ (m : ℕ). p * m) (everyone-size g) in
        absurd (omega (arith, out-bound g p q d s h, mul-sub p g.devices 1))

module _ (g : Plant) (p q d : ℕ) (s : Sound g) (o : 1 ≤ p) (low : Low g p q) (h : d < g.devices) where
  abbrev C : Devices
  C = community g p q d

  -- of the sets with d that no line leaves none has fewer devices
  pub bottom-fewest : (T : Devices) → T d ≡ true → out g.lines T ≡ 0 → size g C ≤ size g T
  unfolding cost
  bottom-fewest T holds shut =
      let least = (community-is g p q d s h).least T holds in
      let none = ap (λ (m : ℕ). q * m) (bottom-out g p q d s low h) in
      let none' = ap (λ (m : ℕ). q * m) shut in
      le_of_mul-le-mul_left {k = p} (omega arith) o

  -- and it lies inside each
  pub bottom-inside : (T : Devices) → T d ≡ true → out g.lines T ≡ 0 → Inside g.devices C T
  bottom-inside T holds shut i b m =
      and_right (C i) (T i) (inside-equal g (meet C T) C (λ j l e. and_left (C j) (T j) e) fewest i b ∙ m)
    where
      fewest : size g C ≤ size g (meet C T)
      fewest =
          bottom-fewest (meet C T) (rw (community-is g p q d s h).holds holds)
          (omega (arith, out-submodular g.lines C T, bottom-out g p q d s low h))

-- all rates as low have the same communities, and so the same groups
module _ (g : Plant) (s : Sound g) where
  bottom-coarser : (p q p' q' : ℕ) → 1 ≤ p → Low g p q → Low g p' q' → (d : ℕ) → d < g.devices → Inside g.devices (community g p q d) (community g p' q' d)
  bottom-coarser p q p' q' o low low' d h =
      bottom-inside g p q d s o low h (community g p' q' d) (community-is g p' q' d s h).holds (bottom-out g p' q' d s low' h)

  pub bottom-same : (p q p' q' : ℕ) → 1 ≤ p → 1 ≤ p' → Low g p q → Low g p' q' → groups g p q ≡ groups g p' q'
  bottom-same p q p' q' o o' low low' =
      agree-groups g p q p' q'
      (λ i h. agree-both _ _
      (group-coarser g p q p' q' (family g p q s o) (family g p' q' s o') (bottom-coarser p q p' q' o low low') i h)
      (group-coarser g p' q' p q (family g p' q' s o') (family g p q s o) (bottom-coarser p' q' p q o' low' low) i h))

  -- 1/1000 is such a rate, and so is every lower one
  pub bottom-accepted : (r t : ℕ) → g.devices ≤ 128 → 1 ≤ r → r * 1000 ≤ t → groups g r t ≡ groups g 1 1000
  bottom-accepted r t most o low =
      bottom-same r t 1 1000 o (le_refl 1) (omega (arith, mul-le-mul_left r few)) (omega arith)
    where
      few : g.devices - 1 ≤ 127
      few = omega arith

-- each line carries a signal
unfoldable pub EachCarries : List Line → Type 0
EachCarries [] = Unit {0}
EachCarries (l ∷ ls) = (1 ≤ l.signals) × EachCarries ls

lines-carry : (xs ys zs : List ℕ) → ((k : ℕ) → k < length xs → 1 ≤ get_or zs k 0) → EachCarries (lines_of xs ys zs)
unfolding lines_of EachCarries
lines-carry [] ys zs h = tt
lines-carry (x ∷ xs) [] zs h = tt
lines-carry (x ∷ xs) (y ∷ ys) [] h = tt
lines-carry (x ∷ xs) (y ∷ ys) (z ∷ zs) h = (h 0 (suc-le-suc zero-le), lines-carry xs ys zs (λ k l. h (suc k) (suc-le-suc l)))

pub accepted-carries : (n : ℕ) (xs ys zs : List ℕ) → Accepted n xs ys zs → EachCarries (plant_of n xs ys zs).lines
unfolding plant_of
accepted-carries n xs ys zs a = lines-carry xs ys zs a.some_signal

crossing-none : (s : ℕ) (a b : Bool) → a ≡ b → crossing s a b ≡ 0
unfolding crossing
crossing-none s true true e = refl
crossing-none s true false e = absurd (true≢false e)
crossing-none s false true e = absurd (false≢true e)
crossing-none s false false e = refl

none-crossing : (s : ℕ) (a b : Bool) → 1 ≤ s → crossing s a b ≡ 0 → a ≡ b
unfolding crossing
none-crossing s true true o e = refl
none-crossing s true false o e = absurd (omega arith)
none-crossing s false true o e = absurd (omega arith)
none-crossing s false false o e = refl

-- no line leaves a set exactly if its out is 0
pub closed-out : (ls : List Line) (S : Devices) → EachCarries ls → Closed ls S ↔ (out ls S ≡ 0)
unfolding EachCarries Closed out
closed-out [] S c = (λ h. refl, λ e. tt)
closed-out (l ∷ ls) S c =
    let rest = closed-out ls S c.1 in (
      λ h. omega (arith, crossing-none l.signals (S l.first) (S l.second) h.0, rest.0 h.1),
      λ e. (none-crossing l.signals (S l.first) (S l.second) c.0 (omega arith), rest.1 (omega arith)),
    )

-- "its groups are the connected parts of the plant"
module _ (g : Plant) (p q : ℕ) (s : Sound g) (carries : EachCarries g.lines) (o : 1 ≤ p) (low : Low g p q) where
  -- a community that holds i and j lies on one side of each set that no line leaves
  one_side : (d i j : ℕ) → d < g.devices → i < g.devices → j < g.devices → community g p q d i ≡ true → community g p q d j ≡ true
      → (S : Devices) → out g.lines S ≡ 0 → S i ≡ true → S j ≡ true
  one_side d i j hd hi hj mi mj S shut e = go (S d) refl
    where
      C : Devices
      C = community g p q d

      go : (b : Bool) → S d ≡ b → S j ≡ true
      go true m = bottom-inside g p q d s o low hd S m shut j hj mj
      go false m =
          let apart : minus C S i ≡ true =
          bottom-inside g p q d s o low hd (minus C S) (rw ((community-is g p q d s hd).holds, m))
          (omega (arith, out-posimodular g.lines C S, bottom-out g p q d s low hd)) i hi mi in
          absurd (true≢false (sym e ∙ not-true (S i) (and_right (C i) (not (S i)) apart)))

  pub bottom-connected : (i j : ℕ) → i < g.devices → j < g.devices → (label g p q i ≡ label g p q j) ↔ Connected g i j
  unfolding Connected
  bottom-connected i j hi hj = (forth, back)
    where
      fam : Family g.devices (size g) (community g p q)
      fam = family g p q s o

      forth : label g p q i ≡ label g p q j → (S : Devices) → Closed g.lines S → S i ≡ true → S j ≡ true
      forth e S c =
          let d = group-community g p q fam i hi in
          one_side d.0 i j d.1 hi hj (rw d.2 at (group-holds g p q fam i hi)) (rw d.2 at ((label_same g p q fam i j hi hj).0 e)) S
          ((closed-out g.lines S carries).0 c)

      back : ((S : Devices) → Closed g.lines S → S i ≡ true → S j ≡ true) → label g p q i ≡ label g p q j
      back c =
          let d = group-community g p q fam i hi in
          let shut : out g.lines (group_of g p q i) ≡ 0 = rw d.2 (bottom-out g p q d.0 s low d.1) in
          (label_same g p q fam i j hi hj).1 (c (group_of g p q i) ((closed-out g.lines (group_of g p q i) carries).1 shut) (group-holds g p q fam i hi))
