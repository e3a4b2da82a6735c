-- What the search between two known levels finds: the rate p/q of a `Crossing` between the groups at a rate ap/aq and those at bp/bq, which is not above it.
--     crossing-agree, crossing-reduced     other sets that agree, another form of the fraction
--     crossing-over, crossing-not-above    p/q lies over bp/bq and is not above ap/aq
--     crossing-parts                       its grouping is not that at bp/bq
--     crossing-last                        if it is that at ap/aq, then from bp/bq up to, without, p/q the grouping is that at bp/bq
-- Assumes nothing.
use Prim.Native.Nat.{ℕ, ◌+◌, ◌-◌, ◌*◌, ◌≤◌, ◌<◌}
use mathlib.Core.Path.{◌≡◌, sym, ap, ◌∙◌}
use mathlib.Core.Bool.{true}
use native.Mathlib.Nat.{mul-le-mul_left, mul-le-mul_right, le_of_mul-le-mul_left, le_of_mul-le-mul_right, lt_of_mul-lt-mul_right, sub-add_cancel, lt_of_not-le, le_of_suc-le-suc, mul-sub, one-le-mul}
use native.Mathlib.Omega.{arith}
use Rattle.rules.specs.Plant.{Plant}
use Rattle.rules.specs.Accepted.{Sound}
use Rattle.rules.specs.Cut.{Devices, out, size, cost}
use Rattle.rules.specs.Sets.{Inside, Agree}
use Rattle.rules.specs.Community.{community}
use Rattle.rules.specs.CommunityIs.{IsCommunity}
use Rattle.rules.specs.Groups.{group_of, groups}
use Rattle.rules.specs.Rates.{Below, Same}
use Rattle.rules.specs.Stretch.{Crossing}
use Rattle.rules.proofs.Sums.{agree-out, agree-size, agree-cost, size-inside, inside-equal}
use Rattle.rules.proofs.Best.{community-is}
use Rattle.rules.proofs.Family.{Family}
use Rattle.rules.proofs.GroupLaws.{group-community, group-holds, group-largest, group-same}
use Rattle.rules.proofs.Instance.{family, group-within}
use Rattle.rules.proofs.LevelLaws.{groups-agree, agree-groups}

-- sets that agree have the same crossing
pub crossing-agree :
    {g : Plant} {F C F' C' : ℕ → Devices} {p q : ℕ} →
    Sound g →
    ((v : ℕ) → v < g.devices → Agree g.devices (F v) (F' v)) →
    ((v : ℕ) → v < g.devices → Agree g.devices (C v) (C' v)) →
    Crossing g F C p q →
    Crossing g F' C' p q
crossing-agree {g} {F} {C} {F'} {C'} {p} {q} s f c x =
    record {
      at = x.at;
      device = x.device;
      grows = rw (← size-f x.at x.device, ← size-c x.at x.device) x.grows;
      above = λ v h m l.
          rw (← size-f v h, ← size-c x.at x.device, ← out-f v h, ← out-c x.at x.device)
          (x.above v h (c x.at x.device v h ∙ m) (rw (size-f v h, size-c x.at x.device) l));
      each = λ u h l.
          let (v, hv, m, o, k) = x.each u h (rw (size-f u h, size-c u h) l) in
          (v, hv, sym (c u h v hv) ∙ m, rw (← size-f v hv, ← size-c u h) o, rw (← size-f v hv, ← size-c u h, ← out-f v hv, ← out-c u h) k);
    }
  where
    size-f : (v : ℕ) → v < g.devices → size g (F v) ≡ size g (F' v)
    size-f v h = agree-size g (F v) (F' v) (f v h)

    size-c : (v : ℕ) → v < g.devices → size g (C v) ≡ size g (C' v)
    size-c v h = agree-size g (C v) (C' v) (c v h)

    out-f : (v : ℕ) → v < g.devices → out g.lines (F v) ≡ out g.lines (F' v)
    out-f v h = agree-out g.devices g.lines (F v) (F' v) s (f v h)

    out-c : (v : ℕ) → v < g.devices → out g.lines (C v) ≡ out g.lines (C' v)
    out-c v h = agree-out g.devices g.lines (C v) (C' v) s (c v h)

-- one fraction, one crossing
module _ (p₀ q₀ p q : ℕ) (some : 1 ≤ q₀) (same : Same p₀ q₀ p q) where
  reduce-below : (t D : ℕ) → q₀ * t ≤ p₀ * D → q * t ≤ p * D
  reduce-below t D h = le_of_mul-le-mul_left {k = q₀} (omega (arith, mul-le-mul_left q h, ap (λ (m : ℕ). m * D) same)) some

  reduce-above : (t D : ℕ) → p₀ * D ≤ q₀ * t → p * D ≤ q * t
  reduce-above t D h = le_of_mul-le-mul_left {k = q₀} (omega (arith, mul-le-mul_left q h, ap (λ (m : ℕ). m * D) same)) some

  pub crossing-reduced : {g : Plant} {F C : ℕ → Devices} → Crossing g F C p₀ q₀ → Crossing g F C p q
  crossing-reduced {g} {F} {C} x =
      record {
        at = x.at;
        device = x.device;
        grows = x.grows;
        above = λ v h m l. reduce-below _ _ (x.above v h m l);
        each = λ u h l.
            let (v, hv, m, o, k) = x.each u h l in
            (v, hv, m, o, reduce-above _ _ k);
      }

-- the cost of T, by what it has over the size of S
cost-gap : (g : Plant) (p q : ℕ) (S T : Devices) → size g S ≤ size g T → cost g p q T ≡ q * out g.lines T + p * (size g T - size g S) + p * size g S
unfolding cost
cost-gap g p q S T l = omega (arith, ap (λ (m : ℕ). p * m) (sub-add_cancel l))

-- T saves e against a set S of no more devices at p/q, and costs no less at p'/q'
weighed :
    (g : Plant) (p q p' q' e : ℕ) (S T : Devices) →
    size g S ≤ size g T →
    cost g p q T + e ≤ cost g p q S →
    cost g p' q' S ≤ cost g p' q' T →
    q' * e + p * q' * (size g T - size g S) ≤ p' * q * (size g T - size g S)
unfolding cost
weighed g p q p' q' e S T l h k =
    omega (
      arith,
      mul-le-mul_left q' saves,
      mul-le-mul_left q costs,
    )
  where
    D : ℕ
    D = size g T - size g S

    saves : q * out g.lines T + p * D + e ≤ q * out g.lines S
    saves = omega (arith, cost-gap g p q S T l)

    costs : q' * out g.lines S ≤ q' * out g.lines T + p' * D
    costs = omega (arith, cost-gap g p' q' S T l)

-- T costs no more than a smaller set S at p/q, and no less at p'/q': p/q is not above p'/q'
crossed :
    (g : Plant) (p q p' q' : ℕ) (S T : Devices) →
    size g S < size g T →
    cost g p q T ≤ cost g p q S →
    cost g p' q' S ≤ cost g p' q' T →
    p * q' ≤ p' * q
crossed g p q p' q' S T l h k =
    le_of_mul-le-mul_right {k = size g T - size g S}
    (omega (arith, weighed g p q p' q' 0 S T (omega arith) (omega arith) k))
    (omega arith)

pub not_below : {m n : ℕ} → (m < n → ⊥) → n ≤ m
not_below f = le_of_suc-le-suc (lt_of_not-le f)

-- a smaller set that holds the device costs more than the community
dearer : {g : Plant} {p q d : ℕ} {C : Devices} (T : Devices) → IsCommunity g p q d C → T d ≡ true → size g T < size g C → cost g p q C < cost g p q T
dearer {g} {p} {q} {d} {C} T c t l = lt_of_not-le (λ h. absurd (omega (arith, c.fewest T t h)))

-- a group is the community of a device
group-is : (g : Plant) (p q : ℕ) → Sound g → 1 ≤ p → (i : ℕ) → i < g.devices → (d : ℕ) × (d < g.devices) × IsCommunity g p q d (group_of g p q i)
group-is g p q s o i h =
    let (d, hd, same) = group-community g p q (family g p q s o) i h in
    (d, hd, rw same (community-is g p q d s hd))

-- F v is the group of v at ap/aq, C v its group at the rate bp/bq, which is not above it
module _ (g : Plant) (ap aq bp bq : ℕ) (s : Sound g) (oa : 1 ≤ ap) (ob : 1 ≤ bp) (ub : 1 ≤ bq) (lower : bp * aq ≤ ap * bq) where
  abbrev n : ℕ
  n = g.devices

  abbrev F : ℕ → Devices
  F = group_of g ap aq

  abbrev C : ℕ → Devices
  C = group_of g bp bq

  abbrev fine : Family n (size g) (community g ap aq)
  fine = family g ap aq s oa

  abbrev coarse : Family n (size g) (community g bp bq)
  coarse = family g bp bq s ob

  -- the finer group of each device of a coarser group lies in it
  child : (u v : ℕ) → u < n → v < n → C u v ≡ true → Inside n (F v) (C u)
  child u v hu hv m i hi e = group-same g bp bq coarse u v hu hv m i hi ∙ group-within g ap aq bp bq s oa ob ub lower v hv i hi e

  -- and is smaller, where the coarser group is no finer one
  smaller : (u v : ℕ) → u < n → v < n → size g (F u) < size g (C u) → C u v ≡ true → size g (F v) < size g (C u)
  smaller u v hu hv l m = lt_of_not-le no
    where
      no : size g (C u) ≤ size g (F v) → ⊥
      no h =
          let whole : Agree n (F v) (C u) = inside-equal g (F v) (C u) (child u v hu hv m) h in
          let mine : Agree n (F v) (F u) = group-same g ap aq fine v u hv hu (whole u hu ∙ group-holds g bp bq coarse u hu) in
          omega (arith, agree-size g (F v) (F u) mine)

  module _ (p q : ℕ) (u : 1 ≤ q) (x : Crossing g (group_of g ap aq) (group_of g bp bq) p q) where
    abbrev top : Devices
    top = C x.at

    -- the fields of the crossing, as costs at p/q
    no-dearer : (v : ℕ) → v < n → top v ≡ true → (size g (F v) < size g top) × (cost g p q (F v) ≤ cost g p q top)
    unfolding cost
    no-dearer v h m =
        let l = smaller x.at v x.device h x.grows m in
        (l, omega (arith, x.above v h m l, mul-sub q (out g.lines (F v)) (out g.lines top), cost-gap g p q (F v) top (omega arith)))

    pub crossing-over : Below bp bq p q
    crossing-over =
        let (d, hd, is) = group-is g bp bq s ob x.at x.device in
        let (l, k) = no-dearer d hd is.holds in
        let more = dearer (F d) is (group-holds g ap aq fine d hd) l in
        lt_of_mul-lt-mul_right (size g top - size g (F d))
        (omega (arith, weighed g bp bq p q 1 (F d) top (omega arith) (omega arith) k))

    -- so it is positive
    pub crossing-positive : 1 ≤ p
    crossing-positive = lt_of_mul-lt-mul_right bq (omega (arith, crossing-over))

    no-cheaper : (w : ℕ) → w < n → size g (F w) < size g (C w)
        → (v : ℕ) × (v < n) × (C w v ≡ true) × (size g (F v) < size g (C w)) × (cost g p q (C w) ≤ cost g p q (F v))
    unfolding cost
    no-cheaper w h k =
        let (v, hv, m, l, e) = x.each w h k in
        let some : 1 ≤ p * (size g (C w) - size g (F v)) = one-le-mul crossing-positive (omega arith) in
        (v, hv, m, l, omega (arith, mul-sub q (out g.lines (F v)) (out g.lines (C w)), cost-gap g p q (F v) (C w) (omega arith)))

    pub crossing-not-above : p * aq ≤ ap * q
    crossing-not-above =
        let (v, hv, m, l, k) = no-cheaper x.at x.device x.grows in
        let (r, hr, is) = group-is g ap aq s oa v hv in
        let low = is.least top (child x.at v x.device hv m r hr is.holds) in
        crossed g p q ap aq (F v) top l k low

    -- at p/q the coarser group of `at` is no community: a finer group would do as well with fewer devices
    pub crossing-parts : groups g p q ≡ groups g bp bq → ⊥
    crossing-parts e =
        let (d, hd, is) = group-is g p q s crossing-positive x.at x.device in
        let one : Agree n (group_of g p q x.at) top = groups-agree g p q bp bq e s crossing-positive ob x.at x.device in
        let (l, k) = no-dearer d hd (sym (one d hd) ∙ is.holds) in
        let more = dearer (F d) is (group-holds g ap aq fine d hd) (omega (arith, agree-size g (group_of g p q x.at) top one)) in
        omega (arith, agree-cost g p q (group_of g p q x.at) top s one)

    -- the grouping at p/q is that at ap/aq, and r/t is a rate from bp/bq up to, without, p/q
    module _ (last : groups g p q ≡ groups g ap aq) (r t : ℕ) (or : 1 ≤ r) (ut : 1 ≤ t) (from : bp * t ≤ r * bq) (under : Below r t p q) where
      abbrev G : ℕ → Devices
      G = group_of g r t

      abbrev fam : Family n (size g) (community g r t)
      fam = family g r t s or

      -- r/t is not above ap/aq
      not_above : r * aq ≤ ap * t
      not_above =
          le_of_mul-le-mul_right {k = q}
          (omega (arith, mul-le-mul_right aq under, mul-le-mul_right t crossing-not-above))
          u

      -- a coarser group that is no finer one is a community at r/t of a device whose community at p/q is a finer group
      grown : (w : ℕ) → w < n → size g (F w) < size g (C w) → size g (C w) ≤ size g (G w)
      grown w hw k =
          let (v, hv, m, l, cheap) = no-cheaper w hw k in
          let (d, hd, is) = group-is g p q s crossing-positive v hv in
          let one : Agree n (group_of g p q v) (F v) = groups-agree g p q ap aq last s crossing-positive oa v hv in
          let held : C w d ≡ true = child w v hw hv m d hd (sym (one d hd) ∙ is.holds) in
          let X = community g r t d in
          let low : IsCommunity g r t d X = community-is g r t d s hd in
          let within : Inside n X (C w) = λ i hi e.
          group-same g bp bq coarse w d hw hd held i hi
          ∙ group-within g r t bp bq s or ob ub from d hd i hi (group-largest g r t fam d d hd hd low.holds i hi e) in
          let price : cost g p q (C w) ≤ cost g p q X =
          omega (arith, agree-cost g p q (group_of g p q v) (F v) s one, is.least X low.holds) in
          let full : size g (C w) ≤ size g X =
          not_below (λ k. absurd (omega (arith, crossed g p q r t X (C w) k price (low.least (C w) held)))) in
          let all : Agree n X (C w) = inside-equal g X (C w) within full in
          omega (
            arith,
            agree-size g X (C w) all,
            size-inside g X (G w) (group-largest g r t fam w d hw hd (all w hw ∙ group-holds g bp bq coarse w hw)),
          )

      whole : (w : ℕ) → w < n → size g (C w) ≤ size g (G w)
      whole w h =
          let inner = size-inside g (F w) (G w) (group-within g ap aq r t s oa or ut not_above w h) in
          not_below (λ k. absurd (omega (arith, grown w h (omega arith))))

      pub crossing-last : groups g r t ≡ groups g bp bq
      crossing-last =
          agree-groups g r t bp bq
          (λ w h. inside-equal g (G w) (C w) (group-within g r t bp bq s or ob ub from w h) (whole w h))
