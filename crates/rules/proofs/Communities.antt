-- Laws of communities at one rate: a community is the only one of its device; it lies inside every set that is as cheap; and two communities at one rate are nested or share nothing. The lemmas over `IsCommunityIn` hold inside any fence.
-- Assumes nothing.
use Prim.Native.Nat.{ℕ, ◌*◌, ◌≤◌, ◌<◌}
use mathlib.Core.Path.{◌≡◌, refl, ◌∙◌}
use mathlib.Core.Bool.{Bool, true, false, not, ◌||◌}
use mathlib.Core.Logic.{◌⊎◌, inl, inr}
use native.Mathlib.Nat.{le_trans, one-le-mul}
use native.Mathlib.Omega.{arith}
use Rattle.rules.specs.Plant.{Plant}
use Rattle.rules.specs.Accepted.{Sound}
use Rattle.rules.specs.Cut.{Devices, size, cost}
use Rattle.rules.specs.Sets.{Inside, Agree, minus}
use Rattle.rules.specs.Community.{community}
use Rattle.rules.specs.CommunityIs.{IsCommunityIn, IsCommunity}
use Rattle.rules.proofs.SetLaws.{and_left, and_right, or_right, agree-both}
use Rattle.rules.proofs.Sums.{meet, join, cost-submodular, cost-posimodular, inside-equal, size_holds}
use Rattle.rules.proofs.Best.{community-is}

-- a community is one inside the fence of all devices
pub unfenced : {g : Plant} {p q d : ℕ} {C : Devices} → IsCommunity g p q d C → IsCommunityIn g p q (λ i. true) d C
unfenced c =
    record {
      holds = c.holds;
      inside = λ i b h. refl;
      least = λ T t i. c.least T t;
      fewest = λ T t i. c.fewest T t;
    }

-- and inside any fence that it lies in
pub fence-in :
    {g : Plant} {p q d : ℕ} {C : Devices} (F : Devices) →
    IsCommunity g p q d C →
    Inside g.devices C F →
    IsCommunityIn g p q F d C
fence-in F c h =
    record {
      holds = c.holds;
      inside = h;
      least = λ T t i. c.least T t;
      fewest = λ T t i. c.fewest T t;
    }

join-inside : (n : ℕ) (S T F : Devices) → Inside n S F → Inside n T F → Inside n (join S T) F
join-inside n S T F f h i b = go (S i) (f i b)
  where
    go : (x : Bool) → (x ≡ true → F i ≡ true) → (x || T i) ≡ true → F i ≡ true
    go true k e = k refl
    go false k e = h i b e

-- a set that holds the device and does not grow cheaper by taking in the community has it inside
absorbs :
    {g : Plant} {p q d : ℕ} {F C : Devices} (T : Devices) →
    IsCommunityIn g p q F d C →
    T d ≡ true →
    cost g p q T ≤ cost g p q (join C T) →
    Inside g.devices C T
absorbs {g} {p} {q} {d} {F} {C} T c t l i b e =
    and_right (C i) (T i) (inside-equal g (meet C T) C (λ j a h. and_left (C j) (T j) h) fewest i b ∙ e)
  where
    fewest : size g C ≤ size g (meet C T)
    fewest =
        c.fewest
        (meet C T)
        (rw c.holds t)
        (λ j a h. c.inside j a (and_left (C j) (T j) h))
        (omega (arith, cost-submodular g p q C T))

-- a set that holds the device and is as cheap as the community has it inside
pub smallest :
    {g : Plant} {p q d : ℕ} {F C : Devices} (T : Devices) →
    IsCommunityIn g p q F d C →
    T d ≡ true →
    Inside g.devices T F →
    cost g p q T ≤ cost g p q C →
    Inside g.devices C T
smallest {g} {p} {q} {d} {F} {C} T c t h l =
    absorbs T c t (le_trans l (c.least (join C T) (or_right (C d) (T d) t) (join-inside g.devices C T F c.inside h)))

-- "There is exactly one such set."
pub only :
    {g : Plant} {p q d : ℕ} {F C D : Devices} →
    IsCommunityIn g p q F d C →
    IsCommunityIn g p q F d D →
    Agree g.devices C D
only {g} {C = C} {D = D} c e =
    agree-both
    C
    D
    (smallest D c e.holds e.inside (e.least C c.holds c.inside))
    (smallest C e c.holds c.inside (c.least D e.holds e.inside))

pub community-only :
    {g : Plant} {p q d : ℕ} {C : Devices} →
    Sound g →
    d < g.devices →
    IsCommunity g p q d C →
    Agree g.devices C (community g p q d)
community-only {g} {p} {q} {d} s b c = only (unfenced c) (unfenced (community-is g p q d s b))

-- the community of a device of a community lies inside it
pub nested_in :
    {g : Plant} {p q d e : ℕ} {F C E : Devices} →
    IsCommunityIn g p q F d C →
    IsCommunityIn g p q F e E →
    C e ≡ true →
    Inside g.devices E C
nested_in {g} {d = d} {F = F} {C = C} {E = E} c f h =
    absorbs C f h (c.least (join E C) (or_right (E d) (C d) c.holds) (join-inside g.devices E C F f.inside c.inside))

pub nested :
    (g : Plant) (p q d e : ℕ) →
    Sound g →
    d < g.devices →
    e < g.devices →
    community g p q d e ≡ true →
    Inside g.devices (community g p q e) (community g p q d)
nested g p q d e s b c h = nested_in (unfenced (community-is g p q d s b)) (unfenced (community-is g p q e s c)) h

-- "Two communities at one rate are nested or share nothing."
pub laminar_in :
    {g : Plant} {p q d e : ℕ} {F C E : Devices} (x : ℕ) →
    1 ≤ p →
    IsCommunityIn g p q F d C →
    IsCommunityIn g p q F e E →
    x < g.devices →
    C x ≡ true →
    E x ≡ true →
    Inside g.devices C E ⊎ Inside g.devices E C
laminar_in {g} {p} {q} {d} {e} {F} {C} {E} x o c f b cx ex = go (E d) (C e) refl refl
  where
    go : (u v : Bool) → E d ≡ u → C e ≡ v → Inside g.devices C E ⊎ Inside g.devices E C
    go true v h k = inl (nested_in f c h)
    go false true h k = inr (nested_in c f k)
    go false false h k =
        let shared : 1 ≤ p * size g (meet C E) = one-le-mul o (size_holds g (meet C E) x b (rw (cx, ex))) in
        let low = c.least (minus C E) (rw (c.holds, h)) (λ i a y. c.inside i a (and_left (C i) (not (E i)) y)) in
        let high = f.least (minus E C) (rw (f.holds, k)) (λ i a y. f.inside i a (and_left (E i) (not (C i)) y)) in
        absurd (omega (arith, cost-posimodular g p q C E))

pub laminar :
    (g : Plant) (p q d e x : ℕ) →
    Sound g →
    1 ≤ p →
    d < g.devices →
    e < g.devices →
    x < g.devices →
    community g p q d x ≡ true →
    community g p q e x ≡ true →
    Inside g.devices (community g p q d) (community g p q e) ⊎ Inside g.devices (community g p q e) (community g p q d)
laminar g p q d e x s o b c a h k =
    laminar_in x o (unfenced (community-is g p q d s b)) (unfenced (community-is g p q e s c)) a h k
