-- Laws over rates: the community of a device at a lower rate holds its community at a higher one, and rates that are one fraction give one community. Rates are compared by cross products.
-- Assumes nothing.
use Prim.Native.Nat.{ℕ, ◌+◌, ◌*◌, ◌≤◌, ◌<◌}
use mathlib.Core.Path.{◌≡◌, refl, ap, sym, ◌∙◌}
use mathlib.Core.Bool.{Bool, true, false}
use mathlib.Core.Logic.{◌⊎◌, inl, inr}
use native.Mathlib.Nat.{eq-or-lt_of_le, eq-zero-or-pos, mul-add, mul_comm, mul_assoc, mul_left_comm, mul-le-mul_left, mul-lt-mul_of_pos_left, le_of_mul-le-mul_left}
use native.Mathlib.Omega.{arith}
use Rattle.rules.specs.Plant.{Plant}
use Rattle.rules.specs.Accepted.{Sound}
use Rattle.rules.specs.Cut.{Devices, out, size, cost}
use Rattle.rules.specs.Sets.{Inside, Agree, minus}
use Rattle.rules.specs.Community.{community}
use Rattle.rules.specs.CommunityIs.{IsCommunity}
use Rattle.rules.proofs.SetLaws.{or_right, agree-both}
use Rattle.rules.proofs.Sums.{meet, join, out-submodular, size-modular, size-minus, size_holds}
use Rattle.rules.proofs.Best.{community-is}
use Rattle.rules.proofs.Communities.{unfenced, smallest}

-- a growth by D that saves at the higher rate p/q, and does not cost at the lower rate p'/q', is none
pub core :
    (p q p' q' u t D : ℕ) →
    q * u + p * D ≤ q * t →
    q' * t ≤ q' * u + p' * D →
    p' * q < p * q' →
    D ≡ 0
core p q p' q' u t D h k l = go (eq-zero-or-pos D)
  where
    go : (D ≡ 0) ⊎ (0 < D) → D ≡ 0
    go (inl z) = z
    go (inr o) =
        absurd
        (omega (
          arith,
          simp mul-add at (mul-le-mul_left q' h),
          simp mul-add at (mul-le-mul_left q k),
          mul-lt-mul_of_pos_left l o,
          mul_left_comm q q' t,
          mul_left_comm q q' u,
          mul_left_comm D p q' ∙ ap (λ (m : ℕ). p * m) (mul_comm D q') ∙ mul_left_comm p q' D,
          mul_left_comm D p' q ∙ ap (λ (m : ℕ). p' * m) (mul_comm D q) ∙ mul_left_comm p' q D,
        ))

-- a set that has no device outside another lies inside it
minus-none : (g : Plant) (S T : Devices) → size g (minus S T) ≡ 0 → Inside g.devices S T
minus-none g S T z i b e = go (T i) refl
  where
    go : (t : Bool) → T i ≡ t → t ≡ true
    go true h = refl
    go false h = absurd (omega (arith, size_holds g (minus S T) i b (rw (e, h))))

-- at two rates that are one fraction the costs are multiples of one another
cost-scale :
    (g : Plant) (p q p' q' : ℕ) (S : Devices) → p' * q ≡ p * q' → q * cost g p' q' S ≡ q' * cost g p q S
unfolding cost
cost-scale g p q p' q' S e =
    rw
    (mul-add q (q' * out g.lines S) (p' * size g S), mul-add q' (q * out g.lines S) (p * size g S))
    (omega (
      arith,
      mul_left_comm q q' (out g.lines S),
      mul_left_comm q p' (size g S),
      mul_left_comm q' p (size g S),
      sym (mul_assoc p' q (size g S)) ∙ ap (λ (m : ℕ). m * size g S) e ∙ mul_assoc p q' (size g S),
    ))

-- S is the community at the higher rate p/q, T that at the lower rate p'/q'
pub coarser-of :
    {g : Plant} {p q p' q' d : ℕ} {S T : Devices} →
    1 ≤ q' →
    p' * q ≤ p * q' →
    IsCommunity g p q d S →
    IsCommunity g p' q' d T →
    Inside g.devices S T
unfolding cost
coarser-of {g} {p} {q} {p'} {q'} {d} {S} {T} o l s t = go (eq-or-lt_of_le l)
  where
    saves : q * out g.lines (join S T) + p * size g (minus S T) ≤ q * out g.lines T
    saves =
        let low = s.least (meet S T) (rw s.holds t.holds) in
        omega (
          arith,
          simp mul-add at (mul-le-mul_left q (out-submodular g.lines S T)),
          simp mul-add at (ap (λ (m : ℕ). p * m) (size-minus g S T)),
        )

    costs : q' * out g.lines T ≤ q' * out g.lines (join S T) + p' * size g (minus S T)
    costs =
        let low = t.least (join S T) (or_right (S d) (T d) t.holds) in
        omega (
          arith,
          simp mul-add at (ap (λ (m : ℕ). p' * m) (size-modular g S T)),
          simp mul-add at (ap (λ (m : ℕ). p' * m) (size-minus g S T)),
        )

    go : (p' * q ≡ p * q') ⊎ (p' * q < p * q') → Inside g.devices S T
    go (inl e) =
        let low = mul-le-mul_left q (t.least S s.holds) in
        let scaled : q' * cost g p q T ≤ q' * cost g p q S =
        omega (arith, cost-scale g p q p' q' S e, cost-scale g p q p' q' T e) in
        smallest T (unfenced s) t.holds (λ i b h. refl) (le_of_mul-le-mul_left scaled o)
    go (inr h) = minus-none g S T (core p q p' q' (out g.lines (join S T)) (out g.lines T) (size g (minus S T)) saves costs h)

-- a lower rate's community holds the higher rate's
pub coarser :
    (g : Plant) (p q p' q' d : ℕ) →
    Sound g →
    d < g.devices →
    1 ≤ q' →
    p' * q ≤ p * q' →
    Inside g.devices (community g p q d) (community g p' q' d)
coarser g p q p' q' d s b o l = coarser-of o l (community-is g p q d s b) (community-is g p' q' d s b)

-- one fraction, one community
pub same-rate :
    (g : Plant) (p q p' q' d : ℕ) →
    Sound g →
    d < g.devices →
    1 ≤ q →
    1 ≤ q' →
    p * q' ≡ p' * q →
    Agree g.devices (community g p q d) (community g p' q' d)
same-rate g p q p' q' d s b o o' e =
    agree-both
    (community g p q d)
    (community g p' q' d)
    (coarser g p q p' q' d s b o' (omega arith))
    (coarser g p' q' p q d s b o (omega arith))
