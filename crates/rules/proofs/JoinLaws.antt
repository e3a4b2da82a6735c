-- The joining rate of two devices: there is at most one, and none for devices that never join; the breakpoint that brings them together is it.
-- Assumes nothing.
use Prim.Native.Nat.{ℕ, ◌+◌, ◌*◌, ◌≤◌, ◌<◌}
use mathlib.Core.Path.{◌≡◌, refl, sym, ◌∙◌}
use mathlib.Core.Logic.{◌⊎◌, inl, inr}
use native.Mathlib.Nat.{le_refl, le_of_lt, one-le-mul}
use native.Mathlib.Omega.{arith}
use Rattle.rules.specs.Plant.{Plant}
use Rattle.rules.specs.Accepted.{Sound}
use Rattle.rules.specs.Groups.{label, groups}
use Rattle.rules.specs.Rates.{Below, Lowest}
use Rattle.rules.specs.Hierarchy.{JoinsAt, NeverJoin}
use Rattle.rules.proofs.OrderLaws.{le-or-below}
use Rattle.rules.proofs.LowestLaws.{lowest-first, lowest-second}
use Rattle.rules.proofs.Instance.{never-divides}
use Rattle.rules.proofs.LevelLaws.{groups-label}
use Rattle.rules.proofs.EndLaws.{bottom-accepted}

-- a joining rate is not below another
joins-not-below : {g : Plant} {i j p q p' q' : ℕ} → JoinsAt g i j p q → JoinsAt g i j p' q' → Below p q p' q' → ⊥
joins-not-below {p = p} {q = q} a b l = a.from p q a.some_p a.some_q (le_refl _) (b.under p q a.some_p a.some_q l)

-- two devices have at most one joining rate
pub joins-determined : {g : Plant} {i j p q p' q' : ℕ} → JoinsAt g i j p q → JoinsAt g i j p' q' → (p ≡ p') × (q ≡ q')
joins-determined {g} {i} {j} {p} {q} {p'} {q'} a b =
    (lowest-first p q p q p' q' a.some_q refl same a.lowest b.lowest, lowest-second p q p q p' q' a.some_q refl same a.lowest b.lowest)
  where
    same : p * q' ≡ p' * q
    same = omega (arith, joins-not-below a b, joins-not-below b a)

-- "refused with 13 exactly if no positive rate puts them in one group"
pub joins-or-never : {g : Plant} {i j p q : ℕ} → JoinsAt g i j p q → NeverJoin g i j → ⊥
unfolding NeverJoin
joins-or-never {g} {i} {j} {p} {q} a never =
    let some : 1 ≤ p * q = one-le-mul a.some_p a.some_q in
    never p (q + q) a.some_p (omega (arith, a.some_q)) (a.under p (q + q) a.some_p (omega (arith, a.some_q)) (omega arith))

-- i and j are apart at ap/aq and together at bp/bq, and mp/mq is the only breakpoint between
module _ (g : Plant) (s : Sound g) (i j : ℕ) (hi : i < g.devices) (hj : j < g.devices) (ap aq bp bq mp mq : ℕ)
    (some-a : (1 ≤ ap) × (1 ≤ aq)) (some-b : (1 ≤ bp) × (1 ≤ bq)) (some-m : (1 ≤ mp) × (1 ≤ mq)) (low : Lowest mp mq)
    (upper : (p q : ℕ) → 1 ≤ p → 1 ≤ q → p * aq ≤ ap * q → mp * q ≤ p * mq → groups g p q ≡ groups g ap aq)
    (lower : (p q : ℕ) → 1 ≤ p → 1 ≤ q → bp * q ≤ p * bq → Below p q mp mq → groups g p q ≡ groups g bp bq)
    (apart : label g ap aq i ≡ label g ap aq j → ⊥) (together : label g bp bq i ≡ label g bp bq j) where
  joins-under : (r t : ℕ) → 1 ≤ r → 1 ≤ t → Below r t mp mq → label g r t i ≡ label g r t j
  joins-under r t o u l = go (le-or-below (bp * t) (r * bq))
    where
      go : (bp * t ≤ r * bq) ⊎ (r * bq < bp * t) → label g r t i ≡ label g r t j
      go (inl h) =
          let e = lower r t o u h l in
          groups-label g r t bp bq e i hi ∙ together ∙ sym (groups-label g r t bp bq e j hj)
      go (inr h) = never-divides g bp bq r t s some-b.0 o u (le_of_lt h) i j hi hj together

  joins-from : (r t : ℕ) → 1 ≤ r → 1 ≤ t → mp * t ≤ r * mq → label g r t i ≡ label g r t j → ⊥
  joins-from r t o u l e = go (le-or-below (r * aq) (ap * t))
    where
      go : (r * aq ≤ ap * t) ⊎ (ap * t < r * aq) → ⊥
      go (inl h) =
          let same = upper r t o u h l in
          apart (sym (groups-label g r t ap aq same i hi) ∙ e ∙ groups-label g r t ap aq same j hj)
      go (inr h) = apart (never-divides g r t ap aq s o some-a.0 some-a.1 (le_of_lt h) i j hi hj e)

  pub joins_of : JoinsAt g i j mp mq
  joins_of = record { some_p = some-m.0; some_q = some-m.1; lowest = low; under = joins-under; from = joins-from }

-- devices that are apart at 1/1000 never join
pub never-of : (g : Plant) → Sound g → g.devices ≤ 128 → (i j : ℕ) → i < g.devices → j < g.devices → (label g 1 1000 i ≡ label g 1 1000 j → ⊥) → NeverJoin g i j
unfolding NeverJoin
never-of g s most i j hi hj apart r t o u e = go (le-or-below (1 * t) (r * 1000))
  where
    go : (1 * t ≤ r * 1000) ⊎ (r * 1000 < 1 * t) → ⊥
    go (inl h) = apart (never-divides g r t 1 1000 s o (le_refl 1) (omega arith) h i j hi hj e)
    go (inr h) =
        let same = bottom-accepted g s r t most o (omega arith) in
        apart (sym (groups-label g r t 1 1000 same i hi) ∙ e ∙ groups-label g r t 1 1000 same j hj)
