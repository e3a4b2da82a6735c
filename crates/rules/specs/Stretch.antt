-- What the search between two known levels finds. No public contract cites this file.
-- Assumes nothing.
use Rattle.std.specs.Prelude.{ℕ, suc, ◌-◌, ◌*◌, ◌≤◌, ◌<◌, ◌≡◌, true, List}
use Rattle.rules.specs.Plant.{Plant}
use Rattle.rules.specs.Cut.{Devices, out, size}
use Rattle.rules.specs.Groups.{groups}
use Rattle.rules.specs.Rates.{Below, Lowest}

-- F v is the group of device v in the finer of two levels, and C v its group in the coarser. The cost of a finer group c crosses that of the coarser group C around it at the rate (out c − out C)/(|C| − |c|), or 0 where out c is less.
-- p/q is the least, over the coarser groups that are no finer ones, of the greatest of these rates over their finer groups: none of the coarser group of `at` is above p/q, and of each such coarser group one is not below it.
pub record Crossing (g : Plant) (F C : ℕ → Devices) (p q : ℕ) : Type 0 where
  pub at : ℕ
  pub device : at < g.devices
  pub grows : size g (F at) < size g (C at)
  pub above : (v : ℕ) → v < g.devices → C at v ≡ true → size g (F v) < size g (C at)
      → q * (out g.lines (F v) - out g.lines (C at)) ≤ p * (size g (C at) - size g (F v))
  pub each : (u : ℕ) → u < g.devices → size g (F u) < size g (C u)
      → (v : ℕ) × (v < g.devices) × (C u v ≡ true) × (size g (F v) < size g (C u))
      × (p * (size g (C u) - size g (F v)) ≤ q * (out g.lines (F v) - out g.lines (C u)))

-- the levels from number `from` to number `to`, of the rates from ap/aq down to bp/bq, both included: each is the grouping in its stretch, neighbours differ, and the low rates of all but the last lie in between, fall, and are in lowest terms with a denominator of at most n − 1
pub record Ladder (g : Plant) (ap aq bp bq from to : ℕ) (level : ℕ → List ℕ) (low_ps low_qs : ℕ → ℕ) : Type 0 where
  pub onward : from < to
  pub grouping : (i p q : ℕ) → from ≤ i → i ≤ to → 1 ≤ p → 1 ≤ q → p * aq ≤ ap * q → bp * q ≤ p * bq
      → ((j : ℕ) → i ≡ suc j → from ≤ j → Below p q (low_ps j) (low_qs j)) → (i < to → low_ps i * q ≤ p * low_qs i) → level i ≡ groups g p q
  pub differ : (i : ℕ) → from ≤ i → i < to → level i ≡ level (suc i) → ⊥
  pub positive : (i : ℕ) → from ≤ i → i < to → (1 ≤ low_ps i) × (1 ≤ low_qs i)
  pub not_above : (i : ℕ) → from ≤ i → i < to → low_ps i * aq ≤ ap * low_qs i
  pub over : (i : ℕ) → from ≤ i → i < to → Below bp bq (low_ps i) (low_qs i)
  pub falling : (i : ℕ) → from ≤ i → suc i < to → Below (low_ps (suc i)) (low_qs (suc i)) (low_ps i) (low_qs i)
  pub lowest : (i : ℕ) → from ≤ i → i < to → Lowest (low_ps i) (low_qs i)
  pub denominator : (i : ℕ) → from ≤ i → i < to → low_qs i ≤ g.devices - 1
