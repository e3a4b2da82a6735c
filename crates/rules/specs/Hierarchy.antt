-- Document 01, "Levels and joining rates".
-- Assumes nothing.
use Rattle.std.specs.Prelude.{ℕ, suc, ◌-◌, ◌*◌, ◌≤◌, ◌<◌, ◌≡◌, List}
use Rattle.rules.specs.Plant.{Plant}
use Rattle.rules.specs.Groups.{table, label, groups}
use Rattle.rules.specs.Rates.{Below, Lowest}

-- the rate p/q lies in the stretch of level i, of count levels, low_ps j/low_qs j being the low rate of level j:
-- "at that rate itself and at all higher rates up to, without, the low rate of level i − 1 (for level 0, all higher rates)";
-- "The last level holds for all positive rates under the previous low rate (a sole level: for all positive rates) and has no low rate"
pub record InStretch (count : ℕ) (low_ps low_qs : ℕ → ℕ) (i p q : ℕ) : Type 0 where
  pub listed : i < count
  pub under : (j : ℕ) → i ≡ suc j → Below p q (low_ps j) (low_qs j)
  pub from : suc i < count → low_ps i * q ≤ p * low_qs i

-- the hierarchy of a plant: count levels, each a group list, and the low rate of each but the last
pub record IsHierarchy (g : Plant) (count : ℕ) (level : ℕ → List ℕ) (low_ps low_qs : ℕ → ℕ) : Type 0 where
  -- "There are at most n levels."
  pub some_level : 1 ≤ count
  pub most_levels : count ≤ g.devices
  -- "Level 0 holds every device alone."
  pub alone : level 0 ≡ table g.devices (λ v. v)
  -- each level is the grouping at every positive rate of its stretch, however large or fine
  pub grouping : (i p q : ℕ) → 1 ≤ p → 1 ≤ q → InStretch count low_ps low_qs i p q → level i ≡ groups g p q
  -- "Neighbouring levels differ."
  pub differ : (i : ℕ) → suc i < count → level i ≡ level (suc i) → ⊥
  -- "Low rates fall strictly, are in lowest terms, and have a denominator of at most n − 1."
  pub positive : (i : ℕ) → suc i < count → (1 ≤ low_ps i) × (1 ≤ low_qs i)
  pub falling : (i : ℕ) → suc (suc i) < count → Below (low_ps (suc i)) (low_qs (suc i)) (low_ps i) (low_qs i)
  pub lowest : (i : ℕ) → suc i < count → Lowest (low_ps i) (low_qs i)
  pub denominator : (i : ℕ) → suc i < count → low_qs i ≤ g.devices - 1

-- "The joining rate of two different devices is the rate under which they share a group and at which, and above which, they do not. It is answered in lowest terms"
pub record JoinsAt (g : Plant) (i j p q : ℕ) : Type 0 where
  pub some_p : 1 ≤ p
  pub some_q : 1 ≤ q
  pub lowest : Lowest p q
  pub under : (r s : ℕ) → 1 ≤ r → 1 ≤ s → Below r s p q → label g r s i ≡ label g r s j
  pub from : (r s : ℕ) → 1 ≤ r → 1 ≤ s → p * s ≤ r * q → label g r s i ≡ label g r s j → ⊥

-- "no positive rate puts them in one group"
unfoldable pub NeverJoin : Plant → ℕ → ℕ → Type 0
NeverJoin g i j = (r s : ℕ) → 1 ≤ r → 1 ≤ s → label g r s i ≡ label g r s j → ⊥
