-- What the groups need of the communities at one rate, as a record over any family C of sets of devices with a size.
-- Assumes nothing.
use mathlib.Core.Path.{◌≡◌}
use mathlib.Core.Bool.{true}
use mathlib.Core.Logic.{◌⊎◌}
use Prim.Native.Nat.{ℕ, ◌≤◌, ◌<◌}
use Rattle.rules.specs.Cut.{Devices}
use Rattle.rules.specs.Sets.{Inside, Agree}

-- each set holds its own device and the sets of all it holds; two that share a device are nested; of nested sets that are not one the outer is larger
pub record Family (n : ℕ) (weigh : Devices → ℕ) (C : ℕ → Devices) : Type 0 where
  pub own : (d : ℕ) → d < n → C d d ≡ true
  pub nested : (d e : ℕ) → d < n → e < n → C d e ≡ true → Inside n (C e) (C d)
  pub laminar : (d e x : ℕ) → d < n → e < n → x < n → C d x ≡ true → C e x ≡ true → Inside n (C d) (C e) ⊎ Inside n (C e) (C d)
  pub larger_or_same : (S T : Devices) → Inside n S T → weigh T ≤ weigh S → Agree n S T
  pub weigh_inside : (S T : Devices) → Inside n S T → weigh S ≤ weigh T
