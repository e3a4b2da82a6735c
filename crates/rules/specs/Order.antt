-- The owners of devices, by going through the devices in any order, and their labels: "The order of devices in the search has no influence." is proved in `proofs/Order.antt`. No public contract cites this file.
-- Assumes nothing.
use Rattle.std.specs.Prelude.{ℕ, ◌<◌, ◌≡◌, true, cond, List, [], ◌∷◌, eqb}
use Rattle.rules.specs.Cut.{Devices}
use Rattle.rules.specs.Groups.{lowest, among}
use Rattle.rules.specs.Sweep.{paint}

-- the owners after device d: where nobody owns it yet, it becomes the owner of its whole set C d
unfoldable pub visit : (ℕ → Devices) → ℕ → ℕ → (ℕ → ℕ) → ℕ → ℕ
visit C nobody d owner v = cond (eqb (owner d) nobody) (paint (C d) d owner v) (owner v)

-- the owners after the devices of a list, in its order, where owner was before
unfoldable pub visit_all : (ℕ → Devices) → ℕ → List ℕ → (ℕ → ℕ) → ℕ → ℕ
visit_all C nobody [] owner = owner
visit_all C nobody (d ∷ ds) owner = visit_all C nobody ds (visit C nobody d owner)

-- the owners after the devices of a list, in its order, where nobody owned any before
unfoldable pub sweep_over : (ℕ → Devices) → ℕ → List ℕ → ℕ → ℕ
sweep_over C nobody order = visit_all C nobody order (λ v. nobody)

-- an order of the devices below n: each stands in it at least once, and nothing else
pub record Order (n : ℕ) (order : List ℕ) : Type 0 where
  pub each : (d : ℕ) → d < n → among d order ≡ true
  pub only : (d : ℕ) → among d order ≡ true → d < n

-- the label of v from the owners: the lowest device with the same owner
unfoldable pub lowest_with : ℕ → (ℕ → ℕ) → ℕ → ℕ
lowest_with n owner v = lowest n (λ u. eqb (owner u) (owner v))
