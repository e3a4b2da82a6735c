-- Document 01, "Cuts, communities, groups", second paragraph.
-- Assumes nothing.
use Rattle.std.specs.Prelude.{ℕ, zero, suc, Bool, false, ◌&&◌, ◌||◌, cond, List, [], ◌∷◌, ◌++◌, map, ltb, eqb}
use Rattle.rules.specs.Plant.{Plant}
use Rattle.rules.specs.Cut.{Devices, size, cost}

-- S and the device k
unfoldable pub with : ℕ → Devices → Devices
with k S i = eqb i k || S i

-- all sets of devices below n
unfoldable pub sets : ℕ → List Devices
sets zero = (λ i. false) ∷ []
sets (suc k) = sets k ++ map (with k) (sets k)

-- all devices
unfoldable pub everyone : Plant → Devices
everyone g i = ltb i g.devices

-- "the set of least cost ..; among those of equal cost, the one with fewest devices": whether S comes before T by that
unfoldable pub better : Plant → ℕ → ℕ → Devices → Devices → Bool
better g p q S T = ltb (cost g p q S) (cost g p q T) || (eqb (cost g p q S) (cost g p q T) && ltb (size g S) (size g T))

-- the best of T and of those sets of the list that pass the test ok
unfoldable pub best : Plant → ℕ → ℕ → (Devices → Bool) → Devices → List Devices → Devices
best g p q ok T [] = T
best g p q ok T (S ∷ Ss) = best g p q ok (cond (ok S && better g p q S T) S T) Ss

-- "The community of device d is the set of least cost among sets containing d; among those of equal cost, the one with fewest devices."
unfoldable pub community : Plant → ℕ → ℕ → ℕ → Devices
community g p q d = best g p q (λ S. S d) (everyone g) (sets g.devices)
