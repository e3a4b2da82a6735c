-- The owners of devices, by going through the devices once. It says what the cut part hands to the grouping part; that the groups come of it is proved in `proofs/Sweep.antt`.
-- Assumes nothing.
use Rattle.std.specs.Prelude.{ℕ, zero, suc, ◌≡◌, Bool, true, not, ◌&&◌, cond, List, eqb, get_or}
use Rattle.rules.specs.Cut.{Devices}

-- e as the owner of all of S
unfoldable pub paint : Devices → ℕ → (ℕ → ℕ) → ℕ → ℕ
paint S e owner v = cond (S v) e (owner v)

-- the owner of each device after the devices below k: device k, where it is wanted and nobody owns it yet, becomes the owner of its whole set C k
unfoldable pub sweep : (ℕ → Devices) → (ℕ → Bool) → ℕ → ℕ → ℕ → ℕ
unfolding paint
sweep C wanted nobody zero v = nobody
sweep C wanted nobody (suc k) v =
    cond (wanted k && eqb (sweep C wanted nobody k k) nobody) (paint (C k) k (sweep C wanted nobody k) v) (sweep C wanted nobody k v)

-- device k is wanted, and nobody owns it when its turn comes
pub record Sought (C : ℕ → Devices) (wanted : ℕ → Bool) (nobody k : ℕ) : Type 0 where
  pub chosen : wanted k ≡ true
  pub free : sweep C wanted nobody k k ≡ nobody

-- which devices are wanted, by a list: those whose entry is not 0
unfoldable pub wanted_in : List ℕ → ℕ → Bool
wanted_in wanted d = not (eqb (get_or wanted d 0) 0)
