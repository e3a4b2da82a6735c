-- The marks of the devices that own themselves. Assumes nothing.
use Rattle.std.proofs.Common.{◌≡◌, refl, ℕ, Bool, true, false, not, cond, List, eqb, get_or}
use Rattle.rules.specs.Sweep.{wanted_in}
use Rattle.grouping.specs.Level.{owns_itself}

-- a device that is marked 1 where it owns itself, and 0 elsewhere, is wanted just where it owns itself
pub marked-own : (owner wanted : List ℕ) (v : ℕ) → get_or wanted v 0 ≡ cond (eqb (get_or owner v 0) v) 1 0 → wanted_in wanted v ≡ owns_itself owner v
unfolding wanted_in owns_itself
marked-own owner wanted v e = rw e (marked (eqb (get_or owner v 0) v))
  where
    marked : (b : Bool) → not (eqb (cond b 1 0) 0) ≡ b
    marked true = refl
    marked false = refl
