-- The laws of groups at an accepted rate: the communities of a plant are such a family as the laws of groups ask for. Beside it, that
-- going through the devices with two families that agree ends in the same owners. Assumes nothing.
use mathlib.Core.Path.{◌≡◌, refl}
use mathlib.Core.Bool.{Bool}
use Prim.Native.Nat.{ℕ, zero, suc, ◌*◌, ◌≤◌, ◌<◌}
use native.Mathlib.Omega.{arith}
use Rattle.rules.specs.Plant.{Plant}
use Rattle.rules.specs.Accepted.{Sound}
use Rattle.rules.specs.Cut.{Devices, size}
use Rattle.rules.specs.Sets.{Inside}
use Rattle.rules.specs.Community.{community}
use Rattle.rules.specs.Groups.{group_of, label}
use Rattle.rules.specs.Sweep.{sweep, paint}
use Rattle.rules.proofs.Sums.{size-inside, inside-equal}
use Rattle.rules.proofs.Best.{community-is}
use Rattle.rules.proofs.Communities.{nested, laminar}
use Rattle.rules.proofs.Rates.{coarser}
use Rattle.rules.proofs.Family.{Family}
use Rattle.rules.proofs.Divides.{group-coarser, divides-never}

pub family : (g : Plant) (p q : ℕ) → Sound g → 1 ≤ p → Family g.devices (size g) (community g p q)
family g p q s o = record {
  own = λ d h. (community-is g p q d s h).holds;
  nested = λ d e hd he m. nested g p q d e s hd he m;
  laminar = λ d e x hd he hx a b. laminar g p q d e x s o hd he hx a b;
  larger_or_same = inside-equal g;
  weigh_inside = size-inside g;
}

module _ (g : Plant) (p q p' q' : ℕ) (s : Sound g) (o : 1 ≤ p) (o' : 1 ≤ p') (u' : 1 ≤ q') (lower : p' * q ≤ p * q') where
  -- the group of a device at a rate lies in its group at each rate that is not higher
  pub group-within : (i : ℕ) → i < g.devices → Inside g.devices (group_of g p q i) (group_of g p' q' i)
  group-within = group-coarser g p q p' q' (family g p q s o) (family g p' q' s o') (λ d h. coarser g p q p' q' d s h u' lower)

  -- "A lower rate never divides a group of a higher one."
  pub never-divides : (i j : ℕ) → i < g.devices → j < g.devices → label g p q i ≡ label g p q j → label g p' q' i ≡ label g p' q' j
  never-divides = divides-never g p q p' q' (family g p q s o) (family g p' q' s o') (λ d h. coarser g p q p' q' d s h u' lower)

-- two families of sets that agree below n, with the same wanted devices there, have the same owners
module _ (n : ℕ) (C C' : ℕ → Devices) (wanted wanted' : ℕ → Bool) (nobody : ℕ)
    (same : (k v : ℕ) → k < n → v < n → C k v ≡ C' k v) (chosen : (k : ℕ) → k < n → wanted k ≡ wanted' k) where
  pub sweep-agree : (k v : ℕ) → k ≤ n → v < n → sweep C wanted nobody k v ≡ sweep C' wanted' nobody k v
  unfolding sweep paint
  sweep-agree zero v hk hv = refl
  sweep-agree (suc k) v hk hv =
      rw (sweep-agree k k (omega arith) hk, sweep-agree k v (omega arith) hv, same k v hk hv, chosen k hk)
