-- The groups by going once through the devices: a wanted device that no earlier one owns becomes the owner of its whole community. At
-- the end each device's owner has the largest community that holds the device, and devices with one owner are one group.
-- Assumes nothing.
use mathlib.Core.Path.{◌≡◌, refl, sym, ◌∙◌, fun_ext}
use mathlib.Core.Bool.{Bool, true, false, ◌&&◌, cond, false≢true}
use mathlib.Core.Logic.{◌⊎◌, inl, inr, ⊎_elim}
use Prim.Native.Nat.{ℕ, zero, suc, ◌≤◌, ◌<◌}
use native.Mathlib.Nat.{le_refl, eq-or-lt_of_le, le_of_suc-le-suc}
use native.Mathlib.Omega.{arith}
use lib.Dec.{eqb}
use Rattle.rules.specs.Plant.{Plant}
use Rattle.rules.specs.Cut.{Devices, size}
use Rattle.rules.specs.Sets.{Inside, Agree}
use Rattle.rules.specs.Community.{community}
use Rattle.rules.specs.Groups.{group_of, lowest, label}
use Rattle.rules.specs.Sweep.{paint, sweep}
use Rattle.rules.specs.Order.{visit, lowest_with}
use Rattle.rules.proofs.Family.{Family}
use Rattle.rules.proofs.Owners.{visit-takes, visit-keeps, Owned, State, state-fewer, visited-all, owner-largest, owner-one, owner-self, owner-group, owner-same, owner-label}

-- one step: a wanted device is gone through, and then becomes an owner or is owned; the others are passed over
module _ (C : ℕ → Devices) (wanted : ℕ → Bool) (nobody k : ℕ) where
  pub sweep-visits : wanted k ≡ true → (v : ℕ) → sweep C wanted nobody (suc k) v ≡ visit C nobody k (sweep C wanted nobody k) v
  unfolding sweep visit
  sweep-visits w v = rw w

  pub sweep-takes : wanted k ≡ true → sweep C wanted nobody k k ≡ nobody → (v : ℕ)
      → sweep C wanted nobody (suc k) v ≡ cond (C k v) k (sweep C wanted nobody k v)
  sweep-takes w e v = sweep-visits w v ∙ visit-takes C nobody k (sweep C wanted nobody k) e v

  pub sweep-passes : wanted k ≡ false → (v : ℕ) → sweep C wanted nobody (suc k) v ≡ sweep C wanted nobody k v
  unfolding sweep
  sweep-passes w v = rw w

  pub sweep-keeps : (sweep C wanted nobody k k ≡ nobody → ⊥) → (v : ℕ) → sweep C wanted nobody (suc k) v ≡ sweep C wanted nobody k v
  sweep-keeps e v = go (wanted k) refl
    where
      go : (b : Bool) → wanted k ≡ b → sweep C wanted nobody (suc k) v ≡ sweep C wanted nobody k v
      go true w = sweep-visits w v ∙ visit-keeps C nobody k (sweep C wanted nobody k) e v
      go false w = sweep-passes w v

module _ (n : ℕ) (weigh : Devices → ℕ) (C : ℕ → Devices) (fam : Family n weigh C) (wanted : ℕ → Bool) where
  -- the devices gone through: those below k that are wanted
  abbrev Gone : ℕ → ℕ → Type 0
  Gone k f = (f < k) × (wanted f ≡ true)

  abbrev s : ℕ → ℕ → ℕ
  s = sweep C wanted n

  next : (k : ℕ) → k < n → ((v : ℕ) → v < n → State n C (Gone k) (s k) v (s k v)) → (b : Bool) → wanted k ≡ b
      → (v : ℕ) → v < n → State n C (Gone (suc k)) (s (suc k)) v (s (suc k) v)
  next k hk all true w v hv = rw (fun_ext (sweep-visits C wanted n k w)) (state-fewer n C fewer (visited-all n weigh C fam (Gone k) (s k) all k hk v hv))
    where
      fewer : (f : ℕ) → Gone (suc k) f → Gone k f ⊎ (f ≡ k)
      fewer f (l, t) = ⊎_elim (λ e. inr e) (λ h. inl (h, t)) (eq-or-lt_of_le (le_of_suc-le-suc l))
  next k hk all false w v hv = rw (fun_ext (sweep-passes C wanted n k w)) (state-fewer n C fewer (all v hv))
    where
      fewer : (f : ℕ) → Gone (suc k) f → Gone k f
      fewer f (l, t) = ⊎_elim (λ e. absurd (false≢true (sym w ∙ rw e at t))) (λ h. (h, t)) (eq-or-lt_of_le (le_of_suc-le-suc l))

  swept : (k : ℕ) → k ≤ n → (v : ℕ) → v < n → State n C (Gone k) (s k) v (s k v)
  swept zero hk v hv = inl (record { nobody = unfold sweep in refl; none = λ f h. absurd (omega arith) })
  swept (suc k) hk v hv = next k hk (swept k (omega arith)) (wanted k) refl v hv

  -- an owner is a device, and nobody is n
  pub sweep-le : (k v : ℕ) → k ≤ n → v < n → sweep C wanted n k v ≤ n
  sweep-le k v hk hv = ⊎_elim (λ f. omega (arith, f.nobody)) (λ w. omega (arith, w.below)) (swept k hk v hv)

  -- an owner is wanted
  abbrev Chosen : ℕ → Type 0
  Chosen o = (o ≡ n) ⊎ (wanted o ≡ true)

  choose : (k o : ℕ) (a b c : Bool) → wanted k ≡ a → Chosen o → Chosen (cond (a && b) (cond c k o) o)
  choose k o true true true w h = inr w
  choose k o true true false w h = h
  choose k o true false c w h = h
  choose k o false b c w h = h

  chosen : (k v : ℕ) → Chosen (s k v)
  unfolding sweep paint
  chosen zero v = inl refl
  chosen (suc k) v = choose k (s k v) (wanted k) (eqb (s k k) n) (C k v) refl (chosen k v)

  -- each device lies in the community of a wanted one
  module _ (cover : (d : ℕ) → d < n → (r : ℕ) × (r < n) × (wanted r ≡ true) × (C r d ≡ true)) where
    pub sweep-owned : (v : ℕ) → v < n → Owned n C (sweep C wanted n n) v (sweep C wanted n n v)
    sweep-owned v h = ⊎_elim (λ f. absurd (f.none (cover v h).0 ((cover v h).1, (cover v h).2) (cover v h).3)) (λ w. w) (swept n (le_refl n) v h)

    -- the owner's community is the largest that holds the device
    pub sweep-owner : (v : ℕ) → v < n
        → (sweep C wanted n n v < n) × (C (sweep C wanted n n v) v ≡ true) × ((d : ℕ) → d < n → C d v ≡ true → Inside n (C d) (C (sweep C wanted n n v)))
    sweep-owner v h = ((sweep-owned v h).below, (sweep-owned v h).holds, λ d hd. owner-largest n weigh C fam (s n) sweep-owned v d h hd)

    pub sweep-wanted : (v : ℕ) → v < n → wanted (sweep C wanted n n v) ≡ true
    sweep-wanted v h = ⊎_elim (λ e. absurd (omega (arith, (sweep-owned v h).below))) (λ w. w) (chosen n v)

    pub sweep-one : (u v : ℕ) → u < n → v < n → Agree n (C (sweep C wanted n n u)) (C (sweep C wanted n n v)) → sweep C wanted n n u ≡ sweep C wanted n n v
    sweep-one = owner-one n weigh C fam (s n) sweep-owned

    -- an owner owns itself
    pub sweep-self : (v : ℕ) → v < n → sweep C wanted n n (sweep C wanted n n v) ≡ sweep C wanted n n v
    sweep-self = owner-self n weigh C fam (s n) sweep-owned

module _ (g : Plant) (p q : ℕ) (fam : Family g.devices (size g) (community g p q)) (wanted : ℕ → Bool)
    (cover : (d : ℕ) → d < g.devices → (r : ℕ) × (r < g.devices) × (wanted r ≡ true) × (community g p q r d ≡ true)) where
  owned : (v : ℕ) → v < g.devices → Owned g.devices (community g p q) (sweep (community g p q) wanted g.devices g.devices) v (sweep (community g p q) wanted g.devices g.devices v)
  owned = sweep-owned g.devices (size g) (community g p q) fam wanted cover

  -- the owner's community is the group
  pub sweep-group : (v : ℕ) → v < g.devices
      → Agree g.devices (community g p q (sweep (community g p q) wanted g.devices g.devices v)) (group_of g p q v)
  sweep-group = owner-group g p q fam _ owned

  -- devices with one owner are one group
  pub sweep-same : (u v : ℕ) → u < g.devices → v < g.devices
      → eqb (sweep (community g p q) wanted g.devices g.devices u) (sweep (community g p q) wanted g.devices g.devices v) ≡ group_of g p q v u
  sweep-same = owner-same g p q fam _ owned

  pub sweep-label : (v : ℕ) → v < g.devices
      → label g p q v
      ≡ lowest g.devices (λ u. eqb (sweep (community g p q) wanted g.devices g.devices u) (sweep (community g p q) wanted g.devices g.devices v))
  unfolding lowest_with
  sweep-label = owner-label g p q fam _ owned
