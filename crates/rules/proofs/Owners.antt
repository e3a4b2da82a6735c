-- Owners of devices, whichever way the devices are gone through: a device that nobody owns yet becomes the owner of its whole set, and a
-- device that is owned is passed over. `Sweep` goes through the wanted devices by their numbers, `Order` through a list of devices.
--     visited-all              the state of each device after one more device
--     owner-largest, ..        once each device is owned: its owner has the largest community that holds it
--     owner-label              and the devices with one owner are one group
-- Assumes nothing.
use mathlib.Core.Path.{◌≡◌, refl, sym, ◌∙◌, fun_ext}
use mathlib.Core.Bool.{Bool, true, false, cond, false≢true}
use mathlib.Core.Logic.{◌⊎◌, inl, inr, ⊎_elim}
use Prim.Native.Nat.{ℕ, ◌<◌}
use native.Mathlib.Omega.{arith}
use lib.Dec.{eqb}
use borrow.Author.Tests.{eqb-true, eq-eqb, ne_eqb}
use Rattle.rules.specs.Plant.{Plant}
use Rattle.rules.specs.Cut.{Devices, size}
use Rattle.rules.specs.Sets.{Inside, Agree}
use Rattle.rules.specs.Community.{community}
use Rattle.rules.specs.Groups.{group_of, label}
use Rattle.rules.specs.Sweep.{paint}
use Rattle.rules.specs.Order.{visit, lowest_with}
use Rattle.rules.proofs.Family.{Family}
use Rattle.rules.proofs.SetLaws.{same_bool, agree-inside}
use Rattle.rules.proofs.GroupLaws.{group-only}
use Rattle.rules.proofs.LabelLaws.{label-from}

-- one step: d becomes an owner, or d is owned
module _ (C : ℕ → Devices) (nobody d : ℕ) (owner : ℕ → ℕ) where
  pub visit-takes : owner d ≡ nobody → (v : ℕ) → visit C nobody d owner v ≡ cond (C d v) d (owner v)
  unfolding visit paint
  visit-takes e v = rw (eq-eqb (owner d) nobody e)

  pub visit-keeps : (owner d ≡ nobody → ⊥) → (v : ℕ) → visit C nobody d owner v ≡ owner v
  unfolding visit
  visit-keeps e v = rw (ne_eqb (owner d) nobody e)

module _ (n : ℕ) (C : ℕ → Devices) where
  -- nobody owns v: no device gone through has v in its community
  pub record Free (Gone : ℕ → Type 0) (v o : ℕ) : Type 0 where
    pub nobody : o ≡ n
    pub none : (f : ℕ) → Gone f → C f v ≡ true → ⊥

  -- o owns v: it is a device that has v in its community, and it owns its whole community
  pub record Owned (owner : ℕ → ℕ) (v o : ℕ) : Type 0 where
    pub below : o < n
    pub holds : C o v ≡ true
    pub whole : (w : ℕ) → w < n → C o w ≡ true → owner w ≡ o

  abbrev pub State : (ℕ → Type 0) → (ℕ → ℕ) → ℕ → ℕ → Type 0
  State Gone owner v o = Free Gone v o ⊎ Owned owner v o

  -- the same, of fewer devices gone through
  pub state-fewer : {Gone Gone' : ℕ → Type 0} {owner : ℕ → ℕ} {v o : ℕ} → ((f : ℕ) → Gone' f → Gone f) → State Gone owner v o → State Gone' owner v o
  state-fewer h (inl f) = inl (record { nobody = f.nobody; none = λ e g. f.none e (h e g) })
  state-fewer h (inr w) = inr w

module _ (n : ℕ) (weigh : Devices → ℕ) (C : ℕ → Devices) (fam : Family n weigh C) where
  -- one more device, k
  module _ (Gone : ℕ → Type 0) (owner : ℕ → ℕ) (all : (v : ℕ) → v < n → State n C Gone owner v (owner v)) (k : ℕ) (hk : k < n) where
    abbrev Gone' : ℕ → Type 0
    Gone' f = Gone f ⊎ (f ≡ k)

    abbrev taken : ℕ → ℕ
    taken v = cond (C k v) k (owner v)

    free_more : (v o : ℕ) → (C k v ≡ true → ⊥) → Free n C Gone v o → Free n C Gone' v o
    free_more v o not f = record { nobody = f.nobody; none = λ e g c. ⊎_elim (λ a. f.none e a c) (λ q. not (rw q at c)) g }

    -- k becomes an owner
    take : Free n C Gone k (owner k) → (v : ℕ) → v < n → (b : Bool) → C k v ≡ b → State n C Gone' taken v (cond b k (owner v))
    take free v hv true m = inr (record { below = hk; holds = m; whole = λ w hw c. rw c })
    take free v hv false m = go (all v hv)
      where
        same : Owned n C owner v (owner v) → (w : ℕ) → w < n → C (owner v) w ≡ true → (b : Bool) → C k w ≡ b → cond b k (owner w) ≡ owner v
        same o w hw c false t = o.whole w hw c
        same o w hw c true t =
            absurd
            (⊎_elim
            (λ a. false≢true (sym m ∙ a v hv o.holds))
            (λ a. omega (arith, free.nobody, o.below, o.whole k hk (a k hk (fam.own k hk))))
            (fam.laminar (owner v) k w o.below hk hw c t))

        go : State n C Gone owner v (owner v) → State n C Gone' taken v (owner v)
        go (inl f) = inl (free_more v (owner v) (λ t. false≢true (sym m ∙ t)) f)
        go (inr o) = inr (record { below = o.below; holds = o.holds; whole = λ w hw c. same o w hw c (C k w) refl })

    -- k is owned already
    keep : Owned n C owner k (owner k) → (v : ℕ) → v < n → State n C Gone owner v (owner v) → State n C Gone' owner v (owner v)
    keep own v hv (inl f) = inl (free_more v (owner v) (λ m. omega (arith, own.below, f.nobody, own.whole v hv (fam.nested (owner k) k own.below hk own.holds v hv m))) f)
    keep own v hv (inr o) = inr o

    pub visited-all : (v : ℕ) → v < n → State n C (λ f. Gone f ⊎ (f ≡ k)) (visit C n k owner) v (visit C n k owner v)
    visited-all v hv = go (all k hk)
      where
        go : State n C Gone owner k (owner k) → State n C Gone' (visit C n k owner) v (visit C n k owner v)
        go (inl free) = rw (fun_ext (visit-takes C n k owner free.nobody)) (take free v hv (C k v) refl)
        go (inr own) = rw (fun_ext (visit-keeps C n k owner (λ e. omega (arith, own.below)))) (keep own v hv (all v hv))

  -- at the end each device is owned
  module _ (owner : ℕ → ℕ) (owned : (v : ℕ) → v < n → Owned n C owner v (owner v)) where
    -- the owner's community is the largest that holds the device
    pub owner-largest : (v d : ℕ) → v < n → d < n → C d v ≡ true → Inside n (C d) (C (owner v))
    owner-largest v d hv hd m = rw ((owned d hd).whole v hv (part v hv m)) part
      where
        part : Inside n (C d) (C (owner d))
        part = fam.nested (owner d) d (owned d hd).below hd (owned d hd).holds

    -- owners with one community are one
    pub owner-one : (u v : ℕ) → u < n → v < n → Agree n (C (owner u)) (C (owner v)) → owner u ≡ owner v
    owner-one u v hu hv a = (owned v hv).whole u hu (agree-inside a u hu (owned u hu).holds)

    -- an owner owns itself
    pub owner-self : (v : ℕ) → v < n → owner (owner v) ≡ owner v
    owner-self v h = (owned v h).whole (owner v) (owned v h).below (fam.own (owner v) (owned v h).below)

module _ (g : Plant) (p q : ℕ) (fam : Family g.devices (size g) (community g p q)) (owner : ℕ → ℕ)
    (owned : (v : ℕ) → v < g.devices → Owned g.devices (community g p q) owner v (owner v)) where
  abbrev m : ℕ
  m = g.devices

  abbrev G : ℕ → Devices
  G = group_of g p q

  abbrev D : ℕ → Devices
  D v = community g p q (owner v)

  -- the owner's community is the group
  pub owner-group : (v : ℕ) → v < g.devices → Agree g.devices (community g p q (owner v)) (group_of g p q v)
  owner-group v h = group-only g p q fam v (owner v) h (owned v h).below (owned v h).holds (λ d hd. owner-largest m (size g) (community g p q) fam owner owned v d h hd)

  -- devices with one owner are one group
  pub owner-same : (u v : ℕ) → u < g.devices → v < g.devices → eqb (owner u) (owner v) ≡ group_of g p q v u
  owner-same u v hu hv = same_bool (eqb (owner u) (owner v)) (G v u) together apart
    where
      together : eqb (owner u) (owner v) ≡ true → G v u ≡ true
      together e = agree-inside (owner-group v hv) u hu (rw (eqb-true (owner u) (owner v) e) at (owned u hu).holds)

      apart : G v u ≡ true → eqb (owner u) (owner v) ≡ true
      apart t = eq-eqb (owner u) (owner v) ((owned v hv).whole u hu (owner-group v hv u hu ∙ t))

  pub owner-label : (v : ℕ) → v < g.devices → label g p q v ≡ lowest_with g.devices owner v
  unfolding lowest_with
  owner-label v h = label-from g p q v (λ u. eqb (owner u) (owner v)) (λ u hu. owner-same u v hu h)
