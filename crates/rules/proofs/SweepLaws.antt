-- Going through the devices once: the owners depend only on the sets of those devices that are sought, which are wanted and owned by nobody when their turn comes.
--     sweep-first    sets that agree below k give the same owners after the devices below k
--     sweep-both     so do sets that agree where they are sought in both
--     sweep-sought   and where they are sought in one
--     sweep-nodes    nodes that stand for devices: the owner of a device is the owner of its node
--     sweep-only     one device alone is wanted: it owns its set, and nobody owns the others
-- Assumes nothing.
use Prim.Native.Nat.{ℕ, zero, suc, ◌≤◌, ◌<◌}
use mathlib.Core.Path.{◌≡◌, refl, sym, ap, ap₂, ◌∙◌}
use mathlib.Core.Bool.{Bool, true, false, ◌&&◌, cond}
use mathlib.Core.Logic.{◌⊎◌, inl, inr}
use native.Mathlib.Nat.{le_step, lt-suc_self, le_refl, eq-or-lt_of_le, le_of_suc-le-suc}
use native.Mathlib.Decide.{ℕ_discrete}
use native.Mathlib.Omega.{arith}
use lib.Dec.{eqb}
use borrow.Author.Tests.{eqb-true, eq-eqb, ne_eqb}
use Rattle.rules.specs.Cut.{Devices}
use Rattle.rules.specs.Sweep.{paint, sweep, Sought}
use Rattle.rules.proofs.Sweep.{sweep-takes, sweep-passes, sweep-keeps}
use Rattle.rules.proofs.Instance.{sweep-agree}

module _ (C C' : ℕ → Devices) (wanted : ℕ → Bool) (nobody : ℕ) where
  pub sweep-first : (k v : ℕ) → ((i v : ℕ) → i < k → C i v ≡ C' i v) → sweep C wanted nobody k v ≡ sweep C' wanted nobody k v
  unfolding sweep paint
  sweep-first zero v same = refl
  sweep-first (suc k) v same =
      rw (sweep-first k k (λ i u b. same i u (le_step b)), sweep-first k v (λ i u b. same i u (le_step b)), same k v (lt-suc_self k))

-- one device's turn
turn : (a b c c' : Bool) (k x : ℕ) → (a ≡ true → b ≡ true → c ≡ c') → cond (a && b) (cond c k x) x ≡ cond (a && b) (cond c' k x) x
turn true true c c' k x h = ap (λ (t : Bool). cond t k x) (h refl refl)
turn true false c c' k x h = refl
turn false b c c' k x h = refl

module _ (n : ℕ) (C C' : ℕ → Devices) (wanted : ℕ → Bool) (nobody : ℕ)
    (same : (k : ℕ) → k < n → Sought C wanted nobody k → Sought C' wanted nobody k → (v : ℕ) → v < n → C k v ≡ C' k v) where
  pub sweep-both : (k v : ℕ) → k ≤ n → v < n → sweep C wanted nobody k v ≡ sweep C' wanted nobody k v
  unfolding sweep paint
  sweep-both zero v hk hv = refl
  sweep-both (suc k) v hk hv =
      turn (wanted k) (eqb (sweep C wanted nobody k k) nobody) (C k v) (C' k v) k (sweep C wanted nobody k v)
      (λ w e. let free = eqb-true (sweep C wanted nobody k k) nobody e in
      same k hk (record { chosen = w; free = free }) (record { chosen = w; free = sym (sweep-both k k (omega arith) hk) ∙ free }) v hv)
      ∙ rw (sweep-both k k (omega arith) hk, sweep-both k v (omega arith) hv)

-- the sets need to agree only where one of the two families is sought, and so may the wanted devices
module _ (n : ℕ) (C C' : ℕ → Devices) (wanted wanted' : ℕ → Bool) (nobody : ℕ)
    (same : (k : ℕ) → k < n → Sought C wanted nobody k → (v : ℕ) → v < n → C k v ≡ C' k v) (chosen : (k : ℕ) → k < n → wanted k ≡ wanted' k) where
  pub sweep-sought : (k v : ℕ) → k ≤ n → v < n → sweep C wanted nobody k v ≡ sweep C' wanted' nobody k v
  sweep-sought k v hk hv =
      sweep-both n C C' wanted nobody (λ i b s t. same i b s) k v hk hv
      ∙ sweep-agree n C' C' wanted wanted' nobody (λ i u b c. refl) chosen k v hk hv

module _ (C : ℕ → Devices) (wanted : ℕ → Bool) (n d : ℕ) (only : (k : ℕ) → k < n → wanted k ≡ eqb k d) where
  before : (k v : ℕ) → k ≤ n → k ≤ d → sweep C wanted n k v ≡ n
  before zero v hk b = unfold sweep in refl
  before (suc k) v hk b = sweep-passes C wanted n k (only k hk ∙ ne_eqb k d (λ e. omega arith)) v ∙ before k v (omega arith) (omega arith)

  after : (k v : ℕ) → k ≤ n → d < k → sweep C wanted n k v ≡ cond (C d v) d n
  after zero v hk b = absurd (omega arith)
  after (suc k) v hk b = go (eq-or-lt_of_le (le_of_suc-le-suc b)) (after k v (omega arith))
    where
      go : (d ≡ k) ⊎ (d < k) → (d < k → sweep C wanted n k v ≡ cond (C d v) d n) → sweep C wanted n (suc k) v ≡ cond (C d v) d n
      go (inl e) rec =
          sweep-takes C wanted n k (only k hk ∙ eq-eqb k d (sym e)) (before k k (omega arith) (omega arith)) v
          ∙ ap (λ (x : ℕ). cond (C k v) k x) (before k v (omega arith) (omega arith))
          ∙ ap (λ (i : ℕ). cond (C i v) i n) (sym e)
      go (inr h) rec = sweep-passes C wanted n k (only k hk ∙ ne_eqb k d (λ e. omega arith)) v ∙ rec h

  pub sweep-only : (v : ℕ) → d < n → sweep C wanted n n v ≡ cond (C d v) d n
  sweep-only v h = after n v (le_refl n) h

-- nodes that stand for devices: S x are nodes and C x their devices, and a wanted device is its own node
module _ (n : ℕ) (node : ℕ → ℕ) (S C : ℕ → Devices) (wanted : ℕ → Bool) (nobody : ℕ)
    (own : (k : ℕ) → k < n → wanted k ≡ true → node k ≡ k)
    (same : (k : ℕ) → k < n → Sought S wanted nobody k → (v : ℕ) → v < n → S k (node v) ≡ C k v) where
  -- one device's turn
  turn-nodes : (k v : ℕ) → k < n → v < n → sweep S wanted nobody k (node v) ≡ sweep C wanted nobody k v
      → (wanted k ≡ true → sweep S wanted nobody k k ≡ sweep C wanted nobody k k) → sweep S wanted nobody (suc k) (node v) ≡ sweep C wanted nobody (suc k) v
  turn-nodes k v hk hv before-v before-k = go (wanted k) refl (ℕ_discrete (sweep S wanted nobody k k) nobody)
    where
      go : (b : Bool) → wanted k ≡ b → Dec (sweep S wanted nobody k k ≡ nobody) → sweep S wanted nobody (suc k) (node v) ≡ sweep C wanted nobody (suc k) v
      go false w d = sweep-passes S wanted nobody k w (node v) ∙ before-v ∙ sym (sweep-passes C wanted nobody k w v)
      go true w (yes e) =
          sweep-takes S wanted nobody k w e (node v)
          ∙ ap₂ (λ (c : Bool) (x : ℕ). cond c k x) (same k hk (record { chosen = w; free = e }) v hv) before-v
          ∙ sym (sweep-takes C wanted nobody k w (sym (before-k w) ∙ e) v)
      go true w (no h) =
          sweep-keeps S wanted nobody k h (node v) ∙ before-v ∙ sym (sweep-keeps C wanted nobody k (λ e. h (before-k w ∙ e)) v)

  -- the owner of a device is the owner of its node
  pub sweep-nodes : (k v : ℕ) → k ≤ n → v < n → sweep S wanted nobody k (node v) ≡ sweep C wanted nobody k v
  sweep-nodes zero v hk hv = unfold sweep in refl
  sweep-nodes (suc k) v hk hv =
      turn-nodes k v hk hv (sweep-nodes k v (omega arith) hv) (λ w. ap (sweep S wanted nobody k) (sym (own k hk w)) ∙ sweep-nodes k k (omega arith) hk)
