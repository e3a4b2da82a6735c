-- The group of a device: document 01, "The groups at a rate are the communities contained in no larger community; each device lies in
-- exactly one group." What is used of the communities is the record `Family`. Assumes nothing.
use mathlib.Core.Path.{◌≡◌, refl, sym, ◌∙◌}
use mathlib.Core.Bool.{Bool, true, false, ◌&&◌, cond, false≢true}
use mathlib.Core.Logic.{⊎_elim, ◌↔◌}
use Prim.Native.Nat.{ℕ, zero, suc, ◌≤◌, ◌<◌}
use native.Mathlib.Nat.{le_refl, le_trans}
use native.Mathlib.Omega.{arith}
use lib.Dec.{ltb}
use borrow.Author.Tests.{ltb-true, ltb-false}
use Rattle.rules.specs.Plant.{Plant}
use Rattle.rules.specs.Cut.{Devices, size}
use Rattle.rules.specs.Sets.{Inside, Agree}
use Rattle.rules.specs.Community.{community}
use Rattle.rules.specs.Groups.{larger, largest, group_of}
use Rattle.rules.proofs.Family.{Family}
use Rattle.rules.proofs.SetLaws.{below_suc, agree-both, agree-inside, agree-sym}

module _ (g : Plant) (p q : ℕ) where
  abbrev n : ℕ
  n = g.devices

  abbrev C : ℕ → Devices
  C = community g p q

  abbrev weight : ℕ → ℕ
  weight d = size g (C d)

  -- what the search for the largest community that holds i ends with: begun at that of d, after the devices below k
  record Found (i k d : ℕ) (S : Devices) : Type 0 where
    from : ℕ
    below : from < n
    holds : C from i ≡ true
    same : S ≡ C from
    start : weight d ≤ weight from
    tried : (e : ℕ) → e < k → C e i ≡ true → weight e ≤ weight from

  -- a search that went on from e after k was tried
  tried-more : (i k d e : ℕ) (S : Devices) → weight d ≤ weight e → (C k i ≡ true → weight k ≤ weight e) → Found i k e S → Found i (suc k) d S
  tried-more i k d e S up at f = record {
    from = f.from;
    below = f.below;
    holds = f.holds;
    same = f.same;
    start = le_trans up f.start;
    tried = below_suc (λ e. C e i ≡ true → weight e ≤ weight f.from) k f.tried (λ m. le_trans (at m) f.start);
  }

  find-step : (i k d : ℕ) → k < n → d < n → C d i ≡ true
      → ((e : ℕ) → e < n → C e i ≡ true → Found i k e (largest g p q i k (C e)))
      → (a b : Bool) → C k i ≡ a → ltb (weight d) (weight k) ≡ b
      → Found i (suc k) d (largest g p q i k (cond (a && b) (C k) (C d)))
  find-step i k d hk hd m rec true true ea eb = tried-more i k d k _ (omega (arith, ltb-true)) (λ t. le_refl _) (rec k hk ea)
  find-step i k d hk hd m rec true false ea eb = tried-more i k d d _ (le_refl _) (λ t. ltb-false _ _ eb) (rec d hd m)
  find-step i k d hk hd m rec false b ea eb = tried-more i k d d _ (le_refl _) (λ t. absurd (false≢true (sym ea ∙ t))) (rec d hd m)

  find : (i k d : ℕ) → k ≤ n → d < n → C d i ≡ true → Found i k d (largest g p q i k (C d))
  unfolding largest larger
  find i zero d hk hd m = record { from = d; below = hd; holds = m; same = refl; start = le_refl _; tried = λ e h c. absurd (omega arith) }
  find i (suc k) d hk hd m = find-step i k d hk hd m (λ e. find i k e (omega arith)) _ _ refl refl

  module _ (fam : Family n (size g) C) where
    found : (i : ℕ) → i < n → Found i n i (group_of g p q i)
    unfolding group_of
    found i h = find i n i (le_refl n) h (fam.own i h)

    -- the group is a community
    pub group-community : (i : ℕ) → i < n → (d : ℕ) × (d < n) × (group_of g p q i ≡ C d)
    group-community i h = ((found i h).from, (found i h).below, (found i h).same)

    pub group-holds : (i : ℕ) → i < n → group_of g p q i i ≡ true
    group-holds i h = rw (found i h).same (found i h).holds

    -- each community that holds i lies in the group of i
    pub group-largest : (i d : ℕ) → i < n → d < n → C d i ≡ true → Inside n (C d) (group_of g p q i)
    group-largest i d hi hd m = rw (found i hi).same (⊎_elim (λ a. a) back (fam.laminar d e i hd (found i hi).below hi m (found i hi).holds))
      where
        e : ℕ
        e = (found i hi).from

        back : Inside n (C e) (C d) → Inside n (C d) (C e)
        back a = agree-inside (agree-sym (fam.larger_or_same (C e) (C d) a ((found i hi).tried d hd m)))

    -- and only one community with that is a group
    pub group-only : (i e : ℕ) → i < n → e < n → C e i ≡ true → ((d : ℕ) → d < n → C d i ≡ true → Inside n (C d) (C e)) → Agree n (C e) (group_of g p q i)
    group-only i e hi he m all = agree-both (C e) (group_of g p q i) (group-largest i e hi he m) (rw (found i hi).same (all (found i hi).from (found i hi).below (found i hi).holds))

    -- a device of the group of i has that group
    pub group-same : (i j : ℕ) → i < n → j < n → group_of g p q i j ≡ true → Agree n (group_of g p q i) (group_of g p q j)
    group-same i j hi hj m = rw (found i hi).same (group-only j e hj he mj (λ d hd md. ⊎_elim (λ a. a) (outer d hd) (fam.laminar d e j hd he hj md mj)))
      where
        e : ℕ
        e = (found i hi).from

        he : e < n
        he = (found i hi).below

        mj : C e j ≡ true
        mj = rw (found i hi).same at m

        outer : (d : ℕ) → d < n → Inside n (C e) (C d) → Inside n (C d) (C e)
        outer d hd a = rw (found i hi).same at (group-largest i d hi hd (a i hi (found i hi).holds))

    -- a community that is contained in no larger one is the group of its device, and a group is contained in no larger community
    top-group : (d : ℕ) → d < n → ((e : ℕ) → e < n → Inside n (C d) (C e) → Agree n (C d) (C e)) → Agree n (group_of g p q d) (C d)
    top-group d hd top = rw same (agree-sym (top (found d hd).from (found d hd).below (rw same at (group-largest d d hd hd (fam.own d hd)))))
      where
        same : group_of g p q d ≡ C (found d hd).from
        same = (found d hd).same

    group-top : (i d e : ℕ) → i < n → e < n → Agree n (group_of g p q i) (C d) → Inside n (C d) (C e) → Agree n (C d) (C e)
    group-top i d e hi he a inside = agree-both (C d) (C e) inside (λ x hx m. agree-inside a x hx (group-largest i e hi he holds x hx m))
      where
        holds : C e i ≡ true
        holds = inside i hi (agree-inside a i hi (group-holds i hi))

    -- the communities contained in no larger one are exactly the groups
    pub group-maximal : (d : ℕ) → d < n
        → ((e : ℕ) → e < n → Inside n (C d) (C e) → Agree n (C d) (C e)) ↔ ((i : ℕ) × (i < n) × Agree n (group_of g p q i) (C d))
    group-maximal d hd = (λ top. (d, hd, top-group d hd top), λ t e he inside. group-top t.0 d e t.1 he t.2 inside)
