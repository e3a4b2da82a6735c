-- The community of a device, as `best` finds it among all sets, is what document 01's sentence says: it holds the device, no set that holds it costs less, and none of equal cost has fewer devices.
-- Every set of devices agrees below n with one of the list `sets n`; `best` goes through that list.
-- Assumes nothing.
use Prim.Native.Nat.{ℕ, zero, suc, ◌≤◌, ◌<◌}
use mathlib.Core.Path.{◌≡◌, refl, ap, sym, ◌∙◌}
use mathlib.Core.Bool.{Bool, true, false, ◌&&◌, ◌||◌, cond, false≢true}
use mathlib.Core.List.Memᴰ
use mathlib.Core.List.{List, [], ◌∷◌, map, Memᴰ}
use mathlib.Core.Logic.{◌⊎◌, inl, inr}
use native.Mathlib.Nat.{le_refl, le_trans, le_of_suc-le}
use native.Mathlib.Omega.{arith}
use lib.Dec.{ltb, eqb}
use borrow.Author.Tests.{ltb-true, ltb-false, eqb-true, eqb-false, lt-ltb, le-ltb, eq-eqb, ne_eqb}
use Rattle.rules.specs.Plant.{Plant}
use Rattle.rules.specs.Accepted.{Sound}
use Rattle.rules.specs.Cut.{Devices, size, cost}
use Rattle.rules.specs.Sets.{Agree}
use Rattle.rules.specs.Community.{with, sets, everyone, better, best, community}
use Rattle.rules.specs.CommunityIs.{IsCommunity}
use Rattle.rules.proofs.SetLaws.{below_suc}
use Rattle.rules.proofs.Sums.{agree-size, agree-cost}

-- S comes no later than T: it costs no more, and at equal cost has no more devices
record NoLater (g : Plant) (p q : ℕ) (S T : Devices) : Type 0 where
  cheap : cost g p q S ≤ cost g p q T
  small : cost g p q T ≤ cost g p q S → size g S ≤ size g T

no-later-self : (g : Plant) (p q : ℕ) (S : Devices) → NoLater g p q S S
no-later-self g p q S = record { cheap = le_refl (cost g p q S); small = λ h. le_refl (size g S) }

no-later-trans : (g : Plant) (p q : ℕ) {S T U : Devices} → NoLater g p q S T → NoLater g p q T U → NoLater g p q S U
no-later-trans g p q {S} {T} {U} a b =
    record {
      cheap = le_trans a.cheap b.cheap;
      small = λ h. le_trans (a.small (le_trans b.cheap h)) (b.small (le_trans h a.cheap));
    }

-- of S and T the one that `better` takes comes no later than the other
better-kept :
    (g : Plant) (p q : ℕ) (S T : Devices) →
    NoLater g p q (cond (better g p q S T) S T) (cond (better g p q S T) T S)
unfolding better
better-kept g p q S T =
    go (ltb (cost g p q S) (cost g p q T)) (eqb (cost g p q S) (cost g p q T)) (ltb (size g S) (size g T)) refl refl refl
  where
    go :
        (x y z : Bool) →
        ltb (cost g p q S) (cost g p q T) ≡ x →
        eqb (cost g p q S) (cost g p q T) ≡ y →
        ltb (size g S) (size g T) ≡ z →
        NoLater g p q (cond (x || (y && z)) S T) (cond (x || (y && z)) T S)
    go true y z ex ey ez =
        let l = ltb-true (cost g p q S) (cost g p q T) ex in
        record { cheap = omega arith; small = λ h. absurd (omega arith) }
    go false true true ex ey ez =
        let l = eqb-true (cost g p q S) (cost g p q T) ey in
        let m = ltb-true (size g S) (size g T) ez in
        record { cheap = omega arith; small = λ h. omega arith }
    go false true false ex ey ez =
        record { cheap = ltb-false (cost g p q S) (cost g p q T) ex; small = λ h. ltb-false (size g S) (size g T) ez }
    go false false z ex ey ez =
        let l = ltb-false (cost g p q S) (cost g p q T) ex in
        record { cheap = l; small = λ h. absurd (eqb-false (cost g p q S) (cost g p q T) ey (omega arith)) }

module _ (g : Plant) (p q : ℕ) (ok : Devices → Bool) where
  -- one step of `best`
  abbrev step : Devices → Devices → Devices
  step S T = cond (ok S && better g p q S T) S T

  step-no-later : (S T : Devices) → NoLater g p q (step S T) T × (ok S ≡ true → NoLater g p q (step S T) S)
  step-no-later S T = go (ok S) (better g p q S T) (better-kept g p q S T)
    where
      go :
          (o b : Bool) →
          NoLater g p q (cond b S T) (cond b T S) →
          NoLater g p q (cond (o && b) S T) T × (o ≡ true → NoLater g p q (cond (o && b) S T) S)
      go true true h = (h, λ e. no-later-self g p q S)
      go true false h = (no-later-self g p q T, λ e. h)
      go false b h = (no-later-self g p q T, λ e. absurd (false≢true e))

  -- the best comes no later than the set it starts with
  best-first : (T : Devices) (Ss : List Devices) → NoLater g p q (best g p q ok T Ss) T
  unfolding best
  best-first T [] = no-later-self g p q T
  best-first T (S ∷ Ss) = no-later-trans g p q (best-first (step S T) Ss) (step-no-later S T).0

  -- and no later than any set of the list that passes the test
  best-listed :
      (S T : Devices) {Ss : List Devices} → Memᴰ S Ss → ok S ≡ true → NoLater g p q (best g p q ok T Ss) S
  unfolding best
  best-listed S T (Memᴰ.head {x = R} {xs = Ss} e) o =
      no-later-trans g p q (best-first (step R T) Ss) (rw e ((step-no-later R T).1 (rw e at o)))
  best-listed S T (Memᴰ.tail {x = R} {xs = Ss} m) o = best-listed S (step R T) m o

  -- what holds of the set it starts with, and of those of the list that pass the test, holds of the best
  best_keeps :
      (P : Devices → Type 0) (T : Devices) (Ss : List Devices) →
      P T →
      ((S : Devices) → Memᴰ S Ss → ok S ≡ true → P S) →
      P (best g p q ok T Ss)
  unfolding best
  best_keeps P T [] t h = t
  best_keeps P T (S ∷ Ss) t h =
      best_keeps P (step S T) Ss (go (ok S) (better g p q S T) (h S (Memᴰ.head refl))) (λ R m o. h R (Memᴰ.tail m) o)
    where
      go : (o b : Bool) → (o ≡ true → P S) → P (cond (o && b) S T)
      go true true s = s refl
      go true false s = t
      go false b s = t

-- each set of the list `sets n` holds no device from n on
Past : ℕ → Devices → Type 0
Past n S = (i : ℕ) → n ≤ i → S i ≡ false

map_cases :
    {A B : Type 0} (f : A → B) (xs : List A) {y : B} → Memᴰ y (map f xs) → (x : A) × Memᴰ x xs × (y ≡ f x)
map_cases f [] m = absurd (Memᴰ.not-nil m)
map_cases f (x ∷ xs) (Memᴰ.head e) = (x, Memᴰ.head refl, e)
map_cases f (x ∷ xs) (Memᴰ.tail m) =
    let r = map_cases f xs m in
    (r.0, Memᴰ.tail r.1, r.2)

map-holds : {A B : Type 0} (f : A → B) {x : A} {xs : List A} → Memᴰ x xs → Memᴰ (f x) (map f xs)
map-holds f (Memᴰ.head e) = Memᴰ.head (ap f e)
map-holds f (Memᴰ.tail m) = Memᴰ.tail (map-holds f m)

sets-past : (n : ℕ) (S : Devices) → Memᴰ S (sets n) → Past n S
unfolding sets with Past
sets-past zero S m i l = ap (λ (R : Devices). R i) (Memᴰ.eq_of_singleton m)
sets-past (suc k) S m i l = go (sets-past k) (Memᴰ.append_cases (sets k) m)
  where
    go :
        ((R : Devices) → Memᴰ R (sets k) → Past k R) →
        Memᴰ S (sets k) ⊎ Memᴰ S (map (with k) (sets k)) →
        S i ≡ false
    go f (inl a) = f S a i (le_of_suc-le l)
    go f (inr a) =
        let r = map_cases (with k) (sets k) a in
        ap (λ (R : Devices). R i) r.2 ∙ rw (ne_eqb i k (λ e. omega arith)) (f r.0 r.1 i (le_of_suc-le l))

-- every set agrees below n with one of the list
sets-all : (n : ℕ) (T : Devices) → (S : Devices) × Memᴰ S (sets n) × Agree n S T
unfolding sets with Past
sets-all zero T = ((λ i. false), Memᴰ.head refl, λ i b. absurd (omega arith))
sets-all (suc k) T = go (sets-all k T) (T k) refl
  where
    go :
        (S : Devices) × Memᴰ S (sets k) × Agree k S T →
        (b : Bool) →
        T k ≡ b →
        (S : Devices) × Memᴰ S (sets (suc k)) × Agree (suc k) S T
    go r true e =
        let earlier : Agree k (with k r.0) T = λ i b. rw (ne_eqb i k (λ h. omega arith)) (r.2 i b) in
        let m = Memᴰ.append_right (sets k) (map-holds (with k) r.1) in
        (with k r.0, m, below_suc _ k earlier (rw (eq-eqb k k refl, e)))
    go r false e =
        let m = Memᴰ.append_left (map (with k) (sets k)) r.1 in
        (r.0, m, below_suc _ k r.2 (sets-past k r.0 r.1 k (le_refl k) ∙ sym e))

-- a test that only looks at devices below n: the best of all sets comes no later than any set that passes it
best-of-all :
    (g : Plant) (p q : ℕ) (ok : Devices → Bool) →
    Sound g →
    ((S T : Devices) → Agree g.devices S T → ok S ≡ ok T) →
    (R T : Devices) →
    ok T ≡ true →
    NoLater g p q (best g p q ok R (sets g.devices)) T
best-of-all g p q ok s same R T o =
    let (S, m, a) = sets-all g.devices T in
    let c = agree-cost g p q S T s a in
    let z = agree-size g S T a in
    let alike : NoLater g p q S T = record { cheap = omega arith; small = λ h. omega arith } in
    no-later-trans g p q (best-listed g p q ok S R m (same S T a ∙ o)) alike

best-passes :
    (g : Plant) (p q : ℕ) (ok : Devices → Bool) (R : Devices) (Ss : List Devices) →
    ok R ≡ true →
    ok (best g p q ok R Ss) ≡ true
best-passes g p q ok R Ss r = best_keeps g p q ok (λ S. ok S ≡ true) R Ss r (λ S m o. o)

best-past :
    (g : Plant) (p q : ℕ) (ok : Devices → Bool) (R : Devices) →
    Past g.devices R →
    Past g.devices (best g p q ok R (sets g.devices))
best-past g p q ok R r = best_keeps g p q ok (Past g.devices) R (sets g.devices) r (λ S m o. sets-past g.devices S m)

pub community-is :
    (g : Plant) (p q d : ℕ) → Sound g → d < g.devices → IsCommunity g p q d (community g p q d)
unfolding community everyone
community-is g p q d s b =
    record {
      holds = best-passes g p q (λ S. S d) (everyone g) (sets g.devices) (lt-ltb d g.devices b);
      least = λ T t. (first T t).cheap;
      fewest = λ T t. (first T t).small;
    }
  where
    first : (T : Devices) → T d ≡ true → NoLater g p q (community g p q d) T
    first T t = best-of-all g p q (λ S. S d) s (λ S R a. a d b) (everyone g) T t

pub community-past : (g : Plant) (p q d i : ℕ) → g.devices ≤ i → community g p q d i ≡ false
unfolding community everyone Past
community-past g p q d i l = best-past g p q (λ S. S d) (everyone g) (λ j h. le-ltb j g.devices h) i l
