-- The public calls: their first fault, test by test, and what they answer and leave in the lent lists, refused and accepted. Two results that a contract allows are equal, since each equals its definition.
-- Assumes nothing.
use Prim.Native.Nat.{ℕ, ◌≤◌, ◌<◌}
use mathlib.Core.Path.{◌≡◌, refl, sym, ap, subst, ◌∙◌}
use mathlib.Core.Bool.{Bool, true, false, cond}
use mathlib.Core.List.{List, [], ◌∷◌, ◌++◌}
use native.Mathlib.Nat.{le_refl}
use native.Mathlib.Omega.{arith}
use borrow.Author.Tests.{eq-eqb, ne_eqb, le-leb, lt-leb, le-ltb, lt-ltb}
use lib.Dec.{eqb, lit≤}
use lib.ListN.{length, get_or, set, take, drop, replicate}
use Rattle.rules.specs.Plant.{plant_of}
use Rattle.rules.specs.Accepted.{Accepted}
use Rattle.rules.specs.Cut.{Devices, size, out}
use Rattle.rules.specs.Community.{community}
use Rattle.rules.specs.Groups.{table}
use Rattle.rules.specs.Sweep.{sweep, wanted_in}
use Rattle.rules.specs.Rates.{rate_ok}
use Rattle.rules.specs.Refusals.{done, cause, or_else, first_of, rate_fault, device_fault, room_fault, after_plant, about, nothing, plant_says, plant_fault}
use Rattle.rules.proofs.RefusalLaws.{done_next, call-is, call-plant, call-rest}
use Rattle.rules.proofs.Instance.{sweep-agree}
use Rattle.rules.proofs.SweepLaws.{sweep-only}
use Rattle.rules.specs.Numbers.{sum}
use Rattle.rules.specs.Lists.{over}
use Rattle.std.specs.Prelude.{Err}
use Rattle.rules.specs.Faults.{refusal_of}
use Rattle.rules.specs.declared.Fault.{Fault}
use Rattle.rules.proofs.FaultLaws.{fault-some}
use Rattle.rules.specs.Refusal.{Refusal}
use Rattle.cut.specs.Calls.{Answer, community_told, marks_of, community_fault, community_answer, community_marks, owners_fault, owners_of, owners_after}
use Rattle.cut.proofs.CheckLaws.{at}
use Rattle.rules.proofs.FillLaws.{over_agree, over-front, over-copied}
use Rattle.cut.proofs.SetLaws.{marks-size, marks-out, all_wanted, only-wanted}

-- the community call's first fault
module _ (n : ℕ) (xs ys zs : List ℕ) (p q d room : ℕ) where
  community-fault-is :
      community_fault n xs ys zs p q d room ≡ or_else (plant_fault n xs ys zs) (first_of (rate_fault p q ∷ device_fault n d ∷ room_fault n room ∷ []))
  unfolding community_fault after_plant about plant_says nothing first_of
  community-fault-is = call-is n xs ys zs _ refl refl refl refl ∙ simp done_next

  pub community-plant : ((plant_fault n xs ys zs).number ≡ 0 → ⊥) → community_fault n xs ys zs p q d room ≡ plant_fault n xs ys zs
  community-plant h = community-fault-is ∙ call-plant n xs ys zs _ h

  module _ (good : (plant_fault n xs ys zs).number ≡ 0) where
    pub community-9 : rate_ok p q ≡ false → community_fault n xs ys zs p q d room ≡ at 9 0
    unfolding first_of or_else cause done rate_fault
    community-9 e = community-fault-is ∙ call-rest n xs ys zs _ good ∙ simp e

    module _ (on : rate_ok p q ≡ true) where
      pub community-10 : n ≤ d → community_fault n xs ys zs p q d room ≡ at 10 0
      unfolding first_of or_else cause done rate_fault device_fault
      community-10 h = community-fault-is ∙ call-rest n xs ys zs _ good ∙ simp (on, le-leb _ _ h)

      module _ (in-plant : d < n) where
        pub community-12 : room < n → community_fault n xs ys zs p q d room ≡ at 12 0
        unfolding first_of or_else cause done rate_fault device_fault room_fault
        community-12 h = community-fault-is ∙ call-rest n xs ys zs _ good ∙ simp (on, lt-leb _ _ in-plant, lt-ltb _ _ h)

        pub community-0 : n ≤ room → community_fault n xs ys zs p q d room ≡ at 0 0
        unfolding first_of or_else cause done rate_fault device_fault room_fault
        community-0 h = community-fault-is ∙ call-rest n xs ys zs _ good ∙ simp (on, lt-leb _ _ in-plant, le-ltb _ _ h)

-- what the community call answers and leaves, refused and accepted
module _ (n : ℕ) (xs ys zs : List ℕ) (p q d : ℕ) (marks : List ℕ) where
  -- of every refusal, and of those that the call answers
  pub refused-answer : (r : Refusal) → community_fault n xs ys zs p q d (length marks) ≡ r → (r.number ≡ 0 → ⊥)
      → ◌≡◌ {A = Answer} (record { number = r.number; place = r.place; size = 0; out = 0 }) (community_answer n xs ys zs p q d marks)
  unfolding community_answer
  refused-answer r e h = rw (e, ne_eqb r.number 0 h)

  pub refused-marks : (r : Refusal) → community_fault n xs ys zs p q d (length marks) ≡ r → (r.number ≡ 0 → ⊥) → marks ≡ community_marks n xs ys zs p q d marks
  unfolding community_marks
  refused-marks r e h = rw (e, ne_eqb r.number 0 h)

  pub community-refused : (f : Fault) → community_fault n xs ys zs p q d (length marks) ≡ refusal_of f → community_told (Err f) ≡ community_answer n xs ys zs p q d marks
  community-refused f e = refused-answer (refusal_of f) e (fault-some f)

  pub community-kept : (f : Fault) → community_fault n xs ys zs p q d (length marks) ≡ refusal_of f → marks ≡ community_marks n xs ys zs p q d marks
  community-kept f e = refused-marks (refusal_of f) e (fault-some f)

  pub community-answered : community_fault n xs ys zs p q d (length marks) ≡ at 0 0
      → community_answer n xs ys zs p q d marks
      ≡ record { number = 0; place = 0; size = size (plant_of n xs ys zs) (community (plant_of n xs ys zs) p q d); out = out (plant_of n xs ys zs).lines (community (plant_of n xs ys zs) p q d) }
  unfolding community_answer
  community-answered e = rw e

  pub community-filled : community_fault n xs ys zs p q d (length marks) ≡ at 0 0
      → community_marks n xs ys zs p q d marks ≡ over (marks_of n (community (plant_of n xs ys zs) p q d)) marks
  unfolding community_marks
  community-filled e = rw e

-- the owners call's first fault
module _ (n : ℕ) (xs ys zs : List ℕ) (p q room : ℕ) where
  owners-fault-is : owners_fault n xs ys zs p q room ≡ or_else (plant_fault n xs ys zs) (first_of (rate_fault p q ∷ room_fault n room ∷ []))
  unfolding owners_fault after_plant about plant_says nothing first_of
  owners-fault-is = call-is n xs ys zs _ refl refl refl refl ∙ simp done_next

  pub owners-plant : ((plant_fault n xs ys zs).number ≡ 0 → ⊥) → owners_fault n xs ys zs p q room ≡ plant_fault n xs ys zs
  owners-plant h = owners-fault-is ∙ call-plant n xs ys zs _ h

  module _ (good : (plant_fault n xs ys zs).number ≡ 0) where
    pub owners-9 : rate_ok p q ≡ false → owners_fault n xs ys zs p q room ≡ at 9 0
    unfolding first_of or_else cause done rate_fault
    owners-9 e = owners-fault-is ∙ call-rest n xs ys zs _ good ∙ simp e

    module _ (on : rate_ok p q ≡ true) where
      pub owners-12 : room < n → owners_fault n xs ys zs p q room ≡ at 12 0
      unfolding first_of or_else cause done rate_fault room_fault
      owners-12 h = owners-fault-is ∙ call-rest n xs ys zs _ good ∙ simp (on, lt-ltb _ _ h)

      pub owners-0 : n ≤ room → owners_fault n xs ys zs p q room ≡ at 0 0
      unfolding first_of or_else cause done rate_fault room_fault
      owners-0 h = owners-fault-is ∙ call-rest n xs ys zs _ good ∙ simp (on, le-ltb _ _ h)

module _ (n : ℕ) (xs ys zs : List ℕ) (p q : ℕ) (owner : List ℕ) where
  pub refused-owners : (r : Refusal) → owners_fault n xs ys zs p q (length owner) ≡ r → (r.number ≡ 0 → ⊥) → owner ≡ owners_after n xs ys zs p q owner
  unfolding owners_after
  refused-owners r e h = rw (e, ne_eqb r.number 0 h)

  pub owners-kept : (f : Fault) → owners_fault n xs ys zs p q (length owner) ≡ refusal_of f → owner ≡ owners_after n xs ys zs p q owner
  owners-kept f e = refused-owners (refusal_of f) e (fault-some f)

  -- every device is wanted
  pub owners-found : n ≤ 128 → (old : List ℕ)
      → over (table n (sweep (community (plant_of n xs ys zs) p q) (wanted_in (replicate 128 1)) n n)) old ≡ over (owners_of (plant_of n xs ys zs) p q) old
  unfolding owners_of plant_of
  owners-found few old =
      over_agree n _ _ old (λ v h. sweep-agree n _ _ (wanted_in (replicate 128 1)) (λ d. true) n (λ k u a b. refl) (λ k a. all_wanted k (omega arith)) n v (le_refl n) h)

  -- the front of the owners is copied
  pub owners-filled : owners_fault n xs ys zs p q (length owner) ≡ at 0 0 → (ms : List ℕ) → ms ≡ over (owners_of (plant_of n xs ys zs) p q) (replicate 128 0)
      → n ≤ length ms → (new : List ℕ) → new ≡ take n ms → new ++ drop n owner ≡ owners_after n xs ys zs p q owner
  unfolding owners_after owners_of plant_of
  owners-filled e ms found l new front =
      over-copied n _ new ms owner front l (λ v h. ap (λ (t : List ℕ). get_or t v 0) found ∙ over-front n _ (replicate 128 0) v h) ∙ rw e

-- the marks of the devices that d owns, it alone being wanted, are its community's, and the counts over them are its size and out
module _ (n : ℕ) (xs ys zs : List ℕ) (p q d : ℕ) (accepted : Accepted n xs ys zs) (device : d < n) (old owner ms : List ℕ)
    (owned : owner ≡ over (table n (sweep (community (plant_of n xs ys zs) p q) (wanted_in (set (replicate 128 0) d 1)) n n)) old)
    (marked : (v : ℕ) → v < n → get_or ms v 0 ≡ cond (eqb (get_or owner v 0) d) 1 0) where
  abbrev C : Devices
  C = community (plant_of n xs ys zs) p q d

  pub found-community : (v : ℕ) → v < n → get_or ms v 0 ≡ cond (community (plant_of n xs ys zs) p q d v) 1 0
  found-community v l =
      marked v l
      ∙ ap (λ (o : ℕ). cond (eqb o d) 1 0)
      (ap (λ (t : List ℕ). get_or t v 0) owned
      ∙ over-front n _ old v l
      ∙ sweep-only (community (plant_of n xs ys zs) p q) (wanted_in (set (replicate 128 0) d 1)) n d (λ k b. only-wanted d k (omega (arith, accepted.most_devices)) (omega (arith, accepted.most_devices))) v device)
      ∙ mine (C v)
    where
      mine : (b : Bool) → ◌≡◌ {A = ℕ} (cond (eqb (cond b d n) d) 1 0) (cond b 1 0)
      mine true = rw (eq-eqb d d refl)
      mine false = rw (ne_eqb n d (λ e. omega arith))

  pub found-bit : (v : ℕ) → v < n → get_or ms v 0 ≤ 1
  found-bit v l = subst (λ (k : ℕ). k ≤ 1) (sym (found-community v l)) (bit (C v))
    where
      bit : (b : Bool) → cond b 1 0 ≤ 1
      bit true = lit≤ tt
      bit false = lit≤ tt

  pub found-size : sum n (λ v. get_or ms v 0) ≡ size (plant_of n xs ys zs) (community (plant_of n xs ys zs) p q d)
  found-size = marks-size n xs ys zs ms _ found-community

  pub found-out :
      sum (length xs) (λ l. cond (eqb (get_or ms (get_or xs l 0) 0) (get_or ms (get_or ys l 0) 0)) 0 (get_or zs l 0)) ≡ out (plant_of n xs ys zs).lines (community (plant_of n xs ys zs) p q d)
  found-out =
      sym (marks-out n xs ys zs ms _ found-community accepted.one_length accepted.one_length' accepted.first_device accepted.second_device)

  -- the front of the marks is copied
  pub found-marks : (marks new : List ℕ) → n ≤ length ms → new ≡ take n ms → new ++ drop n marks ≡ over (marks_of n (community (plant_of n xs ys zs) p q d)) marks
  unfolding marks_of
  found-marks marks new l e = over-copied n _ new ms marks e l found-community
