-- Document 01, "10/2 answers as 5/1", of the community call: two accepted rates that are one fraction have the same answer and leave the same marks, whether the call is refused or not.
-- Assumes nothing.
use Prim.Native.Nat.{ℕ, ◌<◌}
use mathlib.Core.Path.{◌≡◌, refl, sym, ap, ap₂, ◌∙◌}
use mathlib.Core.Bool.{Bool, true, false, cond}
use mathlib.Core.List.{List}
use native.Mathlib.Omega.{arith}
use borrow.Author.Tests.{eqb-true, eqb-false, leb-true, leb-false}
use lib.Dec.{eqb, leb}
use lib.ListN.{length}
use Rattle.rules.specs.Refusal.{Refusal}
use Rattle.rules.specs.Plant.{plant_of}
use Rattle.rules.specs.Accepted.{Sound}
use Rattle.rules.specs.Cut.{Devices, out, size}
use Rattle.rules.specs.Sets.{Agree}
use Rattle.rules.specs.Community.{community}
use Rattle.rules.specs.Rates.{rate_ok, Same}
use Rattle.rules.specs.Refusals.{rate_fault, plant_fault}
use Rattle.rules.proofs.RefusalLaws.{accepted-sound}
use Rattle.rules.proofs.Sums.{agree-out, agree-size}
use Rattle.rules.proofs.Rates.{same-rate}
use Rattle.cut.specs.Calls.{Answer}
use Rattle.cut.specs.Calls.{marks_of, community_fault, community_answer, community_marks}
use Rattle.rules.proofs.RangeLaws.{range-in}
use Rattle.rules.proofs.FillLaws.{over_agree}
use Rattle.rules.proofs.RefusalLaws.{plant-accepted}
use Rattle.cut.proofs.CallLaws.{community-plant, community-10}

-- what is said where the number is 0, and something else where it is not
by_number : {A : Type 0} (r : Refusal) (x x' y : A) → (r.number ≡ 0 → x ≡ x') → cond (eqb r.number 0) x y ≡ cond (eqb r.number 0) x' y
by_number r x x' y h = go (eqb r.number 0) refl
  where
    go : (b : Bool) → eqb r.number 0 ≡ b → cond b x y ≡ cond b x' y
    go true e = h (eqb-true r.number 0 e)
    go false e = refl

-- the answer of a call that is done
abbrev answer : ℕ → ℕ → Answer
answer s o = record { number = 0; place = 0; size = s; out = o }

module _ (n : ℕ) (xs ys zs : List ℕ) (p q p' q' d : ℕ) (ok : rate_ok p q ≡ true) (ok' : rate_ok p' q' ≡ true) (same : Same p q p' q') where
  abbrev C : Devices
  C = community (plant_of n xs ys zs) p q d

  abbrev C' : Devices
  C' = community (plant_of n xs ys zs) p' q' d

  -- the first fault is the same
  same-fault : (room : ℕ) → community_fault n xs ys zs p q d room ≡ community_fault n xs ys zs p' q' d room
  unfolding community_fault rate_fault
  same-fault room = rw (ok, ok')

  module _ (room : ℕ) (z : (community_fault n xs ys zs p q d room).number ≡ 0) where
    -- with number 0 the plant is accepted and d is a device
    plant-0 : (plant_fault n xs ys zs).number ≡ 0
    plant-0 = go (eqb (plant_fault n xs ys zs).number 0) refl
      where
        go : (b : Bool) → eqb (plant_fault n xs ys zs).number 0 ≡ b → (plant_fault n xs ys zs).number ≡ 0
        go true e = eqb-true (plant_fault n xs ys zs).number 0 e
        go false e = sym (ap (λ (r : Refusal). r.number) (community-plant n xs ys zs p q d room (eqb-false (plant_fault n xs ys zs).number 0 e))) ∙ z

    device-0 : d < n
    device-0 = go (leb n d) refl
      where
        go : (b : Bool) → leb n d ≡ b → d < n
        go true e =
            let ten : ◌≡◌ {A = ℕ} 10 0 = sym (ap (λ (r : Refusal). r.number) (community-10 n xs ys zs p q d room plant-0 ok (leb-true n d e))) ∙ z in
            absurd (omega arith)
        go false e = leb-false n d e

    sound-0 : Sound (plant_of n xs ys zs)
    sound-0 = accepted-sound n xs ys zs (plant-accepted n xs ys zs (plant_fault n xs ys zs) refl plant-0)

    community-same : Agree n C C'
    unfolding plant_of
    community-same = same-rate (plant_of n xs ys zs) p q p' q' d sound-0 device-0 (range-in p q ok).q_least (range-in p' q' ok').q_least same

    size_same : size (plant_of n xs ys zs) C ≡ size (plant_of n xs ys zs) C'
    unfolding plant_of
    size_same = agree-size (plant_of n xs ys zs) C C' community-same

    out-same : out (plant_of n xs ys zs).lines C ≡ out (plant_of n xs ys zs).lines C'
    unfolding plant_of
    out-same = agree-out n (plant_of n xs ys zs).lines C C' sound-0 community-same

  -- "10/2 answers as 5/1": one fraction, one answer, and the same marks
  pub answer-same : (marks : List ℕ) → community_answer n xs ys zs p q d marks ≡ community_answer n xs ys zs p' q' d marks
  unfolding community_answer
  answer-same marks =
      rw (← same-fault (length marks))
      (by_number (community_fault n xs ys zs p q d (length marks)) _ _ _
      (λ z. ap₂ answer (size_same (length marks) z) (out-same (length marks) z)))

  pub marks-same : (marks : List ℕ) → community_marks n xs ys zs p q d marks ≡ community_marks n xs ys zs p' q' d marks
  unfolding community_marks marks_of
  marks-same marks =
      rw (← same-fault (length marks))
      (by_number (community_fault n xs ys zs p q d (length marks)) _ _ _
      (λ z. over_agree n _ _ marks (λ v h. ap (λ (b : Bool). cond b 1 0) (community-same (length marks) z v h))))

-- "10/2 answers as 5/1", to the number
pub ten-halves : (n : ℕ) (xs ys zs : List ℕ) (d : ℕ) (marks : List ℕ)
    → (community_answer n xs ys zs 10 2 d marks ≡ community_answer n xs ys zs 5 1 d marks) × (community_marks n xs ys zs 10 2 d marks ≡ community_marks n xs ys zs 5 1 d marks)
unfolding rate_ok
ten-halves n xs ys zs d marks = (answer-same n xs ys zs 10 2 5 1 d refl refl refl marks, marks-same n xs ys zs 10 2 5 1 d refl refl refl marks)
