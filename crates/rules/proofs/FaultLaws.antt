-- Faults and their numbers: no fault has number 0, and number and place say which fault it is, so that an answer that is an enum is determined where its number, its place and its values are.
-- Assumes nothing.
use Rattle.std.proofs.Common.{◌≡◌, refl, sym, ap, ◌∙◌, ℕ, ◌≤◌, ◌<◌, Bool, true, false, not, arith}
use native.Mathlib.Nat.{suc-ne-zero}
use native.Mathlib.Decide.{ℕ_discrete, dec_lt}
use borrow.Author.Tests.{eq-eqb, ne_eqb, lt-ltb, le-ltb}
use Rattle.std.specs.Prelude.{Result, Ok, Err, [], ◌∷◌, slice_index_or, IsErrAnd}
use Rattle.rules.specs.Refusal.{Refusal}
use Rattle.rules.specs.Rates.{rate_ok}
use Rattle.rules.specs.Refusals.{done, cause, or_else, first_of, devices_fault, rate_fault}
use Rattle.rules.proofs.RefusalLaws.{or_else-first, or_else-next}
use Rattle.rules.specs.Faults.{refusal_of, told}
use Rattle.rules.specs.declared.Fault.{Fault}
use Rattle.rules.specs.declared.Fault.TheVariants.{NoDevices, ManyDevices, UnevenLists, ManyLines, EndNoDevice, EndsNotRising, LineNotRising, SignalsOffRange, RateOffRange, NoSuchDevice, SameDevice, ShortList, NeverJoin, LongText, WrongTextLine, NoSuchLevel}

-- the fault with that number and place
fault_at : ℕ → ℕ → Fault
fault_at number place =
    slice_index_or
    (NoSuchLevel ∷ NoDevices ∷ ManyDevices ∷ UnevenLists ∷ ManyLines ∷ EndNoDevice place ∷ EndsNotRising place ∷ LineNotRising place ∷ SignalsOffRange place ∷ RateOffRange ∷ NoSuchDevice ∷ SameDevice ∷ ShortList ∷ NeverJoin ∷ LongText ∷ WrongTextLine place ∷ NoSuchLevel ∷ [])
    number NoSuchLevel

fault-back : (f : Fault) → fault_at (refusal_of f).number (refusal_of f).place ≡ f
unfolding fault_at
fault-back NoDevices = refl
fault-back ManyDevices = refl
fault-back UnevenLists = refl
fault-back ManyLines = refl
fault-back (EndNoDevice k) = refl
fault-back (EndsNotRising k) = refl
fault-back (LineNotRising k) = refl
fault-back (SignalsOffRange k) = refl
fault-back RateOffRange = refl
fault-back NoSuchDevice = refl
fault-back SameDevice = refl
fault-back ShortList = refl
fault-back NeverJoin = refl
fault-back LongText = refl
fault-back (WrongTextLine k) = refl
fault-back NoSuchLevel = refl

-- "0 means done": no fault has number 0
pub fault-some : (f : Fault) → (refusal_of f).number ≡ 0 → ⊥
fault-some NoDevices = suc-ne-zero 0
fault-some ManyDevices = suc-ne-zero 1
fault-some UnevenLists = suc-ne-zero 2
fault-some ManyLines = suc-ne-zero 3
fault-some (EndNoDevice k) = suc-ne-zero 4
fault-some (EndsNotRising k) = suc-ne-zero 5
fault-some (LineNotRising k) = suc-ne-zero 6
fault-some (SignalsOffRange k) = suc-ne-zero 7
fault-some RateOffRange = suc-ne-zero 8
fault-some NoSuchDevice = suc-ne-zero 9
fault-some SameDevice = suc-ne-zero 10
fault-some ShortList = suc-ne-zero 11
fault-some NeverJoin = suc-ne-zero 12
fault-some LongText = suc-ne-zero 13
fault-some (WrongTextLine k) = suc-ne-zero 14
fault-some NoSuchLevel = suc-ne-zero 15

pub fault-not-0 : (f : Fault) {r : Refusal} → refusal_of f ≡ r → r.number ≡ 0 → ⊥
fault-not-0 f e z = fault-some f (ap (λ (r : Refusal). r.number) e ∙ z)

-- two faults with one number and place are one
pub fault-same : (f g : Fault) → refusal_of f ≡ refusal_of g → f ≡ g
fault-same f g e = sym (fault-back f) ∙ ap (λ (r : Refusal). fault_at r.number r.place) e ∙ fault-back g

-- an answer and a refusal have different numbers
pub told-apart : (f : Fault) → record { number = 0; place = 0 } ≡ refusal_of f → ⊥
told-apart f e = fault-some f (sym (ap (λ (r : Refusal). r.number) e))

-- a refused rate is out of range, and its refusal is 9; one that is not refused is in range
pub rate-off : (p q : ℕ) (f : Fault) → refusal_of f ≡ rate_fault p q → (rate_ok p q ≡ false) × (refusal_of f ≡ record { number = 9; place = 0 })
unfolding rate_fault cause done
rate-off p q f = go (rate_ok p q) refl
  where
    go : (b : Bool) → rate_ok p q ≡ b → refusal_of f ≡ cause (not b) 9 0 → (b ≡ false) × (refusal_of f ≡ record { number = 9; place = 0 })
    go true i e = absurd (told-apart f (sym e))
    go false i e = (refl, e)

pub rate-on : (p q : ℕ) → record { number = 0; place = 0 } ≡ rate_fault p q → rate_ok p q ≡ true
unfolding rate_fault cause done
rate-on p q = go (rate_ok p q)
  where
    go : (b : Bool) → record { number = 0; place = 0 } ≡ cause (not b) 9 0 → b ≡ true
    go true e = refl
    go false e = absurd (told-apart RateOffRange e)

-- what the exit of a `?` returns: the fault that it met
pub err-is : {A : Type 0} (r : Result A Fault) (f : Fault) → IsErrAnd r (λ e. e ≡ f) → r ≡ Err f
err-is (Ok x) f h = absurd h
err-is (Err e) f h = ap (λ (k : Fault). Err k) h

-- an answer of any kind is determined by what is told of it, where that has its number and its place, and determines the values of an accepted call
pub answer-same : {A B : Type 0} (tell : Result A Fault → B) (head : B → Refusal) → ((r : Result A Fault) → head (tell r) ≡ told r)
    → ((x y : A) → tell (Ok x) ≡ tell (Ok y) → x ≡ y) → (r r' : Result A Fault) → tell r ≡ tell r' → r ≡ r'
answer-same tell head h v (Ok x) (Ok y) e = ap Ok (v x y e)
answer-same tell head h v (Ok x) (Err g) e = absurd (told-apart g (sym (h (Ok x)) ∙ ap head e ∙ h (Err g)))
answer-same tell head h v (Err f) (Ok y) e = absurd (told-apart f (sym (h (Ok y)) ∙ ap head (sym e) ∙ h (Err f)))
answer-same tell head h v (Err f) (Err g) e = ap Err (fault-same f g (sym (h (Err f)) ∙ ap head e ∙ h (Err g)))

-- where an answer has no further value, number and place determine it
pub told-same : (r r' : Result Unit Fault) → told r ≡ told r' → r ≡ r'
told-same = answer-same told (λ t. t) (λ r. refl) (λ x y e. refl)

-- the number of devices, test by test
pub devices-1 : (n : ℕ) → n ≡ 0 → record { number = 1; place = 0 } ≡ devices_fault n
unfolding devices_fault first_of or_else cause
devices-1 n e = rw (eq-eqb n 0 e) refl

pub devices-2 : (n : ℕ) → (n ≡ 0 → ⊥) → 128 < n → record { number = 2; place = 0 } ≡ devices_fault n
unfolding devices_fault first_of or_else cause done
devices-2 n some e = rw (ne_eqb n 0 some, lt-ltb 128 n e) refl

pub devices-0 : (n : ℕ) → (n ≡ 0 → ⊥) → n ≤ 128 → record { number = 0; place = 0 } ≡ devices_fault n
unfolding devices_fault first_of or_else cause done
devices-0 n some few = rw (ne_eqb n 0 some, le-ltb 128 n few) refl

-- where there is no such fault there are some, and not too many
pub devices-right : (n : ℕ) → record { number = 0; place = 0 } ≡ devices_fault n → (1 ≤ n) × (n ≤ 128)
devices-right n e = go (ℕ_discrete n 0) (dec_lt 128 n)
  where
    go : Dec (n ≡ 0) → Dec (128 < n) → (1 ≤ n) × (n ≤ 128)
    go (yes i) d = absurd (told-apart NoDevices (e ∙ sym (devices-1 n i)))
    go (no i) (yes h) = absurd (told-apart ManyDevices (e ∙ sym (devices-2 n i h)))
    go (no i) (no h) = (omega arith, omega arith)

-- a call's fault where a first part of it is one, and where it is none
pub first-fault : (f : Fault) {r : Refusal} (s : Refusal) → refusal_of f ≡ r → refusal_of f ≡ or_else r s
first-fault f s e = e ∙ sym (or_else-first _ s (fault-not-0 f e))

pub next-fault : {r : Refusal} (s : Refusal) → record { number = 0; place = 0 } ≡ r → or_else r s ≡ s
unfolding done
next-fault s e = or_else-next s (sym e)
