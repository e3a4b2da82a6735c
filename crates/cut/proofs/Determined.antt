-- Two results that the contract of a public function allows are equal, answer and lent lists alike. Every contract but that of `reduce` says that the result equals a definition; of `reduce` it is `RateLaws.reduction-determined`.
-- Assumes nothing.
use Prim.Native.Nat.{ℕ}
use mathlib.Core.Path.{◌≡◌, refl, sym, ap, ◌∙◌}
use mathlib.Core.List.{List}
use lib.ListN.{length}
use Rattle.rules.specs.Refusal.{Refusal}
use native.Mathlib.Omega.{arith}
use Rattle.std.specs.Prelude.{Result, Ok, Err}
use Rattle.std.specs.declared.cmp.Ordering.{Ordering}
use Rattle.std.specs.declared.cmp.Ordering.TheVariants.{Less, Equal, Greater}
use Rattle.rules.specs.declared.Fault.{Fault}
use Rattle.rules.specs.Faults.{told}
use Rattle.rules.proofs.FaultLaws.{told-same, answer-same}
use Rattle.rules.specs.Refusals.{plant_fault}
use Rattle.cut.specs.declared.community.Extent.{Extent}
use Rattle.cut.specs.declared.rate.Rate.{Rate}
use Rattle.cut.specs.RateCalls.{Reduced, order_of, compare_told, reduce_told, Reduction}
use Rattle.cut.specs.Calls.{community_told}
use Rattle.cut.proofs.RateLaws.{reduction-determined}
use Rattle.cut.specs.RateCalls.{Compared}
use Rattle.cut.specs.Calls.{Answer}
use Rattle.cut.specs.RateCalls.{compared}
use Rattle.cut.specs.Calls.{community_answer, community_marks, owners_fault, owners_after}

-- two things that equal a third
both : {A : Type 0} {x y m : A} → x ≡ m → y ≡ m → x ≡ y
both e f = e ∙ sym f

pub check-determined : (n : ℕ) (xs ys zs : List ℕ) (r r' : Refusal) → r ≡ plant_fault n xs ys zs → r' ≡ plant_fault n xs ys zs → r ≡ r'
check-determined n xs ys zs r r' = both

pub compare-determined : (p q s t : ℕ) (r r' : Compared) → r ≡ compared p q s t → r' ≡ compared p q s t → r ≡ r'
compare-determined p q s t r r' = both

pub community-determined : (n : ℕ) (xs ys zs : List ℕ) (p q d : ℕ) (marks : List ℕ) (r r' : Answer) (new new' : List ℕ)
    → r ≡ community_answer n xs ys zs p q d marks → r' ≡ community_answer n xs ys zs p q d marks
    → new ≡ community_marks n xs ys zs p q d marks → new' ≡ community_marks n xs ys zs p q d marks
    → (r ≡ r') × (new ≡ new')
community-determined n xs ys zs p q d marks r r' new new' a a' m m' = (both a a', both m m')

pub owners-determined : (n : ℕ) (xs ys zs : List ℕ) (p q : ℕ) (owner : List ℕ) (r r' : Refusal) (new new' : List ℕ)
    → r ≡ owners_fault n xs ys zs p q (length owner) → r' ≡ owners_fault n xs ys zs p q (length owner)
    → new ≡ owners_after n xs ys zs p q owner → new' ≡ owners_after n xs ys zs p q owner
    → (r ≡ r') × (new ≡ new')
owners-determined n xs ys zs p q owner r r' new new' a a' m m' = (both a a', both m m')

-- the same of the answers themselves, which are enums: two that a contract allows are equal
pub check-result-determined : (n : ℕ) (xs ys zs : List ℕ) (r r' : Result Unit Fault) → told r ≡ plant_fault n xs ys zs → told r' ≡ plant_fault n xs ys zs → r ≡ r'
check-result-determined n xs ys zs r r' e e' = told-same r r' (both e e')

order-same : (o o' : Ordering) → order_of o ≡ order_of o' → o ≡ o'
order-same Less Less e = refl
order-same Less Equal e = absurd (omega (arith, e))
order-same Less Greater e = absurd (omega (arith, e))
order-same Equal Less e = absurd (omega (arith, e))
order-same Equal Equal e = refl
order-same Equal Greater e = absurd (omega (arith, e))
order-same Greater Less e = absurd (omega (arith, e))
order-same Greater Equal e = absurd (omega (arith, e))
order-same Greater Greater e = refl

pub compare-result-determined : (p q s t : ℕ) (r r' : Result Ordering Fault) → compare_told r ≡ compared p q s t → compare_told r' ≡ compared p q s t → r ≡ r'
compare-result-determined p q s t r r' e e' =
    answer-same compare_told (λ c. record { number = c.number; place = c.place }) heads (λ o o' h. order-same o o' (ap (λ (c : Compared). c.order) h)) r r' (both e e')
  where
    heads : (r : Result Ordering Fault) → record { number = (compare_told r).number; place = (compare_told r).place } ≡ told r
    heads (Ok o) = refl
    heads (Err f) = refl

pub reduce-result-determined : (p q : ℕ) (r r' : Result Rate Fault) → Reduction p q (reduce_told r) → Reduction p q (reduce_told r') → r ≡ r'
reduce-result-determined p q r r' h h' =
    answer-same reduce_told (λ c. record { number = c.number; place = c.place }) heads
    (λ x y e. let a = ap (λ (c : Reduced). c.p) e in let b = ap (λ (c : Reduced). c.q) e in (λ i. record { p = a i; q = b i })) r r' (reduction-determined p q (reduce_told r) (reduce_told r') h h')
  where
    heads : (r : Result Rate Fault) → record { number = (reduce_told r).number; place = (reduce_told r).place } ≡ told r
    heads (Ok o) = refl
    heads (Err f) = refl

pub community-result-determined : (n : ℕ) (xs ys zs : List ℕ) (p q d : ℕ) (marks : List ℕ) (r r' : Result Extent Fault)
    → community_told r ≡ community_answer n xs ys zs p q d marks → community_told r' ≡ community_answer n xs ys zs p q d marks → r ≡ r'
community-result-determined n xs ys zs p q d marks r r' e e' =
    answer-same community_told (λ c. record { number = c.number; place = c.place }) heads
    (λ x y h. let a = ap (λ (c : Answer). c.size) h in let b = ap (λ (c : Answer). c.out) h in (λ i. record { size = a i; out = b i })) r r' (both e e')
  where
    heads : (r : Result Extent Fault) → record { number = (community_told r).number; place = (community_told r).place } ≡ told r
    heads (Ok o) = refl
    heads (Err f) = refl

pub owners-result-determined : (n : ℕ) (xs ys zs : List ℕ) (p q room : ℕ) (r r' : Result Unit Fault) → told r ≡ owners_fault n xs ys zs p q room → told r' ≡ owners_fault n xs ys zs p q room → r ≡ r'
owners-result-determined n xs ys zs p q room r r' e e' = told-same r r' (both e e')
