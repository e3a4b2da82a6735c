-- Two results that a contract of this crate allows are equal: document 01, "What the contracts have to determine". Assumes nothing.
use mathlib.Core.Path.{◌≡◌, refl, sym, ap, ◌∙◌}
use mathlib.Core.List.{List}
use Prim.Native.Nat.{ℕ}
use Rattle.std.specs.Prelude.{Result, Ok, Err}
use Rattle.rules.specs.Refusal.{Refusal}
use Rattle.rules.specs.Faults.{told}
use Rattle.rules.specs.declared.Fault.{Fault}
use Rattle.rules.proofs.FaultLaws.{told-same, answer-same}
use Rattle.cut.specs.declared.rate.Rate.{Rate}
use Rattle.grouping.specs.Calls.{Grouping, Levels, Joining}
use Rattle.grouping.specs.Calls.{grouping_told, levels_told, joining_told, grouping_answer, labels_after, row_fault, row_shown}

-- what is told of an answer determines it
pub grouping-told-same : (r r' : Result ℕ Fault) → grouping_told r ≡ grouping_told r' → r ≡ r'
grouping-told-same = answer-same grouping_told (λ t. record { number = t.number; place = t.place }) heads (λ x y e. ap (λ (t : Grouping). t.groups) e)
  where
    heads : (r : Result ℕ Fault) → record { number = (grouping_told r).number; place = (grouping_told r).place } ≡ told r
    heads (Ok x) = refl
    heads (Err f) = refl

pub levels-told-same : (r r' : Result ℕ Fault) → levels_told r ≡ levels_told r' → r ≡ r'
levels-told-same = answer-same levels_told (λ t. record { number = t.number; place = t.place }) heads (λ x y e. ap (λ (t : Levels). t.levels) e)
  where
    heads : (r : Result ℕ Fault) → record { number = (levels_told r).number; place = (levels_told r).place } ≡ told r
    heads (Ok x) = refl
    heads (Err f) = refl

pub joining-told-same : (r r' : Result Rate Fault) → joining_told r ≡ joining_told r' → r ≡ r'
joining-told-same =
    answer-same joining_told (λ t. record { number = t.number; place = t.place }) heads
    (λ x y e. let a = ap (λ (t : Joining). t.p) e in let b = ap (λ (t : Joining). t.q) e in (λ i. record { p = a i; q = b i }))
  where
    heads : (r : Result Rate Fault) → record { number = (joining_told r).number; place = (joining_told r).place } ≡ told r
    heads (Ok x) = refl
    heads (Err f) = refl

-- the grouping call: the answer r, and the lent labels afterwards, new
pub groups-determined : (n : ℕ) (xs ys zs : List ℕ) (p q : ℕ) (labels : List ℕ) {r r' : Grouping} {new new' : List ℕ}
    → (r ≡ grouping_answer n xs ys zs p q labels) × (new ≡ labels_after n xs ys zs p q labels)
    → (r' ≡ grouping_answer n xs ys zs p q labels) × (new' ≡ labels_after n xs ys zs p q labels)
    → (r ≡ r') × (new ≡ new')
groups-determined n xs ys zs p q labels a b = (a.0 ∙ sym b.0, a.1 ∙ sym b.1)

pub groups-result-determined : (n : ℕ) (xs ys zs : List ℕ) (p q : ℕ) (labels : List ℕ) {r r' : Result ℕ Fault} {new new' : List ℕ}
    → (grouping_told r ≡ grouping_answer n xs ys zs p q labels) × (new ≡ labels_after n xs ys zs p q labels)
    → (grouping_told r' ≡ grouping_answer n xs ys zs p q labels) × (new' ≡ labels_after n xs ys zs p q labels)
    → (r ≡ r') × (new ≡ new')
groups-result-determined n xs ys zs p q labels {r} {r'} a b = let same = groups-determined n xs ys zs p q labels a b in (grouping-told-same r r' same.0, same.1)

-- the check of a row's inputs, and the row
pub check-row-determined : (labels : List ℕ) (n levels k : ℕ) {r r' : Refusal} → r ≡ row_fault labels n levels k → r' ≡ row_fault labels n levels k → r ≡ r'
check-row-determined labels n levels k a b = a ∙ sym b

pub check-row-result-determined : (labels : List ℕ) (n levels k : ℕ) {r r' : Result Unit Fault} → told r ≡ row_fault labels n levels k → told r' ≡ row_fault labels n levels k → r ≡ r'
check-row-result-determined labels n levels k {r} {r'} a b = told-same r r' (check-row-determined labels n levels k a b)

pub row-determined : (labels : List ℕ) (n levels k : ℕ) {row row' : List ℕ} → row ≡ row_shown labels n levels k → row' ≡ row_shown labels n levels k → row ≡ row'
row-determined labels n levels k a b = a ∙ sym b
