-- What is printed of a text.
--     listing-one        a plant has one listing
--     printed-one        a text has one print
--     list-determined    two results that the contract of listing allows are equal
--     list-prints        with room for every listing, and `printed-fits` says how much that is, what is printed stands at the front of the list
--     printed-begin      of a text that is too long, the first 32,769 bytes are enough
-- Assumes nothing.
use Prim.Native.Nat.{ℕ, zero, suc, ◌+◌, ◌≤◌, ◌<◌}
use native.Mathlib.Decide.{ℕ_discrete}
use native.Mathlib.Omega.{arith}
use mathlib.Core.Path.{◌≡◌, refl, sym, ap, ap₂, subst, ◌∙◌}
use mathlib.Core.Bool.{Bool, true, false}
use mathlib.Core.Logic.{◌⊎◌, inl, inr}
use mathlib.Core.List.{List, ◌++◌}
use lib.Dec.{ltb}
use lib.ListN.{length, take, drop}
use lib.Seq.{take_at, take_all, length-take-le}
use borrow.Author.Tests.{ltb-true, lt-ltb, le-ltb}
use Rattle.rules.specs.Refusal.{Refusal}
use Rattle.rules.specs.Plant.{Plant, plant_of}
use Rattle.rules.specs.Refusals.{done, cause, or_else, room_fault}
use Rattle.rules.specs.Lists.{over}
use Rattle.rules.proofs.RefusalLaws.{done-accepted}
use Rattle.rules.proofs.OrderLaws.{le-or-below}
use Rattle.rules.proofs.HierarchyLaws.{SameHierarchy, hierarchy-determined}
use Rattle.std.specs.Prelude.{Result, Ok, Err}
use Rattle.std.specs.Result.{result_unwrap_or}
use Rattle.rules.specs.declared.Fault.{Fault}
use Rattle.text.proofs.Laws.{written-same}
use Rattle.text.specs.Writing.{Written, written_told}
use Rattle.text.specs.Reading.{long_fault}
use Rattle.text.specs.Listing.{pieces, low_text, level_text, levels_text, listing}
use Rattle.text.specs.Shown.{text_fault, stated_plant, ListingOf, Printed, list_answer, ListIs}
use Rattle.text.proofs.Judged.{read-order}
use Rattle.text.proofs.Accepted.{read-clean, text-right}
use Rattle.text.proofs.ListingBound.{listing-fits, refused-most}

-- pieces that are the same one by one
pieces-same : (f g : ℕ → List ℕ) (i k : ℕ) → ((j : ℕ) → j < i + k → f j ≡ g j) → pieces f i k ≡ pieces g i k
unfolding pieces
pieces-same f g i zero e = refl
pieces-same f g i (suc k) e = ap₂ ◌++◌ (e i (omega arith)) (pieces-same f g (suc i) k (λ j l. e j (omega arith)))

-- where there is no low rate, none is printed
low_same : (has : Bool) {p p' q q' : ℕ} → (has ≡ true → p ≡ p') → (has ≡ true → q ≡ q') → low_text has p q ≡ low_text has p' q'
unfolding low_text
low_same true a b = rw (a refl, b refl) refl
low_same false a b = refl

level-same : (n i : ℕ) {l l' : List ℕ} (has : Bool) {p p' q q' : ℕ} → l ≡ l' → (has ≡ true → p ≡ p') → (has ≡ true → q ≡ q')
    → level_text n i l has p q ≡ level_text n i l' has p' q'
unfolding level_text
level-same n i has e a b = rw (e, low_same has a b) refl

module _ (n count : ℕ) {count' : ℕ} {level level' : ℕ → List ℕ} {low_ps low_qs low_ps' low_qs' : ℕ → ℕ}
    (same : SameHierarchy count count' level level' low_ps low_qs low_ps' low_qs') where
  levels-same : levels_text n count level low_ps low_qs 0 count ≡ levels_text n count level' low_ps' low_qs' 0 count
  unfolding levels_text
  levels-same =
      pieces-same _ _ 0 count
      (λ i l.
      level-same n i (ltb (suc i) count) (same.levels i (omega arith))
      (λ has. same.lows_p i (ltb-true (suc i) count has)) (λ has. same.lows_q i (ltb-true (suc i) count has)))

  listing-same : listing n count level low_ps low_qs ≡ listing n count' level' low_ps' low_qs'
  unfolding listing
  listing-same = rw (← same.counts, levels-same) refl

-- a plant has one listing
pub listing-one : {g : Plant} {b b' : List ℕ} → ListingOf g b → ListingOf g b' → b ≡ b'
listing-one {g} x y =
    x.text
    ∙ listing-same g.devices x.count (hierarchy-determined g x.count y.count _ _ _ _ _ _ x.hierarchy y.hierarchy)
    ∙ sym y.text

-- a text has one print
pub printed-one : {t b b' : List ℕ} → Printed t b → Printed t b' → b ≡ b'
printed-one {t} {b} {b'} x y = go (ℕ_discrete (text_fault t).number 0)
  where
    go : Dec ((text_fault t).number ≡ 0) → b ≡ b'
    go (yes z) = listing-one (x.listed z) (y.listed z)
    go (no h) = x.refused h ∙ sym (y.refused h)

-- "What the contracts have to determine": the answer, and the list afterwards
pub list-determined : {t old : List ℕ} {r r' : Written} {new new' : List ℕ} → ListIs t old r new → ListIs t old r' new' → (r ≡ r') × (new ≡ new')
list-determined {old = old} x y =
    let e : x.bytes ≡ y.bytes = printed-one x.printed y.printed in
    (x.answer ∙ ap (λ (b : List ℕ). list_answer b (length old)) e ∙ sym y.answer, x.filled ∙ rw e (sym y.filled))

-- the same of the answers themselves, which are enums
pub list-result-determined : {t old : List ℕ} {r r' : Result ℕ Fault} {new new' : List ℕ} → ListIs t old (written_told r) new → ListIs t old (written_told r') new' → r ≡ r'
list-result-determined {r = r} {r' = r'} x y = written-same r r' (list-determined x y).0

-- the number of bytes, 0 after a refusal
pub told-count : (r : Result ℕ Fault) → result_unwrap_or r 0 ≡ (written_told r).count
told-count (Ok k) = refl
told-count (Err f) = refl

-- the front of a list that was filled
pub over-take : (w old : List ℕ) (k : ℕ) → length w ≡ k → take k (over w old) ≡ w
unfolding over
over-take w old k e = take_at w (drop (length w) old) k e

module _ {t old new : List ℕ} {r : Written} (x : ListIs t old r new) where
  -- there is room for what is printed: all of it stands at the front of the list
  pub list-prints : length x.bytes ≤ length old → (r ≡ record { number = 0; place = 0; count = length x.bytes }) × (take (length x.bytes) new ≡ x.bytes)
  unfolding list_answer room_fault cause done
  list-prints h = (
    x.answer ∙ rw (le-ltb (length old) (length x.bytes) h) refl,
    rw (x.filled, le-ltb (length old) (length x.bytes) h) (over-take x.bytes old (length x.bytes) refl),
  )

  -- the answered bytes lie within the list
  pub list_counted : length (take r.count new) ≡ r.count
  unfolding list_answer room_fault cause
  list_counted = go (le-or-below (length x.bytes) (length old))
    where
      go : (length x.bytes ≤ length old) ⊎ (length old < length x.bytes) → length (take r.count new) ≡ r.count
      go (inl h) =
          let count : r.count ≡ length x.bytes = ap (λ (w : Written). w.count) (list-prints h).0 in
          rw count (ap length (list-prints h).1)
      go (inr h) =
          let count : r.count ≡ 0 = ap (λ (w : Written). w.count) x.answer ∙ rw (lt-ltb (length old) (length x.bytes) h) refl in
          rw count refl

-- 262,144 bytes hold whatever is printed
pub printed-fits : {t b : List ℕ} → Printed t b → length b ≤ 262144
unfolding text_fault stated_plant plant_of
printed-fits {t} {b} x = go (ℕ_discrete (text_fault t).number 0)
  where
    most : (text_fault t).number ≡ 0 → (stated_plant t).devices ≤ 128
    most z = (done-accepted _ _ _ _ (text-right t 1024 1024 1024 ((read-clean t 1024 1024 1024).whole z))).most_devices

    go : Dec ((text_fault t).number ≡ 0) → length b ≤ 262144
    go (yes z) =
        let y = x.listed z in
        rw y.text (listing-fits _ y.count y.level y.low_ps y.low_qs (most z) y.hierarchy.most_levels)
    go (no h) = rw (x.refused h) (omega (arith, refused-most (text_fault t).number (text_fault t).place))

-- "14: text over 32,768 bytes"
long-refused : (t : List ℕ) → 32768 < length t → text_fault t ≡ record { number = 14; place = 0 }
unfolding text_fault long_fault cause or_else
long-refused t h = read-order t _ _ _ ∙ rw (lt-ltb 32768 (length t) h) refl

-- one byte more than a text may have is enough to see that it is too long
pub printed-begin : (t : List ℕ) {b : List ℕ} → Printed (take 32769 t) b → Printed t b
printed-begin t {b} x = go (le-or-below (length t) 32769)
  where
    go : (length t ≤ 32769) ⊎ (32769 < length t) → Printed t b
    go (inl h) = subst (λ (u : List ℕ). Printed u b) (take_all 32769 t h) x
    go (inr h) =
        let whole : text_fault t ≡ record { number = 14; place = 0 } = long-refused t (omega arith) in
        let begin : text_fault (take 32769 t) ≡ text_fault t = long-refused (take 32769 t) (omega (arith, length-take-le 32769 t (omega arith))) ∙ sym whole in
        record {
          listed = λ z. absurd (omega (arith, ap (λ (r : Refusal). r.number) whole));
          refused = λ o. x.refused (λ z. o (ap (λ (r : Refusal). r.number) (sym begin) ∙ z)) ∙ rw begin refl;
        }
