-- The numbers that are printed are those meant: `digits` has at most 9 digits, and no larger number comes to be printed. (Devices, levels, groups and heads
-- are at most 128.)
--     groups-printed     "groups the number of groups": of distinct labels
--     low-printed        "low its low rate" reads back as that rate
--     refused-printed    "refused= and at=, with number and place" read back likewise
-- Assumes nothing.
use Prim.Native.Nat.{ℕ, zero, suc, ◌+◌, ◌≤◌, ◌<◌}
use native.Mathlib.Nat.{add-zero, zero-add}
use native.Mathlib.Decide.{ℕ_discrete}
use native.Mathlib.Omega.{arith}
use mathlib.Core.Path.{◌≡◌, refl, sym, ap, subst, ◌∙◌}
use mathlib.Core.Bool.{Bool, true, false, cond}
use mathlib.Core.List.{List, [], ◌∷◌, ◌++◌}
use lib.Dec.{ltb, eqb}
use lib.ListN.{length, get_or}
use borrow.Author.Tests.{eqb-true, ltb-false}
use Rattle.rules.specs.Refusal.{Refusal}
use Rattle.rules.specs.Plant.{Plant}
use Rattle.rules.specs.Accepted.{Sound}
use Rattle.rules.specs.Groups.{label, groups, distinct}
use Rattle.rules.specs.Refusals.{done, cause, or_else, first_of, devices_fault, lists_fault, line_fault, lines_from, lines_fault}
use Rattle.rules.proofs.RefusalLaws.{clean-cause}
use Rattle.rules.proofs.LabelLaws.{groups-at}
use Rattle.rules.proofs.DistinctLaws.{owns, groups-distinct}
use Rattle.rules.proofs.Instance.{family}
use Rattle.rules.proofs.HierarchyLaws.{each-occurs}
use Rattle.text.specs.Numbers.{Number, is_digit, number_of, digits}
use Rattle.text.specs.Lines.{newline}
use Rattle.text.specs.Form.{form}
use Rattle.text.specs.Place.{text_lines}
use Rattle.text.specs.Reading.{long_fault, form_fault_of, rooms_fault, size_fault_of, head_fault_of}
use Rattle.text.specs.Listing.{slash, head_count}
use Rattle.text.specs.Shown.{text_fault, ListingOf}
use Rattle.text.proofs.Fields.{by_cond}
use Rattle.text.proofs.Judged.{cause-off, head-clean, head_few, values_length, read-order}
use Rattle.text.proofs.NumberLaws.{number-reads}
use Rattle.text.proofs.PlaceStated.{form-before}

-- the heads from h on, beside the devices below h that are their own label
heads-owns : (level : List ℕ) (f : ℕ → ℕ) (h k : ℕ) → ((i : ℕ) → i < h + k → get_or level i 0 ≡ f i) → head_count level h k + owns h f ≡ owns (h + k) f
unfolding head_count owns
heads-owns level f h zero e = rw (add-zero h) (zero-add (owns h f))
heads-owns level f h (suc k) e =
    let move : suc h + k ≡ h + suc k = omega arith in
    rw (e h (omega arith)) (go (eqb (f h) h) (heads-owns level f (suc h) k (λ i l. e i (omega arith))) ∙ ap (λ (m : ℕ). owns m f) move)
  where
    go : (b : Bool) → head_count level (suc h) k + (owns h f + cond b 1 0) ≡ owns (suc h + k) f
        → cond b (suc (head_count level (suc h) k)) (head_count level (suc h) k) + owns h f ≡ owns (suc h + k) f
    go true r = omega (arith, r)
    go false r = omega (arith, r)

heads-distinct : (g : Plant) (p q : ℕ) → Sound g → 1 ≤ p → head_count (groups g p q) 0 g.devices ≡ distinct (groups g p q)
unfolding owns
heads-distinct g p q s o =
    let all : head_count (groups g p q) 0 g.devices + 0 ≡ owns (0 + g.devices) (label g p q) =
    heads-owns (groups g p q) (label g p q) 0 g.devices (λ i l. groups-at g p q i (omega arith)) in
    rw (add-zero _, zero-add _) at all ∙ sym (groups-distinct g p q (family g p q s o))

-- "groups the number of groups", which is "the number of distinct labels"
pub groups-printed : {g : Plant} {b : List ℕ} (x : ListingOf g b) → Sound g → (i : ℕ) → i < x.count → head_count (x.level i) 0 g.devices ≡ distinct (x.level i)
groups-printed {g} x s i c =
    let (y, e) = each-occurs g x.count x.level x.low_ps x.low_qs x.hierarchy i c in
    rw e (heads-distinct g y.p y.q s y.some_p)

-- the digits of v before a byte that is no digit
reads-back : (v b : ℕ) (rest : List ℕ) → v < 1000000000 → is_digit b ≡ false → (number_of (digits v ++ b ∷ rest)).value ≡ v
reads-back v b rest h e = ap (λ (n : Number). n.value) (number-reads v b rest h e)

-- "low its low rate"
pub low-printed : {g : Plant} {b : List ℕ} (x : ListingOf g b) → g.devices ≤ 128 → (i : ℕ) → suc i < x.count → (rest : List ℕ)
    → ((number_of (digits (x.low_ps i) ++ (slash ++ rest))).value ≡ x.low_ps i) × ((number_of (digits (x.low_qs i) ++ (newline ++ rest))).value ≡ x.low_qs i)
unfolding is_digit
low-printed x few i c rest = (
  reads-back (x.low_ps i) 47 rest (omega (arith, x.low_p_most i c)) refl,
  reads-back (x.low_qs i) 10 rest (omega (arith, x.hierarchy.denominator i c)) refl,
)

-- number and place of a refusal have at most 9 digits
abbrev Nine : Refusal → Type 0
Nine r = (r.number < 1000000000) × (r.place < 1000000000)

nine-done : Nine done
unfolding done
nine-done = omega arith

nine-cause : (b : Bool) (number place : ℕ) → number < 1000000000 → place < 1000000000 → Nine (cause b number place)
unfolding cause
nine-cause true number place h l = (h, l)
nine-cause false number place h l = nine-done

nine-or_else : (r : Refusal) {s : Refusal} → Nine r → (r.number ≡ 0 → Nine s) → Nine (or_else r s)
unfolding or_else
nine-or_else r h k = by_cond Nine (eqb r.number 0) (λ e. k (eqb-true r.number 0 e)) (λ e. h)

nine-line : (n : ℕ) (xs ys zs : List ℕ) (k : ℕ) → k < 1000000000 → Nine (line_fault n xs ys zs k)
unfolding line_fault first_of
nine-line n xs ys zs k h =
    nine-or_else _ (nine-cause _ 5 k (omega arith) h)
    (λ z. nine-or_else _ (nine-cause _ 6 k (omega arith) h)
    (λ z. nine-or_else _ (nine-cause _ 7 k (omega arith) h) (λ z. nine-or_else _ (nine-cause _ 8 k (omega arith) h) (λ z. nine-done))))

nine-lines : (n : ℕ) (xs ys zs : List ℕ) (k m : ℕ) → k + m ≤ 1024 → Nine (lines_from n xs ys zs k m)
unfolding lines_from
nine-lines n xs ys zs k zero h = nine-done
nine-lines n xs ys zs k (suc m) h = nine-or_else _ (nine-line n xs ys zs k (omega arith)) (λ z. nine-lines n xs ys zs (suc k) m (omega arith))

-- a text has no more text lines than bytes
lines-most : (t : List ℕ) → text_lines t ≤ length t
unfolding text_lines
lines-most [] = omega arith
lines-most (b ∷ t) =
    let rest : text_lines t ≤ length t = lines-most t in
    by_cond (λ (m : ℕ). m ≤ suc (length t)) (eqb b 10) (λ e. omega arith) (λ e. omega arith)

form-most : (t : List ℕ) → (form t).line ≤ suc (length t)
form-most t = go (ℕ_discrete (form t).line 0)
  where
    go : Dec ((form t).line ≡ 0) → (form t).line ≤ suc (length t)
    go (yes z) = omega arith
    go (no h) = omega (arith, (form-before t h).has, lines-most t)

nine-head : (t : List ℕ) → length t ≤ 32768 → Nine (head_fault_of (form t))
unfolding head_fault_of form_fault_of size_fault_of devices_fault lists_fault first_of
nine-head t h =
    nine-or_else _ (nine-cause _ 15 (form t).line (omega arith) (omega (arith, form-most t)))
    (λ z. nine-or_else _ (nine-or_else _ (nine-cause _ 1 0 (omega arith) (omega arith)) (λ z. nine-or_else _ (nine-cause _ 2 0 (omega arith) (omega arith)) (λ z. nine-done)))
    (λ z. nine-or_else _ (nine-cause _ 3 0 (omega arith) (omega arith)) (λ z. nine-or_else _ (nine-cause _ 4 0 (omega arith) (omega arith)) (λ z. nine-done))))

nine-text : (t : List ℕ) → Nine (text_fault t)
unfolding text_fault long_fault lines_fault rooms_fault
nine-text t =
    subst Nine (sym (read-order t 1024 1024 1024))
    (nine-or_else _ (nine-cause _ 14 0 (omega arith) (omega arith))
    (λ long.
    let short : length t ≤ 32768 = ltb-false _ _ (cause-off (ltb 32768 (length t)) 13 0 ((clean-cause (ltb 32768 (length t)) 13 0).whole long)) in
    nine-or_else _ (nine-head t short)
    (λ head.
    let few : (form t).lines ≤ 1024 = head_few (form t) ((head-clean (form t)).whole head) in
    nine-or_else _ (nine-lines _ _ _ _ 0 _ (omega (arith, values_length (λ w. w.first) t))) (λ z. nine-cause _ 12 0 (omega arith) (omega arith)))))

-- "refused= and at=, with number and place"
pub refused-printed : (t rest : List ℕ)
    → ((number_of (digits (text_fault t).number ++ (newline ++ rest))).value ≡ (text_fault t).number)
    × ((number_of (digits (text_fault t).place ++ (newline ++ rest))).value ≡ (text_fault t).place)
unfolding is_digit
refused-printed t rest = (
  reads-back (text_fault t).number 10 rest (nine-text t).0 refl,
  reads-back (text_fault t).place 10 rest (nine-text t).1 refl,
)
