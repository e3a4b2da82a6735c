-- A number that is written reads back, and digits that are read are those of the number.
--     number-reads       digits of v, and a byte that is none: the number v
--     number-written     where a number is read, its digits stand there
--     digits-short       a number below 10ᵏ has at most k digits
-- Assumes nothing.
use Prim.Native.Nat.{ℕ, zero, suc, ◌+◌, ◌*◌, ◌-◌, ◌/◌, ◌%◌, ◌^◌, ◌≤◌, ◌<◌, zero-le, suc-le-suc}
use native.Mathlib.Nat.{add-zero, pow-suc, le_of_suc-le-suc, not-suc-le-zero}
use native.Mathlib.Omega.{arith}
use mathlib.Core.Path.{◌≡◌, refl, sym, ap, ◌∙◌}
use mathlib.Core.Bool.{Bool, true, false, true≢false}
use mathlib.Core.List.{List, [], ◌∷◌, ◌++◌, append-nil}
use lib.Dec.{leb, ltb, eqb}
use lib.ListN.{length, get_or, drop}
use borrow.Author.Tests.{lt-ltb, le-ltb, ltb-true, ltb-false, leb-true, eqb-false, ne_eqb, not-true}
use Rattle.text.specs.Numbers.{Number, is_digit, run, value_of, well_formed, number_from, number_of, decimal, digits}
use Rattle.text.proofs.Steps.{both_left, digit-here, digit-most, run-stop}
use Rattle.text.proofs.Fields.{by_cond}

digit_low : (b : ℕ) → is_digit b ≡ true → 48 ≤ b
unfolding is_digit
digit_low b e = leb-true 48 b (both_left (leb 48 b) (leb b 57) e)

-- every byte of the list is a digit
abbrev Digital : List ℕ → Type 0
Digital [] = Unit {0}
Digital (b ∷ ds) = (is_digit b ≡ true) × Digital ds

-- decimal at one digit, and at more
module _ (k v : ℕ) (ds : List ℕ) where
  decimal-one : v < 10 → decimal (suc k) v ds ≡ (48 + v) ∷ ds
  unfolding decimal
  decimal-one h = rw (lt-ltb v 10 h) refl

  decimal-more : 10 ≤ v → decimal (suc k) v ds ≡ decimal k (v / 10) ((48 + v % 10) ∷ ds)
  unfolding decimal
  decimal-more h = rw (le-ltb v 10 h) refl

-- v is below ten or not
below-ten : {A : Type 0} (v : ℕ) → (v < 10 → A) → (10 ≤ v → A) → A
below-ten {A} v f g = go (ltb v 10) refl
  where
    go : (b : Bool) → ltb v 10 ≡ b → A
    go true e = f (ltb-true v 10 e)
    go false e = g (ltb-false v 10 e)

decimal-digital : (k v : ℕ) (ds : List ℕ) → Digital ds → Digital (decimal k v ds)
unfolding decimal
decimal-digital zero v ds h = h
decimal-digital (suc k) v ds h =
    by_cond
    Digital
    (ltb v 10)
    (λ e. (digit-here (48 + v) (omega arith) (omega (arith, ltb-true v 10 e)), h))
    (λ e. decimal-digital k (v / 10) ((48 + v % 10) ∷ ds) (digit-here (48 + v % 10) (omega arith) (omega arith), h))

decimal-grows : (k v : ℕ) (ds : List ℕ) → length ds ≤ length (decimal k v ds)
unfolding decimal
decimal-grows zero v ds = omega arith
decimal-grows (suc k) v ds =
    by_cond
    (λ (l : List ℕ). length ds ≤ length l)
    (ltb v 10)
    (λ e. omega arith)
    (λ e. let h : suc (length ds) ≤ length (decimal k (v / 10) ((48 + v % 10) ∷ ds)) = decimal-grows k (v / 10) ((48 + v % 10) ∷ ds) in omega arith)

-- at least one
decimal-some : (k v : ℕ) (ds : List ℕ) → length ds < length (decimal (suc k) v ds)
decimal-some k v ds =
    below-ten v
    (λ h. rw (decimal-one k v ds h) (omega arith))
    (λ h. rw (decimal-more k v ds h) (decimal-grows k (v / 10) ((48 + v % 10) ∷ ds)))

decimal-short : (j k v : ℕ) (ds : List ℕ) → v < 10 ^ suc k → k < j → length (decimal j v ds) ≤ suc k + length ds
decimal-short zero k v ds h l = absurd (not-suc-le-zero l)
decimal-short (suc j) zero v ds h l = rw (decimal-one j v ds (omega arith)) (omega arith)
decimal-short (suc j) (suc k) v ds h l =
    below-ten v
    (λ e. rw (decimal-one j v ds e) (omega arith))
    (λ e.
    let small : v / 10 < 10 ^ suc k = omega (arith, pow-suc 10 (suc k), h) in
    let ih : length (decimal j (v / 10) ((48 + v % 10) ∷ ds)) ≤ suc k + suc (length ds) = decimal-short j k (v / 10) ((48 + v % 10) ∷ ds) small (omega arith) in
    rw (decimal-more j v ds e) (omega arith))

pub digits-short : (k v : ℕ) → v < 10 ^ suc k → k < 9 → length (digits v) ≤ suc k
unfolding digits
digits-short k v h l = omega (arith, decimal-short 9 k v [] h l)

decimal-value : (k v : ℕ) (ds : List ℕ) → v < 10 ^ suc k → value_of 0 (decimal (suc k) v ds) ≡ value_of v ds
unfolding value_of
decimal-value zero v ds h =
    rw (decimal-one zero v ds (omega arith)) (ap (λ (n : ℕ). value_of n ds) (omega arith))
decimal-value (suc k) v ds h =
    below-ten v
    (λ e. rw (decimal-one (suc k) v ds e) (ap (λ (n : ℕ). value_of n ds) (omega arith)))
    (λ e.
    let small : v / 10 < 10 ^ suc k = omega (arith, pow-suc 10 (suc k), h) in
    rw (decimal-more (suc k) v ds e)
    (decimal-value k (v / 10) ((48 + v % 10) ∷ ds) small ∙ ap (λ (n : ℕ). value_of n ds) (omega arith)))

-- the first digit of a number that is not 0 is not 0
decimal-first : (k v : ℕ) (ds : List ℕ) → 1 ≤ v → v < 10 ^ suc k → get_or (decimal (suc k) v ds) 0 0 ≡ 48 → ⊥
decimal-first zero v ds s h e = omega (arith, rw (decimal-one zero v ds (omega arith)) at e)
decimal-first (suc k) v ds s h e =
    below-ten v
    (λ l. omega (arith, rw (decimal-one (suc k) v ds l) at e))
    (λ l.
    let small : v / 10 < 10 ^ suc k = omega (arith, pow-suc 10 (suc k), h) in
    decimal-first k (v / 10) ((48 + v % 10) ∷ ds) (omega arith) small (rw (decimal-more (suc k) v ds l) at e))

well_formed-is : (ds : List ℕ) → (length ds ≡ 0 → ⊥) → (get_or ds 0 0 ≡ 48 → ⊥) → well_formed ds ≡ true
unfolding well_formed
well_formed-is [] h e = absurd (h refl)
well_formed-is (b ∷ []) h e = refl
well_formed-is (b ∷ c ∷ ds) h e = rw (ne_eqb b 48 e) refl

digits-well_formed : (v : ℕ) → v < 1000000000 → well_formed (digits v) ≡ true
unfolding digits well_formed
digits-well_formed v h =
    below-ten v
    (λ e. rw (decimal-one 8 v [] e) refl)
    (λ e. well_formed-is (decimal 9 v []) (λ z. omega (arith, decimal-some 8 v [], z)) (decimal-first 8 v [] (omega arith) h))

run-digits : (k : ℕ) (ds : List ℕ) (b : ℕ) (l : List ℕ) → Digital ds → length ds ≤ k → is_digit b ≡ false → run k (ds ++ b ∷ l) ≡ ds
unfolding run
run-digits k [] b l h s e = run-stop k b l e
run-digits zero (d ∷ ds) b l h s e = absurd (not-suc-le-zero s)
run-digits (suc k) (d ∷ ds) b l h s e = rw h.0 (ap (λ (r : List ℕ). d ∷ r) (run-digits k ds b l h.1 (le_of_suc-le-suc s) e))

pub number-reads : (v b : ℕ) (l : List ℕ) → v < 1000000000 → is_digit b ≡ false
    → number_of (digits v ++ b ∷ l) ≡ record { ok = true; value = v; used = length (digits v) }
unfolding number_of number_from digits value_of
number-reads v b l h e =
    rw (run-digits 9 (digits v) b l (decimal-digital 9 v [] tt) (digits-short 8 v h (omega arith)) e, digits-well_formed v h)
    (ap (λ (n : ℕ). record { ok = true; value = n; used = length (digits v) }) (decimal-value 8 v [] h))

-- back from the value to the digits
decimal-back : (k v : ℕ) (ds acc : List ℕ) → 1 ≤ v → Digital ds → decimal (k + length ds) (value_of v ds) acc ≡ decimal k v (ds ++ acc)
unfolding value_of
decimal-back k v [] acc s h = rw add-zero refl
decimal-back k v (d ∷ ds) acc s h =
    let low : 48 ≤ d = digit_low d h.0 in
    let high : d ≤ 57 = digit-most d h.0 in
    let w : ℕ = 10 * v + (d - 48) in
    let a : w / 10 ≡ v = omega arith in
    let c : 48 + w % 10 ≡ d = omega arith in
    let e : k + suc (length ds) ≡ suc k + length ds = omega arith in
    ap (λ (n : ℕ). decimal n (value_of w ds) acc) e
    ∙ decimal-back (suc k) w ds acc (omega arith) h.1
    ∙ decimal-more k w (ds ++ acc) (omega arith)
    ∙ (λ i. decimal k (a i) ((c i) ∷ ds ++ acc))

digits-back : (ds : List ℕ) → Digital ds → length ds ≤ 9 → well_formed ds ≡ true → digits (value_of 0 ds) ≡ ds
unfolding digits value_of well_formed
digits-back [] h s e = absurd (true≢false (sym e))
digits-back (b ∷ []) h s e =
    let low : 48 ≤ b = digit_low b h.0 in
    let high : b ≤ 57 = digit-most b h.0 in
    decimal-one 8 (10 * 0 + (b - 48)) [] (omega arith) ∙ ap (λ (n : ℕ). n ∷ []) (omega arith)
digits-back (b ∷ c ∷ ds) h s e =
    let low : 48 ≤ b = digit_low b h.0 in
    let high : b ≤ 57 = digit-most b h.0 in
    let v : ℕ = 10 * 0 + (b - 48) in
    let k : ℕ = 7 - length ds in
    let nine : 9 ≡ suc k + length (c ∷ ds) = omega arith in
    let first : 48 + v ≡ b = omega arith in
    let lead : b ≡ 48 → ⊥ = eqb-false b 48 (not-true (eqb b 48) e) in
    ap (λ (n : ℕ). decimal n (value_of v (c ∷ ds)) []) nine
    ∙ decimal-back (suc k) v (c ∷ ds) [] (omega (arith, lead)) h.1
    ∙ decimal-one k v (c ∷ ds ++ []) (omega arith)
    ∙ (λ i. first i ∷ c ∷ append-nil ds i)

run-digital : (k : ℕ) (l : List ℕ) → Digital (run k l)
unfolding run
run-digital zero l = tt
run-digital (suc k) [] = tt
run-digital (suc k) (b ∷ l) = by_cond Digital (is_digit b) (λ e. (e, run-digital k l)) (λ e. tt)

run-most : (k : ℕ) (l : List ℕ) → length (run k l) ≤ k
unfolding run
run-most zero l = zero-le
run-most (suc k) [] = zero-le
run-most (suc k) (b ∷ l) = by_cond (λ (r : List ℕ). length r ≤ suc k) (is_digit b) (λ e. suc-le-suc (run-most k l)) (λ e. zero-le)

run-prefix : (k : ℕ) (l : List ℕ) → run k l ++ drop (length (run k l)) l ≡ l
unfolding run
run-prefix zero l = refl
run-prefix (suc k) [] = refl
run-prefix (suc k) (b ∷ l) =
    by_cond (λ (r : List ℕ). r ++ drop (length r) (b ∷ l) ≡ b ∷ l) (is_digit b) (λ e. ap (λ (r : List ℕ). b ∷ r) (run-prefix k l)) (λ e. refl)

pub number-written : (l : List ℕ) → (number_of l).ok ≡ true → digits (number_of l).value ++ drop (number_of l).used l ≡ l
unfolding number_of number_from
number-written l =
    by_cond
    (λ (v : Number). v.ok ≡ true → digits v.value ++ drop v.used l ≡ l)
    (well_formed (run 9 l))
    (λ e h. rw (digits-back (run 9 l) (run-digital 9 l) (run-most 9 l) e) (run-prefix 9 l))
    (λ e h. absurd (true≢false (sym h)))
