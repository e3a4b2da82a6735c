-- A number, a field and a row at the front of the bytes that are left, by what was found on the way.
-- Assumes nothing.
use Prim.Native.Nat.{ℕ, zero, suc, ◌+◌, ◌*◌, ◌-◌, ◌^◌, ◌≤◌, ◌<◌, zero-le, suc-le-suc}
use native.Mathlib.Nat.{lt_of_lt_of_le, le_trans, le_of_eq, mul-le-mul_right, mul_assoc, le-mul_of_pos_right, one-le-pow, zero-lt-suc, pow-succ'}
use native.Mathlib.Omega.{arith}
use mathlib.Core.Path.{◌≡◌, refl, sym, ap, ◌∙◌}
use mathlib.Core.Bool.{Bool, true, false, not, ◌&&◌, cond, true≢false}
use mathlib.Core.List.{List, [], ◌∷◌}
use lib.Dec.{leb, eqb}
use lib.ListN.{length, length-drop, get_or, take, drop}
use lib.Seq.{drop-drop}
use borrow.Author.Tests.{leb-true}
use Rattle.std.specs.Prelude.{None, Some}
use Rattle.std.specs.Bool.{then_some}
use Rattle.std.proofs.lemmas.Option.{none-some, same_Some}
use Rattle.text.proofs.Steps.{both_right, Read}
use Rattle.text.specs.Numbers.{Number, is_digit, run, value_of, no_number, well_formed, number_from, number_of}
use Rattle.text.specs.Lines.{Row, begins, newline, comma, line_key, field_rest, field, row_of, row_second, row_first, row}
use Rattle.text.specs.Told.{told_number, told_word, told_row}

-- one of two, by a test
pub by_cond : {A : Type 0} (P : A → Type 0) (b : Bool) {x y : A} → (b ≡ true → P x) → (b ≡ false → P y) → P (cond b x y)
by_cond P true f g = f refl
by_cond P false f g = g refl

pub begins-fits : (w l : List ℕ) → begins w l ≡ true → length w ≤ length l
unfolding begins
begins-fits [] l e = zero-le
begins-fits (x ∷ w) [] e = absurd (true≢false (sym e))
begins-fits (x ∷ w) (b ∷ l) e = let h : length w ≤ length l = begins-fits w l (both_right (eqb x b) (begins w l) e) in omega arith

pub run_fits : (k : ℕ) (l : List ℕ) → length (run k l) ≤ length l
unfolding run
run_fits zero l = zero-le
run_fits (suc k) [] = zero-le
run_fits (suc k) (b ∷ l) =
    by_cond (λ (r : List ℕ). length r ≤ suc (length l)) (is_digit b) (λ e. suc-le-suc (run_fits k l)) (λ e. zero-le)

pub run-front : (k : ℕ) (l : List ℕ) → take (length (run k l)) l ≡ run k l
unfolding run
run-front zero l = refl
run-front (suc k) [] = refl
run-front (suc k) (b ∷ l) =
    by_cond (λ (r : List ℕ). take (length r) (b ∷ l) ≡ r) (is_digit b) (λ e. ap (λ (r : List ℕ). b ∷ r) (run-front k l)) (λ e. refl)

-- whether digits are a number, by how many they are and by the first
pub formed-none : (ds : List ℕ) → length ds < 1 → false ≡ well_formed ds
unfolding well_formed
formed-none [] h = refl
formed-none (b ∷ ds) h = absurd (omega arith)

pub formed-one : (ds : List ℕ) → 1 ≤ length ds → length ds < 2 → true ≡ well_formed ds
unfolding well_formed
formed-one [] h k = absurd (omega arith)
formed-one (b ∷ []) h k = refl
formed-one (b ∷ c ∷ ds) h k = absurd (omega arith)

pub formed-more : (ds : List ℕ) → 2 ≤ length ds → not (eqb (get_or ds 0 0) 48) ≡ well_formed ds
unfolding well_formed
formed-more [] h = absurd (omega arith)
formed-more (b ∷ []) h = absurd (omega arith)
formed-more (b ∷ c ∷ ds) h = refl

-- a number at the front of m, which is l, by what was found of its digits: g whether they are a number
module _ {m l : List ℕ} (e : m ≡ l) {v count : ℕ} (r : Read m v count) where
  pub digits-within : count ≤ length m
  digits-within = omega (arith, r.1, run_fits 9 m)

  module _ {g : Bool} (w : g ≡ well_formed (take count m)) where
    formed : well_formed (run 9 l) ≡ g
    formed = rw (← e) (sym (w ∙ ap (λ (k : ℕ). well_formed (take k m)) r.1 ∙ ap well_formed (run-front 9 m)))

    pub number-none : g ≡ false → number_of l ≡ no_number
    unfolding number_of number_from
    number-none h = rw (formed ∙ h) refl

    pub number-good : g ≡ true → number_of l ≡ record { ok = true; value = v; used = count }
    unfolding number_of number_from
    number-good h =
        rw (formed ∙ h, ← e)
        (λ i. record { ok = true; value = sym r.0 i; used = sym r.1 i })

-- what an answer says of the test behind it
pub then-none : {A : Type 0} (b : Bool) (x : A) → None ≡ then_some b x → b ≡ false
then-none true x e = absurd (none-some x e)
then-none false x e = refl

pub then-is : {A : Type 0} (b : Bool) (x y : A) → Some y ≡ then_some b x → (b ≡ true) × (y ≡ x)
then-is true x y e = (refl, same_Some y x e)
then-is false x y e = absurd (none-some y (sym e))

-- a field at the front of l, by what was found of its parts: l₁ is what follows the key, and l₂ what follows the number
module _ (key stop l : List ℕ) where
  pub field-no-key : None ≡ told_word (begins key l) → None ≡ told_number (field key stop l)
  unfolding field
  field-no-key h = rw (then-none _ _ h) refl

  module _ (k : Some tt ≡ told_word (begins key l)) {l₁ : List ℕ} (m : l₁ ≡ drop (length key) l) where
    pub field-no-number : None ≡ told_number (number_of l₁) → None ≡ told_number (field key stop l)
    unfolding field field_rest
    field-no-number h = rw ((then-is _ _ _ k).0, ← m, then-none _ _ h) refl

    module _ {v : ℕ} (n : Some v ≡ told_number (number_of l₁)) {l₂ : List ℕ} (m₂ : l₂ ≡ drop (number_of l₁).used l₁) where
      place : drop (length key + (number_of l₁).used) l ≡ l₂
      place = sym (drop-drop (number_of l₁).used (length key) l) ∙ rw (← m) (sym m₂)

      found : field key stop l
          ≡ cond (begins stop l₂) (record { ok = true; value = v; used = length key + (number_of l₁).used + length stop }) no_number
      unfolding field field_rest
      found = rw ((then-is _ _ _ k).0, ← m, (then-is _ _ _ n).0, place, (then-is _ _ _ n).1) refl

      pub field-no-stop : None ≡ told_word (begins stop l₂) → None ≡ told_number (field key stop l)
      field-no-stop h = rw (found, then-none _ _ h) refl

      module _ (s : Some tt ≡ told_word (begins stop l₂)) where
        field-is : field key stop l ≡ record { ok = true; value = v; used = length key + (number_of l₁).used + length stop }
        field-is = found ∙ rw ((then-is _ _ _ s).0) refl

        pub field-good : Some v ≡ told_number (field key stop l)
        field-good = rw field-is refl

        pub field-moved : {l₃ : List ℕ} → l₃ ≡ drop (length stop) l₂ → l₃ ≡ drop (field key stop l).used l
        field-moved h = h ∙ rw (← place) (drop-drop (length stop) (length key + (number_of l₁).used) l ∙ rw field-is refl)

-- a row at the front of l, by what was found of its fields: l₁ and l₂ are what follows the first and the second
module _ (l : List ℕ) where
  pub row-no-first : None ≡ told_number (field line_key comma l) → None ≡ told_row (row l)
  unfolding row row_first
  row-no-first h = rw (then-none _ _ h) refl

  module _ {a : ℕ} (ha : Some a ≡ told_number (field line_key comma l)) {l₁ : List ℕ} (m : l₁ ≡ drop (field line_key comma l).used l) where
    pub row-no-second : None ≡ told_number (field [] comma l₁) → None ≡ told_row (row l)
    unfolding row row_first row_second
    row-no-second h = rw ((then-is _ _ _ ha).0, ← m, then-none _ _ h) refl

    module _ {b : ℕ} (hb : Some b ≡ told_number (field [] comma l₁)) {l₂ : List ℕ} (m₂ : l₂ ≡ drop (field [] comma l₁).used l₁) where
      third : drop ((field line_key comma l).used + (field [] comma l₁).used) l ≡ l₂
      third = sym (drop-drop (field [] comma l₁).used (field line_key comma l).used l) ∙ rw (← m) (sym m₂)

      row_is : row l ≡ row_of (field line_key comma l) (field [] comma l₁) (field [] newline l₂)
      unfolding row row_first row_second
      row_is = rw ((then-is _ _ _ ha).0, ← m, (then-is _ _ _ hb).0, third) refl

      pub row-no-third : None ≡ told_number (field [] newline l₂) → None ≡ told_row (row l)
      unfolding row_of
      row-no-third h = rw (row_is, then-none _ _ h) refl

      module _ {s : ℕ} (hs : Some s ≡ told_number (field [] newline l₂)) where
        row-found : row l
            ≡ record { ok = true; first = a; second = b; signals = s; used = (field line_key comma l).used + (field [] comma l₁).used + (field [] newline l₂).used }
        unfolding row_of
        row-found = row_is ∙ rw ((then-is _ _ _ hs).0, (then-is _ _ _ ha).1, (then-is _ _ _ hb).1, (then-is _ _ _ hs).1) refl

        pub row-good : Some (record { first = a; second = b; signals = s }) ≡ told_row (row l)
        row-good = rw row-found refl

        pub row-moved : {l₃ : List ℕ} → l₃ ≡ drop (field [] newline l₂).used l₂ → l₃ ≡ drop (row l).used l
        row-moved h =
            h
            ∙ ap (drop (field [] newline l₂).used) (sym third)
            ∙ drop-drop (field [] newline l₂).used ((field line_key comma l).used + (field [] comma l₁).used) l
            ∙ rw row-found refl

-- k digits after v state less than (v + 1) · 10ᵏ
lower : (k v : ℕ) → v < suc v * 10 ^ k
lower k v = le-mul_of_pos_right (suc v) (one-le-pow k 10 (zero-lt-suc 9))

digit-small : (k v b x : ℕ) → is_digit b ≡ true → x < suc (10 * v + (b - 48)) * 10 ^ k → x < suc v * 10 ^ suc k
unfolding is_digit
digit-small k v b x e h =
    let high : b ≤ 57 = leb-true b 57 (both_right (leb 48 b) (leb b 57) e) in
    let most : suc (10 * v + (b - 48)) ≤ suc v * 10 = omega arith in
    let moved : suc v * 10 * 10 ^ k ≡ suc v * 10 ^ suc k = mul_assoc (suc v) 10 (10 ^ k) ∙ ap (λ (n : ℕ). suc v * n) (sym (pow-succ' 10 k)) in
    lt_of_lt_of_le h (le_trans (mul-le-mul_right (10 ^ k) most) (le_of_eq moved))

run_small : (k v : ℕ) (l : List ℕ) → value_of v (run k l) < suc v * 10 ^ k
unfolding run value_of
run_small zero v l = lower 0 v
run_small (suc k) v [] = lower (suc k) v
run_small (suc k) v (b ∷ l) =
    by_cond
    (λ (ds : List ℕ). value_of v ds < suc v * 10 ^ suc k)
    (is_digit b)
    (λ e. digit-small k v b _ e (run_small k (10 * v + (b - 48)) l))
    (λ e. lower (suc k) v)

pub number_small : (l : List ℕ) → (number_of l).value < 1000000000
unfolding number_of number_from
number_small l = by_cond (λ (v : Number). v.value < 1000000000) (well_formed (run 9 l)) (λ e. omega (arith, run_small 9 0 l)) (λ e. omega arith)

pub field-small : (key stop l : List ℕ) → (field key stop l).value < 1000000000
unfolding field field_rest
field-small key stop l =
    by_cond small (begins key l) (λ e. by_cond small (v.ok && begins stop end) (λ h. number_small (drop (length key) l)) (λ h. omega arith)) (λ e. omega arith)
  where
    v : Number
    v = number_of (drop (length key) l)

    end : List ℕ
    end = drop (length key + v.used) l

    small : Number → Type 0
    small n = n.value < 1000000000

-- what a number, a field and a row use of a text lies inside it
pub number_fits : (l : List ℕ) → (number_of l).used ≤ length l
unfolding number_of number_from
number_fits l = by_cond (λ (v : Number). v.used ≤ length l) (well_formed (run 9 l)) (λ e. run_fits 9 l) (λ e. zero-le)

pub field_fits : (key stop l : List ℕ) → (field key stop l).used ≤ length l
unfolding field field_rest
field_fits key stop l =
    by_cond within (begins key l) (λ e. by_cond within (v.ok && begins stop end) (λ h. all e (both_right v.ok (begins stop end) h)) (λ h. zero-le)) (λ e. zero-le)
  where
    v : Number
    v = number_of (drop (length key) l)

    end : List ℕ
    end = drop (length key + v.used) l

    within : Number → Type 0
    within n = n.used ≤ length l

    all : begins key l ≡ true → begins stop end ≡ true → length key + v.used + length stop ≤ length l
    all e h =
        omega (
          arith,
          begins-fits key l e,
          length-drop (length key) l,
          number_fits (drop (length key) l),
          length-drop (length key + v.used) l,
          begins-fits stop end h,
        )

pub row_fits : (l : List ℕ) → (row l).used ≤ length l
unfolding row row_first row_second row_of
row_fits l =
    by_cond within a.ok (λ p. by_cond within b.ok (λ q. by_cond within s.ok (λ r. all) (λ r. zero-le)) (λ q. zero-le)) (λ p. zero-le)
  where
    within : Row → Type 0
    within r = r.used ≤ length l

    a : Number
    a = field line_key comma l

    b : Number
    b = field [] comma (drop a.used l)

    s : Number
    s = field [] newline (drop (a.used + b.used) l)

    all : a.used + b.used + s.used ≤ length l
    all =
        omega (
          arith,
          field_fits line_key comma l,
          field_fits [] comma (drop a.used l),
          length-drop a.used l,
          field_fits [] newline (drop (a.used + b.used) l),
          length-drop (a.used + b.used) l,
        )
