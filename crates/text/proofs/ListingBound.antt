-- How long a listing can get.
--     groups-most     the group rows of a level take at most 14 bytes for each device
--     level-most      a level takes at most 45 bytes more
--     listing-most    the listing of at most 128 devices takes at most 235,185 bytes
--     refused-most    a refusal takes at most 31 bytes
-- Assumes nothing.
use Prim.Native.Nat.{ℕ, zero, suc, ◌+◌, ◌*◌, ◌-◌, ◌/◌, ◌%◌, ◌≤◌, ◌<◌}
use native.Mathlib.Nat.{add-zero, zero-add, add-suc, suc-add, sub-zero, mul-suc, mul-le-mul}
use native.Mathlib.Omega.{arith}
use mathlib.Core.Path.{◌≡◌, refl, ap, ◌∙◌}
use mathlib.Core.Bool.{Bool, cond}
use mathlib.Core.List.{List, [], ◌∷◌}
use lib.Dec.{leb, ltb, eqb}
use lib.ListN.{length, get_or, length-append}
use borrow.Author.Tests.{leb-true, leb-false, le-leb, lt-leb, eqb-true}
use Rattle.text.specs.Numbers.{decimal, digits}
use Rattle.text.specs.Lines.{devices_key, newline, comma, field_text}
use Rattle.text.specs.Listing.{
  levels_key,
  level_key,
  low_key,
  groups_key,
  group_key,
  refused_key,
  at_key,
  slash,
  colon,
  pieces,
  others_text,
  group_text,
  groups_text,
  head_count,
  low_text,
  level_text,
  levels_text,
  listing,
  refused_text,
}
use Rattle.text.proofs.Fields.{by_cond}
use Rattle.text.proofs.Wrote.{field-length}
use Rattle.text.proofs.NumberLaws.{digits-short}

-- any number takes at most 9 digits
decimal-most : (k v : ℕ) (ds : List ℕ) → length (decimal k v ds) ≤ k + length ds
unfolding decimal
decimal-most zero v ds = omega arith
decimal-most (suc k) v ds =
    by_cond (λ (l : List ℕ). length l ≤ suc k + length ds) (ltb v 10)
    (λ e. omega arith)
    (λ e. omega (arith, decimal-most k (v / 10) ((48 + v % 10) ∷ ds)))

digits-any : (v : ℕ) → length (digits v) ≤ 9
unfolding digits
digits-any v = decimal-most 9 v []

-- a field whose number is below 1,000
field-small : (key stop : List ℕ) (v : ℕ) → v < 1000 → length (field_text key stop v) ≤ length key + 3 + length stop
field-small key stop v h = omega (arith, field-length key stop v, digits-short 2 v h (omega arith))

-- pieces one after the other: where w falls by each piece's length or more, all together take at most w
pieces-most :
    (piece : ℕ → List ℕ) (w : ℕ → ℕ) (i k : ℕ) →
    ((j : ℕ) → j < i + k → length (piece j) + w (suc j) ≤ w j) →
    length (pieces piece i k) ≤ w i
unfolding pieces
pieces-most piece w i zero h = omega arith
pieces-most piece w i (suc k) h =
    omega (
      arith,
      length-append (piece i) (pieces piece (suc i) k),
      h i (omega arith),
      pieces-most piece w (suc i) k (λ j l. h j (omega arith)),
    )

-- Each device has one label: going on from the head h to the next, the devices with label h are counted no more.
-- 1 where the label x is h or more
abbrev up_from : ℕ → ℕ → ℕ
up_from h x = cond (leb h x) 1 0

-- how many of the k devices from v on have a label of h or more
labelled : List ℕ → ℕ → ℕ → ℕ → ℕ
labelled level h v zero = 0
labelled level h v (suc k) = up_from h (get_or level v 0) + labelled level h (suc v) k

up-most : (h x : ℕ) → up_from h x ≤ 1
up-most h x = by_cond (λ (m : ℕ). m ≤ 1) (leb h x) (λ e. omega arith) (λ e. omega arith)

up-less : (h x : ℕ) → up_from (suc h) x ≤ up_from h x
up-less h x =
    by_cond (λ (m : ℕ). m ≤ up_from h x) (leb (suc h) x)
    (λ e. by_cond (λ (m : ℕ). 1 ≤ m) (leb h x) (λ f. omega arith) (λ f. absurd (omega (arith, leb-true (suc h) x e, leb-false h x f))))
    (λ e. omega arith)

-- a label h is not more than h
up_same : (h x : ℕ) → x ≡ h → suc (up_from (suc h) x) ≤ up_from h x
up_same h x e = rw (e, le-leb h h (omega arith), lt-leb (suc h) h (omega arith)) (omega arith)

module _ (level : List ℕ) where
  labelled-most : (h v k : ℕ) → labelled level h v k ≤ k
  unfolding labelled
  labelled-most h v zero = omega arith
  labelled-most h v (suc k) = omega (arith, up-most h (get_or level v 0), labelled-most h (suc v) k)

  labelled-split : (h v j k : ℕ) → labelled level h v (j + k) ≡ labelled level h v j + labelled level h (v + j) k
  unfolding labelled
  labelled-split h v zero k = rw (zero-add k, add-zero v, zero-add (labelled level h v k)) refl
  labelled-split h v (suc j) k =
      rw (suc-add j k, add-suc v j, ← suc-add v j) (omega (arith, labelled-split h (suc v) j k))

  -- the devices below h, h, and those above
  labelled-at : (x n h : ℕ) → h < n
      → labelled level x 0 n ≡ labelled level x 0 h + (up_from x (get_or level h 0) + labelled level x (suc h) (n - suc h))
  unfolding labelled
  labelled-at x n h l =
      let whole : n ≡ h + suc (n - suc h) = omega arith in
      ap (labelled level x 0) whole ∙ labelled-split x 0 h (suc (n - suc h)) ∙ rw (zero-add h) refl

  -- the devices of a group but its head take at most 4 bytes each, and no other label is theirs
  others-most : (h v k : ℕ) → v + k ≤ 1000
      → length (others_text level h v k) + 4 * labelled level (suc h) v k ≤ 4 * labelled level h v k
  unfolding others_text pieces labelled
  others-most h v zero l = omega arith
  others-most h v (suc k) l =
      let x : ℕ = get_or level v 0 in
      let one : length (cond (eqb x h) (field_text comma [] v) []) + 4 * up_from (suc h) x ≤ 4 * up_from h x =
      by_cond (λ (t : List ℕ). length t + 4 * up_from (suc h) x ≤ 4 * up_from h x) (eqb x h)
      (λ e. omega (arith, field-small comma [] v (omega arith), up_same h x (eqb-true x h e)))
      (λ e. omega (arith, up-less h x)) in
      simp length-append (omega (arith, one, others-most h (suc v) k (omega arith)))

  module _ (n : ℕ) (small : n ≤ 128) where
    -- the row of a group takes at most 14 bytes for each of its devices
    group-most : (h : ℕ) → h < n → get_or level h 0 ≡ h
        → length (group_text n level h) + 14 * labelled level (suc h) 0 n ≤ 14 * labelled level h 0 n
    unfolding group_text
    group-most h l e =
        simp length-append (omega (
          arith,
          field-small group_key colon h (omega arith),
          digits-short 2 h (omega arith) (omega arith),
          labelled-at h n h l,
          labelled-at (suc h) n h l,
          others-most h 0 h (omega arith),
          others-most h (suc h) (n - suc h) (omega arith),
          up_same h (get_or level h 0) e,
        ))

    pub groups-most : length (groups_text n level 0 n) ≤ 14 * n
    unfolding groups_text
    groups-most =
        let left : (ℕ → ℕ) = λ (h : ℕ). 14 * labelled level h 0 n in
        let all : length (groups_text n level 0 n) ≤ left 0 =
        pieces-most (λ (h : ℕ). cond (eqb (get_or level h 0) h) (group_text n level h) []) left 0 n
        (λ h l.
        by_cond (λ (t : List ℕ). length t + left (suc h) ≤ left h) (eqb (get_or level h 0) h)
        (λ e. group-most h (omega arith) (eqb-true (get_or level h 0) h e))
        (λ e. omega (arith, others-most h 0 n (omega arith)))) in
        omega (arith, all, labelled-most 0 0 n)

heads-most : (level : List ℕ) (h k : ℕ) → head_count level h k ≤ k
unfolding head_count
heads-most level h zero = omega arith
heads-most level h (suc k) =
    let rest : head_count level (suc h) k ≤ k = heads-most level (suc h) k in
    by_cond (λ (m : ℕ). m ≤ suc k) (eqb (get_or level h 0) h) (λ e. omega arith) (λ e. omega arith)

low-most : (has : Bool) (p q : ℕ) → length (low_text has p q) ≤ 24
unfolding low_text
low-most has p q =
    by_cond (λ (t : List ℕ). length t ≤ 24) has
    (λ e. simp length-append (omega (arith, field-length low_key slash p, digits-any p, field-length [] newline q, digits-any q)))
    (λ e. omega arith)

pub level-most : (n i : ℕ) (level : List ℕ) (has : Bool) (p q : ℕ) → n ≤ 128 → i < 1000 → length (level_text n i level has p q) ≤ 45 + 14 * n
unfolding level_text
level-most n i level has p q small l =
    simp length-append (omega (
      arith,
      field-small level_key newline i l,
      low-most has p q,
      field-small groups_key newline (head_count level 0 n) (omega (arith, heads-most level 0 n)),
      groups-most level n small,
    ))

module _ (n count : ℕ) (level : ℕ → List ℕ) (low_ps low_qs : ℕ → ℕ) (small : n ≤ 128) (most : count ≤ n) where
  levels-most : length (levels_text n count level low_ps low_qs 0 count) ≤ (45 + 14 * n) * count
  unfolding levels_text
  levels-most =
      rw sub-zero at
      (pieces-most (λ (i : ℕ). level_text n i (level i) (ltb (suc i) count) (low_ps i) (low_qs i)) (λ (i : ℕ). (45 + 14 * n) * (count - i)) 0 count
      (λ i l.
      let one : count - i ≡ suc (count - suc i) = omega arith in
      rw (one, mul-suc (45 + 14 * n) (count - suc i))
      (omega (arith, level-most n i (level i) (ltb (suc i) count) (low_ps i) (low_qs i) small (omega arith)))))

  pub listing-length : length (listing n count level low_ps low_qs) ≤ 49 + (45 + 14 * n) * count
  unfolding listing
  listing-length =
      simp length-append (omega (
        arith,
        field-small devices_key newline n (omega arith),
        field-small levels_key newline count (omega arith),
        levels-most,
      ))

  pub listing-most : length (listing n count level low_ps low_qs) ≤ 235185
  listing-most =
      let worst : (45 + 14 * n) * count ≤ 1837 * 128 = mul-le-mul {n₂ = 1837} {m₂ = 128} (omega arith) (omega arith) in
      omega (arith, listing-length)

  -- so 262,144 bytes hold every listing
  pub listing-fits : length (listing n count level low_ps low_qs) ≤ 262144
  listing-fits = omega (arith, listing-most)

pub refused-most : (number place : ℕ) → length (refused_text number place) ≤ 31
unfolding refused_text
refused-most number place =
    simp length-append (omega (
      arith,
      field-length refused_key newline number,
      digits-any number,
      field-length at_key newline place,
      digits-any place,
    ))
