-- A field and a row that are written read back; where one is read, its text stands there.
-- Assumes nothing.
use Prim.Native.Nat.{ℕ, ◌+◌, ◌<◌}
use mathlib.Core.Path.{◌≡◌, refl, sym, ap, ◌∙◌}
use mathlib.Core.Bool.{true, false, ◌&&◌, true≢false}
use mathlib.Core.List.{List, [], ◌∷◌, ◌++◌, append_assoc}
use lib.Dec.{eqb}
use lib.ListN.{length, drop, length-append}
use lib.Seq.{drop-drop, drop-append_seam}
use borrow.Author.Tests.{eq-eqb, eqb-true}
use Rattle.text.specs.Numbers.{Number, is_digit, number_of, digits}
use Rattle.text.specs.Lines.{Row, begins, line_key, comma, newline, field_text, field_rest, field, row_text, row_of, row_second, row_first, row}
use Rattle.text.proofs.Steps.{both_left, both_right}
use Rattle.text.proofs.Fields.{by_cond}
use Rattle.text.proofs.Wrote.{field-length}
use Rattle.text.proofs.NumberLaws.{number-reads, number-written}

pub begins-self : (w l : List ℕ) → begins w (w ++ l) ≡ true
unfolding begins
begins-self [] l = refl
begins-self (b ∷ w) l = rw (eq-eqb b b refl) (begins-self w l)

pub begins-split : (w l : List ℕ) → begins w l ≡ true → w ++ drop (length w) l ≡ l
unfolding begins
begins-split [] l e = refl
begins-split (b ∷ w) [] e = absurd (true≢false (sym e))
begins-split (b ∷ w) (c ∷ l) e =
    let same : b ≡ c = eqb-true b c (both_left (eqb b c) (begins w l) e) in
    let rest : w ++ drop (length w) l ≡ l = begins-split w l (both_right (eqb b c) (begins w l) e) in
    λ i. same i ∷ rest i

pub no-comma : is_digit 44 ≡ false
unfolding is_digit
no-comma = refl

pub no-newline : is_digit 10 ≡ false
unfolding is_digit
no-newline = refl

-- a field is read back, where what ends it begins with a byte that is no digit
pub field-reads : (key : List ℕ) (b v : ℕ) (l : List ℕ) → is_digit b ≡ false → v < 1000000000
    → field key (b ∷ []) (field_text key (b ∷ []) v ++ l) ≡ record { ok = true; value = v; used = length (field_text key (b ∷ []) v) }
unfolding field field_rest field_text
field-reads key b v l e h =
    let t : List ℕ = key ++ (digits v ++ (b ∷ l)) in
    let moved : key ++ digits v ++ (b ∷ []) ++ l ≡ t = append_assoc (key ++ digits v) (b ∷ []) l ∙ append_assoc key (digits v) (b ∷ l) in
    let after : drop (length key + length (digits v)) t ≡ b ∷ l =
    sym (drop-drop (length (digits v)) (length key) t) ∙ rw (drop-append_seam key (digits v ++ (b ∷ l))) (drop-append_seam (digits v) (b ∷ l)) in
    rw (moved, begins-self key (digits v ++ (b ∷ l)), drop-append_seam key (digits v ++ (b ∷ l)), number-reads v b l h e, after, begins-self (b ∷ []) l)
    (ap (λ (n : ℕ). record { ok = true; value = v; used = n }) (sym (field-length key (b ∷ []) v)))

-- where a field is read, its text stands
pub field-written : (key stop l : List ℕ) → (field key stop l).ok ≡ true → field_text key stop (field key stop l).value ++ drop (field key stop l).used l ≡ l
unfolding field field_rest field_text
field-written key stop l =
    by_cond written (begins key l)
    (λ e. by_cond written (v.ok && begins stop (drop (length key + v.used) l)) (λ h z. all e h) (λ h z. absurd (true≢false (sym z))))
    (λ e z. absurd (true≢false (sym z)))
  where
    v : Number
    v = number_of (drop (length key) l)

    written : Number → Type 0
    written n = n.ok ≡ true → key ++ digits n.value ++ stop ++ drop n.used l ≡ l

    all : begins key l ≡ true → (v.ok && begins stop (drop (length key + v.used) l)) ≡ true
        → key ++ digits v.value ++ stop ++ drop (length key + v.used + length stop) l ≡ l
    all e h =
        append_assoc (key ++ digits v.value) stop _
        ∙ append_assoc key (digits v.value) _
        ∙ ap (λ (r : List ℕ). key ++ (digits v.value ++ (stop ++ r))) (sym (drop-drop (length stop) (length key + v.used) l))
        ∙ ap (λ (r : List ℕ). key ++ (digits v.value ++ r)) (begins-split stop (drop (length key + v.used) l) (both_right v.ok _ h))
        ∙ ap (λ (r : List ℕ). key ++ (digits v.value ++ r)) (sym (drop-drop v.used (length key) l))
        ∙ ap (λ (r : List ℕ). key ++ r) (number-written (drop (length key) l) (both_left v.ok _ h))
        ∙ begins-split key l e

-- a row is read back
pub row_reads : (a b s : ℕ) (l : List ℕ) → a < 1000000000 → b < 1000000000 → s < 1000000000
    → row (row_text a b s ++ l) ≡ record { ok = true; first = a; second = b; signals = s; used = length (row_text a b s) }
unfolding row row_first row_second row_of row_text
row_reads a b s l ha hb hs =
    let f : List ℕ = field_text line_key comma a in
    let g : List ℕ = field_text [] comma b in
    let k : List ℕ = field_text [] newline s in
    let moved : f ++ g ++ k ++ l ≡ f ++ (g ++ (k ++ l)) = append_assoc (f ++ g) k l ∙ append_assoc f g (k ++ l) in
    let after : drop (length f + length g) (f ++ (g ++ (k ++ l))) ≡ k ++ l =
    sym (drop-drop (length g) (length f) (f ++ (g ++ (k ++ l)))) ∙ rw (drop-append_seam f (g ++ (k ++ l))) (drop-append_seam g (k ++ l)) in
    let total : length f + length g + length k ≡ length (f ++ g ++ k) = sym (length-append (f ++ g) k ∙ rw (length-append f g) refl) in
    rw (
      moved,
      field-reads line_key 44 a (g ++ (k ++ l)) no-comma ha,
      drop-append_seam f (g ++ (k ++ l)),
      field-reads [] 44 b (k ++ l) no-comma hb,
      after,
      field-reads [] 10 s l no-newline hs,
    )
    (ap (λ (n : ℕ). record { ok = true; first = a; second = b; signals = s; used = n }) total)

-- where a row is read, its text stands
pub row_written : (l : List ℕ) → (row l).ok ≡ true → row_text (row l).first (row l).second (row l).signals ++ drop (row l).used l ≡ l
unfolding row row_first row_second row_of row_text
row_written l =
    by_cond written a.ok
    (λ p. by_cond written b.ok (λ q. by_cond written s.ok (λ r z. all p q r) (λ r z. absurd (true≢false (sym z)))) (λ q z. absurd (true≢false (sym z))))
    (λ p z. absurd (true≢false (sym z)))
  where
    a : Number
    a = field line_key comma l

    b : Number
    b = field [] comma (drop a.used l)

    s : Number
    s = field [] newline (drop (a.used + b.used) l)

    written : Row → Type 0
    written r = r.ok ≡ true → row_text r.first r.second r.signals ++ drop r.used l ≡ l

    f : List ℕ
    f = field_text line_key comma a.value

    g : List ℕ
    g = field_text [] comma b.value

    k : List ℕ
    k = field_text [] newline s.value

    all : a.ok ≡ true → b.ok ≡ true → s.ok ≡ true → f ++ g ++ k ++ drop (a.used + b.used + s.used) l ≡ l
    all p q r =
        append_assoc (f ++ g) k _
        ∙ append_assoc f g _
        ∙ ap (λ (u : List ℕ). f ++ (g ++ u))
        (ap (λ (u : List ℕ). k ++ u) (sym (drop-drop s.used (a.used + b.used) l)) ∙ field-written [] newline (drop (a.used + b.used) l) r)
        ∙ ap (λ (u : List ℕ). f ++ u)
        (ap (λ (u : List ℕ). g ++ u) (sym (drop-drop b.used a.used l)) ∙ field-written [] comma (drop a.used l) q)
        ∙ field-written line_key comma l p
