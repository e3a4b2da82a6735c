-- Rows one after the other, and the form of a whole text, by what was found on the way.
--     Passing     what a loop over rows has passed: k of the m rows from l on, up to the bytes rest
-- Assumes nothing.
use Prim.Native.Nat.{ℕ, zero, suc, ◌+◌, ◌-◌, ◌≤◌, ◌<◌, zero-le, suc-le-suc}
use native.Mathlib.Nat.{add-zero}
use native.Mathlib.Omega.{arith}
use mathlib.Core.Path.{◌≡◌, refl, sym, ap, ◌∙◌}
use mathlib.Core.Bool.{Bool, true, false}
use mathlib.Core.List.{List}
use lib.Dec.{eqb}
use lib.ListN.{length, drop, length-drop}
use lib.Seq.{drop-drop}
use borrow.Author.Tests.{eq-eqb, ne_eqb, eqb-true, eqb-false}
use Rattle.std.specs.Prelude.{Option, Result, None, Some, Ok, Err, IfSome, IsSome}
use Rattle.std.specs.Bool.{then_some}
use Rattle.std.specs.Option.{ok_or}
use Rattle.text.specs.declared.reader.Line.{Line}
use Rattle.text.specs.declared.whole.Stated.{Stated}
use Rattle.text.specs.Numbers.{Number, no_number}
use Rattle.text.specs.Lines.{plant_line, devices_key, lines_key, end_line, newline, begins, field, row}
use Rattle.text.specs.Form.{Form, good_rows, used_rows, end_fault_of, rows_fault_of, wrong_line_of, form_lines, form_devices, form}
use Rattle.text.specs.Told.{told_number, told_word, told_row, told_fault, told_form}
use Rattle.text.proofs.Fields.{by_cond, then-none, then-is, begins-fits, field-small, field_fits, row_fits}

-- what an answer says of the answer that it was made of
pub or-err : {A : Type 0} (o : Option A) (k x : ℕ) → Err x ≡ ok_or o k → (None ≡ o) × (x ≡ k)
or-err None k x e = (refl, cc)
or-err (Some y) k x e = absurd (cc)

or-ok : {A : Type 0} (o : Option A) (k : ℕ) (x : A) → Ok x ≡ ok_or o k → Some x ≡ o
or-ok None k x e = absurd (cc)
or-ok (Some y) k x e = cc

pub on_some : {A P : Type 0} (o : Option A) (x : A) → Some x ≡ o → IfSome o (λ _. P) → P
on_some None x e p = absurd (cc)
on_some (Some y) x e p = p

-- where a `?` goes on: o is the answer that `ok_or` was made of, and P what it says of the place
pub taken : {A P : Type 0} (o : Option A) {a : Option A} (k : ℕ) (x : A) → Ok x ≡ ok_or o k → o ≡ a → IfSome o (λ _. P) → (Some x ≡ a) × P
taken o k x e is p = (or-ok o k x e ∙ is, on_some o x (or-ok o k x e) p)

pub some-test : {A : Type 0} {o : Option A} (b : Bool) (x : A) → b ≡ true → o ≡ then_some b x → IsSome o
some-test b x h e = rw (e, h) refl

-- a fault by its text line
pub told-fault : {k f : ℕ} → 0 < k → k ≡ f → Err k ≡ told_fault f
told-fault {k} {f} h e = rw (← e, ne_eqb k 0 (λ z. absurd (omega arith))) refl

pub told-right : (k : ℕ) → Ok tt ≡ told_fault k → k ≡ 0
told-right k e = go (eqb k 0) refl
  where
    go : (b : Bool) → eqb k 0 ≡ b → k ≡ 0
    go true h = eqb-true k 0 h
    go false h = let z : Ok tt ≡ Err k = e ∙ rw h refl in cc

pub record Passing (m : ℕ) (l : List ℕ) (k : ℕ) (rest : List ℕ) : Type 0 where
  pub good : good_rows m l ≡ k + good_rows (m - k) rest
  pub left : drop (used_rows m l) l ≡ drop (used_rows (m - k) rest) rest

module _ {m k : ℕ} {l rest : List ℕ} (p : Passing m l k rest) where
  -- all rows are passed
  pub passing-all : k ≡ m → end_fault_of rest (4 + m) ≡ rows_fault_of m l
  unfolding good_rows used_rows rows_fault_of
  passing-all e =
      let z : m - k ≡ 0 = omega arith in
      let g : good_rows m l ≡ m = p.good ∙ rw (z, add-zero) e in
      sym (rw (eq-eqb (good_rows m l) m g, p.left, z) refl)

  module _ (less : k < m) where
    next : m - k ≡ suc (m - (k + 1))
    next = omega arith

    -- the next row is not as expected
    pub passing-stop : None ≡ told_row (row rest) → 4 + k ≡ rows_fault_of m l
    unfolding good_rows rows_fault_of
    passing-stop h =
        let g : good_rows m l ≡ k = p.good ∙ rw (next, then-none _ _ h, add-zero) refl in
        sym (rw (g, ne_eqb k m (λ e. absurd (omega arith))) refl)

    pub passing-more : {x : Line} {rest' : List ℕ} → Some x ≡ told_row (row rest) → rest' ≡ drop (row rest).used rest → Passing m l (k + 1) rest'
    unfolding good_rows used_rows
    passing-more {x} {rest'} h e =
        let ok : (row rest).ok ≡ true = (then-is _ _ _ h).0 in
        record {
          good = p.good ∙ rw (next, ok, e) (omega arith);
          left = p.left ∙ rw (next, ok, e) (sym (drop-drop _ (row rest).used rest));
        }

    -- where all rows are good, the next is
    pub passing-next : good_rows m l ≡ m → (row rest).ok ≡ true
    unfolding good_rows
    passing-next g = go (row rest).ok refl
      where
        go : (b : Bool) → (row rest).ok ≡ b → b ≡ true
        go true h = refl
        go false h = let z : good_rows m l ≡ k = p.good ∙ rw (next, h, add-zero) refl in absurd (omega (arith, g, z))

-- the end of a text at the front of l, by what was found: rest is what follows end=plant
module _ (l : List ℕ) (k : ℕ) where
  pub end_none : None ≡ told_word (begins end_line l) → k ≡ end_fault_of l k
  unfolding end_fault_of
  end_none h = rw (then-none _ _ h) refl

  module _ (g : Some tt ≡ told_word (begins end_line l)) {rest : List ℕ} (m : rest ≡ drop 10 l) where
    all : eqb (length l) 10 ≡ eqb (length rest) 0
    all = go (eqb (length rest) 0) refl
      where
        fits : 10 ≤ length l
        fits = begins-fits end_line l (then-is _ _ _ g).0

        long : length rest ≡ length l - 10
        long = ap length m ∙ length-drop 10 l

        go : (b : Bool) → eqb (length rest) 0 ≡ b → eqb (length l) 10 ≡ b
        go true h = eq-eqb _ _ (omega (arith, eqb-true _ _ h, fits, long))
        go false h = ne_eqb _ _ (λ e. eqb-false _ _ h (omega (arith, e, long)))

    pub end-all : true ≡ eqb (length rest) 0 → 0 ≡ end_fault_of l k
    unfolding end_fault_of
    end-all h = rw ((then-is _ _ _ g).0, all, ← h) refl

    pub end_more : false ≡ eqb (length rest) 0 → k + 1 ≡ end_fault_of l k
    unfolding end_fault_of
    end_more h = rw ((then-is _ _ _ g).0, all, ← h) refl

pub rows-most : (m : ℕ) (l : List ℕ) → good_rows m l ≤ m
unfolding good_rows
rows-most zero l = zero-le
rows-most (suc m) l = by_cond (λ (k : ℕ). k ≤ suc m) (row l).ok (λ e. suc-le-suc (rows-most m (drop (row l).used l))) (λ e. zero-le)

pub rows_fit : (m : ℕ) (l : List ℕ) → used_rows m l ≤ length l
unfolding used_rows
rows_fit zero l = zero-le
rows_fit (suc m) l =
    by_cond
    (λ (k : ℕ). k ≤ length l)
    (row l).ok
    (λ e.
    let h : used_rows m (drop (row l).used l) ≤ length (drop (row l).used l) = rows_fit m (drop (row l).used l) in
    omega (arith, row_fits l, length-drop (row l).used l))
    (λ e. zero-le)

-- the form of a text, by what was found of it: l₁ is what follows plant=1, l₂ what follows the devices, and l₃ what follows the lines
module _ (t : List ℕ) where
  pub form-no-plant : None ≡ told_word (begins plant_line t) → wrong_line_of 1 ≡ form t
  unfolding form
  form-no-plant h = rw (then-none _ _ h) refl

  module _ (g : Some tt ≡ told_word (begins plant_line t)) {l₁ : List ℕ} (m₁ : l₁ ≡ drop 8 t) where
    -- what the definition says where no field stands: `PlaceLaws` shows which text line that has to be
    pub form-no-devices : None ≡ told_number (field devices_key newline l₁) → form_devices t no_number ≡ form t
    unfolding form form_devices
    form-no-devices h = rw ((then-is _ _ _ g).0, ← m₁, then-none _ _ h) refl

    module _ {n : ℕ} (d : Some n ≡ told_number (field devices_key newline l₁)) {l₂ : List ℕ} (m₂ : l₂ ≡ drop (field devices_key newline l₁).used l₁) where
      second : drop (8 + (field devices_key newline l₁).used) t ≡ l₂
      second = sym (drop-drop (field devices_key newline l₁).used 8 t) ∙ rw (← m₁) (sym m₂)

      pub form-no-lines : None ≡ told_number (field lines_key newline l₂) → form_lines t n (8 + (field devices_key newline l₁).used) no_number ≡ form t
      unfolding form form_devices form_lines
      form-no-lines h = rw ((then-is _ _ _ g).0, ← m₁, (then-is _ _ _ d).0, second, then-none _ _ h) refl

      module _ {m : ℕ} (f : Some m ≡ told_number (field lines_key newline l₂)) {l₃ : List ℕ} (m₃ : l₃ ≡ drop (field lines_key newline l₂).used l₂) where
        third : drop (8 + (field devices_key newline l₁).used + (field lines_key newline l₂).used) t ≡ l₃
        third =
            sym (drop-drop (field lines_key newline l₂).used (8 + (field devices_key newline l₁).used) t)
            ∙ ap (drop (field lines_key newline l₂).used) second
            ∙ sym m₃

        form-is : form t
            ≡ record { line = rows_fault_of m l₃; devices = n; lines = m; at = 8 + (field devices_key newline l₁).used + (field lines_key newline l₂).used }
        unfolding form form_devices form_lines
        form-is = rw ((then-is _ _ _ g).0, ← m₁, (then-is _ _ _ d).0, second, (then-is _ _ _ f).0, third, (then-is _ _ _ d).1, (then-is _ _ _ f).1) refl

        pub lines-small : m < 1000000000
        lines-small = omega (arith, field-small lines_key newline l₂, (then-is _ _ _ f).1)

        pub form-bad : {k : ℕ} → Err k ≡ told_fault (rows_fault_of m l₃) → Err k ≡ told_form t (form t)
        form-bad {k} e = go (eqb (rows_fault_of m l₃) 0) refl
          where
            go : (b : Bool) → eqb (rows_fault_of m l₃) 0 ≡ b → Err k ≡ told_form t (form t)
            go true h = let z : Err k ≡ Ok tt = e ∙ rw h refl in absurd (cc)
            go false h =
                let z : ◌≡◌ {A = Result (Unit {0}) ℕ} (Err k) (Err (rows_fault_of m l₃)) = e ∙ rw h refl in
                let q : k ≡ rows_fault_of m l₃ = cc in
                rw (form-is, h) (ap Err q)

        pub form-good : Ok tt ≡ told_fault (rows_fault_of m l₃) → Ok (record { devices = n; lines = m; rows = l₃ }) ≡ told_form t (form t)
        form-good e = rw (form-is, third, told-right _ e) refl

-- where no text line is wrong, the rows are as many as is stated
pub rows_good : (m : ℕ) (l : List ℕ) → rows_fault_of m l ≡ 0 → good_rows m l ≡ m
unfolding rows_fault_of
rows_good m l e = go (eqb (good_rows m l) m) refl
  where
    go : (b : Bool) → eqb (good_rows m l) m ≡ b → good_rows m l ≡ m
    go true h = eqb-true _ _ h
    go false h = absurd (omega (arith, rw h at e))

-- where no text line is wrong, the rows and the end are right
pub form-rows : (t : List ℕ) → (form t).line ≡ 0 → rows_fault_of (form t).lines (drop (form t).at t) ≡ 0
unfolding form form_devices form_lines
form-rows t =
    by_cond right (begins plant_line t)
    (λ _. by_cond right n.ok (λ _. by_cond right m.ok (λ _ e. e) (λ _ e. absurd (omega (arith, e)))) (λ _ e. absurd (omega (arith, e))))
    (λ _ e. absurd (omega (arith, e)))
  where
    right : Form → Type 0
    right f = f.line ≡ 0 → rows_fault_of f.lines (drop f.at t) ≡ 0

    n : Number
    n = field devices_key newline (drop 8 t)

    m : Number
    m = field lines_key newline (drop (8 + n.used) t)

-- what a text states, s
module _ (t : List ℕ) {s : Stated} (e : Ok s ≡ told_form t (form t)) where
  pub stated-is : ((form t).line ≡ 0) × (s ≡ record { devices = (form t).devices; lines = (form t).lines; rows = drop (form t).at t })
  stated-is = go (eqb (form t).line 0) refl
    where
      go : (b : Bool) → eqb (form t).line 0 ≡ b → ((form t).line ≡ 0) × (s ≡ record { devices = (form t).devices; lines = (form t).lines; rows = drop (form t).at t })
      go true h =
          let z : ◌≡◌ {A = Result Stated ℕ} (Ok s) (Ok (record { devices = (form t).devices; lines = (form t).lines; rows = drop (form t).at t })) = e ∙ rw h refl in
          (eqb-true _ _ h, cc)
      go false h = let z : ◌≡◌ {A = Result Stated ℕ} (Ok s) (Err (form t).line) = e ∙ rw h refl in absurd (cc)

  pub stated-rows : {m : ℕ} → m ≡ s.lines → good_rows m s.rows ≡ m
  stated-rows h = rw (h, stated-is.1) (rows_good (form t).lines (drop (form t).at t) (form-rows t stated-is.0))

pub stated_none : (t : List ℕ) {k : ℕ} → Err k ≡ told_form t (form t) → ((form t).line ≡ k) × (k ≡ 0 → ⊥)
stated_none t {k} e = go (eqb (form t).line 0) refl
  where
    go : (b : Bool) → eqb (form t).line 0 ≡ b → ((form t).line ≡ k) × (k ≡ 0 → ⊥)
    go true h =
        let z : ◌≡◌ {A = Result Stated ℕ} (Err k) (Ok (record { devices = (form t).devices; lines = (form t).lines; rows = drop (form t).at t })) = e ∙ rw h refl in
        absurd (cc)
    go false h =
        let z : ◌≡◌ {A = Result Stated ℕ} (Err k) (Err (form t).line) = e ∙ rw h refl in
        let same : k ≡ (form t).line = cc in
        (sym same, λ k-is. eqb-false _ _ h (sym same ∙ k-is))

-- what is used of a text before its rows lies inside it
pub form-within : (t : List ℕ) → (form t).at ≤ length t
unfolding form form_devices form_lines
form-within t =
    by_cond within (begins plant_line t) (λ e. by_cond within n.ok (λ o. by_cond within m.ok (λ q. all e) (λ q. zero-le)) (λ o. zero-le)) (λ e. zero-le)
  where
    n : Number
    n = field devices_key newline (drop 8 t)

    m : Number
    m = field lines_key newline (drop (8 + n.used) t)

    within : Form → Type 0
    within f = f.at ≤ length t

    all : begins plant_line t ≡ true → 8 + n.used + m.used ≤ length t
    all e =
        let plant : 8 ≤ length t = begins-fits plant_line t e in
        omega (
          arith,
          plant,
          length-drop 8 t,
          field_fits devices_key newline (drop 8 t),
          length-drop (8 + n.used) t,
          field_fits lines_key newline (drop (8 + n.used) t),
        )
