-- The first fault of a text, in the fixed order, by what was found on the way; and what reading answers and fills then.
-- Assumes nothing.
use Prim.Native.Nat.{ℕ, suc, ◌≤◌, ◌<◌}
use native.Mathlib.Nat.{suc-ne-zero}
use native.Mathlib.Omega.{arith}
use mathlib.Core.Path.{◌≡◌, refl, sym, ap, subst, ◌∙◌}
use mathlib.Core.Bool.{Bool, true, false, not, ◌||◌, true≢false}
use mathlib.Core.List.{List}
use lib.Dec.{ltb, eqb}
use lib.ListN.{length, take, drop, length-take}
use borrow.Author.Tests.{eq-eqb, ne_eqb, lt-ltb, le-ltb, ltb-false, eqb-true, not-false}
use Rattle.std.specs.Prelude.{Ok, Err}
use Rattle.rules.specs.Refusal.{Refusal}
use Rattle.rules.specs.Refusals.{done, cause, or_else, first_of, devices_fault, lists_fault, lines_fault, after_plant, fixed_order, in_order, nothing, about, plant_fault}
use Rattle.rules.specs.Lists.{over}
use Rattle.rules.proofs.RefusalLaws.{or_else-assoc, done_next, Clean, clean-cause, clean-or_else, or_else-done, or_else-first, or_else-next, or_else-left, or_else-right, devices-clean, lists-clean, plant-is, plant-clean}
use Rattle.text.specs.Lines.{Row}
use Rattle.text.specs.Reading.{Reading}
use Rattle.text.specs.declared.whole.Stated.{Stated}
use Rattle.text.specs.Form.{Form, form, column}
use Rattle.text.specs.Reading.{long_fault, form_fault_of, values_of, firsts_of, seconds_of, signals_of, no_room_of, rooms_fault, read_fault, read_answer, refused_with, read_list, ReadIs, size_fault_of, head_fault_of}
use Rattle.text.specs.Told.{told_form}
use Rattle.text.proofs.Forms.{stated-is, stated_none}
use Rattle.text.proofs.Lists.{column-length}

-- what the form is refused for
pub form-wrong : (line : ℕ) → (line ≡ 0 → ⊥) → record { number = 15; place = line } ≡ form_fault_of line
unfolding form_fault_of cause
form-wrong line h = rw (ne_eqb line 0 h) refl

pub form-right : (line : ℕ) → line ≡ 0 → record { number = 0; place = 0 } ≡ form_fault_of line
unfolding form_fault_of cause done
form-right line h = rw (eq-eqb line 0 h) refl

-- what the stated numbers are refused for
module _ (n m : ℕ) where
  pub size_none : n ≡ 0 → record { number = 1; place = 0 } ≡ size_fault_of n m
  unfolding size_fault_of devices_fault first_of or_else cause
  size_none e = rw (eq-eqb n 0 e) refl

  module _ (some : n ≡ 0 → ⊥) where
    pub size-many : 128 < n → record { number = 2; place = 0 } ≡ size_fault_of n m
    unfolding size_fault_of devices_fault first_of or_else cause done
    size-many e = rw (ne_eqb n 0 some, lt-ltb 128 n e) refl

    module _ (few : n ≤ 128) where
      pub size-lines : 1024 < m → record { number = 4; place = 0 } ≡ size_fault_of n m
      unfolding size_fault_of devices_fault lists_fault first_of or_else cause done
      size-lines e = rw (ne_eqb n 0 some, le-ltb 128 n few, eq-eqb m m refl, lt-ltb 1024 m e) refl

      pub size-right : m ≤ 1024 → record { number = 0; place = 0 } ≡ size_fault_of n m
      unfolding size_fault_of devices_fault lists_fault first_of or_else cause done
      size-right e = rw (ne_eqb n 0 some, le-ltb 128 n few, eq-eqb m m refl, le-ltb 1024 m e) refl

-- both are good
pub head_done : (f : Form) → f.line ≡ 0 → (f.devices ≡ 0 → ⊥) → f.devices ≤ 128 → f.lines ≤ 1024 → head_fault_of f ≡ done
unfolding head_fault_of done
head_done f h some few least =
    rw (sym (form-right f.line h)) (or_else-next (size_fault_of f.devices f.lines) refl ∙ sym (size-right f.devices f.lines some few least))

pub head-clean : (f : Form) → Clean (head_fault_of f)
unfolding head_fault_of size_fault_of form_fault_of
head-clean f = clean-or_else (clean-cause _ 14 _) (clean-or_else (devices-clean _) (lists-clean _ _ _))

pub rooms-clean : (m a b c : ℕ) → Clean (rooms_fault m a b c)
unfolding rooms_fault
rooms-clean m a b c = clean-cause _ 11 0

-- the fixed order, of what reading can give
pub read-order : (t : List ℕ) (a b c : ℕ)
    → read_fault t a b c
    ≡ or_else (long_fault (length t))
    (or_else (head_fault_of (form t))
    (or_else
    (lines_fault (form t).devices (firsts_of t) (seconds_of t) (signals_of t))
    (rooms_fault (form t).lines a b c)))
unfolding read_fault after_plant fixed_order about nothing in_order first_of head_fault_of size_fault_of
read-order t a b c =
    simp (or_else-assoc, done_next, or_else-done (rooms_fault (form t).lines a b c) (rooms-clean (form t).lines a b c)) refl

pub values_length : (f : Row → ℕ) (t : List ℕ) → length (values_of f t) ≡ (form t).lines
unfolding values_of
values_length f t = column-length f (form t).lines (drop (form t).at t)

-- what is known once the form and the stated numbers n and m are good and the rows are kept: us, vs and ws are the numbers of the rows
pub record Known (t : List ℕ) (n m : ℕ) (us vs ws : List ℕ) : Type 0 where
  pub short : length t ≤ 32768
  pub devices : n ≡ (form t).devices
  pub lines : m ≡ (form t).lines
  pub head : head_fault_of (form t) ≡ done
  pub firsts : us ≡ firsts_of t
  pub seconds : vs ≡ seconds_of t
  pub signals : ws ≡ signals_of t

-- the numbers of the rows are as many as the stated lines
pub known-lengths : {t : List ℕ} {n m : ℕ} {us vs ws : List ℕ} → Known t n m us vs ws → (length us ≡ m) × (length vs ≡ m) × (length ws ≡ m)
known-lengths {t} k = (
  ap length k.firsts ∙ values_length (λ w. w.first) t ∙ sym k.lines,
  ap length k.seconds ∙ values_length (λ w. w.second) t ∙ sym k.lines,
  ap length k.signals ∙ values_length (λ w. w.signals) t ∙ sym k.lines,
)

pub cause-off : (b : Bool) (k place : ℕ) → cause b (suc k) place ≡ done → b ≡ false
unfolding cause done
cause-off true k place e = absurd (suc-ne-zero k (ap (λ (r : Refusal). r.number) e))
cause-off false k place e = refl

-- the parts of a good head
module _ (f : Form) (h : head_fault_of f ≡ done) where
  later : or_else (devices_fault f.devices) (lists_fault f.lines f.lines f.lines) ≡ done
  unfolding head_fault_of size_fault_of form_fault_of
  later = or_else-right _ (clean-cause (not (eqb f.line 0)) 14 f.line) h

  pub head-line : f.line ≡ 0
  unfolding head_fault_of form_fault_of
  head-line = eqb-true _ _ (not-false _ (cause-off (not (eqb f.line 0)) 14 f.line (or_else-left _ (clean-cause (not (eqb f.line 0)) 14 f.line) h)))

  pub head-devices : devices_fault f.devices ≡ done
  head-devices = or_else-left _ (devices-clean f.devices) later

  pub head-lists : lists_fault f.lines f.lines f.lines ≡ done
  head-lists = or_else-right _ (devices-clean f.devices) later

  pub head_few : f.lines ≤ 1024
  unfolding lists_fault first_of
  head_few =
      ltb-false _ _
      (cause-off (ltb 1024 f.lines) 3 0 (or_else-left done (clean-cause (ltb 1024 f.lines) 3 0) (or_else-right _ (clean-cause _ 2 0) head-lists)))

-- with a good head the check of the plant says what the lines say
pub plant-lines : (t : List ℕ) → head_fault_of (form t) ≡ done
    → plant_fault (form t).devices (firsts_of t) (seconds_of t) (signals_of t)
    ≡ lines_fault (form t).devices (firsts_of t) (seconds_of t) (signals_of t)
plant-lines t h =
    plant-is _ _ _ _
    ∙ rw (
      values_length (λ w. w.first) t,
      values_length (λ w. w.second) t,
      values_length (λ w. w.signals) t,
      head-devices (form t) h,
      head-lists (form t) h,
      done_next,
      done_next,
    )
    refl

pub long-not : (n : ℕ) → n ≤ 32768 → long_fault n ≡ done
unfolding long_fault cause
long-not n h = rw (le-ltb 32768 n h) refl

or_left : (a b : Bool) → (a || b) ≡ false → a ≡ false
or_left true b e = e
or_left false b e = refl

or_right : (a b : Bool) → (a || b) ≡ false → b ≡ false
or_right true b e = absurd (true≢false e)
or_right false b e = e

-- a refusal that comes first is the answer, and the lists stay
pub read-refused : (t xs ys zs : List ℕ) {r : Refusal} {w : Reading} → read_fault t (length xs) (length ys) (length zs) ≡ r → (r.number ≡ 0 → ⊥)
    → w ≡ refused_with r.number r.place → ReadIs t xs ys zs w xs ys zs
unfolding read_answer read_list
read-refused t xs ys zs {r} e h q =
    record {
      answer = q ∙ rw (e, ne_eqb r.number 0 h) refl;
      firsts = rw (e, ne_eqb r.number 0 h) refl;
      seconds = rw (e, ne_eqb r.number 0 h) refl;
      signals = rw (e, ne_eqb r.number 0 h) refl;
    }

module _ (t : List ℕ) {s : Stated} (e : Ok s ≡ told_form t (form t)) {r : Refusal} (z : r ≡ size_fault_of s.devices s.lines) where
  stated-head : r ≡ head_fault_of (form t)
  unfolding head_fault_of done
  stated-head =
      z
      ∙ ap (λ (x : Stated). size_fault_of x.devices x.lines) (stated-is t e).1
      ∙ sym (or_else-next {r = form_fault_of (form t).line} (size_fault_of (form t).devices (form t).lines) (sym (form-right (form t).line (stated-is t e).0)))

  module _ (g : r.number ≡ 0) where
    stated-done : head_fault_of (form t) ≡ done
    stated-done = sym stated-head ∙ (subst Clean (sym stated-head) (head-clean (form t))).whole g

    pub stated-few : s.lines ≤ 1024
    stated-few = rw (stated-is t e).1 (head_few (form t) stated-done)

    -- after the rows are kept
    pub known : length t ≤ 32768 → {m : ℕ} {a b c : List ℕ} → m ≡ s.lines
        → (a ≡ column (λ w. w.first) m s.rows) × (b ≡ column (λ w. w.second) m s.rows) × (c ≡ column (λ w. w.signals) m s.rows)
        → Known t s.devices s.lines a b c
    unfolding values_of
    known short h k =
        record {
          short = short;
          devices = ap (λ (x : Stated). x.devices) (stated-is t e).1;
          lines = ap (λ (x : Stated). x.lines) (stated-is t e).1;
          head = stated-done;
          firsts = k.0 ∙ ap (λ (n : ℕ). column (λ w. w.first) n s.rows) h ∙ ap (λ (x : Stated). column (λ w. w.first) x.lines x.rows) (stated-is t e).1;
          seconds = k.1 ∙ ap (λ (n : ℕ). column (λ w. w.second) n s.rows) h ∙ ap (λ (x : Stated). column (λ w. w.second) x.lines x.rows) (stated-is t e).1;
          signals = k.2 ∙ ap (λ (n : ℕ). column (λ w. w.signals) n s.rows) h ∙ ap (λ (x : Stated). column (λ w. w.signals) x.lines x.rows) (stated-is t e).1;
        }

module _ (t xs ys zs : List ℕ) where
  pub read-long : {w : Reading} → 32768 < length t → w ≡ refused_with 14 0 → ReadIs t xs ys zs w xs ys zs
  unfolding long_fault cause or_else
  read-long h q =
      read-refused t xs ys zs {r = record { number = 14; place = 0 }}
      (read-order t _ _ _ ∙ rw (lt-ltb 32768 (length t) h) refl) (λ e. absurd (omega (arith, e))) q

  pub read_head : {r : Refusal} {w : Reading} → length t ≤ 32768 → r ≡ head_fault_of (form t) → (r.number ≡ 0 → ⊥)
      → w ≡ refused_with r.number r.place → ReadIs t xs ys zs w xs ys zs
  read_head {r} h e k q =
      read-refused t xs ys zs
      (read-order t _ _ _ ∙ rw (long-not (length t) h, done_next, sym e) (or_else-first r _ k)) k q

  pub read-form : {k : ℕ} {w : Reading} → length t ≤ 32768 → Err k ≡ told_form t (form t) → w ≡ refused_with 15 k → ReadIs t xs ys zs w xs ys zs
  unfolding head_fault_of
  read-form {k} h e q =
      let n : ((form t).line ≡ k) × (k ≡ 0 → ⊥) = stated_none t e in
      let wrong : form_fault_of (form t).line ≡ record { number = 15; place = k } = rw n.0 (sym (form-wrong k n.1)) in
      read_head {r = record { number = 15; place = k }} h
      (rw wrong (sym (or_else-first (record { number = 15; place = k }) _ (λ z. absurd (omega (arith, z)))))) (λ z. absurd (omega (arith, z))) q

  pub read-size : {s : Stated} {r : Refusal} {w : Reading} → Ok s ≡ told_form t (form t) → r ≡ size_fault_of s.devices s.lines → length t ≤ 32768
      → (r.number ≡ 0 → ⊥) → w ≡ refused_with r.number r.place → ReadIs t xs ys zs w xs ys zs
  read-size e z h k q = read_head h (stated-head t e z) k q

  module _ {n m : ℕ} {us vs ws : List ℕ} (k : Known t n m us vs ws) {r : Refusal} (p : r ≡ plant_fault n us vs ws) where
    plant-next : read_fault t (length xs) (length ys) (length zs) ≡ or_else r (rooms_fault (form t).lines (length xs) (length ys) (length zs))
    plant-next =
        read-order t _ _ _
        ∙ rw (
          long-not (length t) k.short,
          k.head,
          done_next,
          done_next,
          sym (plant-lines t k.head),
          sym k.firsts,
          sym k.seconds,
          sym k.signals,
          sym k.devices,
          sym p,
        )
        refl

    pub read-wrong : {w : Reading} → (r.number ≡ 0 → ⊥) → w ≡ refused_with r.number r.place → ReadIs t xs ys zs w xs ys zs
    read-wrong h q = read-refused t xs ys zs (plant-next ∙ or_else-first r _ h) h q

    module _ (h : r.number ≡ 0) where
      r-done : r ≡ done
      r-done = (subst Clean (sym p) (plant-clean _ _ _ _)).whole h

      room_next : read_fault t (length xs) (length ys) (length zs) ≡ rooms_fault m (length xs) (length ys) (length zs)
      room_next = plant-next ∙ rw (r-done, done_next, sym k.lines) refl

      pub read-no-room : {w : Reading} {b : Bool} → b ≡ no_room_of m (length xs) (length ys) (length zs) → b ≡ true → w ≡ refused_with 12 0
          → ReadIs t xs ys zs w xs ys zs
      unfolding rooms_fault cause
      read-no-room e b q =
          read-refused t xs ys zs {r = record { number = 12; place = 0 }} (room_next ∙ rw (sym e ∙ b) refl) (λ z. absurd (omega (arith, z))) q

      pub read_done : {w : Reading} {as₁ bs₁ cs₁ : List ℕ} {b : Bool} → b ≡ no_room_of m (length xs) (length ys) (length zs) → b ≡ false
          → w ≡ record { number = 0; place = 0; devices = n; lines = m }
          → as₁ ≡ over us xs → bs₁ ≡ over vs ys → cs₁ ≡ over ws zs → ReadIs t xs ys zs w as₁ bs₁ cs₁
      unfolding read_answer read_list rooms_fault cause done
      read_done e b q u v s =
          let right : read_fault t (length xs) (length ys) (length zs) ≡ done = room_next ∙ rw (sym e ∙ b) refl in
          record {
            answer = q ∙ rw (right, k.devices, k.lines) refl;
            firsts = u ∙ rw (right, k.firsts) refl;
            seconds = v ∙ rw (right, k.seconds) refl;
            signals = s ∙ rw (right, k.signals) refl;
          }

-- no test of three holds: there is room for m lines in each list
module _ (m a b c : ℕ) (e : no_room_of m a b c ≡ false) where
  pub room-first : m ≤ a
  unfolding no_room_of
  room-first = ltb-false a m (or_left (ltb a m) (ltb b m) (or_left (ltb a m || ltb b m) (ltb c m) e))

  pub room-second : m ≤ b
  unfolding no_room_of
  room-second = ltb-false b m (or_right (ltb a m) (ltb b m) (or_left (ltb a m || ltb b m) (ltb c m) e))

  pub room-third : m ≤ c
  unfolding no_room_of
  room-third = ltb-false c m (or_right (ltb a m || ltb b m) (ltb c m) e)

pub front_fits : (m : ℕ) (a : List ℕ) → length (take m a) ≡ m → m ≤ length a
front_fits m a e = omega (arith, e, length-take m a)
