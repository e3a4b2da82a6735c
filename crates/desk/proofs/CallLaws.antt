-- What the desk's call answers and fills, by what reading the text and finding the groups promise.
-- Assumes nothing.
use Prim.Native.Nat.{ℕ, ◌≤◌, ◌<◌}
use native.Mathlib.Omega.{arith}
use mathlib.Core.Path.{◌≡◌, refl, sym, ap, ◌∙◌}
use mathlib.Core.Logic.{◌⊎◌, inl, inr, ⊎_elim}
use mathlib.Core.List.{List}
use lib.ListN.{length, get_or, take}
use lib.Seq.{take_at}
use borrow.Author.Tests.{ne_eqb}
use Rattle.rules.specs.Refusal.{Refusal}
use Rattle.rules.specs.Plant.{Plant, plant_of}
use Rattle.rules.specs.Groups.{table, label, groups, distinct}
use Rattle.rules.specs.Refusals.{done}
use Rattle.rules.specs.Accepted.{Accepted}
use Rattle.rules.specs.Lists.{over}
use Rattle.rules.proofs.RefusalLaws.{or_else-first, or_else-next, done-accepted, accepted-sound}
use Rattle.rules.proofs.RangeLaws.{range-in}
use Rattle.rules.proofs.Instance.{family}
use Rattle.rules.proofs.LabelLaws.{label-below, table-agree}
use Rattle.rules.proofs.FillLaws.{over-front}
use Rattle.grouping.specs.Calls.{Grouping}
use Rattle.grouping.specs.Calls.{grouping_fault, grouping_answer, labels_after}
use Rattle.grouping.proofs.FaultLaws.{Clear, owners-cases, grouping-short, grouping-done}
use Rattle.text.specs.Form.{form}
use Rattle.text.specs.Reading.{Reading, firsts_of, seconds_of, signals_of, read_fault, read_answer, read_list, ReadIs}
use Rattle.text.proofs.Judged.{values_length}
use Rattle.text.proofs.Accepted.{read-clean, text-right}
use Rattle.desk.specs.Calls.{stated_plant, desk_fault, desk_answer, desk_labels}
use Rattle.desk.proofs.FaultLaws.{desk-order}

-- reading into lists of 1,024 entries, which have room for every plant
pub record Read (t : List ℕ) (r : Reading) (us vs ws : List ℕ) : Type 0 where
  pub old : List ℕ
  pub wide : length old ≡ 1024
  pub is : ReadIs t old old old r us vs ws

-- an accepted text, once it is read: the stated numbers, and lists that begin with the numbers of its lines
pub record Stated (t : List ℕ) (r : Reading) (us vs ws : List ℕ) : Type 0 where
  pub right : read_fault t 1024 1024 1024 ≡ done
  pub devices : r.devices ≡ (form t).devices
  pub lines : r.lines ≡ (form t).lines
  pub firsts : take r.lines us ≡ firsts_of t
  pub seconds : take r.lines vs ≡ seconds_of t
  pub signals : take r.lines ws ≡ signals_of t

module _ {t : List ℕ} {r : Reading} {us vs ws : List ℕ} (i : Read t r us vs ws) where
  -- the same with the number of entries written out
  answer-is : r ≡ read_answer (read_fault t 1024 1024 1024) t
  answer-is = rw i.wide at i.is.answer

  pub stated : r.number ≡ 0 → Stated t r us vs ws
  unfolding read_answer read_list over done
  stated h =
      let f : read_fault t 1024 1024 1024 ≡ done = (read-clean t 1024 1024 1024).whole (sym (ap (λ (x : Reading). x.number) answer-is) ∙ h) in
      let m : r.lines ≡ (form t).lines = ap (λ (x : Reading). x.lines) answer-is ∙ rw f refl in
      record {
        right = f;
        devices = ap (λ (x : Reading). x.devices) answer-is ∙ rw f refl;
        lines = m;
        firsts = rw (m, i.is.firsts, i.wide, f) (take_at (firsts_of t) _ _ (values_length (λ w. w.first) t));
        seconds = rw (m, i.is.seconds, i.wide, f) (take_at (seconds_of t) _ _ (values_length (λ w. w.second) t));
        signals = rw (m, i.is.signals, i.wide, f) (take_at (signals_of t) _ _ (values_length (λ w. w.signals) t));
      }

-- its plant is accepted
accepted : (t : List ℕ) → read_fault t 1024 1024 1024 ≡ done → Accepted (form t).devices (firsts_of t) (seconds_of t) (signals_of t)
accepted t h = done-accepted _ _ _ _ (text-right t 1024 1024 1024 h)

pub few : (t : List ℕ) → read_fault t 1024 1024 1024 ≡ done → (form t).devices ≤ 128
few t h = (accepted t h).most_devices

-- as many entries as lines
pub as_many : {t : List ℕ} {r : Reading} {us vs ws : List ℕ} → Stated t r us vs ws → {l k : List ℕ} → l ≡ k → length k ≡ (form t).lines → length l ≡ r.lines
as_many s e h = ap length e ∙ h ∙ sym s.lines

-- finding the groups of the plant that t states, in a list of 128 entries: the answer a, and the labels found
pub record Found (t : List ℕ) (p q : ℕ) (a : Grouping) (found : List ℕ) : Type 0 where
  pub old : List ℕ
  pub wide : length old ≡ 128
  pub answer : a ≡ grouping_answer (form t).devices (firsts_of t) (seconds_of t) (signals_of t) p q old
  pub labels : found ≡ labels_after (form t).devices (firsts_of t) (seconds_of t) (signals_of t) p q old

pub found_in : {t : List ℕ} {r : Reading} {us vs ws : List ℕ} → Stated t r us vs ws → {p q : ℕ} (old : List ℕ) → length old ≡ 128
    → {a : Grouping} {found : List ℕ}
    → (a ≡ grouping_answer r.devices (take r.lines us) (take r.lines vs) (take r.lines ws) p q old)
    × (found ≡ labels_after r.devices (take r.lines us) (take r.lines vs) (take r.lines ws) p q old)
    → Found t p q a found
found_in s old h e = record {
  old = old;
  wide = h;
  answer = rw (s.devices, s.firsts, s.seconds, s.signals) at e.0;
  labels = rw (s.devices, s.firsts, s.seconds, s.signals) at e.1;
}

module _ (t : List ℕ) (p q : ℕ) (labels : List ℕ) where
  abbrev n : ℕ
  n = (form t).devices

  abbrev g : Plant
  g = plant_of n (firsts_of t) (seconds_of t) (signals_of t)

  -- the grouping call's fault, with room for k labels
  abbrev fault : ℕ → Refusal
  fault k = grouping_fault n (firsts_of t) (seconds_of t) (signals_of t) p q k

  -- what the call promises of its answer a and of the labels afterwards
  abbrev pub Promised : Grouping → List ℕ → Type 0
  Promised a new = (a ≡ desk_answer t p q (length labels)) × (new ≡ desk_labels t p q labels)

  refused : (r : Refusal) → desk_fault t p q (length labels) ≡ r → (r.number ≡ 0 → ⊥)
      → Promised (record { number = r.number; place = r.place; groups = 0 }) labels
  unfolding desk_answer desk_labels
  refused r e h = rw (e, ne_eqb r.number 0 h) (refl, refl)

  -- the text is refused
  pub text-refused : {r : Reading} {us vs ws : List ℕ} → Read t r us vs ws → (r.number ≡ 0 → ⊥)
      → Promised (record { number = r.number; place = r.place; groups = 0 }) labels
  unfolding read_answer
  text-refused {r} i h =
      let e = answer-is i in
      let off : (read_fault t 1024 1024 1024).number ≡ 0 → ⊥ = λ z. h (ap (λ (x : Reading). x.number) e ∙ z) in
      rw e (refused (read_fault t 1024 1024 1024) (desk-order t p q (length labels) ∙ or_else-first _ _ off) off)

  module _ (right : read_fault t 1024 1024 1024 ≡ done) where
    -- the grouping call's fault is left
    left : desk_fault t p q (length labels) ≡ fault (length labels)
    left = desk-order t p q (length labels) ∙ or_else-next _ right

    -- with room for 128 labels that is the rate's alone, which does not go by the room
    cases : Clear n (firsts_of t) (seconds_of t) (signals_of t) p q ⊎ ((fault 128 ≡ fault (length labels)) × ((fault 128).number ≡ 0 → ⊥))
    cases = ⊎_elim inl (λ x. ⊎_elim inl (λ y. inr (x.0 ∙ sym y.0, λ z. x.1 (ap (λ (r : Refusal). r.number) (sym x.0) ∙ z))) (owners-cases n _ _ _ p q (length labels))) (owners-cases n _ _ _ p q 128)

    module _ {a : Grouping} {found : List ℕ} (i : Found t p q a found) where
      off : ((fault 128).number ≡ 0 → ⊥) → a ≡ record { number = (fault 128).number; place = (fault 128).place; groups = 0 }
      unfolding grouping_answer
      off h = i.answer ∙ rw (i.wide, ne_eqb (fault 128).number 0 h)

      on : Clear n (firsts_of t) (seconds_of t) (signals_of t) p q → a ≡ record { number = 0; place = 0; groups = distinct (groups g p q) }
      unfolding grouping_answer done
      on c = i.answer ∙ rw (i.wide, grouping-done n _ _ _ p q c 128 (few t right))

      pub rate-refused : (a.number ≡ 0 → ⊥) → Promised a labels
      rate-refused h =
          ⊎_elim
          (λ c. absurd (h (ap (λ (x : Grouping). x.number) (on c))))
          (λ x. rw (off x.1) (refused (fault 128) (left ∙ sym x.0) x.1))
          cases

      module _ (h : a.number ≡ 0) where
        clear : Clear n (firsts_of t) (seconds_of t) (signals_of t) p q
        clear = ⊎_elim (λ c. c) (λ x. absurd (x.1 (sym (ap (λ (y : Grouping). y.number) (off x.1)) ∙ h))) cases

        pub too_short : length labels < n → Promised (record { number = 12; place = 0; groups = 0 }) labels
        too_short l = refused (record { number = 12; place = 0 }) (left ∙ grouping-short n _ _ _ p q clear (length labels) l) (λ e. omega arith)

        found_at : (v : ℕ) → v < n → get_or found v 0 ≡ label g p q v
        unfolding labels_after done groups plant_of
        found_at v l = rw (i.labels, i.wide, grouping-done n _ _ _ p q clear 128 (few t right)) (over-front n (label g p q) i.old v l)

        pub found-devices : (v : ℕ) → v < n → get_or found v 0 < n
        unfolding plant_of
        found-devices v l =
            rw (found_at v l)
            (label-below g p q (family g p q (accepted-sound n _ _ _ (accepted t right)) (range-in p q clear.rate).p_least) v l)

        pub answered : n ≤ length labels → {new : List ℕ} → new ≡ over (table n (λ v. get_or found v 0)) labels → Promised a new
        unfolding desk_answer desk_labels stated_plant groups plant_of done
        answered l e =
            rw (left ∙ grouping-done n _ _ _ p q clear (length labels) l)
            (on clear, e ∙ ap (λ (x : List ℕ). over x labels) (table-agree n _ _ found_at))
