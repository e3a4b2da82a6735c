-- What reading and writing promise together.
--     read-determined, write-determined     two results that a contract allows are equal, in what is told of them
--     read-result-determined, write-result-determined                   and as answers
--     accepted-exactly                      a text is accepted exactly if it is the text of some accepted plant, and the lists have room
--     gives-the-plant                       and then it gives that plant
--     reads-back                            what is written reads back as the same plant
--     one-text                              two accepted texts of one plant are equal byte for byte
-- Assumes nothing.
use Prim.Native.Nat.{ℕ, ◌≤◌}
use mathlib.Core.Path.{◌≡◌, refl, sym, ap, subst, ◌∙◌}
use mathlib.Core.Logic.{◌↔◌}
use mathlib.Core.List.{List, ◌++◌}
use lib.ListN.{length, take}
use lib.Seq.{take-append_seam, take_at}
use Rattle.std.specs.Prelude.{Result, Ok, Err}
use Rattle.rules.specs.Refusal.{Refusal}
use Rattle.rules.specs.Faults.{told}
use Rattle.rules.specs.declared.Fault.{Fault}
use Rattle.rules.proofs.FaultLaws.{answer-same}
use Rattle.text.specs.declared.Size.{Size}
use Rattle.rules.specs.Refusals.{done, room_fault, plant_fault}
use Rattle.rules.proofs.RefusalLaws.{Clean, clean-cause, clean-or_else, or_else-left, plant-clean}
use Rattle.text.specs.Lines.{Row}
use Rattle.text.specs.Reading.{Reading, read_told}
use Rattle.text.specs.Writing.{Written, written_told}
use Rattle.text.specs.Form.{plant_text, form}
use Rattle.rules.specs.Lists.{over}
use Rattle.text.specs.Reading.{values_of, firsts_of, seconds_of, signals_of, read_fault, read_answer, read_list, ReadIs}
use Rattle.text.specs.Writing.{write_fault, write_answer, write_list, WriteIs}
use Rattle.text.proofs.Judged.{values_length}
use Rattle.text.proofs.Answers.{write-order}
use Rattle.text.proofs.TextLaws.{TextRead}
use Rattle.text.proofs.Accepted.{accepted-read, text-accepted, read-clean, text-is, text-right, text-room}

-- two results that the contract of reading allows are equal, and so are the lists
pub read-determined : {t xs ys zs : List ℕ} {r r' : Reading} {us vs ws us' vs' ws' : List ℕ} → ReadIs t xs ys zs r us vs ws → ReadIs t xs ys zs r' us' vs' ws'
    → (r ≡ r') × (us ≡ us') × (vs ≡ vs') × (ws ≡ ws')
read-determined a b = (a.answer ∙ sym b.answer, a.firsts ∙ sym b.firsts, a.seconds ∙ sym b.seconds, a.signals ∙ sym b.signals)

-- and of writing
pub write-determined : {n : ℕ} {xs ys zs old : List ℕ} {r r' : Written} {new new' : List ℕ} → WriteIs n xs ys zs old r new → WriteIs n xs ys zs old r' new'
    → (r ≡ r') × (new ≡ new')
write-determined a b = (a.answer ∙ sym b.answer, a.bytes ∙ sym b.bytes)

-- the same of the answers themselves, which are enums
pub read-result-determined : {t xs ys zs : List ℕ} {r r' : Result Size Fault} {us vs ws us' vs' ws' : List ℕ}
    → ReadIs t xs ys zs (read_told r) us vs ws → ReadIs t xs ys zs (read_told r') us' vs' ws' → r ≡ r'
read-result-determined {r = r} {r' = r'} a b =
    answer-same read_told (λ c. record { number = c.number; place = c.place }) heads
    (λ x y h. let n = ap (λ (c : Reading). c.devices) h in let m = ap (λ (c : Reading). c.lines) h in (λ i. record { devices = n i; lines = m i })) r r' (a.answer ∙ sym b.answer)
  where
    heads : (r : Result Size Fault) → record { number = (read_told r).number; place = (read_told r).place } ≡ told r
    heads (Ok s) = refl
    heads (Err f) = refl

pub written-same : (r r' : Result ℕ Fault) → written_told r ≡ written_told r' → r ≡ r'
written-same = answer-same written_told (λ c. record { number = c.number; place = c.place }) heads (λ x y h. ap (λ (c : Written). c.count) h)
  where
    heads : (r : Result ℕ Fault) → record { number = (written_told r).number; place = (written_told r).place } ≡ told r
    heads (Ok k) = refl
    heads (Err f) = refl

pub write-result-determined : {n : ℕ} {xs ys zs old : List ℕ} {r r' : Result ℕ Fault} {new new' : List ℕ}
    → WriteIs n xs ys zs old (written_told r) new → WriteIs n xs ys zs old (written_told r') new' → r ≡ r'
write-result-determined {r = r} {r' = r'} a b = written-same r r' (a.answer ∙ sym b.answer)

-- t is the text of the accepted plant that n and the three lists state
pub record TextOf (t : List ℕ) (n : ℕ) (xs ys zs : List ℕ) : Type 0 where
  pub accepted : plant_fault n xs ys zs ≡ done
  pub text : t ≡ plant_text n xs ys zs

-- three lists of a, b and c entries have room for m lines
abbrev pub Room : ℕ → ℕ → ℕ → ℕ → Type 0
Room m a b c = (m ≤ a) × (m ≤ b) × (m ≤ c)

-- "a text is accepted exactly if it is the text of some accepted plant"
pub accepted-exactly : (t : List ℕ) (a b c : ℕ)
    → (read_fault t a b c).number ≡ 0
    ↔ (n : ℕ) × (xs : List ℕ) × (ys : List ℕ) × (zs : List ℕ) × TextOf t n xs ys zs × Room (length xs) a b c
unfolding done
accepted-exactly t a b c = (there, back)
  where
    there : (read_fault t a b c).number ≡ 0 → (n : ℕ) × (xs : List ℕ) × (ys : List ℕ) × (zs : List ℕ) × TextOf t n xs ys zs × Room (length xs) a b c
    there e =
        let h : read_fault t a b c ≡ done = (read-clean t a b c).whole e in
        let m : length (firsts_of t) ≡ (form t).lines = values_length (λ w. w.first) t in (
          (form t).devices,
          firsts_of t,
          seconds_of t,
          signals_of t,
          record { accepted = text-right t a b c h; text = sym (text-is t a b c h) },
          subst (λ (k : ℕ). Room k a b c) (sym m) (text-room t a b c h),
        )

    back : (n : ℕ) × (xs : List ℕ) × (ys : List ℕ) × (zs : List ℕ) × TextOf t n xs ys zs × Room (length xs) a b c → (read_fault t a b c).number ≡ 0
    back p =
        rw p.4.text (ap (λ (r : Refusal). r.number) (text-accepted p.0 p.1 p.2 p.3 p.4.accepted a b c p.5.0 p.5.1 p.5.2))

-- what reading answers and fills where it gives the plant of n and ps, qs and ss
pub record Gives (n : ℕ) (ps qs ss xs ys zs : List ℕ) (r : Reading) (us vs ws : List ℕ) : Type 0 where
  pub answer : r ≡ record { number = 0; place = 0; devices = n; lines = length ps }
  pub firsts : us ≡ over ps xs
  pub seconds : vs ≡ over qs ys
  pub signals : ws ≡ over ss zs

-- "and then gives that plant"
pub gives-the-plant : {t : List ℕ} {n : ℕ} {ps qs ss xs ys zs us vs ws : List ℕ} {r : Reading}
    → TextOf t n ps qs ss → Room (length ps) (length xs) (length ys) (length zs) → ReadIs t xs ys zs r us vs ws → Gives n ps qs ss xs ys zs r us vs ws
unfolding done read_answer read_list over
gives-the-plant {t} {n} {ps} {qs} {ss} {xs} {ys} {zs} x m i =
    let f : read_fault t (length xs) (length ys) (length zs) ≡ done =
    rw x.text (text-accepted n ps qs ss x.accepted (length xs) (length ys) (length zs) m.0 m.1 m.2) in
    let s : TextRead n ps qs ss t = rw x.text (accepted-read n ps qs ss x.accepted) in
    record {
      answer = i.answer ∙ rw (f, s.devices, s.lines) refl;
      firsts = i.firsts ∙ rw (f, s.firsts) refl;
      seconds = i.seconds ∙ rw (f, s.seconds) refl;
      signals = i.signals ∙ rw (f, s.signals) refl;
    }

write-clean : (n : ℕ) (xs ys zs : List ℕ) (room : ℕ) → Clean (write_fault n xs ys zs room)
unfolding room_fault
write-clean n xs ys zs room = subst Clean (sym (write-order n xs ys zs room)) (clean-or_else (plant-clean n xs ys zs) (clean-cause _ 11 0))

-- an accepted writing: the plant is accepted, and its text stands at the front of the list
pub written-text : {n : ℕ} {ps qs ss old new : List ℕ} {w : Written} → WriteIs n ps qs ss old w new → w.number ≡ 0 → TextOf (take w.count new) n ps qs ss
unfolding done write_answer write_list over
written-text {n} {ps} {qs} {ss} {old} {new} {w} i e =
    let f : write_fault n ps qs ss (length old) ≡ done = (write-clean n ps qs ss (length old)).whole (sym (ap (λ (x : Written). x.number) i.answer) ∙ e) in
    let count : w.count ≡ length (plant_text n ps qs ss) = ap (λ (x : Written). x.count) i.answer ∙ rw f refl in
    record {
      accepted = or_else-left _ (plant-clean n ps qs ss) (sym (write-order n ps qs ss (length old)) ∙ f);
      text = rw (count, i.bytes, f) (take-append_seam (plant_text n ps qs ss) _);
    }

-- "what is written reads back as the same plant"
pub reads-back : {n : ℕ} {ps qs ss old new xs ys zs us vs ws : List ℕ} {w : Written} {r : Reading}
    → WriteIs n ps qs ss old w new → w.number ≡ 0 → Room (length ps) (length xs) (length ys) (length zs) → ReadIs (take w.count new) xs ys zs r us vs ws
    → Gives n ps qs ss xs ys zs r us vs ws
reads-back i e m j = gives-the-plant (written-text i e) m j

-- an accepted text is that of the plant which is answered, and whose numbers then stand at the front of the lists
pub read-given : {t xs ys zs us vs ws : List ℕ} {r : Reading} → ReadIs t xs ys zs r us vs ws → r.number ≡ 0
    → t ≡ plant_text r.devices (take r.lines us) (take r.lines vs) (take r.lines ws)
unfolding done read_answer read_list over
read-given {t} {xs} {ys} {zs} {us} {vs} {ws} {r} i e =
    let f : read_fault t (length xs) (length ys) (length zs) ≡ done =
    (read-clean t (length xs) (length ys) (length zs)).whole (sym (ap (λ (x : Reading). x.number) i.answer) ∙ e) in
    let n : r.devices ≡ (form t).devices = ap (λ (x : Reading). x.devices) i.answer ∙ rw f refl in
    let m : r.lines ≡ (form t).lines = ap (λ (x : Reading). x.lines) i.answer ∙ rw f refl in
    let front : (g : Row → ℕ) (l : List ℕ) → take (form t).lines (values_of g t ++ l) ≡ values_of g t =
    λ g l. take_at (values_of g t) l (form t).lines (values_length g t) in
    sym
    (rw (n, m, i.firsts, i.seconds, i.signals, f, front (λ w. w.first) _, front (λ w. w.second) _, front (λ w. w.signals) _)
    (text-is t (length xs) (length ys) (length zs) f))

-- "two accepted texts of one plant are equal byte for byte"
pub one-text : {t t' xs ys zs xs' ys' zs' us vs ws us' vs' ws' : List ℕ} {r r' : Reading}
    → ReadIs t xs ys zs r us vs ws → ReadIs t' xs' ys' zs' r' us' vs' ws' → r.number ≡ 0 → r ≡ r'
    → take r.lines us ≡ take r.lines us' → take r.lines vs ≡ take r.lines vs' → take r.lines ws ≡ take r.lines ws' → t ≡ t'
one-text {r = r} {r' = r'} i j e q a b c =
    read-given i e
    ∙ rw (a, b, c, q) refl
    ∙ sym (read-given j (ap (λ (x : Reading). x.number) (sym q) ∙ e))
