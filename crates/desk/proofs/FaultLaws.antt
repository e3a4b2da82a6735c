-- The first fault of the desk's call: that of reading the text into lists with room for every plant, and then that of the grouping call on
-- the plant that the text states. Assumes nothing.
use Prim.Native.Nat.{ℕ, ◌≤◌}
use mathlib.Core.Path.{◌≡◌, refl, sym, ap, ◌∙◌}
use mathlib.Core.Bool.{Bool, true, false, cond}
use mathlib.Core.List.{List, [], ◌∷◌}
use native.Mathlib.Decide.{ℕ_discrete}
use lib.Dec.{eqb}
use lib.ListN.{length}
use borrow.Author.Tests.{le-ltb}
use Rattle.rules.specs.Refusal.{Refusal}
use Rattle.rules.specs.Refusals.{done, cause, or_else, first_of, lines_fault, after_plant, fixed_order, in_order, nothing, about, plant_says, plant_fault}
use Rattle.rules.proofs.RefusalLaws.{clean-cause, or_else-assoc, or_else-first, or_else-done, done_next, lines-clean, plant-is, call-is}
use Rattle.grouping.specs.Calls.{grouping_fault}
use Rattle.text.specs.Form.{form}
use Rattle.text.specs.Reading.{long_fault, form_fault_of, firsts_of, seconds_of, signals_of, no_room_of, rooms_fault, read_fault, size_fault_of, head_fault_of}
use Rattle.text.proofs.Judged.{values_length, head-clean, head_few, read-order}
use Rattle.desk.specs.Calls.{desk_fault}

-- asked twice, a refusal is the same
or_else-twice : (r s : Refusal) {f : Refusal} → f ≡ or_else r s → or_else r f ≡ f
unfolding or_else
or_else-twice r s e = rw e (go (eqb r.number 0))
  where
    go : (b : Bool) → cond b (cond b s r) r ≡ cond b s r
    go true = refl
    go false = refl

module _ (t : List ℕ) where
  abbrev n : ℕ
  n = (form t).devices

  abbrev lines : Refusal
  lines = lines_fault n (firsts_of t) (seconds_of t) (signals_of t)

  abbrev text : Refusal
  text = first_of (long_fault (length t) ∷ form_fault_of (form t).line ∷ [])

  -- there is room for every plant
  rooms-done : (form t).lines ≤ 1024 → rooms_fault (form t).lines 1024 1024 1024 ≡ done
  unfolding rooms_fault no_room_of cause
  rooms-done h = rw (le-ltb 1024 (form t).lines h)

  rooms-never : or_else (head_fault_of (form t)) (or_else lines (rooms_fault (form t).lines 1024 1024 1024)) ≡ or_else (head_fault_of (form t)) lines
  rooms-never = go (ℕ_discrete (head_fault_of (form t)).number 0)
    where
      go : Dec ((head_fault_of (form t)).number ≡ 0) → or_else (head_fault_of (form t)) (or_else lines (rooms_fault (form t).lines 1024 1024 1024)) ≡ or_else (head_fault_of (form t)) lines
      go (no h) = or_else-first _ _ h ∙ sym (or_else-first _ _ h)
      go (yes h) = rw (rooms-done (head_few (form t) ((head-clean (form t)).whole h)), or_else-done lines (lines-clean _ _ _ _))

  plant-parts : plant_fault n (firsts_of t) (seconds_of t) (signals_of t) ≡ or_else (size_fault_of n (form t).lines) lines
  unfolding size_fault_of
  plant-parts =
      plant-is n _ _ _
      ∙ rw (values_length (λ w. w.first) t, values_length (λ w. w.second) t, values_length (λ w. w.signals) t)
      (sym (or_else-assoc _ _ _))

  reading-is : read_fault t 1024 1024 1024 ≡ or_else text (plant_fault n (firsts_of t) (seconds_of t) (signals_of t))
  unfolding first_of head_fault_of form_fault_of
  reading-is =
      read-order t 1024 1024 1024
      ∙ ap (or_else (long_fault (length t))) rooms-never
      ∙ simp (or_else-assoc, or_else-done (form_fault_of (form t).line) (clean-cause _ 14 _), plant-parts)

  module _ (p q room : ℕ) where
    abbrev grouping : Refusal
    grouping = grouping_fault n (firsts_of t) (seconds_of t) (signals_of t) p q room

    grouping-twice : or_else (plant_fault n (firsts_of t) (seconds_of t) (signals_of t)) grouping ≡ grouping
    unfolding grouping_fault about plant_says nothing
    grouping-twice = or_else-twice _ _ (call-is n (firsts_of t) (seconds_of t) (signals_of t) _ refl refl refl refl)

    text-order : desk_fault t p q room ≡ or_else text grouping
    unfolding desk_fault grouping_fault in_order fixed_order after_plant about plant_says nothing first_of
    text-order = ap (or_else text) (sym (done_next _))

    pub desk-order : desk_fault t p q room ≡ or_else (read_fault t 1024 1024 1024) grouping
    desk-order =
        text-order
        ∙ ap (or_else text) (sym grouping-twice)
        ∙ sym (or_else-assoc text _ grouping)
        ∙ ap (λ (r : Refusal). or_else r grouping) (sym reading-is)
