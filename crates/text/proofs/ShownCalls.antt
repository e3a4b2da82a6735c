-- What `show_plant`, `show_text` and `list_text` write, by what they found on the way.
--     plant-filled ..     the hierarchy call is not refused, and what it fills is listed
--     text-..             the text that is read, refused or not
--     list-.., list_count the list that is filled, or too short
-- Assumes nothing.
use Prim.Native.Nat.{ℕ, ◌*◌, ◌≤◌, ◌<◌}
use native.Mathlib.Nat.{zero-add, mul-le-mul}
use native.Mathlib.Omega.{arith}
use mathlib.Core.Path.{◌≡◌, refl, sym, ap, ◌∙◌}
use mathlib.Core.List.{List, ◌++◌}
use lib.ListN.{length, get_or, take, drop}
use borrow.Author.Tests.{lt-ltb, le-ltb}
use Rattle.rules.specs.Refusal.{Refusal}
use Rattle.rules.specs.Plant.{plant_of}
use Rattle.rules.specs.Refusals.{done, cause, or_else, first_of, room_fault, after_plant, about, nothing, plant_says}
use Rattle.rules.specs.Accepted.{Accepted}
use Rattle.rules.specs.Lists.{over}
use Rattle.rules.proofs.RefusalLaws.{done_next, call-is, call-rest, accepted-done, done-accepted}
use Rattle.grouping.specs.Calls.{Levels}
use Rattle.grouping.specs.Calls.{row_of, hierarchy_fault, Listed, HierarchyIs}
use Rattle.text.specs.Lines.{Row}
use Rattle.text.specs.Reading.{Reading}
use Rattle.text.specs.Form.{form}
use Rattle.text.specs.Reading.{values_of, firsts_of, seconds_of, signals_of, read_fault, read_answer, read_list, ReadIs}
use Rattle.text.specs.Listing.{listing, refused_text}
use Rattle.text.specs.Writing.{placed}
use Rattle.text.specs.Shown.{text_fault, stated_plant, list_answer, ListIs, ShownText, ShownPlant}
use Rattle.text.proofs.Judged.{values_length, front_fits}
use Rattle.text.proofs.Accepted.{read-clean, text-right}
use Rattle.text.proofs.ListingBound.{listing-fits}
use Rattle.text.proofs.ShownLaws.{over-take}

-- a word at the front of a list
front-is : (old w : List ℕ) → placed old 0 w ≡ over w old
unfolding over
front-is old w = rw zero-add refl

-- an accepted plant, and lists with room for every plant
module _ (n : ℕ) (xs ys zs : List ℕ) (a : Accepted n xs ys zs) where
  -- the hierarchy call is not refused
  not-refused : (i j k : ℕ) → 16384 ≤ i → 128 ≤ j → 128 ≤ k → hierarchy_fault n xs ys zs i j k ≡ done
  unfolding hierarchy_fault after_plant about plant_says nothing first_of room_fault cause done or_else
  not-refused i j k hi hj hk =
      let square : n * n ≤ 128 * 128 = mul-le-mul a.most_devices a.most_devices in
      call-is n xs ys zs _ refl refl refl refl
      ∙ call-rest n xs ys zs _ (ap (λ (r : Refusal). r.number) (accepted-done n xs ys zs a))
      ∙ simp (le-ltb i (n * n) (omega arith), le-ltb j n (omega (arith, a.most_devices)), le-ltb k n (omega (arith, a.most_devices)), done_next)

  module _ {labels low_ps low_qs labels' low_ps' low_qs' : List ℕ} {r : Levels} (hi : 16384 ≤ length labels) (hj : 128 ≤ length low_ps) (hk : 128 ≤ length low_qs)
      (h : HierarchyIs n xs ys zs labels low_ps low_qs r labels' low_ps' low_qs') where
    plant-filled : Listed (plant_of n xs ys zs) r.levels labels low_ps low_qs labels' low_ps' low_qs'
    unfolding done
    plant-filled = (h.filled (ap (λ (x : Refusal). x.number) (not-refused (length labels) (length low_ps) (length low_qs) hi hj hk))).2

    pub plant-listed : r.number ≡ 0
    unfolding done
    plant-listed = (h.filled (ap (λ (x : Refusal). x.number) (not-refused (length labels) (length low_ps) (length low_qs) hi hj hk))).0

    few : r.levels ≤ n
    unfolding plant_of
    few = plant-filled.hierarchy.most_levels

    abbrev whole : List ℕ
    whole = listing n r.levels (λ i. take n (drop (i * n) labels')) (λ i. get_or low_ps' i 0) (λ i. get_or low_qs' i 0)

    -- what `put_listing` requires
    pub plant-rooms : (n ≤ 128) × (r.levels ≤ n) × (r.levels * n ≤ length labels') × (r.levels ≤ length low_ps') × (r.levels ≤ length low_qs')
    plant-rooms =
        let rows : r.levels * n ≤ 128 * 128 = mul-le-mul {n₂ = 128} {m₂ = 128} (omega (arith, few, a.most_devices)) a.most_devices in (
          a.most_devices,
          few,
          omega (arith, plant-filled.labels_past.length_same),
          omega (arith, few, a.most_devices, plant-filled.low_p_past.length_same),
          omega (arith, few, a.most_devices, plant-filled.low_q_past.length_same),
        )

    pub plant-fits : {room : ℕ} → 262144 ≤ room → length whole ≤ room
    plant-fits l = omega (arith, listing-fits n r.levels (λ i. take n (drop (i * n) labels')) (λ i. get_or low_ps' i 0) (λ i. get_or low_qs' i 0) a.most_devices few)

    pub plant-shown : {old new : List ℕ} {k : ℕ} → (k ≡ length whole) × (new ≡ placed old 0 whole) → ShownPlant (plant_of n xs ys zs) old k new
    unfolding plant_of row_of
    plant-shown {old} p = record {
      bytes = whole;
      listed = record {
        count = r.levels;
        level = λ i. take n (drop (i * n) labels');
        low_ps = λ i. get_or low_ps' i 0;
        low_qs = λ i. get_or low_qs' i 0;
        hierarchy = plant-filled.hierarchy;
        low_p_most = plant-filled.low_p_most;
        text = refl;
      };
      count = p.0;
      front = p.1 ∙ front-is old whole;
    }

-- a text that is read into lists with room for every plant
module _ {t xs ys zs us vs ws : List ℕ} {r : Reading} (hx : length xs ≡ 1024) (hy : length ys ≡ 1024) (hz : length zs ≡ 1024)
    (i : ReadIs t xs ys zs r us vs ws) where
  abbrev fault : Refusal
  fault = read_fault t (length xs) (length ys) (length zs)

  fault-is : text_fault t ≡ fault
  unfolding text_fault
  fault-is = rw (hx, hy, hz) refl

  number_is : (text_fault t).number ≡ r.number
  unfolding read_answer
  number_is = rw (fault-is, i.answer) refl

  place_is : (text_fault t).place ≡ r.place
  unfolding read_answer
  place_is = rw (fault-is, i.answer) refl

  pub text-refused : {old new : List ℕ} {k : ℕ} → (r.number ≡ 0 → ⊥)
      → (k ≡ length (refused_text r.number r.place)) × (new ≡ placed old 0 (refused_text r.number r.place)) → ShownText t old k new
  text-refused {old} h p = record {
    bytes = refused_text r.number r.place;
    printed = record { listed = λ z. absurd (h (sym number_is ∙ z)); refused = λ o. rw (number_is, place_is) refl };
    count = p.0;
    front = p.1 ∙ front-is old (refused_text r.number r.place);
  }

  module _ (z : r.number ≡ 0) where
    right : fault ≡ done
    unfolding read_answer
    right = (read-clean t _ _ _).whole (ap (λ (x : Reading). x.number) (sym i.answer) ∙ z)

    devices-is : r.devices ≡ (form t).devices
    unfolding read_answer done
    devices-is = ap (λ (x : Reading). x.devices) i.answer ∙ rw right refl

    lines-is : r.lines ≡ (form t).lines
    unfolding read_answer done
    lines-is = ap (λ (x : Reading). x.lines) i.answer ∙ rw right refl

    -- the front of each list is what the text states, and lies within it
    front-stated : (g : Row → ℕ) (old : List ℕ) {new : List ℕ} → new ≡ read_list fault g t old → take r.lines new ≡ values_of g t
    unfolding read_list done
    front-stated g old e = rw (e, right) (over-take (values_of g t) old r.lines (values_length g t ∙ sym lines-is))

    firsts-are : take r.lines us ≡ firsts_of t
    firsts-are = front-stated (λ w. w.first) xs i.firsts

    seconds-are : take r.lines vs ≡ seconds_of t
    seconds-are = front-stated (λ w. w.second) ys i.seconds

    signals-are : take r.lines ws ≡ signals_of t
    signals-are = front-stated (λ w. w.signals) zs i.signals

    counted : (g : Row → ℕ) (new : List ℕ) → take r.lines new ≡ values_of g t → length (take r.lines new) ≡ r.lines
    counted g new e = ap length e ∙ values_length g t ∙ sym lines-is

    pub text-counted : (length (take r.lines us) ≡ r.lines) × (length (take r.lines vs) ≡ r.lines) × (length (take r.lines ws) ≡ r.lines)
    text-counted = (counted (λ w. w.first) us firsts-are, counted (λ w. w.second) vs seconds-are, counted (λ w. w.signals) ws signals-are)

    pub text-accepts : Accepted r.devices (take r.lines us) (take r.lines vs) (take r.lines ws)
    text-accepts = rw (devices-is, firsts-are, seconds-are, signals-are) (done-accepted _ _ _ _ (text-right t _ _ _ right))

    stated-is : plant_of r.devices (take r.lines us) (take r.lines vs) (take r.lines ws) ≡ stated_plant t
    unfolding stated_plant
    stated-is = rw (devices-is, firsts-are, seconds-are, signals-are) refl

    pub text-shown : {old new : List ℕ} {k : ℕ} → ShownPlant (plant_of r.devices (take r.lines us) (take r.lines vs) (take r.lines ws)) old k new
        → ShownText t old k new
    text-shown s = record {
      bytes = s.bytes;
      printed = record { listed = λ o. rw stated-is at s.listed; refused = λ h. absurd (h (number_is ∙ z)) };
      count = s.count;
      front = s.front;
    }

-- the bytes of a text, at the front of a list of its own, are copied to the front of a lent one that has room
module _ {t space new : List ℕ} {k : ℕ} (s : ShownText t space k new) where
  -- the front of the list is what is printed
  list-front : take k new ≡ s.bytes
  list-front = rw s.front (over-take s.bytes space k (sym s.count))

  pub list-within : k ≤ length new
  list-within = front_fits k new (ap length list-front ∙ sym s.count)

  pub list_count : k ≡ length (take k new)
  list_count = s.count ∙ ap length (sym list-front)

  pub list-short : (old : List ℕ) → length old < k → ListIs t old (record { number = 12; place = 0; count = 0 }) old
  unfolding list_answer room_fault cause
  list-short old l =
      let short : length old < length s.bytes = omega (arith, s.count) in
      record { bytes = s.bytes; printed = s.printed; answer = rw (lt-ltb (length old) (length s.bytes) short) refl; filled = rw (lt-ltb (length old) (length s.bytes) short) refl }

  pub list-filled : {old last : List ℕ} → k ≤ length old → last ≡ take k new ++ drop k old → ListIs t old (record { number = 0; place = 0; count = k }) last
  unfolding list_answer room_fault cause done over
  list-filled {old} l e =
      let room : length s.bytes ≤ length old = omega (arith, s.count) in
      record {
        bytes = s.bytes;
        printed = s.printed;
        answer = rw (le-ltb (length old) (length s.bytes) room, s.count) refl;
        filled = e ∙ rw (list-front, le-ltb (length old) (length s.bytes) room, s.count) refl;
      }
