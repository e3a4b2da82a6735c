-- What the planning desk receives: document 01, "it hands over the plant text as bytes and receives labels as bytes, those of the grouping
-- at one rate, with the grouping call's answers". A byte is its number, so that labels are compared with the rules' own.
-- Assumes nothing.
use Rattle.std.specs.Prelude.{ℕ, ◌≡◌, cond, List, [], ◌∷◌, eqb, length}
use Rattle.rules.specs.Refusal.{Refusal}
use Rattle.rules.specs.Plant.{Plant, plant_of}
use Rattle.rules.specs.Groups.{groups, distinct}
use Rattle.rules.specs.Refusals.{first_of, rate_fault, room_fault, of_text, of_rate, of_room, in_order, about, plant_says}
use Rattle.rules.specs.Lists.{after}
use Rattle.grouping.specs.Calls.{Grouping}
use Rattle.text.specs.Form.{form}
use Rattle.text.specs.Reading.{long_fault, form_fault_of, firsts_of, seconds_of, signals_of}

-- the plant that a text states
unfoldable pub stated_plant : List ℕ → Plant
stated_plant t = plant_of (form t).devices (firsts_of t) (seconds_of t) (signals_of t)

-- the causes in the fixed order: of the text 14 and 15, of the plant that it states 1, 2 and 4 to 8, 9, and 12 for labels shorter than n,
-- room being their length
unfoldable pub desk_fault : List ℕ → ℕ → ℕ → ℕ → Refusal
desk_fault t p q room =
    in_order
    (about of_text (first_of (long_fault (length t) ∷ form_fault_of (form t).line ∷ []))
    (about of_rate (rate_fault p q)
    (about of_room (room_fault (form t).devices room) (plant_says (form t).devices (firsts_of t) (seconds_of t) (signals_of t)))))

-- "with the grouping call's answers": number, place and the number of groups, which "is the number of distinct labels"; "every further
-- answer is then absent or 0"
unfoldable pub desk_answer : List ℕ → ℕ → ℕ → ℕ → Grouping
desk_answer t p q room =
    let fault = desk_fault t p q room in
    cond (eqb fault.number 0)
    (record { number = 0; place = 0; groups = distinct (groups (stated_plant t) p q) })
    (record { number = fault.number; place = fault.place; groups = 0 })

-- the lent labels afterwards: "for each device the lowest device number in its group"; "Lent lists are untouched after any other number"
unfoldable pub desk_labels : List ℕ → ℕ → ℕ → List ℕ → List ℕ
desk_labels t p q labels = after (desk_fault t p q (length labels)) (groups (stated_plant t) p q) labels

-- what the desk's call on the text t, p, q and the lent labels answers, number, place and count, the number of groups, and leaves in the
-- labels, new
pub record DeskIs (t : List ℕ) (p q : ℕ) (labels : List ℕ) (number place count : ℕ) (new : List ℕ) : Type 0 where
  pub number_is : number ≡ (desk_answer t p q (length labels)).number
  pub place_is : place ≡ (desk_answer t p q (length labels)).place
  pub count_is : count ≡ (desk_answer t p q (length labels)).groups
  pub labels_are : new ≡ desk_labels t p q labels
