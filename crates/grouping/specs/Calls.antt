-- What the public calls answer and what they leave in the lent lists: document 01, "What a call fills", "Levels and joining rates" and "Refusal numbers".
-- Assumes nothing.
use Rattle.std.specs.Prelude.{ℕ, suc, ◌-◌, ◌*◌, ◌≤◌, ◌<◌, ◌≡◌, cond, List, [], ◌∷◌, ◌⊎◌, eqb, length, get_or, take, drop, Result, Ok, Err}
use Rattle.rules.specs.Refusal.{Refusal}
use Rattle.rules.specs.Plant.{Plant, plant_of}
use Rattle.rules.specs.Groups.{groups, distinct}
use Rattle.rules.specs.Hierarchy.{IsHierarchy, JoinsAt, NeverJoin}
use Rattle.rules.specs.Refusals.{first_of, devices_fault, rate_fault, device_fault, self_fault, level_fault, room_fault, of_devices, of_rate, of_device, of_self, of_level, of_room, in_order, nothing, about, plant_says}
use Rattle.rules.specs.Lists.{after}
use Rattle.rules.specs.Faults.{refusal_of}
use Rattle.rules.specs.declared.Fault.{Fault}
use Rattle.cut.specs.declared.rate.Rate.{Rate}

-- the answer of the grouping call: number and place, and the number of groups
pub record Grouping : Type 0 where
  pub number : ℕ
  pub place : ℕ
  pub groups : ℕ

-- the answer of the hierarchy call: number and place, and the number of levels
pub record Levels : Type 0 where
  pub number : ℕ
  pub place : ℕ
  pub levels : ℕ

-- the answer of the call for a joining rate: number and place, and the rate p/q
pub record Joining : Type 0 where
  pub number : ℕ
  pub place : ℕ
  pub p : ℕ
  pub q : ℕ

-- "For every answer that is an enum, a definition gives this paper's number and values for each case of the enum."
abbrev pub grouping_told : Result ℕ Fault → Grouping
grouping_told (Ok m) = record { number = 0; place = 0; groups = m }
grouping_told (Err f) = record { number = (refusal_of f).number; place = (refusal_of f).place; groups = 0 }

abbrev pub levels_told : Result ℕ Fault → Levels
levels_told (Ok m) = record { number = 0; place = 0; levels = m }
levels_told (Err f) = record { number = (refusal_of f).number; place = (refusal_of f).place; levels = 0 }

abbrev pub joining_told : Result Rate Fault → Joining
joining_told (Ok r) = record { number = 0; place = 0; p = r.p; q = r.q }
joining_told (Err f) = record { number = (refusal_of f).number; place = (refusal_of f).place; p = 0; q = 0 }

-- the grouping call: 1 to 8, then 9, and 12 for labels shorter than n
unfoldable pub grouping_fault : ℕ → List ℕ → List ℕ → List ℕ → ℕ → ℕ → ℕ → Refusal
grouping_fault n xs ys zs p q room =
    in_order (about of_rate (rate_fault p q) (about of_room (room_fault n room) (plant_says n xs ys zs)))

-- "answers the number of groups", which "is the number of distinct labels"; "every further answer is then absent or 0"
unfoldable pub grouping_answer : ℕ → List ℕ → List ℕ → List ℕ → ℕ → ℕ → List ℕ → Grouping
grouping_answer n xs ys zs p q labels =
    let fault = grouping_fault n xs ys zs p q (length labels) in
    cond (eqb fault.number 0)
    (record { number = 0; place = 0; groups = distinct (groups (plant_of n xs ys zs) p q) })
    (record { number = fault.number; place = fault.place; groups = 0 })

-- the lent labels afterwards: "for each device the lowest device number in its group"; "Lent lists are untouched after any other number"
unfoldable pub labels_after : ℕ → List ℕ → List ℕ → List ℕ → ℕ → ℕ → List ℕ → List ℕ
labels_after n xs ys zs p q labels =
    after (grouping_fault n xs ys zs p q (length labels)) (groups (plant_of n xs ys zs) p q) labels

-- the labels of level k in a list of n labels per level, "level after level"
unfoldable pub row_of : ℕ → List ℕ → ℕ → List ℕ
row_of n labels k = take n (drop (k * n) labels)

-- "Showing a row has 1, 2, 16 and 12 as its causes, 12 for a list shorter than count × n."
unfoldable pub row_fault : List ℕ → ℕ → ℕ → ℕ → Refusal
row_fault labels n levels k =
    in_order (about of_devices (devices_fault n) (about of_level (level_fault n levels k) (about of_room (room_fault (levels * n) (length labels)) nothing)))

-- "The row of level k is a part of the caller's own label list"; "Here a refusal is the empty part"
unfoldable pub row_shown : List ℕ → ℕ → ℕ → ℕ → List ℕ
row_shown labels n levels k = cond (eqb (row_fault labels n levels k).number 0) (row_of n labels k) []

-- the hierarchy call: 1 to 8, and 12: "It needs room for n × n labels and n entries in each rate list, always.", a, b and c being the lengths of the three lists
unfoldable pub hierarchy_fault : ℕ → List ℕ → List ℕ → List ℕ → ℕ → ℕ → ℕ → Refusal
hierarchy_fault n xs ys zs a b c =
    in_order (about of_room (first_of (room_fault (n * n) a ∷ room_fault n b ∷ room_fault n c ∷ [])) (plant_says n xs ys zs))

-- "Longer lists are taken, and entries past those filled stay untouched.": k entries are filled
pub record PastKept (k : ℕ) (old new : List ℕ) : Type 0 where
  pub length_same : length new ≡ length old
  pub past : drop k new ≡ drop k old

-- "The hierarchy call fills n labels per level, level after level, and the low rates as two lists"; "One low rate is filled for each level but the last."
pub record Listed (g : Plant) (levels : ℕ) (labels low_ps low_qs labels' low_ps' low_qs' : List ℕ) : Type 0 where
  pub hierarchy : IsHierarchy g levels (row_of g.devices labels') (λ i. get_or low_ps' i 0) (λ i. get_or low_qs' i 0)
  -- a low rate's p is at most "All signals together", so that it has at most 9 digits
  pub low_p_most : (i : ℕ) → suc i < levels → get_or low_ps' i 0 ≤ 67107840
  pub labels_past : PastKept (levels * g.devices) labels labels'
  pub low_p_past : PastKept (levels - 1) low_ps low_ps'
  pub low_q_past : PastKept (levels - 1) low_qs low_qs'

-- what the hierarchy call answers, r, and leaves in the three lists
pub record HierarchyIs (n : ℕ) (xs ys zs labels low_ps low_qs : List ℕ) (r : Levels) (labels' low_ps' low_qs' : List ℕ) : Type 0 where
  pub refused : ((hierarchy_fault n xs ys zs (length labels) (length low_ps) (length low_qs)).number ≡ 0 → ⊥)
      → (r
      ≡ record {
        number = (hierarchy_fault n xs ys zs (length labels) (length low_ps) (length low_qs)).number;
        place = (hierarchy_fault n xs ys zs (length labels) (length low_ps) (length low_qs)).place;
        levels = 0;
      })
      × (labels' ≡ labels)
      × (low_ps' ≡ low_ps)
      × (low_qs' ≡ low_qs)
  pub filled : (hierarchy_fault n xs ys zs (length labels) (length low_ps) (length low_qs)).number ≡ 0
      → (r.number ≡ 0) × (r.place ≡ 0) × Listed (plant_of n xs ys zs) r.levels labels low_ps low_qs labels' low_ps' low_qs'

-- the joining rate of devices i and j: 1 to 8, 10, 11, before it is known whether they join
unfoldable pub pair_fault : ℕ → List ℕ → List ℕ → List ℕ → ℕ → ℕ → Refusal
pair_fault n xs ys zs i j =
    in_order (about of_device (first_of (device_fault n i ∷ device_fault n j ∷ [])) (about of_self (self_fault i j) (plant_says n xs ys zs)))

-- what the call answers, r: "It is answered in lowest terms, and refused with 13 exactly if no positive rate puts them in one group."
pub record JoiningIs (n : ℕ) (xs ys zs : List ℕ) (i j : ℕ) (r : Joining) : Type 0 where
  pub refused : ((pair_fault n xs ys zs i j).number ≡ 0 → ⊥)
      → r ≡ record { number = (pair_fault n xs ys zs i j).number; place = (pair_fault n xs ys zs i j).place; p = 0; q = 0 }
  pub answered : (pair_fault n xs ys zs i j).number ≡ 0
      → (NeverJoin (plant_of n xs ys zs) i j × (r ≡ record { number = 13; place = 0; p = 0; q = 0 }))
      ⊎ (JoinsAt (plant_of n xs ys zs) i j r.p r.q × (r.number ≡ 0) × (r.place ≡ 0))
