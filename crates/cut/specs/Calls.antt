-- What the public calls answer and what they leave in the lent lists: document 01, "What a call fills" and "Refusal numbers".
-- Assumes nothing.
use Rattle.std.specs.Prelude.{ℕ, true, cond, List, eqb, length, Result, Ok, Err}
use Rattle.rules.specs.Refusal.{Refusal}
use Rattle.rules.specs.Plant.{Plant, plant_of}
use Rattle.rules.specs.Cut.{Devices, out, size}
use Rattle.rules.specs.Community.{community}
use Rattle.rules.specs.Groups.{table}
use Rattle.rules.specs.Sweep.{sweep}
use Rattle.rules.specs.Refusals.{rate_fault, device_fault, room_fault, of_rate, of_device, of_room, in_order, about, plant_says}
use Rattle.rules.specs.Lists.{after}
use Rattle.rules.specs.Faults.{refusal_of}
use Rattle.rules.specs.declared.Fault.{Fault}
use Rattle.cut.specs.declared.community.Extent.{Extent}

-- the answer of the community call: number and place, and the community's size and out
pub record Answer : Type 0 where
  pub number : ℕ
  pub place : ℕ
  pub size : ℕ
  pub out : ℕ

-- "For every answer that is an enum, a definition gives this paper's number and values for each case of the enum."
abbrev pub community_told : Result Extent Fault → Answer
community_told (Ok c) = record { number = 0; place = 0; size = c.size; out = c.out }
community_told (Err f) = record { number = (refusal_of f).number; place = (refusal_of f).place; size = 0; out = 0 }

-- "The community call fills 1 or 0 per device"
unfoldable pub marks_of : ℕ → Devices → List ℕ
marks_of n S = table n (λ v. cond (S v) 1 0)

-- the community call: 1 to 8, then 9, 10, and 12 for marks shorter than n
unfoldable pub community_fault : ℕ → List ℕ → List ℕ → List ℕ → ℕ → ℕ → ℕ → ℕ → Refusal
community_fault n xs ys zs p q d room =
    in_order (about of_rate (rate_fault p q) (about of_device (device_fault n d) (about of_room (room_fault n room) (plant_says n xs ys zs))))

-- "answers the size and out"; "every further answer is then absent or 0"
unfoldable pub community_answer : ℕ → List ℕ → List ℕ → List ℕ → ℕ → ℕ → ℕ → List ℕ → Answer
community_answer n xs ys zs p q d marks =
    let fault = community_fault n xs ys zs p q d (length marks) in
    let g = plant_of n xs ys zs in
    let C = community g p q d in
    cond (eqb fault.number 0)
    (record { number = 0; place = 0; size = size g C; out = out g.lines C })
    (record { number = fault.number; place = fault.place; size = 0; out = 0 })

-- the lent marks afterwards; "Lent lists are untouched after any other number"
unfoldable pub community_marks : ℕ → List ℕ → List ℕ → List ℕ → ℕ → ℕ → ℕ → List ℕ → List ℕ
community_marks n xs ys zs p q d marks =
    after (community_fault n xs ys zs p q d (length marks)) (marks_of n (community (plant_of n xs ys zs) p q d)) marks

-- the owners call: 1 to 8, then 9, and 12 for a list shorter than n
unfoldable pub owners_fault : ℕ → List ℕ → List ℕ → List ℕ → ℕ → ℕ → ℕ → Refusal
owners_fault n xs ys zs p q room = in_order (about of_rate (rate_fault p q) (about of_room (room_fault n room) (plant_says n xs ys zs)))

-- the owner of each device: device by device from the lowest, one that nobody owns yet becomes the owner of its community
unfoldable pub owners_of : Plant → ℕ → ℕ → List ℕ
owners_of g p q = table g.devices (sweep (community g p q) (λ d. true) g.devices g.devices)

-- the lent owners afterwards
unfoldable pub owners_after : ℕ → List ℕ → List ℕ → List ℕ → ℕ → ℕ → List ℕ → List ℕ
owners_after n xs ys zs p q owner = after (owners_fault n xs ys zs p q (length owner)) (owners_of (plant_of n xs ys zs) p q) owner
