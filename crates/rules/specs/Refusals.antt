-- Document 01, "Refusal numbers": each cause, and the first in the fixed order.
-- Assumes nothing.
use Rattle.std.specs.Prelude.{ℕ, zero, suc, Bool, true, not, ◌&&◌, ◌||◌, cond, List, [], ◌∷◌, map, leb, ltb, eqb, length, get_or}
use Rattle.rules.specs.Refusal.{Refusal}
use Rattle.rules.specs.Rates.{rate_ok}

-- "0 means done, with place 0."
unfoldable pub done : Refusal
done = record { number = 0; place = 0 }

-- the number at the place, where the cause is there
unfoldable pub cause : Bool → ℕ → ℕ → Refusal
cause there number place = cond there (record { number = number; place = place }) done

-- r, where it is a refusal, and otherwise s
unfoldable pub or_else : Refusal → Refusal → Refusal
or_else r s = cond (eqb r.number 0) s r

-- the first of the list that is a refusal
unfoldable pub first_of : List Refusal → Refusal
first_of [] = done
first_of (r ∷ rs) = or_else r (first_of rs)

-- "1: n is 0", "2: n over 128"
unfoldable pub devices_fault : ℕ → Refusal
devices_fault n = first_of (cause (eqb n 0) 1 0 ∷ cause (ltb 128 n) 2 0 ∷ [])

-- "3: the three lists differ in length", "4: over 1,024 lines"
unfoldable pub lists_fault : ℕ → ℕ → ℕ → Refusal
lists_fault a b c = first_of (cause (not (eqb a b && eqb b c)) 3 0 ∷ cause (ltb 1024 a) 4 0 ∷ [])

-- "Lines rise strictly by first end, then second end": line k is above the one before, if there is one
unfoldable pub rises : List ℕ → List ℕ → ℕ → Bool
rises xs ys zero = true
rises xs ys (suc k) =
    ltb (get_or xs k 0) (get_or xs (suc k) 0) || (eqb (get_or xs k 0) (get_or xs (suc k) 0) && ltb (get_or ys k 0) (get_or ys (suc k) 0))

-- "5: an end is not below n", "6: first end not below second", "7: line not above the one before", "8: signals outside 1 to 65,535"
unfoldable pub line_fault : ℕ → List ℕ → List ℕ → List ℕ → ℕ → Refusal
line_fault n xs ys zs k =
    first_of
    (cause (leb n (get_or xs k 0) || leb n (get_or ys k 0)) 5 k
    ∷ cause (leb (get_or ys k 0) (get_or xs k 0)) 6 k
    ∷ cause (not (rises xs ys k)) 7 k
    ∷ cause (eqb (get_or zs k 0) 0 || ltb 65535 (get_or zs k 0)) 8 k
    ∷ [])

-- "then lines from the lowest": the first fault of the lines from k on, of which there are m
unfoldable pub lines_from : ℕ → List ℕ → List ℕ → List ℕ → ℕ → ℕ → Refusal
lines_from n xs ys zs k zero = done
lines_from n xs ys zs k (suc m) = or_else (line_fault n xs ys zs k) (lines_from n xs ys zs (suc k) m)

unfoldable pub lines_fault : ℕ → List ℕ → List ℕ → List ℕ → Refusal
lines_fault n xs ys zs = lines_from n xs ys zs 0 (length xs)

-- "9: p or q out of range"
unfoldable pub rate_fault : ℕ → ℕ → Refusal
rate_fault p q = cause (not (rate_ok p q)) 9 0

-- "10: a named device is not below n"
unfoldable pub device_fault : ℕ → ℕ → Refusal
device_fault n d = cause (leb n d) 10 0

-- "11: joining rate of a device with itself"
unfoldable pub self_fault : ℕ → ℕ → Refusal
self_fault i j = cause (eqb i j) 11 0

-- "16: level number not below the level count, or the count over n"
unfoldable pub level_fault : ℕ → ℕ → ℕ → Refusal
level_fault n levels k = cause (leb levels k || ltb n levels) 16 0

-- "12: a list to be filled or shown is too short"
unfoldable pub room_fault : ℕ → ℕ → Refusal
room_fault needed room = cause (ltb room needed) 12 0

-- a kind of cause, by the lowest of its numbers: text 14 and 15, devices 1 and 2, lists 3 and 4, lines 5 to 8; rate, device, self, level, room and never have one number each
abbrev pub Kind : Type 0
Kind = ℕ

abbrev pub of_text : Kind
of_text = 14

abbrev pub of_devices : Kind
of_devices = 1

abbrev pub of_lists : Kind
of_lists = 3

abbrev pub of_lines : Kind
of_lines = 5

abbrev pub of_rate : Kind
of_rate = 9

abbrev pub of_device : Kind
of_device = 10

abbrev pub of_self : Kind
of_self = 11

abbrev pub of_level : Kind
of_level = 16

abbrev pub of_room : Kind
of_room = 12

abbrev pub of_never : Kind
of_never = 13

-- "Order: 14, 15, 1, 2, 3, 4; then lines from the lowest, within a line 5, 6, 7, 8; then 9, 10, 11, 16, 12, 13.": the plant's three, and what comes after them
unfoldable pub after_plant : List Kind
after_plant = of_rate ∷ of_device ∷ of_self ∷ of_level ∷ of_room ∷ of_never ∷ []

unfoldable pub fixed_order : List Kind
fixed_order = of_text ∷ of_devices ∷ of_lists ∷ of_lines ∷ after_plant

-- the first fault in the fixed order, of what a call says of each kind of cause
unfoldable pub in_order : (Kind → Refusal) → Refusal
in_order says = first_of (map says fixed_order)

-- "A call gives only those that concern its inputs.": it says nothing, and beside what it says already r of one kind
unfoldable pub nothing : Kind → Refusal
nothing k = done

unfoldable pub about : Kind → Refusal → (Kind → Refusal) → Kind → Refusal
about kind r says k = cond (eqb k kind) r (says k)

-- what every call on a plant says
unfoldable pub plant_says : ℕ → List ℕ → List ℕ → List ℕ → Kind → Refusal
plant_says n xs ys zs =
    about of_devices (devices_fault n)
    (about of_lists (lists_fault (length xs) (length ys) (length zs)) (about of_lines (lines_fault n xs ys zs) nothing))

-- what the check of a plant answers
unfoldable pub plant_fault : ℕ → List ℕ → List ℕ → List ℕ → Refusal
plant_fault n xs ys zs = in_order (plant_says n xs ys zs)
