-- Document 01, "Plant text and listing", on numbers: "A number has 1 to 9 digits and no leading zero, except 0 itself."
-- Assumes nothing.
use Rattle.std.specs.Prelude.{ℕ, zero, suc, ◌+◌, ◌*◌, ◌-◌, ◌/◌, ◌%◌, Bool, true, false, not, ◌&&◌, cond, List, [], ◌∷◌, leb, ltb, eqb, length}

-- what stands at a place, where a number should: whether it is one, its value, and how many bytes it takes
pub record Number : Type 0 where
  pub ok : Bool
  pub value : ℕ
  pub used : ℕ

-- whether a byte is one of the ten digits
unfoldable pub is_digit : ℕ → Bool
is_digit b = leb 48 b && leb b 57

-- the digits from here, at most k of them
unfoldable pub run : ℕ → List ℕ → List ℕ
run zero l = []
run (suc k) [] = []
run (suc k) (b ∷ l) = cond (is_digit b) (b ∷ run k l) []

-- the number that digits state, after digits that state v
unfoldable pub value_of : ℕ → List ℕ → ℕ
value_of v [] = v
value_of v (b ∷ l) = value_of (10 * v + (b - 48)) l

-- no number here
abbrev pub no_number : Number
no_number = record { ok = false; value = 0; used = 0 }

-- "1 to 9 digits and no leading zero, except 0 itself": of the digits ds
unfoldable pub well_formed : List ℕ → Bool
well_formed [] = false
well_formed (b ∷ []) = true
well_formed (b ∷ c ∷ ds) = not (eqb b 48)

-- what the digits ds state, and how many they are
abbrev pub stated : List ℕ → Number
stated ds = record { ok = true; value = value_of 0 ds; used = length ds }

-- the number that the digits ds state, if they are one
unfoldable pub number_from : List ℕ → Number
number_from ds = cond (well_formed ds) (stated ds) no_number

-- the number that stands here: whether there is one, its value, and how many bytes it takes.
-- Where a tenth digit follows, what should come after the number does not.
unfoldable pub number_of : List ℕ → Number
number_of l = number_from (run 9 l)

-- the digits of v, at most k of them, before those of the list
unfoldable pub decimal : ℕ → ℕ → List ℕ → List ℕ
decimal zero v ds = ds
decimal (suc k) v ds = cond (ltb v 10) ((48 + v) ∷ ds) (decimal k (v / 10) ((48 + v % 10) ∷ ds))

-- a number below 1,000,000,000 as a text has it
unfoldable pub digits : ℕ → List ℕ
digits v = decimal 9 v []
