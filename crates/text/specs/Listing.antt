-- Document 01, "Plant text and listing": what the hierarchy program prints of a hierarchy, and after a refusal.
-- Assumes nothing.
use Rattle.std.specs.Prelude.{ℕ, zero, suc, ◌-◌, Bool, cond, List, [], ◌∷◌, ◌++◌, ltb, eqb, get_or}
use Rattle.text.specs.Numbers.{digits}
use Rattle.text.specs.Lines.{devices_key, newline, comma, field_text}

-- hierarchy=1 and a newline
abbrev pub hierarchy_line : List ℕ
hierarchy_line = 104 ∷ 105 ∷ 101 ∷ 114 ∷ 97 ∷ 114 ∷ 99 ∷ 104 ∷ 121 ∷ 61 ∷ 49 ∷ 10 ∷ []

-- levels=
abbrev pub levels_key : List ℕ
levels_key = 108 ∷ 101 ∷ 118 ∷ 101 ∷ 108 ∷ 115 ∷ 61 ∷ []

-- level=
abbrev pub level_key : List ℕ
level_key = 108 ∷ 101 ∷ 118 ∷ 101 ∷ 108 ∷ 61 ∷ []

-- low=
abbrev pub low_key : List ℕ
low_key = 108 ∷ 111 ∷ 119 ∷ 61 ∷ []

-- low=none and a newline
abbrev pub no_low_line : List ℕ
no_low_line = 108 ∷ 111 ∷ 119 ∷ 61 ∷ 110 ∷ 111 ∷ 110 ∷ 101 ∷ 10 ∷ []

-- groups=
abbrev pub groups_key : List ℕ
groups_key = 103 ∷ 114 ∷ 111 ∷ 117 ∷ 112 ∷ 115 ∷ 61 ∷ []

-- group=
abbrev pub group_key : List ℕ
group_key = 103 ∷ 114 ∷ 111 ∷ 117 ∷ 112 ∷ 61 ∷ []

-- end=hierarchy and a newline
abbrev pub end_listing : List ℕ
end_listing = 101 ∷ 110 ∷ 100 ∷ 61 ∷ 104 ∷ 105 ∷ 101 ∷ 114 ∷ 97 ∷ 114 ∷ 99 ∷ 104 ∷ 121 ∷ 10 ∷ []

-- refused=
abbrev pub refused_key : List ℕ
refused_key = 114 ∷ 101 ∷ 102 ∷ 117 ∷ 115 ∷ 101 ∷ 100 ∷ 61 ∷ []

-- at=
abbrev pub at_key : List ℕ
at_key = 97 ∷ 116 ∷ 61 ∷ []

-- between the numbers of a low rate
abbrev pub slash : List ℕ
slash = 47 ∷ []

-- after the head of a group row
abbrev pub colon : List ℕ
colon = 58 ∷ []

-- the k pieces from i on, one after the other
unfoldable pub pieces : (ℕ → List ℕ) → ℕ → ℕ → List ℕ
pieces piece i zero = []
pieces piece i (suc k) = piece i ++ pieces piece (suc i) k

-- the devices of the group with head h among the k devices from v on, rising, each behind a comma
unfoldable pub others_text : List ℕ → ℕ → ℕ → ℕ → List ℕ
others_text level h v k = pieces (λ (i : ℕ). cond (eqb (get_or level i 0) h) (field_text comma [] i) []) v k

-- "In a group row the number before the colon is the head, the lowest device of the group; then come its devices, rising.": the head, and the devices after it
unfoldable pub group_text : ℕ → List ℕ → ℕ → List ℕ
group_text n level h = field_text group_key colon h ++ digits h ++ others_text level h (suc h) (n - suc h) ++ newline

-- "Groups rise by head.": of the k devices from h on, those that are their own label
unfoldable pub groups_text : ℕ → List ℕ → ℕ → ℕ → List ℕ
groups_text n level h k = pieces (λ (i : ℕ). cond (eqb (get_or level i 0) i) (group_text n level i) []) h k

-- "groups the number of groups": how many of the k devices from h on are their own label
unfoldable pub head_count : List ℕ → ℕ → ℕ → ℕ
head_count level h zero = 0
head_count level h (suc k) = cond (eqb (get_or level h 0) h) (suc (head_count level (suc h) k)) (head_count level (suc h) k)

-- "low its low rate", and none for the last level
unfoldable pub low_text : Bool → ℕ → ℕ → List ℕ
low_text has p q = cond has (field_text low_key slash p ++ field_text [] newline q) no_low_line

-- "Then level is the level number, low its low rate, groups the number of groups.": level i, of which `has` says whether it has a low rate, p/q
unfoldable pub level_text : ℕ → ℕ → List ℕ → Bool → ℕ → ℕ → List ℕ
level_text n i level has p q =
    field_text level_key newline i ++ low_text has p q ++ field_text groups_key newline (head_count level 0 n) ++ groups_text n level 0 n

-- the k levels from i on, of count levels: each but the last has a low rate
unfoldable pub levels_text : ℕ → ℕ → (ℕ → List ℕ) → (ℕ → ℕ) → (ℕ → ℕ) → ℕ → ℕ → List ℕ
levels_text n count level low_ps low_qs i k = pieces (λ (j : ℕ). level_text n j (level j) (ltb (suc j) count) (low_ps j) (low_qs j)) i k

-- "hierarchy=1 is the listing's edition, devices is n, levels the number of levels."
unfoldable pub listing : ℕ → ℕ → (ℕ → List ℕ) → (ℕ → ℕ) → (ℕ → ℕ) → List ℕ
listing n count level low_ps low_qs =
    hierarchy_line
    ++ field_text devices_key newline n
    ++ field_text levels_key newline count
    ++ levels_text n count level low_ps low_qs 0 count
    ++ end_listing

-- "After a refusal it prints two lines, refused= and at=, with number and place."
unfoldable pub refused_text : ℕ → ℕ → List ℕ
refused_text number place = field_text refused_key newline number ++ field_text at_key newline place
