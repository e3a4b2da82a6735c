-- What is printed of the levels that lists hold: n labels for each, level after level, and the low rate of each. No public contract cites these.
-- Assumes nothing.
use Rattle.std.specs.Prelude.{ℕ, suc, ◌*◌, List, [], ◌++◌, Option, None, Some, ltb, get_or, take, drop}
use Rattle.cut.specs.declared.rate.Rate.{Rate}
use Rattle.text.specs.declared.levels.Levels.{Levels}
use Rattle.text.specs.Lines.{newline, field_text}
use Rattle.text.specs.Listing.{low_key, slash, no_low_line, level_text, levels_text, listing}

-- the line of a low rate, or of none
unfoldable pub low_line : Option Rate → List ℕ
low_line None = no_low_line
low_line (Some r) = field_text low_key slash r.p ++ field_text [] newline r.q

-- the labels of level i
abbrev pub labels_of : Levels → ℕ → List ℕ
labels_of s i = take s.n (drop (i * s.n) s.labels.now)

-- level i
abbrev pub level_of : Levels → ℕ → List ℕ
level_of s i = level_text s.n i (labels_of s i) (ltb (suc i) s.count) (get_or s.low_p.now i 0) (get_or s.low_q.now i 0)

-- all levels
abbrev pub levels_of : Levels → List ℕ
levels_of s = levels_text s.n s.count (labels_of s) (λ (i : ℕ). get_or s.low_p.now i 0) (λ (i : ℕ). get_or s.low_q.now i 0) 0 s.count

-- the listing
abbrev pub listing_of : Levels → List ℕ
listing_of s = listing s.n s.count (labels_of s) (λ (i : ℕ). get_or s.low_p.now i 0) (λ (i : ℕ). get_or s.low_q.now i 0)
