-- `text::listing::put_groups` meets its contract. The loop's invariant is `Pieces`: the groups with heads before h are written.
-- Assumes nothing.
use Prim.Native.Nat.{ℕ}
use mathlib.Core.Bool.{cond}
use mathlib.Core.List.{List, []}
use lib.Dec.{eqb}
use lib.ListN.{length, get_or}
use Rattle.text.specs.Listing.{group_text, groups_text}
use Rattle.text.proofs.ListingLaws.{Pieces}
use Rattle.text.proofs.listing.put_groups.Given as goal

-- what is written of device i
abbrev pub piece : List ℕ → ℕ → List ℕ
piece level i = cond (eqb (get_or level i 0) i) (group_text (length level) level i) []

abbrev pub invariant-loop-h : goal.invariant-loop-h
invariant-loop-h l = Pieces (piece l.level) (length l.level) (groups_text (length l.level) l.level 0 (length l.level)) l.initial.out l.out l.h
