-- `text::listing::put_others` meets its contract. The loop's invariant is `Pieces`: the devices before v are written.
-- Assumes nothing.
use Prim.Native.Nat.{ℕ, suc, ◌-◌}
use mathlib.Core.Bool.{cond}
use mathlib.Core.List.{List, []}
use lib.Dec.{eqb}
use lib.ListN.{length, get_or}
use Rattle.text.specs.Lines.{comma, field_text}
use Rattle.text.specs.Listing.{others_text}
use Rattle.text.proofs.ListingLaws.{Pieces}
use Rattle.text.proofs.listing.put_others.Given as goal

-- what is written of device i
abbrev pub piece : List ℕ → ℕ → ℕ → List ℕ
piece level h i = cond (eqb (get_or level i 0) h) (field_text comma [] i) []

abbrev pub invariant-loop-v : goal.invariant-loop-v
invariant-loop-v l =
    Pieces (piece l.level l.h) (length l.level) (others_text l.level l.h (suc l.h) (length l.level - suc l.h)) l.initial.out l.out l.v
