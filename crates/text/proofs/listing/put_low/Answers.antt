-- `text::listing::put_low` meets its contract: the numbers of the low rate are written one after the other, or the line that says that there is none.
-- Assumes nothing.
use mathlib.Core.List.{[], ◌∷◌}
use Rattle.std.specs.Prelude.{Some}
use Rattle.cut.specs.declared.rate.Rate.{Rate}
use Rattle.text.specs.declared.write.Writer.{Writer}
use Rattle.text.specs.Lines.{newline, field_text}
use Rattle.text.specs.Listing.{low_key, slash}
use Rattle.text.specs.Writer.{HasRoom}
use Rattle.text.specs.Levels.{low_line}
use Rattle.text.proofs.ListingLaws.{joined, Left, left-start, left-room, left-then, left-none}
use Rattle.text.proofs.listing.put_low.Goals as goal

none : (old : Writer) (r : Rate) → HasRoom old (low_line (Some r)) → Left old (low_line (Some r)) (field_text low_key slash r.p ∷ field_text [] newline r.q ∷ []) old
unfolding low_line joined
none old r room = left-start old (field_text low_key slash r.p ∷ field_text [] newline r.q ∷ []) room

pub put_field-requires : goal.put_field-requires
put_field-requires c = left-room (none c.args.out.now c.in-Some.rate (rw c.in-Some.is at c.requires))

pub put_field-requires-in-Some : goal.put_field-requires-in-Some
put_field-requires-in-Some c = left-room (left-then (none c.args.out.now c.in-Some.rate (rw c.in-Some.is at c.requires)) c.put_field.ensures)

pub returns-in-Some : goal.returns-in-Some
returns-in-Some c =
    rw c.in-Some.is
    (left-none (left-then (left-then (none c.args.out.now c.in-Some.rate (rw c.in-Some.is at c.requires)) c.put_field.ensures) c.put_field-in-Some.ensures))

pub put-requires : goal.put-requires
unfolding low_line
put-requires c = rw c.in-None.is at c.requires

pub returns-in-None : goal.returns-in-None
unfolding low_line
returns-in-None c = rw c.in-None.is c.put.ensures
