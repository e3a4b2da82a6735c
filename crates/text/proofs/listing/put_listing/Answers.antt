-- `text::listing::put_listing` meets its contract: five words are written one after the other.
-- Assumes nothing.
use mathlib.Core.List.{[], ◌∷◌}
use Rattle.text.specs.declared.write.Writer.{Writer}
use Rattle.text.specs.Writer.{HasRoom}
use Rattle.text.specs.declared.levels.Levels.{Levels}
use Rattle.text.specs.Lines.{devices_key, newline, field_text}
use Rattle.text.specs.Listing.{hierarchy_line, levels_key, end_listing, listing}
use Rattle.text.specs.Levels.{levels_of, listing_of}
use Rattle.text.proofs.ListingLaws.{joined, Left, left-start, left-room, left-then, left-none}
use Rattle.text.proofs.listing.put_listing.Goals as goal

none : (old : Writer) (s : Levels) → HasRoom old (listing_of s)
    → Left old (listing_of s) (hierarchy_line ∷ field_text devices_key newline s.n ∷ field_text levels_key newline s.count ∷ levels_of s ∷ end_listing ∷ []) old
unfolding listing joined
none old s room = left-start old (hierarchy_line ∷ field_text devices_key newline s.n ∷ field_text levels_key newline s.count ∷ levels_of s ∷ end_listing ∷ []) room

pub put-requires : goal.put-requires
put-requires c = left-room (none c.args.out.now c.args.levels.now c.requires)

pub put_field-requires : goal.put_field-requires
put_field-requires c = left-room (left-then (none c.args.out.now c.args.levels.now c.requires) c.put.ensures)

pub put_field-requires-2 : goal.put_field-requires-2
put_field-requires-2 c = left-room (left-then (left-then (none c.args.out.now c.args.levels.now c.requires) c.put.ensures) c.put_field.ensures)

pub put_levels-requires : goal.put_levels-requires
put_levels-requires c = left-room (left-then (left-then (left-then (none c.args.out.now c.args.levels.now c.requires) c.put.ensures) c.put_field.ensures) c.put_field-2.ensures)

pub put-requires-2 : goal.put-requires-2
put-requires-2 c = left-room (left-then (left-then (left-then (left-then (none c.args.out.now c.args.levels.now c.requires) c.put.ensures) c.put_field.ensures) c.put_field-2.ensures) c.put_levels.ensures)

pub returns : goal.returns
returns c = left-none (left-then (left-then (left-then (left-then (left-then (none c.args.out.now c.args.levels.now c.requires) c.put.ensures) c.put_field.ensures) c.put_field-2.ensures) c.put_levels.ensures) c.put-2.ensures)
