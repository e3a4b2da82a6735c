-- `text::listing::put_group` meets its contract: four words are written one after the other.
-- Assumes nothing.
use Prim.Native.Nat.{ℕ, suc, ◌-◌}
use mathlib.Core.Path.{◌≡◌}
use mathlib.Core.List.{List, [], ◌∷◌, append-nil}
use Rattle.text.specs.declared.write.Writer.{Writer}
use Rattle.text.specs.Writer.{HasRoom}
use Rattle.text.specs.Numbers.{digits}
use Rattle.text.specs.Lines.{newline, field_text}
use Rattle.text.specs.Listing.{group_key, colon, others_text, group_text}
use Rattle.text.proofs.ListingLaws.{joined, Left, left-start, left-room, left-then, left-none}
use Rattle.text.proofs.listing.put_group.Goals as goal

-- a field with no key and no end is the number
bare : (v : ℕ) → field_text [] [] v ≡ digits v
unfolding field_text
bare v = append-nil (digits v)

none : (old : Writer) (n : ℕ) (level : List ℕ) (h : ℕ) → HasRoom old (group_text n level h)
    → Left old (group_text n level h) (field_text group_key colon h ∷ field_text [] [] h ∷ others_text level h (suc h) (n - suc h) ∷ newline ∷ []) old
unfolding group_text joined
none old n level h room =
    rw (bare h) (left-start old (field_text group_key colon h ∷ digits h ∷ others_text level h (suc h) (n - suc h) ∷ newline ∷ []) room)

pub put_field-requires : goal.put_field-requires
put_field-requires c = left-room (none c.args.out.now _ c.args.level.now c.args.h c.requires.room)

pub put_field-requires-2 : goal.put_field-requires-2
put_field-requires-2 c = left-room (left-then (none c.args.out.now _ c.args.level.now c.args.h c.requires.room) c.put_field.ensures)

pub put_others-requires-clause-room : goal.put_others-requires-clause-room
put_others-requires-clause-room c = left-room (left-then (left-then (none c.args.out.now _ c.args.level.now c.args.h c.requires.room) c.put_field.ensures) c.put_field-2.ensures)

pub put-requires : goal.put-requires
put-requires c = left-room (left-then (left-then (left-then (none c.args.out.now _ c.args.level.now c.args.h c.requires.room) c.put_field.ensures) c.put_field-2.ensures) c.put_others.ensures)

pub returns : goal.returns
returns c = left-none (left-then (left-then (left-then (left-then (none c.args.out.now _ c.args.level.now c.args.h c.requires.room) c.put_field.ensures) c.put_field-2.ensures) c.put_others.ensures) c.put.ensures)
