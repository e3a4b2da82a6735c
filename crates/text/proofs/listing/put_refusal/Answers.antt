-- `text::listing::put_refusal` meets its contract: two fields are written one after the other.
-- Assumes nothing.
use Prim.Native.Nat.{ℕ}
use mathlib.Core.List.{[], ◌∷◌}
use Rattle.rules.specs.Faults.{refusal_of}
use Rattle.text.specs.declared.write.Writer.{Writer}
use Rattle.text.specs.Writer.{HasRoom}
use Rattle.text.specs.Lines.{newline, field_text}
use Rattle.text.specs.Listing.{refused_key, at_key, refused_text}
use Rattle.text.proofs.ListingLaws.{joined, Left, left-start, left-room, left-then, left-none}
use Rattle.text.proofs.listing.put_refusal.Goals as goal

none : (old : Writer) (number place : ℕ) → HasRoom old (refused_text number place)
    → Left old (refused_text number place) (field_text refused_key newline number ∷ field_text at_key newline place ∷ []) old
unfolding refused_text joined
none old number place room = left-start old (field_text refused_key newline number ∷ field_text at_key newline place ∷ []) room

pub put_field-requires : goal.put_field-requires
put_field-requires c = rw c.number.ensures (left-room (none c.args.out.now (refusal_of c.args.fault).number (refusal_of c.args.fault).place c.requires))

pub put_field-requires-2 : goal.put_field-requires-2
put_field-requires-2 c =
    rw c.place.ensures
    (left-room (left-then (none c.args.out.now (refusal_of c.args.fault).number (refusal_of c.args.fault).place c.requires) (rw c.number.ensures at c.put_field.ensures)))

pub returns : goal.returns
returns c =
    left-none
    (left-then (left-then (none c.args.out.now (refusal_of c.args.fault).number (refusal_of c.args.fault).place c.requires) (rw c.number.ensures at c.put_field.ensures))
    (rw c.place.ensures at c.put_field-2.ensures))
