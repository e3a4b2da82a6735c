-- `text::write::put_row` meets its contract: three fields are written one after the other.
-- Assumes nothing.
use Prim.Native.Nat.{ℕ}
use mathlib.Core.List.{[], ◌∷◌}
use Rattle.text.specs.declared.write.Writer.{Writer}
use Rattle.text.specs.Lines.{line_key, comma, newline, field_text, row_text}
use Rattle.text.specs.Writer.{HasRoom}
use Rattle.text.proofs.ListingLaws.{joined, Left, left-start, left-room, left-then, left-none}
use Rattle.text.proofs.write.put_row.Goals as goal

none : (old : Writer) (a b s : ℕ) → HasRoom old (row_text a b s)
    → Left old (row_text a b s) (field_text line_key comma a ∷ field_text [] comma b ∷ field_text [] newline s ∷ []) old
unfolding row_text joined
none old a b s room = left-start old (field_text line_key comma a ∷ field_text [] comma b ∷ field_text [] newline s ∷ []) room

pub put_field-requires : goal.put_field-requires
put_field-requires c = left-room (none c.args.out.now c.args.a c.args.b c.args.s c.requires)

pub put_field-requires-2 : goal.put_field-requires-2
put_field-requires-2 c = left-room (left-then (none c.args.out.now c.args.a c.args.b c.args.s c.requires) c.put_field.ensures)

pub put_field-requires-3 : goal.put_field-requires-3
put_field-requires-3 c =
    left-room (left-then (left-then (none c.args.out.now c.args.a c.args.b c.args.s c.requires) c.put_field.ensures) c.put_field-2.ensures)

pub returns : goal.returns
returns c =
    let two = left-then (left-then (none c.args.out.now c.args.a c.args.b c.args.s c.requires) c.put_field.ensures) c.put_field-2.ensures in
    left-none (left-then two c.put_field-3.ensures)
