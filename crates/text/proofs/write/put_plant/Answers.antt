-- `text::write::put_plant` meets its contract: the five parts of the text are written one after the other.
-- Assumes nothing.
use Prim.Native.Nat.{ℕ}
use mathlib.Core.List.{List, [], ◌∷◌}
use lib.ListN.{length}
use Rattle.text.specs.declared.write.Writer.{Writer}
use Rattle.text.specs.Writer.{HasRoom}
use Rattle.text.specs.Lines.{plant_line, devices_key, lines_key, end_line, newline, field_text}
use Rattle.text.specs.Form.{rows_text, plant_text}
use Rattle.text.proofs.ListingLaws.{joined, Left, left-start, left-room, left-then, left-none}
use Rattle.text.proofs.write.put_plant.Goals as goal

none : (old : Writer) (n : ℕ) (xs ys zs : List ℕ) → HasRoom old (plant_text n xs ys zs)
    → Left old (plant_text n xs ys zs) (plant_line ∷ field_text devices_key newline n ∷ field_text lines_key newline (length xs) ∷ rows_text xs ys zs ∷ end_line ∷ []) old
unfolding plant_text joined
none old n xs ys zs room =
    left-start old (plant_line ∷ field_text devices_key newline n ∷ field_text lines_key newline (length xs) ∷ rows_text xs ys zs ∷ end_line ∷ []) room

pub put-requires : goal.put-requires
put-requires c = left-room (none c.args.out.now c.args.plant.now.devices c.args.plant.now.firsts.now c.args.plant.now.seconds.now c.args.plant.now.signals.now c.requires)

pub put_field-requires : goal.put_field-requires
put_field-requires c = left-room (left-then (none c.args.out.now c.args.plant.now.devices c.args.plant.now.firsts.now c.args.plant.now.seconds.now c.args.plant.now.signals.now c.requires) c.put.ensures)

pub put_field-requires-2 : goal.put_field-requires-2
put_field-requires-2 c = left-room (left-then (left-then (none c.args.out.now c.args.plant.now.devices c.args.plant.now.firsts.now c.args.plant.now.seconds.now c.args.plant.now.signals.now c.requires) c.put.ensures) c.put_field.ensures)

pub put_rows-requires : goal.put_rows-requires
put_rows-requires c = left-room (left-then (left-then (left-then (none c.args.out.now c.args.plant.now.devices c.args.plant.now.firsts.now c.args.plant.now.seconds.now c.args.plant.now.signals.now c.requires) c.put.ensures) c.put_field.ensures) c.put_field-2.ensures)

pub put-requires-2 : goal.put-requires-2
put-requires-2 c = left-room (left-then (left-then (left-then (left-then (none c.args.out.now c.args.plant.now.devices c.args.plant.now.firsts.now c.args.plant.now.seconds.now c.args.plant.now.signals.now c.requires) c.put.ensures) c.put_field.ensures) c.put_field-2.ensures) c.put_rows.ensures)

pub returns : goal.returns
returns c = left-none (left-then (left-then (left-then (left-then (left-then (none c.args.out.now c.args.plant.now.devices c.args.plant.now.firsts.now c.args.plant.now.seconds.now c.args.plant.now.signals.now c.requires) c.put.ensures) c.put_field.ensures) c.put_field-2.ensures) c.put_rows.ensures) c.put-2.ensures)
