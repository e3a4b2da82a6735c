-- `text::write::Writer::put_field` meets its contract: the key, the digits and the end are written one after the other.
-- Assumes nothing.
use mathlib.Core.List.{List, [], ◌∷◌}
use Prim.Native.Nat.{ℕ}
use Rattle.text.specs.declared.write.Writer.{Writer}
use Rattle.text.specs.Numbers.{digits}
use Rattle.text.specs.Lines.{field_text}
use Rattle.text.specs.Writer.{HasRoom}
use Rattle.text.proofs.Wrote.{writes_as, digits-part}
use Rattle.text.proofs.ListingLaws.{joined, Left, left-start, left-room, left-then, left-none}
use Rattle.text.proofs.write.Writer.put_field.Goals as goal
use Rattle.text.proofs.write.Writer.put_field.Goals.{After-decimals-start, After-put, After-put-2}

none : (old : Writer) (key stop : List ℕ) (v : ℕ) → HasRoom old (field_text key stop v) → Left old (field_text key stop v) (key ∷ digits v ∷ stop ∷ []) old
unfolding field_text joined
none old key stop v room = left-start old (key ∷ digits v ∷ stop ∷ []) room

pub put-requires : goal.put-requires
put-requires c = left-room (none c.args.self.now c.args.key.now c.args.stop.now c.args.v c.requires)

pub put-requires-2 : goal.put-requires-2
put-requires-2 c =
    rw (digits-part c.decimals-start.new.d c.decimals-start.result c.args.v c.decimals-start.ensures)
    (left-room (left-then (none c.args.self.now c.args.key.now c.args.stop.now c.args.v c.requires) c.put.ensures))

pub put-requires-3 : goal.put-requires-3
put-requires-3 c =
    let number = writes_as (digits-part c.decimals-start.new.d c.decimals-start.result c.args.v c.decimals-start.ensures) c.put-2.ensures in
    left-room (left-then (left-then (none c.args.self.now c.args.key.now c.args.stop.now c.args.v c.requires) c.put.ensures) number)

pub returns : goal.returns
returns c =
    let number = writes_as (digits-part c.decimals-start.new.d c.decimals-start.result c.args.v c.decimals-start.ensures) c.put-2.ensures in
    left-none (left-then (left-then (left-then (none c.args.self.now c.args.key.now c.args.stop.now c.args.v c.requires) c.put.ensures) number) c.put-3.ensures)
