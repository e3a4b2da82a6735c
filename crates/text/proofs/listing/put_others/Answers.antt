-- `text::listing::put_others` meets its contract: a turn of the loop writes device v behind those before it, where it is of the group.
-- Assumes nothing.
use Prim.Native.Nat.{suc, ◌-◌}
use native.Mathlib.Numerals.{add-one}
use mathlib.Core.Path.{refl}
use lib.ListN.{length}
use Rattle.text.specs.Listing.{others_text}
use Rattle.text.proofs.ListingLaws.{pieces-start, pieces-all, pieces_room, pieces_more, pieces_none, piece-taken, piece-left}
use Rattle.text.proofs.listing.put_others.Invariants.{piece}
use Rattle.text.proofs.listing.put_others.Goals as goal
use Rattle.text.proofs.listing.put_others.Goals.{then-level-v, else-level-v}

pub loop-v-init : goal.loop-v-init
unfolding others_text
loop-v-init c =
    let whole = others_text c.args.level.now c.args.h (suc c.args.h) (length c.args.level.now - suc c.args.h) in
    pieces-start (piece c.args.level.now c.args.h) (length c.args.level.now) whole c.args.out.now c.requires.room _ (rw add-one refl)

pub put_field-requires : goal.put_field-requires
put_field-requires c = pieces_room c.requires.room c.loop-v.invariant c.loop-v-test.true (piece-taken _ _ c.if-level-v.true)

pub loop-v-preserved : goal.loop-v-preserved
loop-v-preserved c =
    elim c.if-level-v.branch [
      | then-level-v w ↦
          rw w.out-is
          (pieces_more c.requires.room c.loop-v.invariant c.loop-v-test.true (piece-taken _ _ w.if-level-v.true) w.put_field.ensures)
      | else-level-v w ↦
          rw w.out-is
          (pieces_none c.requires.room c.loop-v.invariant c.loop-v-test.true (piece-left _ _ _ w.if-level-v.false))
    ]

pub returns : goal.returns
returns c = pieces-all c.requires.room c.loop-v.invariant c.loop-v-test.false
