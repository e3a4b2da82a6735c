-- `text::listing::put_groups` meets its contract: a turn of the loop writes the row of the group with head h behind those before it, where h is a head.
-- Assumes nothing.
use lib.ListN.{length}
use Rattle.text.specs.Listing.{groups_text}
use Rattle.text.proofs.ListingLaws.{pieces-from-0, pieces-all, pieces_room, pieces_more, pieces_none, piece-taken, piece-left}
use Rattle.text.proofs.listing.put_groups.Invariants.{piece}
use Rattle.text.proofs.listing.put_groups.Goals as goal
use Rattle.text.proofs.listing.put_groups.Goals.{then-label-h, else-label-h}

pub loop-h-init : goal.loop-h-init
unfolding groups_text
loop-h-init c = pieces-from-0 (piece c.args.level.now) (length c.args.level.now) c.args.out.now c.requires

pub put_group-requires-clause-room : goal.put_group-requires-clause-room
put_group-requires-clause-room c = pieces_room c.requires c.loop-h.invariant c.loop-h-test.true (piece-taken _ _ c.if-label-h.true)

pub loop-h-preserved : goal.loop-h-preserved
loop-h-preserved c =
    elim c.if-label-h.branch [
      | then-label-h w ↦
          rw w.out-is
          (pieces_more c.requires c.loop-h.invariant c.loop-h-test.true (piece-taken _ _ w.if-label-h.true) w.put_group.ensures)
      | else-label-h w ↦
          rw w.out-is
          (pieces_none c.requires c.loop-h.invariant c.loop-h-test.true (piece-left _ _ _ w.if-label-h.false))
    ]

pub returns : goal.returns
returns c = pieces-all c.requires c.loop-h.invariant c.loop-h-test.false
