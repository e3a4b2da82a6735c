-- `text::listing::count_heads` meets its contract: a turn of the loop counts device h, where it is a head.
-- Assumes nothing.
use lib.ListN.{length}
use Rattle.text.proofs.ListingLaws.{heads-all, heads-one, heads-none}
use Rattle.text.proofs.listing.count_heads.Goals as goal
use Rattle.text.proofs.listing.count_heads.Goals.{then-label-h, else-label-h}

pub loop-h-preserved : goal.loop-h-preserved
loop-h-preserved c =
    elim c.if-label-h.branch [
      | then-label-h w ↦ rw w.count-is (heads-one c.args.level.now (length c.args.level.now) c.loop-h.invariant c.loop-h-test.true w.if-label-h.true)
      | else-label-h w ↦ rw w.count-is (heads-none c.args.level.now (length c.args.level.now) c.loop-h.invariant c.loop-h-test.true w.if-label-h.false)
    ]

pub returns : goal.returns
returns c = heads-all c.args.level.now (length c.args.level.now) c.loop-h.invariant c.loop-h-test.false
