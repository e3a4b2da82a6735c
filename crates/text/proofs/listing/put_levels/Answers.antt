-- `text::listing::put_levels` meets its contract: each turn of the loop writes level i behind those before it.
-- Assumes nothing.
use mathlib.Core.Path.{refl}
use Rattle.text.specs.Listing.{levels_text}
use Rattle.text.specs.Levels.{level_of}
use Rattle.text.proofs.ListingLaws.{pieces-from-0, pieces-all, pieces_room, pieces_more}
use Rattle.text.proofs.listing.put_levels.Goals as goal

pub loop-i-init : goal.loop-i-init
unfolding levels_text
loop-i-init c = pieces-from-0 (level_of c.args.levels.now) c.args.levels.now.count c.args.out.now c.requires

pub put_level-requires-clause-room : goal.put_level-requires-clause-room
put_level-requires-clause-room c = pieces_room c.requires c.loop-i.invariant c.loop-i-test.true refl

pub loop-i-preserved : goal.loop-i-preserved
loop-i-preserved c = pieces_more c.requires c.loop-i.invariant c.loop-i-test.true refl c.put_level.ensures

pub returns : goal.returns
returns c = pieces-all c.requires c.loop-i.invariant c.loop-i-test.false
