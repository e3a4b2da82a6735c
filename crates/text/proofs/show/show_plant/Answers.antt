-- `text::show::show_plant` meets its contract: the lists have room for every plant, so the hierarchy call is not refused, and what it fills is listed.
-- Assumes nothing.
-- a list of so many zeros has so many
use Rattle.std.proofs.Common.{arith}
use Rattle.rules.proofs.FaultLaws.{fault-some}
use Rattle.text.proofs.Wrote.{front-room, wrote-front}
use Rattle.text.proofs.ShownCalls.{plant-listed, plant-rooms, plant-fits, plant-shown}
use Rattle.text.proofs.show.show_plant.Goals as goal

pub invariant_of-levels : goal.invariant_of-levels
invariant_of-levels c =
    let rooms = plant-rooms _ _ _ _ c.args.plant.now.accepted (omega arith) (omega arith) (omega arith) c.in-Ok.ensures in
    record { labelled = rooms.2; rated = (rooms.3, rooms.4) }

pub put_listing-requires : goal.put_listing-requires
put_listing-requires c =
    front-room c.new-out.result _ c.new-out.ensures.1 c.new-out.ensures.2
    (plant-fits _ _ _ _ c.args.plant.now.accepted (omega arith) (omega arith) (omega arith) c.in-Ok.ensures c.requires)

pub returns : goal.returns
returns c =
    plant-shown _ _ _ _ c.args.plant.now.accepted (omega arith) (omega arith) (omega arith) c.in-Ok.ensures
    (omega (arith, c.put_listing.ensures.at, c.new-out.ensures.2), search (wrote-front c.put_listing.ensures c.new-out.ensures))

pub unreachable-requires : goal.unreachable-requires
unreachable-requires c = fault-some c.in_default.field-0 (plant-listed _ _ _ _ c.args.plant.now.accepted (omega arith) (omega arith) (omega arith) c.in_default.ensures)
