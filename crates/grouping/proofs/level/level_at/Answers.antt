-- `grouping::level::level_at` meets its contract: every device is gone through. Assumes nothing.
use Rattle.grouping.proofs.FaultLaws.{clear-at}
use Rattle.grouping.proofs.CallLaws.{at-swept, found-devices, found-level}
use Rattle.grouping.proofs.level.level_at.Goals as goal

pub level_of-requires : goal.level_of-requires
level_of-requires c =
    let ok = clear-at c.args.plant.now c.args.rate in
    (c.args.plant.now.accepted.most_devices, found-devices _ _ _ _ _ _ ok (at-swept _ _ _ _ _ _ ok _ c.owners_at.ensures))

pub returns : goal.returns
returns c =
    let ok = clear-at c.args.plant.now c.args.rate in
    found-level _ _ _ _ _ _ ok (at-swept _ _ _ _ _ _ ok _ c.owners_at.ensures) c.level_of.ensures
