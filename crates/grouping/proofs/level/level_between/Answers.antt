-- `grouping::level::level_between` meets its contract: the owners of the finer level are enough to search. Assumes nothing.
use Rattle.grouping.proofs.FaultLaws.{clear-at}
use Rattle.grouping.proofs.CallLaws.{found-devices, found-level}
use Rattle.grouping.proofs.level.level_between.Goals as goal

pub level_of-requires : goal.level_of-requires
level_of-requires c =
    let ok = clear-at c.args.plant.now c.args.rate in
    (c.args.plant.now.accepted.most_devices, found-devices _ _ _ _ _ _ ok c.owners_between-between.ensures)

pub returns : goal.returns
returns c =
    found-level _ _ _ _ _ _ (clear-at c.args.plant.now c.args.rate) c.owners_between-between.ensures c.level_of.ensures
