-- `grouping::joining::join_between` meets its contract: a turn of the loop finds the level between the two, which ends the search or comes
-- in the place of one of them. Assumes nothing.
use Rattle.std.proofs.Common.{◌<◌}
use Rattle.rules.specs.Plant.{plant_of}
use Rattle.rules.proofs.RefusalLaws.{accepted-sound}
use Rattle.grouping.proofs.FitLaws.{gap-lower, gap-upper}
use Rattle.grouping.proofs.JoinCalls.{turn-between, turn_last, turn-fewer, turn-upper, turn-lower}
use Rattle.grouping.proofs.joining.join_between.Goals as goal
use Rattle.grouping.proofs.joining.join_between.Goals.{Else-middle-finer}

pub level_between-middle-requires : goal.level_between-middle-requires
level_between-middle-requires c =
    turn-between c.loop-finer.invariant (accepted-sound _ _ _ _ c.args.plant.now.accepted) c.crossing-rate.ensures

pub returns-then-middle-finer : goal.returns-then-middle-finer
unfolding plant_of
returns-then-middle-finer c =
    rw (c.from.ensures.0, c.from.ensures.1)
    (turn_last c.loop-finer.invariant (accepted-sound _ _ _ _ c.args.plant.now.accepted) c.crossing-rate.ensures
    c.level_between-middle.ensures c.requires.devices.0 c.requires.devices.1 c.if-middle-finer.true)

-- the middle level has fewer groups than the finer and more than the coarser
fewer : (c : Else-middle-finer) → (c.loop-finer.coarser.groups < c.level_between-middle.result.groups) × (c.level_between-middle.result.groups < c.loop-finer.finer.groups)
fewer c =
    turn-fewer c.loop-finer.invariant (accepted-sound _ _ _ _ c.args.plant.now.accepted) c.crossing-rate.ensures
    c.level_between-middle.ensures c.if-middle-finer.false

pub loop-finer-smaller-then-middle-one : goal.loop-finer-smaller-then-middle-one
loop-finer-smaller-then-middle-one c = gap-upper (fewer (goal.at.loop-finer-smaller-then-middle-one c).Else-middle-finer)

pub loop-finer-preserved-then-middle-one : goal.loop-finer-preserved-then-middle-one
loop-finer-preserved-then-middle-one c =
    turn-upper c.loop-finer.invariant (accepted-sound _ _ _ _ c.args.plant.now.accepted) c.crossing-rate.ensures
    c.level_between-middle.ensures c.if-middle-finer.false c.if-middle-one.true

pub loop-finer-smaller : goal.loop-finer-smaller
loop-finer-smaller c = gap-lower (fewer (goal.at.loop-finer-smaller c).Else-middle-finer)

pub loop-finer-preserved : goal.loop-finer-preserved
loop-finer-preserved c =
    turn-lower c.loop-finer.invariant (accepted-sound _ _ _ _ c.args.plant.now.accepted) c.crossing-rate.ensures
    c.level_between-middle.ensures c.if-middle-finer.false c.if-middle-one.false
