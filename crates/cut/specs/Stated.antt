-- The plant that an accepted plant's number and lists state.
-- Assumes nothing.
use Rattle.rules.specs.Plant.{Plant, plant_of}
use Rattle.cut.specs.declared.plant.Plant as lists

abbrev pub stated : lists.Plant → Plant
stated g = plant_of g.devices g.firsts.now g.seconds.now g.signals.now
