-- `cut::plant::Plant::new` meets its contract: a plant without a fault is accepted.
-- Assumes nothing.
use Rattle.std.proofs.Common.{refl}
use Rattle.rules.proofs.RefusalLaws.{plant-accepted}
use Rattle.cut.proofs.plant.Plant.new.Goals as goal

pub invariant_of-result : goal.invariant_of-result
invariant_of-result c = record { accepted = plant-accepted _ _ _ _ _ c.in_ok-check_plant.ensures refl }
