-- `grouping::crossing::Stretch::greatest` meets its contract. The loop's invariant: for each label the greatest rate of the devices below v. Assumes nothing.
use Rattle.std.proofs.Common.{◌≤◌}
use Rattle.cut.specs.Stated.{stated}
use Rattle.grouping.proofs.BestLaws.{Bests}
use Rattle.grouping.proofs.crossing.Stretch.greatest.Given as goal

abbrev pub invariant-loop-v : goal.invariant-loop-v
invariant-loop-v l =
    (l.v ≤ l.self.plant.now.devices) × Bests (stated l.self.plant.now) l.self.finer.now.labels l.self.coarser.now.labels l.best l.v
