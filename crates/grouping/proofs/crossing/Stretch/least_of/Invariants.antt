-- `grouping::crossing::Stretch::least_of` meets its contract. The loop's invariant: the least rate of the devices below v. Assumes nothing.
use Rattle.std.proofs.Common.{◌≤◌}
use Rattle.cut.specs.Stated.{stated}
use Rattle.grouping.specs.Stretch.{LeastOf}
use Rattle.grouping.proofs.crossing.Stretch.least_of.Given as goal

abbrev pub invariant-loop-v : goal.invariant-loop-v
invariant-loop-v l =
    (l.v ≤ l.self.plant.now.devices) × LeastOf (stated l.self.plant.now) l.self.finer.now.labels l.self.coarser.now.labels l.rates l.v l.least.p l.least.q
