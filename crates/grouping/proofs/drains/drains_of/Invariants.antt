-- `grouping::drains::drains_of` meets its contract. The loop's invariant: each node has its share and what the first l lines add to it. Assumes nothing.
use Rattle.std.proofs.Common.{◌≤◌, length}
use Rattle.grouping.proofs.DrainLaws.{Led}
use Rattle.grouping.proofs.drains.drains_of.Given as goal

abbrev pub invariant-loop-l : goal.invariant-loop-l
invariant-loop-l l =
    (l.l ≤ length l.nodes.plant.now.firsts.now) × Led l.nodes.plant.now.devices l.rate.p l.rate.q l.nodes.plant.now.firsts.now l.nodes.plant.now.seconds.now l.nodes.plant.now.signals.now l.nodes.node.now l.nodes.wall.now l.drains l.l
