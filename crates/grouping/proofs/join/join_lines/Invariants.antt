-- `grouping::join::join_lines` meets its contract. The loop's invariant: the first l lines of the plant have made the lines of the network.
-- Assumes nothing.
use Rattle.std.proofs.Common.{◌≤◌, length}
use Rattle.grouping.specs.Between.{Joined}
use Rattle.grouping.proofs.join.join_lines.Given as goal

abbrev pub invariant-loop-l : goal.invariant-loop-l
invariant-loop-l l =
    (l.l ≤ length l.nodes.plant.now.firsts.now)
    × Joined l.nodes.plant.now.devices l.nodes.plant.now.firsts.now l.nodes.plant.now.seconds.now l.nodes.plant.now.signals.now l.rate.q l.nodes.node.now l.nodes.wall.now l.l l.lines.lower l.lines.upper l.lines.widths l.lines.count
