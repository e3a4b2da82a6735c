-- `grouping::between::of_nodes` meets its contract. The loop's invariant: the devices below v have what their nodes have.
-- Assumes nothing.
use Rattle.std.proofs.Common.{get_or}
use Rattle.rules.proofs.FillLaws.{Filled}
use Rattle.grouping.proofs.between.of_nodes.Given as goal

abbrev pub invariant-loop-v : goal.invariant-loop-v
invariant-loop-v l = Filled l.nodes.plant.now.devices (λ u. get_or l.held (get_or l.nodes.node.now u 0) 0) l.initial.owner l.owner l.v
