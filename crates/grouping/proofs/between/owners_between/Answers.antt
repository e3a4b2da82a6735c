-- `grouping::between::owners_between` meets its contract: the network that is made stands for the plant, its least sets are the communities, and each device gets the owner of its node.
-- Assumes nothing.
use Rattle.std.proofs.Common.{arith}
use Rattle.grouping.proofs.FaultLaws.{rate-taken}
use Rattle.grouping.proofs.BetweenLaws.{between-nodes, between-swept}
use Rattle.grouping.proofs.between.owners_between.Goals as goal

pub invariant_of-nodes : goal.invariant_of-nodes
invariant_of-nodes c = record { below = between-nodes _ _ _ _ c.requires }

pub returns : goal.returns
returns c =
    let lists = c.lists.ensures in
    between-swept c.args.plant.now.accepted (rate-taken c.args.rate) c.requires c.join_lines.ensures c.drains_of-drains.ensures lists.lower lists.upper lists.widths
    (omega arith) (omega arith, omega arith) c.marked-wanted.ensures c.least_sets.ensures _ c.of_nodes.ensures
