-- `grouping::join::join_line` meets its contract: a line is left out because its ends share a node or because their walls differ, or it is put. Assumes nothing.
use Rattle.grouping.proofs.JoinNetLaws.{joined-inside, joined-outside, joined-put}
use Rattle.grouping.proofs.join.join_line.Goals as goal

pub returns-then-x-y : goal.returns-then-x-y
returns-then-x-y c = joined-inside _ _ _ _ _ _ _ c.requires.joined c.if-x-y.true

pub returns-then-nodes-x : goal.returns-then-nodes-x
returns-then-nodes-x c =
    joined-put _ _ _ _ _ _ _ c.requires.joined c.args.nodes.now.plant.now.accepted c.args.nodes.now.below c.args.rate.q_most c.requires.line c.if-nodes-x.true c.put.ensures

pub returns-else-nodes-x : goal.returns-else-nodes-x
returns-else-nodes-x c = joined-outside _ _ _ _ _ _ _ c.requires.joined c.if-nodes-x.false
