-- `grouping::join::join_lines` meets its contract. The loop's invariant: the first l lines of the plant have made the lines of the network.
-- Assumes nothing.
use Rattle.std.proofs.Common.{arith}
use Rattle.grouping.proofs.JoinNetLaws.{joined-start}
use Rattle.grouping.proofs.join.join_lines.Goals as goal

pub loop-l-init : goal.loop-l-init
loop-l-init c = (omega arith, joined-start _ _ _ _ _ _ _ _ _ _)
