-- `network::owners::paint_owners` meets its contract. The loop's invariant: the first v entries are painted.
-- Assumes nothing.
use Rattle.rules.proofs.FillLaws.{filled-done}
use Rattle.network.proofs.owners.paint_owners.Goals as goal

pub returns : goal.returns
returns c = filled-done _ _ _ c.loop-v.invariant c.loop-v-test.false
