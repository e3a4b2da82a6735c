-- `cut::sets::widen` meets its contract. The loop's invariant: the lines below l have their width.
-- Assumes nothing.
use Rattle.rules.proofs.FillLaws.{filled-done}
use Rattle.cut.proofs.sets.widen.Goals as goal

pub returns : goal.returns
returns c = filled-done _ _ _ c.loop-l.invariant c.loop-l-test.false
