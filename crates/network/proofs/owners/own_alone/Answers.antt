-- `network::owners::own_alone` meets its contract. The loop's invariant: the entries of the nodes below x are filled, and the rest is as it was.
-- Assumes nothing.
use native.Mathlib.Omega.{arith}
use Rattle.rules.proofs.FillLaws.{over-more, over_none}
use Rattle.network.proofs.CallLaws.{wanted-not, wanted-is}
use Rattle.network.proofs.owners.own_alone.Goals as goal
use Rattle.network.proofs.owners.own_alone.Goals.{then-wanted-x-ne0, else-wanted-x-ne0}

pub loop-x-init : goal.loop-x-init
loop-x-init c = (omega arith, over_none _ _)

pub loop-x-preserved : goal.loop-x-preserved
loop-x-preserved c = (
  omega arith,
  rw c.loop-x.invariant.1
      (over-more _ _ _ _ (omega arith)
      (elim c.if-wanted-x-ne0.branch [
        | then-wanted-x-ne0 w ↦ rw (w.owner-is, wanted-is _ _ w.if-wanted-x-ne0.true)
        | else-wanted-x-ne0 w ↦ rw (w.owner-is, wanted-not _ _ w.if-wanted-x-ne0.false)
      ])),
)
