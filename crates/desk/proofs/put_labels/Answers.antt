-- `desk::put_labels` meets its contract. The loop's invariant: the labels of the devices passed are filled, and the rest is as it was.
-- Assumes nothing.
use native.Mathlib.Omega.{arith}
use mathlib.Core.Path.{refl}
use Rattle.rules.proofs.FillLaws.{over-more, over_none}
use Rattle.desk.proofs.put_labels.Goals as goal
use Rattle.desk.proofs.put_labels.Goals.{At-loop-v, In-loop-v}

pub loop-v-init : goal.loop-v-init
loop-v-init c = (omega arith, over_none _ _)

pub loop-v-preserved : goal.loop-v-preserved
loop-v-preserved c =
    let at = c in
    (omega arith, rw at.loop-v.invariant.1 (over-more _ _ _ _ (omega arith) refl))
