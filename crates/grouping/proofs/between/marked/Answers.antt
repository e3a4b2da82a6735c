-- `grouping::between::marked` meets its contract. Assumes nothing.
use Rattle.std.proofs.Common.{arith}
use Rattle.grouping.proofs.MarkLaws.{marked-own}
use Rattle.grouping.proofs.between.marked.Goals as goal

pub returns : goal.returns
returns c = λ v h. marked-own _ _ v (c.loop-v.invariant.front v (omega (arith, c.loop-v-test.false)))
