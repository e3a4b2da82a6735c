-- `cut::community::count_marks` meets its contract. The loop's invariant: size is the sum of the first v marks.
-- Assumes nothing.
use Rattle.std.proofs.Common.{arith}
use Rattle.rules.proofs.SumLoop.{summed-start, summed-more, summed-most}
use Rattle.cut.proofs.community.count_marks.Goals as goal

pub loop-v-init : goal.loop-v-init
loop-v-init c = summed-start _ _

pub overflow_add-size : goal.overflow_add-size
overflow_add-size c = let most = summed-most _ _ c.loop-v.invariant c.loop-v-test.true 1 _ c.requires.1 c.from-size.ensures in omega (arith, most, c.requires.0)

pub loop-v-preserved : goal.loop-v-preserved
loop-v-preserved c = summed-more _ _ c.loop-v.invariant c.loop-v-test.true _ c.from-size.ensures
