-- `grouping::crossing::Stretch::least_of` meets its contract. The loop's invariant: the least rate of the devices below v. Assumes nothing.
use Rattle.std.proofs.Common.{arith}
use Rattle.rules.specs.Plant.{plant_of}
use Rattle.grouping.proofs.FitLaws.{product-fits, turn-within}
use Rattle.grouping.proofs.BestLaws.{least_kept, least-taken, turn-sizes, least-products}
use Rattle.grouping.proofs.crossing.Stretch.least_of.Goals as goal
use Rattle.grouping.proofs.crossing.Stretch.least_of.Goals.{then-self-f+then-r-least, then-self-f+else-r-least, else-self-f}

pub overflow_mul-r : goal.overflow_mul-r
overflow_mul-r c =
    product-fits _ (least-products _ _ _ _ c.args.self.now.plant.now.accepted _ _ _ _ _ c.requires c.args.self.now.coarser_below c.loop-v-test.true c.loop-v.invariant.1).0

pub overflow_mul-least : goal.overflow_mul-least
overflow_mul-least c =
    product-fits _ (least-products _ _ _ _ c.args.self.now.plant.now.accepted _ _ _ _ _ c.requires c.args.self.now.coarser_below c.loop-v-test.true c.loop-v.invariant.1).1

pub loop-v-preserved : goal.loop-v-preserved
unfolding plant_of
loop-v-preserved c =
    let s = c.args.self.now in
    let best = c.requires in
    let below = s.coarser_below in
    let now = c.loop-v.invariant.1 in
    let sizes = turn-sizes _ _ _ _ s.plant.now.accepted _ _ s.fine_is s.coarse_is _ (s.finer_below _ c.loop-v-test.true) (s.coarser_below _ c.loop-v-test.true) in (
      turn-within _ _ c.loop-v-test.true,
      elim c.if-self-f.branch [
        | then-self-f+then-r-least w ↦
            least-taken _ _ _ _ best below _ _ c.loop-v-test.true now (omega (arith, sizes, w.if-self-f.true)) w.if-r-least.true w.least-is
        | then-self-f+else-r-least w ↦
            least_kept _ _ _ _ best below _ _ c.loop-v-test.true now (λ e. w.if-r-least.false) w.least-is
        | else-self-f w ↦
            least_kept _ _ _ _ best below _ _ c.loop-v-test.true now (λ e. absurd (omega (arith, sizes, w.if-self-f.false))) w.least-is
      ],
    )
