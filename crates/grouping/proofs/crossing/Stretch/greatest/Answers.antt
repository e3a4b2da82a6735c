-- `grouping::crossing::Stretch::greatest` meets its contract. The loop's invariant: for each label the greatest rate of the devices below v. Assumes nothing.
use Rattle.std.proofs.Common.{◌≡◌, ◌-◌, ◌<◌, arith, get_or}
use native.Mathlib.Nat.{le_antisymm}
use Rattle.rules.specs.Plant.{plant_of}
use Rattle.cut.specs.Stated.{stated}
use Rattle.cut.specs.declared.rate.Rate.{Rate}
use Rattle.grouping.specs.Stretch.{cross_p, cross_q}
use Rattle.grouping.proofs.FitLaws.{product-fits, turn-within}
use Rattle.grouping.proofs.BestLaws.{rate-most, bests-start, bests-kept, bests-taken, bests-all, turn-sizes, turn-rate, turn-products}
use Rattle.grouping.proofs.crossing.Stretch.greatest.Goals as goal
use Rattle.grouping.proofs.crossing.Stretch.greatest.Goals.{In-loop-v, then-self-f+then-best-h, then-self-f+else-best-h, else-self-f}

pub loop-v-init : goal.loop-v-init
unfolding plant_of
loop-v-init c =
    let a = c.args.self.now.plant.now.accepted in
    (omega arith, bests-start _ _ _ a.some_device a.most_devices)

-- both labels of device v are devices
labels : (c : In-loop-v) → (get_or c.args.self.now.finer.now.labels c.loop-v.v 0 < c.args.self.now.plant.now.devices) × (get_or c.args.self.now.coarser.now.labels c.loop-v.v 0 < c.args.self.now.plant.now.devices)
labels c = (c.args.self.now.finer_below _ c.loop-v-test.true, c.args.self.now.coarser_below _ c.loop-v-test.true)

-- what the call gives is the crossing rate of device v
rate : (c : In-loop-v) {r : Rate}
    → (r.p ≡ get_or c.args.self.now.fine.outs (get_or c.args.self.now.finer.now.labels c.loop-v.v 0) 0 - get_or c.args.self.now.coarse.outs (get_or c.args.self.now.coarser.now.labels c.loop-v.v 0) 0)
    × (r.q ≡ get_or c.args.self.now.coarse.sizes (get_or c.args.self.now.coarser.now.labels c.loop-v.v 0) 0 - get_or c.args.self.now.fine.sizes (get_or c.args.self.now.finer.now.labels c.loop-v.v 0) 0)
    → (r.p ≡ cross_p (stated c.args.self.now.plant.now) c.args.self.now.finer.now.labels c.args.self.now.coarser.now.labels c.loop-v.v)
    × (r.q ≡ cross_q (stated c.args.self.now.plant.now) c.args.self.now.finer.now.labels c.args.self.now.coarser.now.labels c.loop-v.v)
rate c = turn-rate _ _ _ _ c.args.self.now.plant.now.accepted _ _ c.args.self.now.fine_is c.args.self.now.coarse_is _ (labels c).0 (labels c).1

pub overflow_mul-best : goal.overflow_mul-best
overflow_mul-best c =
    let turn = (goal.at.overflow_mul-best c).In-loop-v in
    product-fits _ (turn-products _ _ _ _ c.args.self.now.plant.now.accepted _ _ _ _ _ c.loop-v.invariant.1 (labels turn).1 (rate turn c.crossing_of-r.ensures)).0

pub overflow_mul-r : goal.overflow_mul-r
overflow_mul-r c =
    let turn = (goal.at.overflow_mul-r c).In-loop-v in
    product-fits _ (turn-products _ _ _ _ c.args.self.now.plant.now.accepted _ _ _ _ _ c.loop-v.invariant.1 (labels turn).1 (rate turn c.crossing_of-r.ensures)).1

pub loop-v-preserved : goal.loop-v-preserved
unfolding plant_of
loop-v-preserved c =
    let turn = (goal.at.loop-v-preserved c).In-loop-v in
    let s = c.args.self.now in
    let a = s.plant.now.accepted in
    let now = c.loop-v.invariant.1 in
    let sizes = turn-sizes _ _ _ _ a _ _ s.fine_is s.coarse_is _ (labels turn).0 (labels turn).1 in (
      turn-within _ _ c.loop-v-test.true,
      elim c.if-self-f.branch [
        | then-self-f+then-best-h w ↦
            bests-taken _ _ _ _ _ now (rate-most _ _ _ _ a _ _ _) (labels turn).1 a.most_devices (omega (arith, sizes, w.if-self-f.true)) (rate turn w.crossing_of-r.ensures) w.if-best-h.true w.best-is
        | then-self-f+else-best-h w ↦
            bests-kept _ _ _ _ _ now (λ e. rw ((rate turn w.crossing_of-r.ensures).0, (rate turn w.crossing_of-r.ensures).1) at w.if-best-h.false) w.best-is
        | else-self-f w ↦
            bests-kept _ _ _ _ _ now (λ e. absurd (omega (arith, sizes, w.if-self-f.false))) w.best-is
      ],
    )

pub returns : goal.returns
unfolding plant_of
returns c = bests-all _ _ _ (le_antisymm c.loop-v.invariant.0 c.loop-v-test.false) c.loop-v.invariant.1
