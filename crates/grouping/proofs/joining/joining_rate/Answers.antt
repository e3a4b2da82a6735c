-- `grouping::joining::joining_rate` meets its contract: the levels at the largest and at the least rate tell whether the two devices ever
-- join, and between them the search finds where. Assumes nothing.
use Rattle.std.proofs.Common.{◌≡◌, refl, arith}
use Rattle.rules.specs.Plant.{plant_of}
use Rattle.rules.proofs.FaultLaws.{fault-some, err-is}
use Rattle.cut.specs.Stated.{stated}
use Rattle.grouping.specs.Calls.{pair_fault}
use Rattle.grouping.proofs.JoinCalls.{Parted, pair-plant, pair-first, pair-second, pair-self, pair-done, join-refused, join-never, join-answered, start-parted}
use Rattle.grouping.proofs.joining.joining_rate.Goals as goal
use Rattle.grouping.proofs.joining.joining_rate.Goals.{In_ok-plant, Else-one-other, Else-coarsest-one, then-n-one-via-then-n-one, then-n-one-via-else-n-one+then-n-other}

pub returns-in_err-plant : goal.returns-in_err-plant
returns-in_err-plant c =
    let f = c.in_err-plant.field-0.0 in
    rw (err-is c.from_residual.result f c.from_residual.ensures.1) (join-refused _ _ _ _ _ _ (pair-plant _ _ _ _ _ _ c.in_err-plant.ensures.fault (fault-some f)) (fault-some f))

pub returns-then-n-one : goal.returns-then-n-one
returns-then-n-one c =
    elim c.then-n-one.branch [
      | then-n-one-via-then-n-one w ↦ join-refused _ _ _ _ _ _ (pair-first _ _ _ _ _ _ c.in_ok-plant.ensures.fault refl w.if-n-one.true) (λ z. omega arith)
      | then-n-one-via-else-n-one+then-n-other w ↦
          join-refused _ _ _ _ _ _ (pair-second _ _ _ _ _ _ c.in_ok-plant.ensures.fault refl w.if-n-one.false w.if-n-other.true) (λ z. omega arith)
    ]

pub returns-then-one-other : goal.returns-then-one-other
returns-then-one-other c =
    join-refused _ _ _ _ _ _ (pair-self _ _ _ _ _ _ c.in_ok-plant.ensures.fault refl c.if-n-one.false c.if-n-other.false c.if-one-other.true) (λ z. omega arith)

-- the plant that is searched is that of the call
same : (c : In_ok-plant) → stated c.in_ok-plant.plant ≡ plant_of c.args.n c.args.firsts.now c.args.seconds.now c.args.signals.now
same c =
    let e = c.in_ok-plant.ensures.plant in
    λ i. plant_of (e.0 i) (e.1 i).now (e.2 i).now (e.3 i).now

-- past the tests plant and devices are accepted
done : (c : Else-one-other) → record { number = 0; place = 0 } ≡ pair_fault c.args.n c.args.firsts.now c.args.seconds.now c.args.signals.now c.args.one c.args.other
done c = pair-done _ _ _ _ _ _ c.in_ok-plant.ensures.fault refl c.if-n-one.false c.if-n-other.false c.if-one-other.false

pub returns-then-coarsest-one : goal.returns-then-coarsest-one
returns-then-coarsest-one c =
    let e = same (goal.at.returns-then-coarsest-one c).In_ok-plant in
    join-never _ _ _ _ _ _ (done (goal.at.returns-then-coarsest-one c).Else-one-other) refl (rw e at c.level_at-finest.ensures) (rw e at c.level_at-coarsest.ensures) c.if-coarsest-one.true

-- the search begins with two levels, of which only the coarser has the two devices in one group
parted : (c : Else-coarsest-one) → Parted (stated c.in_ok-plant.plant) c.args.one c.args.other c.level_at-finest.result c.level_at-coarsest.result
parted c =
    let e = same (goal.at.Else-coarsest-one c).In_ok-plant in
    rw e (start-parted _ _ _ _ _ _ (done (goal.at.Else-coarsest-one c).Else-one-other) refl (rw e at c.level_at-finest.ensures) (rw e at c.level_at-coarsest.ensures) c.if-coarsest-one.false)

pub join_between-requires-clause-some_levels : goal.join_between-requires-clause-some_levels
join_between-requires-clause-some_levels c = (parted (goal.at.join_between-requires-clause-some_levels c).Else-coarsest-one).levels

pub join_between-requires-clause-parted : goal.join_between-requires-clause-parted
join_between-requires-clause-parted c =
    let p = parted (goal.at.join_between-requires-clause-parted c).Else-coarsest-one in
    (p.apart, p.together)

pub returns : goal.returns
returns c =
    join-answered _ _ _ _ _ _ (done (goal.at.returns c).Else-one-other) refl (rw (same (goal.at.returns c).In_ok-plant) at c.join_between.ensures)
