-- `grouping::crossing::crossing` meets its contract. The labels of two levels are devices, and what the callees ensure is what `CrossLaws` needs.
-- Assumes nothing.
use Rattle.rules.proofs.RangeLaws.{range-in}
use Rattle.cut.specs.Stated.{stated}
use Rattle.grouping.specs.Stretch.{CrossingRate}
use Rattle.grouping.proofs.CrossLaws.{finer-below, coarser-below, crossing-accepted, crossing-rate, reduced-ok}
use Rattle.grouping.proofs.crossing.crossing.Goals as goal
use Rattle.grouping.proofs.crossing.crossing.Goals.{After-unwrap-r}

pub extents_of-requires : goal.extents_of-requires
extents_of-requires c =
    let (ap, aq, bp, bq, a) = c.requires in
    finer-below _ _ _ _ _ _ ap aq bp bq c.args.plant.now.accepted a

pub extents_of-requires-2 : goal.extents_of-requires-2
extents_of-requires-2 c =
    let (ap, aq, bp, bq, a) = c.requires in
    coarser-below _ _ _ _ _ _ ap aq bp bq c.args.plant.now.accepted a

pub invariant_of-stretch : goal.invariant_of-stretch
invariant_of-stretch c =
    let (ap, aq, bp, bq, a) = c.requires in
    let ok = c.args.plant.now.accepted in
    record {
      finer_below = finer-below _ _ _ _ _ _ ap aq bp bq ok a;
      coarser_below = coarser-below _ _ _ _ _ _ ap aq bp bq ok a;
      fine_is = c.extents_of.ensures;
      coarse_is = c.extents_of-2.ensures;
    }

pub unwrap-r-requires : goal.unwrap-r-requires
unwrap-r-requires c =
    let (ap, aq, bp, bq, a) = c.requires in
    reduced-ok _ (c.reduce.ensures.number (crossing-accepted _ _ _ _ _ _ ap aq bp bq c.args.plant.now.accepted a _ _ _ c.greatest.ensures c.least_of-least.ensures))

-- what is answered is the crossing rate
found : (c : After-unwrap-r) → CrossingRate (stated c.args.plant.now) c.args.finer.now.labels c.args.coarser.now.labels c.unwrap-r.result.p c.unwrap-r.result.q
found c =
    let (ap, aq, bp, bq, a) = c.requires in
    crossing-rate _ _ _ _ _ _ ap aq bp bq c.args.plant.now.accepted a _ _ _ c.greatest.ensures c.least_of-least.ensures _ (rw c.unwrap-r.ensures at c.reduce.ensures)

pub returns : goal.returns
returns c = found (goal.at.returns c).After-unwrap-r

pub invariant_of-result : goal.invariant_of-result
invariant_of-result c =
    let range = range-in _ _ (found (goal.at.invariant_of-result c).After-unwrap-r).accepted in
    record { p_least = range.p_least; p_most = range.p_most; q_least = range.q_least; q_most = range.q_most }
