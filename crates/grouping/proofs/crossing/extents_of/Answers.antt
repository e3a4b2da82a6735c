-- `grouping::crossing::extents_of` meets its contract: shares of 1 are the sizes. Assumes nothing.
use Rattle.grouping.proofs.GroupSums.{sizes-shared}
use Rattle.grouping.proofs.crossing.extents_of.Goals as goal

pub returns : goal.returns
returns c = record { size_is = sizes-shared _ _ _ _ _ _ c.share_out.ensures; out_is = c.outs_of.ensures }
