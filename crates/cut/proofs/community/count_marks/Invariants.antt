-- `cut::community::count_marks` meets its contract.
-- Assumes nothing.
use Rattle.std.proofs.Common.{get_or}
use Rattle.rules.proofs.SumLoop.{Summed}
use Rattle.cut.proofs.community.count_marks.Given as goal

abbrev pub invariant-loop-v : goal.invariant-loop-v
invariant-loop-v l = Summed l.n (λ u. get_or l.mark u 0) l.size l.v
