-- `network::owners::paint_owners` meets its contract. The loop's invariant: the first v entries are painted.
-- Assumes nothing.
use mathlib.Core.Bool.{cond}
use lib.Dec.{eqb}
use lib.ListN.{get_or}
use Rattle.rules.proofs.FillLaws.{Filled}
use Rattle.network.proofs.owners.paint_owners.Given as goal

abbrev pub invariant-loop-v : goal.invariant-loop-v
invariant-loop-v l = Filled l.k (λ u. cond (eqb (get_or l.mark u 0) 1) l.x (get_or l.initial.owner u 0)) l.initial.owner l.owner l.v
