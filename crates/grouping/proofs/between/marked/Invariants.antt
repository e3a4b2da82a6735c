-- `grouping::between::marked` meets its contract. The loop's invariant: the devices below v have their marks.
-- Assumes nothing.
use Rattle.std.proofs.Common.{cond, eqb, get_or}
use Rattle.rules.proofs.FillLaws.{Filled}
use Rattle.grouping.proofs.between.marked.Given as goal

abbrev pub invariant-loop-v : goal.invariant-loop-v
invariant-loop-v l = Filled l.n (λ u. cond (eqb (get_or l.owner u 0) u) 1 0) l.initial.wanted l.wanted l.v
