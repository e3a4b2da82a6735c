-- `cut::community::mark_owned` meets its contract.
-- Assumes nothing.
use Rattle.std.proofs.Common.{cond, eqb, get_or}
use Rattle.rules.proofs.FillLaws.{Filled}
use Rattle.cut.proofs.community.mark_owned.Given as goal

abbrev pub invariant-loop-v : goal.invariant-loop-v
invariant-loop-v l = Filled l.n (λ u. cond (eqb (get_or l.owner u 0) l.d) 1 0) l.initial.mark l.mark l.v
