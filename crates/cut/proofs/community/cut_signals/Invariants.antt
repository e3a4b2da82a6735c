-- `cut::community::cut_signals` meets its contract.
-- Assumes nothing.
use Rattle.std.proofs.Common.{cond, eqb, length, get_or}
use Rattle.rules.proofs.SumLoop.{Summed}
use Rattle.cut.proofs.community.cut_signals.Given as goal

abbrev pub invariant-loop-l : goal.invariant-loop-l
invariant-loop-l l = Summed (length l.plant.firsts.now) (λ k. cond (eqb (get_or l.mark (get_or l.plant.firsts.now k 0) 0) (get_or l.mark (get_or l.plant.seconds.now k 0) 0)) 0 (get_or l.plant.signals.now k 0)) l.out l.l
