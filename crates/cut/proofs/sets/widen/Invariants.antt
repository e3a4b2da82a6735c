-- `cut::sets::widen` meets its contract.
-- Assumes nothing.
use Rattle.std.proofs.Common.{◌*◌, length, get_or}
use Rattle.rules.proofs.FillLaws.{Filled}
use Rattle.cut.proofs.sets.widen.Given as goal

abbrev pub invariant-loop-l : goal.invariant-loop-l
invariant-loop-l l = Filled (length l.signals) (λ i. l.q * get_or l.signals i 0) l.initial.widths l.widths l.l
