-- `cut::check::check_lines` meets its contract. The loop's invariant is `Passed`: the lines below i break no rule.
-- Assumes nothing.
use Rattle.rules.specs.Faults.{told}
use Rattle.cut.proofs.CheckLaws.{Passed}
use Rattle.cut.proofs.check.check_lines.Given as goal

abbrev pub invariant-lines : goal.invariant-lines
invariant-lines l = Passed l.n l.firsts l.seconds l.signals (told l.verdict) l.i
