-- `text::write::put_rows` meets its contract. The loop's invariant is `Rows`: the rows before line i are written.
-- Assumes nothing.
use Rattle.text.proofs.Wrote.{Rows}
use Rattle.text.proofs.write.put_rows.Given as goal

abbrev pub invariant-loop-i : goal.invariant-loop-i
invariant-loop-i l = Rows l.initial.out l.plant.firsts.now l.plant.seconds.now l.plant.signals.now l.out l.i
