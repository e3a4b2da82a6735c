-- `text::write::rows_len` meets its contract. The loop's invariant is `Sum`: the rows before line i are counted.
-- Assumes nothing.
use Rattle.text.proofs.Wrote.{Sum}
use Rattle.text.proofs.write.rows_len.Given as goal

abbrev pub invariant-loop-i : goal.invariant-loop-i
invariant-loop-i l = Sum l.plant.firsts.now l.plant.seconds.now l.plant.signals.now l.sum l.i
