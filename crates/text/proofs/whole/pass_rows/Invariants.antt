-- `text::whole::pass_rows` meets its contract. The loop's invariant is `Passing`: k rows are as expected.
-- Assumes nothing.
use Rattle.text.proofs.Forms.{Passing}
use Rattle.text.proofs.whole.pass_rows.Given as goal

abbrev pub invariant-loop-k : goal.invariant-loop-k
invariant-loop-k l = Passing l.m l.initial.reader l.k l.reader
