-- `text::reader::digits` meets its contract. The loop's invariant is `Count`: v is what the first k digits state.
-- Assumes nothing.
use Rattle.text.proofs.Steps.{Count}
use Rattle.text.proofs.reader.digits.Given as goal

abbrev pub invariant-loop-k : goal.invariant-loop-k
invariant-loop-k l = Count l.l l.v l.k
