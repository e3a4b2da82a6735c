-- `text::write::decimals` meets its contract. The loop's invariant is `Digits`: the digits after a place are written.
-- Assumes nothing.
use Rattle.text.proofs.Placed.{Digits}
use Rattle.text.proofs.write.decimals.Given as goal

abbrev pub invariant-loop-at : goal.invariant-loop-at
invariant-loop-at l = Digits l.d l.v l.rest l.at
