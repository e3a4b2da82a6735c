-- `text::write::decimals` meets its contract. The loop's invariant is `Digits`: the digits after a place are written. The measure is that place.
-- Assumes nothing.
use native.Mathlib.Omega.{arith}
use lib.ListN.{length-set}
use Rattle.text.proofs.Placed.{digits-start, digits-none, digits_last, digits_more}
use Rattle.text.proofs.write.decimals.Goals as goal

pub loop-at-init : goal.loop-at-init
loop-at-init c = digits-start _ _ c.requires

pub returns-then-rest-lt10 : goal.returns-then-rest-lt10
returns-then-rest-lt10 c = (omega arith, simp length-set c.loop-at.invariant.long, digits_last c.loop-at.invariant c.loop-at-test.true c.if-rest-lt10.true)

pub loop-at-preserved : goal.loop-at-preserved
loop-at-preserved c = digits_more c.loop-at.invariant c.loop-at-test.true c.if-rest-lt10.false

pub returns : goal.returns
returns c = (omega arith, c.loop-at.invariant.long, digits-none c.loop-at.invariant (omega arith))
