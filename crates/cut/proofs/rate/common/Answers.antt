-- `cut::rate::common` meets its contract. The loop's invariant: a and b have the common divisors of p and q. The measure is b.
-- Assumes nothing.
use Rattle.cut.proofs.RateLaws.{alike-step, alike-done}
use Rattle.cut.proofs.rate.common.Goals as goal

pub loop-b-preserved : goal.loop-b-preserved
loop-b-preserved c = alike-step c.loop-b.invariant c.loop-b-test.true

pub returns : goal.returns
returns c = alike-done c.loop-b.invariant c.loop-b-test.false
