-- `cut::rate::common` meets its contract. The loop's invariant: a and b have the common divisors of p and q. The measure is b.
-- Assumes nothing.
use Rattle.cut.proofs.RateLaws.{Alike}
use Rattle.cut.proofs.rate.common.Given as goal

abbrev pub invariant-loop-b : goal.invariant-loop-b
invariant-loop-b l = Alike l.p l.q l.a l.b

abbrev pub decreases-loop-b : goal.decreases-loop-b
decreases-loop-b l = l.b
