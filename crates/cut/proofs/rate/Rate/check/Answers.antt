-- `cut::rate::Rate::check` meets its contract: each test that fails puts p or q out of range, and past all four both are in it.
-- Assumes nothing.
use Rattle.std.proofs.Common.{arith}
use Rattle.rules.specs.Refusals.{done, cause, rate_fault}
use Rattle.rules.proofs.RangeLaws.{in-range, off-range}
use Rattle.cut.proofs.rate.Rate.check.Goals as goal
use Rattle.cut.proofs.rate.Rate.check.Goals.{then-p-via-then-p, then-p-via-else-p+then-p-2, then-p-via-else-p+else-p-2+then-q, then-p-via-else-p+else-p-2+else-q+then-q-2}

pub returns-then-p-clause-fault : goal.returns-then-p-clause-fault
unfolding rate_fault cause done
returns-then-p-clause-fault c =
    elim c.then-p.branch [
      | then-p-via-then-p w ↦ rw (off-range {p = c.args.self.p} {q = c.args.self.q} (λ r. omega (arith, r, w.if-p.true)))
      | then-p-via-else-p+then-p-2 w ↦ rw (off-range {p = c.args.self.p} {q = c.args.self.q} (λ r. omega (arith, r, w.if-p-2.true)))
      | then-p-via-else-p+else-p-2+then-q w ↦ rw (off-range {p = c.args.self.p} {q = c.args.self.q} (λ r. omega (arith, r, w.if-q.true)))
      | then-p-via-else-p+else-p-2+else-q+then-q-2 w ↦ rw (off-range {p = c.args.self.p} {q = c.args.self.q} (λ r. omega (arith, r, w.if-q-2.true)))
    ]

pub returns-clause-fault : goal.returns-clause-fault
unfolding rate_fault cause done
returns-clause-fault c = rw (in-range {p = c.args.self.p} {q = c.args.self.q} (omega (arith, c.if-p.false, c.if-p-2.false, c.if-q.false, c.if-q-2.false)))
