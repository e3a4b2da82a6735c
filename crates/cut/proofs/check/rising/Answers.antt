-- `cut::check::rising` meets its contract: line 0 rises, and of a later one each way is what `rises-at` computes to.
-- Assumes nothing.
use borrow.Author.Tests.{lt-ltb, le-ltb, eq-eqb, ne_eqb}
use Rattle.rules.specs.Refusals.{rises}
use Rattle.cut.proofs.CheckLaws.{rises-at}
use Rattle.cut.proofs.check.rising.Goals as goal

pub returns-then-i-eq0 : goal.returns-then-i-eq0
unfolding rises
returns-then-i-eq0 c = rw c.if-i-eq0.true

pub returns-then-firsts-h : goal.returns-then-firsts-h
returns-then-firsts-h c = rw (rises-at _ _ _ c.if-i-eq0.false) (simp (lt-ltb _ _ c.if-firsts-h.true))

pub returns-then-firsts-h-2 : goal.returns-then-firsts-h-2
returns-then-firsts-h-2 c = rw (rises-at _ _ _ c.if-i-eq0.false) (simp (le-ltb _ _ c.if-firsts-h.false, eq-eqb _ _ c.if-firsts-h-2.true))

pub returns-else-firsts-h-2 : goal.returns-else-firsts-h-2
returns-else-firsts-h-2 c = rw (rises-at _ _ _ c.if-i-eq0.false) (simp (le-ltb _ _ c.if-firsts-h.false, ne_eqb _ _ c.if-firsts-h-2.false))
