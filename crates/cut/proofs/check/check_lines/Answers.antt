-- `cut::check::check_lines` meets its contract. The loop's invariant is `Passed`: the lines below i break no rule.
-- Assumes nothing.
use Rattle.std.proofs.Common.{sym, ◌∙◌}
use Rattle.cut.proofs.CheckLaws.{passed_start, passed-step, passed-found, passed-all, breaks-5, breaks-6, breaks-7, breaks-8, breaks-none}
use Rattle.cut.proofs.check.check_lines.Goals as goal

pub lines-init : goal.lines-init
lines-init c = passed_start _ _ _ _

pub lines-preserved : goal.lines-preserved
lines-preserved c = passed-step _ _ _ _ c.lines.invariant c.lines-test.true (breaks-none _ _ _ _ _ (sym c.beyond.ensures ∙ c.if-beyond.false) c.if-b-a.false (sym c.rising.ensures ∙ c.if-not-rising.false) (sym c.off_range.ensures ∙ c.if-off_range.false))

pub returns-after-lines : goal.returns-after-lines
returns-after-lines c = passed-all _ _ _ _ c.lines.invariant c.lines-test.false

pub returns-then-beyond : goal.returns-then-beyond
returns-then-beyond c = passed-found _ _ _ _ c.lines.invariant c.lines-test.true 4 (breaks-5 _ _ _ _ _ (sym c.beyond.ensures ∙ c.if-beyond.true))

pub returns-then-b-a : goal.returns-then-b-a
returns-then-b-a c = passed-found _ _ _ _ c.lines.invariant c.lines-test.true 5 (breaks-6 _ _ _ _ _ (sym c.beyond.ensures ∙ c.if-beyond.false) c.if-b-a.true)

pub returns-then-not-rising : goal.returns-then-not-rising
returns-then-not-rising c = passed-found _ _ _ _ c.lines.invariant c.lines-test.true 6 (breaks-7 _ _ _ _ _ (sym c.beyond.ensures ∙ c.if-beyond.false) c.if-b-a.false (sym c.rising.ensures ∙ c.if-not-rising.true))

pub returns-then-off_range : goal.returns-then-off_range
returns-then-off_range c = passed-found _ _ _ _ c.lines.invariant c.lines-test.true 7 (breaks-8 _ _ _ _ _ (sym c.beyond.ensures ∙ c.if-beyond.false) c.if-b-a.false (sym c.rising.ensures ∙ c.if-not-rising.false) (sym c.off_range.ensures ∙ c.if-off_range.true))
