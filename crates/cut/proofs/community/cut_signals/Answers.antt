-- `cut::community::cut_signals` meets its contract. The loop's invariant: out is the sum over the first l lines.
-- Assumes nothing.
use Rattle.std.proofs.Common.{ℕ, ◌≤◌, Bool, true, false, cond, eqb, get_or, arith}
use borrow.Author.Tests.{eq-eqb, ne_eqb}
use Rattle.rules.proofs.SumLoop.{summed-start, summed-more, summed-none, summed-most}
use Rattle.cut.proofs.community.cut_signals.Goals as goal
use Rattle.cut.proofs.community.cut_signals.Goals.{then-mark-a, else-mark-a}

off : (t : Bool) (x : ℕ) → x ≤ 65535 → cond t 0 x ≤ 65535
off true x h = omega arith
off false x h = h

pub loop-l-init : goal.loop-l-init
loop-l-init c = summed-start _ _

pub overflow_add-out : goal.overflow_add-out
overflow_add-out c =
    let a = c.args.plant.now.accepted in
    let most =
    summed-most _ _ c.loop-l.invariant c.loop-l-test.true 65535 (get_or c.args.plant.now.signals.now c.loop-l.l 0)
    (λ i l.
    off (eqb (get_or c.args.mark.now (get_or c.args.plant.now.firsts.now i 0) 0) (get_or c.args.mark.now (get_or c.args.plant.now.seconds.now i 0) 0)) _ (a.most_signals i l))
    (rw (ne_eqb _ _ c.if-mark-a.true)) in
    record { fits = omega (arith, most, a.most_lines) }

pub loop-l-preserved : goal.loop-l-preserved
loop-l-preserved c =
    elim c.if-mark-a.branch [
      | then-mark-a w ↦ rw w.out-is (summed-more _ _ c.loop-l.invariant c.loop-l-test.true _ (rw (ne_eqb _ _ w.if-mark-a.true)))
      | else-mark-a w ↦ rw w.out-is (summed-none _ _ c.loop-l.invariant c.loop-l-test.true (rw (eq-eqb _ _ w.if-mark-a.false)))
    ]
