-- `text::whole::keep_rows` meets its contract. The loop's invariant: i rows are passed, and each list is `Kept`.
-- Assumes nothing.
use lib.ListN.{length}
use Rattle.text.proofs.Forms.{Passing}
use Rattle.text.proofs.Lists.{Kept}
use Rattle.text.proofs.whole.keep_rows.Given as goal

abbrev pub invariant-loop-i : goal.invariant-loop-i
invariant-loop-i l =
    Passing (length l.initial.firsts) l.initial.rows l.i l.rows
    × Kept (λ w. w.first) (length l.initial.firsts) l.initial.rows l.firsts l.i l.rows
    × Kept (λ w. w.second) (length l.initial.firsts) l.initial.rows l.seconds l.i l.rows
    × Kept (λ w. w.signals) (length l.initial.firsts) l.initial.rows l.signals l.i l.rows
