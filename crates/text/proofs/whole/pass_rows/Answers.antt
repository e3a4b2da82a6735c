-- `text::whole::pass_rows` meets its contract: a row that is not as expected ends it, and any other is one more.
-- Assumes nothing.
use Prim.Native.Nat.{◌+◌}
use native.Mathlib.Omega.{arith}
use mathlib.Core.Path.{ap, ◌∙◌}
use Rattle.std.proofs.lemmas.Result.{err_from_is_err_and}
use Rattle.text.specs.Told.{told_fault}
use Rattle.text.proofs.Forms.{or-err, taken, told-fault, passing-all, passing-stop, passing-more}
use Rattle.text.proofs.whole.pass_rows.Goals as goal

pub returns-in_err-ok_or : goal.returns-in_err-ok_or
returns-in_err-ok_or c =
    let p = err_from_is_err_and c.from_residual.result c.from_residual.ensures.1 in
    let e = or-err c.row.result (4 + c.loop-k.k) _ c.in_err-ok_or.ensures.value in
    rw (p.1, p.2, e.1) (told-fault (omega arith) (passing-stop c.loop-k.invariant c.loop-k-test.true (e.0 ∙ c.row.ensures.answer)))

pub loop-k-preserved : goal.loop-k-preserved
loop-k-preserved c =
    let row = taken c.row.result (4 + c.loop-k.k) _ c.in_ok-ok_or.ensures.value c.row.ensures.answer c.row.ensures.moved in
    passing-more c.loop-k.invariant c.loop-k-test.true row.0 row.1

pub returns : goal.returns
returns c = c.pass_end.ensures ∙ ap told_fault (passing-all c.loop-k.invariant (omega arith))
