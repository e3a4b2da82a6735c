-- `text::whole::pass_end` meets its contract: each way is what `end_fault_of` computes to.
-- Assumes nothing.
use native.Mathlib.Omega.{arith}
use mathlib.Core.Path.{refl, sym, ◌∙◌}
use Rattle.std.proofs.lemmas.Result.{err_from_is_err_and}
use Rattle.text.proofs.Forms.{or-err, taken, told-fault, end_none, end-all, end_more}
use Rattle.text.proofs.whole.pass_end.Goals as goal

pub returns-in_err-ok_or : goal.returns-in_err-ok_or
returns-in_err-ok_or c =
    let p = err_from_is_err_and c.from_residual.result c.from_residual.ensures.1 in
    let e = or-err c.word.result c.args.k _ c.in_err-ok_or.ensures.value in
    rw (p.1, p.2, e.1) (told-fault c.requires.0 (end_none _ _ (e.0 ∙ c.word.ensures.answer)))

pub returns-then-whole : goal.returns-then-whole
returns-then-whole c =
    let word = taken c.word.result c.args.k _ c.in_ok-ok_or.ensures.value c.word.ensures.answer c.word.ensures.moved in
    rw (sym (end-all c.args.reader c.args.k word.0 word.1 (sym c.if-whole.true ∙ c.at_end-whole.ensures))) refl

pub returns-else-whole : goal.returns-else-whole
returns-else-whole c =
    let word = taken c.word.result c.args.k _ c.in_ok-ok_or.ensures.value c.word.ensures.answer c.word.ensures.moved in
    told-fault (omega arith) (end_more _ _ word.0 word.1 (sym c.if-whole.false ∙ c.at_end-whole.ensures))
