-- `text::reader::Reader::row` meets its contract: each way is what `row` computes to, by what was found of the three fields.
-- Assumes nothing.
use Rattle.text.proofs.Fields.{row-no-first, row-no-second, row-no-third, row-good, row-moved}
use Rattle.text.proofs.reader.Reader.row.Goals as goal

pub returns-in_err-first-clause-answer : goal.returns-in_err-first-clause-answer
returns-in_err-first-clause-answer c = rw c.from_residual.ensures (row-no-first _ c.in_err-first.ensures.answer)

pub returns-in_err-second-clause-answer : goal.returns-in_err-second-clause-answer
returns-in_err-second-clause-answer c =
    rw c.from_residual-in_err-second.ensures (row-no-second _ c.in_ok-first.ensures.answer c.in_ok-first.ensures.moved c.in_err-second.ensures.answer)

pub returns-in_err-signals-clause-answer : goal.returns-in_err-signals-clause-answer
returns-in_err-signals-clause-answer c =
    rw c.from_residual-in_err-signals.ensures
    (row-no-third _ c.in_ok-first.ensures.answer c.in_ok-first.ensures.moved c.in_ok-second.ensures.answer c.in_ok-second.ensures.moved c.in_err-signals.ensures.answer)

pub returns-clause-answer : goal.returns-clause-answer
returns-clause-answer c =
    row-good _ c.in_ok-first.ensures.answer c.in_ok-first.ensures.moved c.in_ok-second.ensures.answer c.in_ok-second.ensures.moved c.in_ok-signals.ensures.answer

pub returns-clause-moved : goal.returns-clause-moved
returns-clause-moved c =
    row-moved _ c.in_ok-first.ensures.answer c.in_ok-first.ensures.moved c.in_ok-second.ensures.answer c.in_ok-second.ensures.moved c.in_ok-signals.ensures.answer c.in_ok-signals.ensures.moved
