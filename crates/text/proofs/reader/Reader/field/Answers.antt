-- `text::reader::Reader::field` meets its contract: each way is what `field` computes to, by what was found of the key, the number and the end.
-- Assumes nothing.
use Rattle.text.proofs.Fields.{field-no-key, field-no-number, field-no-stop, field-good, field-moved}
use Rattle.text.proofs.reader.Reader.field.Goals as goal

pub returns-in_err-word-clause-answer : goal.returns-in_err-word-clause-answer
returns-in_err-word-clause-answer c = rw c.from_residual.ensures (field-no-key _ _ _ c.in_err-word.ensures.answer)

pub returns-in_err-v-clause-answer : goal.returns-in_err-v-clause-answer
returns-in_err-v-clause-answer c =
    rw c.from_residual-in_err-v.ensures
    (field-no-number _ _ _ c.in_ok-word.ensures.answer c.in_ok-word.ensures.moved c.in_err-v.ensures.answer)

pub returns-in_err-word-2-clause-answer : goal.returns-in_err-word-2-clause-answer
returns-in_err-word-2-clause-answer c =
    rw c.from_residual-in_err-word-2.ensures
    (field-no-stop _ _ _ c.in_ok-word.ensures.answer c.in_ok-word.ensures.moved c.in_ok-v.ensures.answer c.in_ok-v.ensures.moved c.in_err-word-2.ensures.answer)

pub returns-clause-answer : goal.returns-clause-answer
returns-clause-answer c =
    field-good _ _ _ c.in_ok-word.ensures.answer c.in_ok-word.ensures.moved c.in_ok-v.ensures.answer c.in_ok-v.ensures.moved c.in_ok-word-2.ensures.answer

pub returns-clause-moved : goal.returns-clause-moved
returns-clause-moved c =
    field-moved _ _ _ c.in_ok-word.ensures.answer c.in_ok-word.ensures.moved c.in_ok-v.ensures.answer c.in_ok-v.ensures.moved c.in_ok-word-2.ensures.answer c.in_ok-word-2.ensures.moved
