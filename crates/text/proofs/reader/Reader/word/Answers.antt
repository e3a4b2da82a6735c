-- `text::reader::Reader::word` meets its contract.
-- Assumes nothing.
use mathlib.Core.Path.{refl}
use Rattle.text.proofs.Steps.{begins-by}
use Rattle.text.proofs.reader.Reader.word.Goals as goal

pub returns-then-not-starts_with-clause-answer : goal.returns-then-not-starts_with-clause-answer
returns-then-not-starts_with-clause-answer c = rw (begins-by _ _ _ c.rest.ensures c.starts_with.ensures.value c.if-not-starts_with.true) refl

pub returns-clause-answer : goal.returns-clause-answer
returns-clause-answer c = rw (begins-by _ _ _ c.rest.ensures c.starts_with.ensures.value c.if-not-starts_with.false) refl
