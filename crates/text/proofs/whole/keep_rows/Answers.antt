-- `text::whole::keep_rows` meets its contract: the next row is there, and each list keeps its number.
-- Assumes nothing.
use native.Mathlib.Omega.{arith}
use mathlib.Core.Path.{ap, sym, ◌∙◌}
use Rattle.text.specs.declared.reader.Line.{Line}
use Rattle.text.proofs.Fields.{then-is}
use Rattle.text.proofs.Forms.{on_some, some-test, passing-next, passing-more}
use Rattle.text.proofs.Lists.{kept-all, kept_more}
use Rattle.text.proofs.whole.keep_rows.Goals as goal

pub unwrap-line-requires : goal.unwrap-line-requires
unwrap-line-requires c = some-test _ _ (passing-next c.loop-i.invariant.0 c.loop-i-test.true c.requires.good) c.row.ensures.answer

pub loop-i-preserved : goal.loop-i-preserved
loop-i-preserved c =
    let is = sym c.unwrap-line.ensures ∙ c.row.ensures.answer in
    let moved = on_some c.row.result _ (sym c.unwrap-line.ensures) c.row.ensures.moved in
    let line = (then-is _ _ _ is).1 in (
      passing-more c.loop-i.invariant.0 c.loop-i-test.true is moved,
      kept_more c.loop-i.invariant.1 c.loop-i-test.true (ap (λ (l : Line). l.first) line) moved,
      kept_more c.loop-i.invariant.2 c.loop-i-test.true (ap (λ (l : Line). l.second) line) moved,
      kept_more c.loop-i.invariant.3 c.loop-i-test.true (ap (λ (l : Line). l.signals) line) moved,
    )

pub returns : goal.returns
returns c = (
  kept-all c.loop-i.invariant.1 (omega arith),
  kept-all c.loop-i.invariant.2 (omega arith),
  kept-all c.loop-i.invariant.3 (omega arith),
)
