-- `text::write::rows_len` meets its contract: each turn of the loop counts the bytes of the row of line i.
-- Assumes nothing.
use native.Mathlib.Omega.{arith}
use Rattle.text.proofs.Wrote.{sum-all, sum_more}
use Rattle.text.proofs.write.rows_len.Goals as goal

pub loop-i-preserved : goal.loop-i-preserved
loop-i-preserved c =
    sum_more c.args.plant.now.firsts.now c.args.plant.now.seconds.now c.args.plant.now.signals.now c.args.plant.now.accepted.one_length c.args.plant.now.accepted.one_length' c.loop-i.invariant c.loop-i-test.true c.row_len-sum.ensures

pub returns : goal.returns
returns c = (
  sum-all c.args.plant.now.firsts.now c.args.plant.now.seconds.now c.args.plant.now.signals.now c.args.plant.now.accepted.one_length c.args.plant.now.accepted.one_length' c.loop-i.invariant c.loop-i-test.false,
  omega (arith, c.loop-i.invariant, c.args.plant.now.accepted.most_lines),
)
