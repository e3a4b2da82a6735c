-- `text::write::row_len` meets its contract: a row is its numbers and eight bytes more.
-- Assumes nothing.
use native.Mathlib.Omega.{arith}
use Rattle.text.proofs.Wrote.{row-length}
use Rattle.text.proofs.write.row_len.Goals as goal

pub returns : goal.returns
returns c = (omega (arith, row-length c.args.a c.args.b c.args.s), omega arith)
