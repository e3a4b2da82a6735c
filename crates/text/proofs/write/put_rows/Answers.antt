-- `text::write::put_rows` meets its contract: each turn of the loop writes the row of line i behind those before it.
-- Assumes nothing.
use Rattle.text.proofs.Wrote.{rows_all, rows-room, rows_more}
use Rattle.text.proofs.write.put_rows.Goals as goal

pub put_row-requires : goal.put_row-requires
put_row-requires c = rows-room c.args.plant.now.accepted.one_length c.args.plant.now.accepted.one_length' c.requires c.loop-i.invariant c.loop-i-test.true

pub loop-i-preserved : goal.loop-i-preserved
loop-i-preserved c = rows_more c.args.plant.now.accepted.one_length c.args.plant.now.accepted.one_length' c.requires c.loop-i.invariant c.loop-i-test.true c.put_row.ensures

pub returns : goal.returns
returns c = rows_all c.args.plant.now.accepted.one_length c.args.plant.now.accepted.one_length' c.requires c.loop-i.invariant c.loop-i-test.false
