-- `text::reader::well_formed` meets its contract: each way is what `well_formed` computes to, by how many digits there are.
-- Assumes nothing.
use Rattle.text.proofs.Fields.{formed-none, formed-one, formed-more}
use Rattle.text.proofs.reader.well_formed.Goals as goal

pub returns-in-empty : goal.returns-in-empty
returns-in-empty c = formed-none _ c.in-empty.len_below

pub returns-in-len1 : goal.returns-in-len1
returns-in-len1 c = formed-one _ c.in-len1.len_at_least c.in-len1.len_below

pub returns-in-len1-up : goal.returns-in-len1-up
returns-in-len1-up c = formed-more _ c.in-len1-up.len_at_least
