-- `network::index::Lines::before` meets its contract: line l touches v, so v is one of its two ends.
-- Assumes nothing.
use Rattle.network.proofs.IndexLaws.{before-second}
use Rattle.network.proofs.index.Lines.before.Goals as goal

pub returns : goal.returns
returns c = rw c.line_of-2.ensures (before-second _ _ c.args.self.now.priors _ _ c.requires.line c.requires.own c.if-self-l.false)
