-- `network::reach::mark_of` meets its contract: of marks that are all 0 that of d becomes 1.
-- Assumes nothing.
use Rattle.network.proofs.ReachLaws.{marks_begin}
use Rattle.network.proofs.reach.mark_of.Goals as goal

pub returns : goal.returns
returns c = marks_begin c.args.d c.requires
