-- `cut::owners::owners_at` meets its contract: every device is wanted.
-- Assumes nothing.
use Rattle.std.proofs.Common.{◌∙◌, replicate}
use Rattle.cut.proofs.CallLaws.{owners-found}
use Rattle.cut.proofs.owners.owners_at.Goals as goal

pub returns : goal.returns
returns c = c.own_communities.ensures ∙ owners-found _ _ _ _ _ _ (replicate 128 0) c.args.plant.now.accepted.most_devices _
