-- `grouping::join::Lines::put` meets its contract: the lower end is handed on first. Assumes nothing.
use Rattle.grouping.proofs.JoinNetLaws.{put-turned}
use Rattle.grouping.proofs.join.Lines.put.Goals as goal

pub returns-else-x-y : goal.returns-else-x-y
returns-else-x-y c = put-turned _ _ _ _ _ _ _ c.put_rising-else-x-y.ensures
