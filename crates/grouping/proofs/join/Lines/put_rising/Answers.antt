-- `grouping::join::Lines::put_rising` meets its contract: what it stores is one of the two ways to put a line. Assumes nothing.
use Rattle.std.proofs.Common.{arith}
use Rattle.grouping.proofs.JoinNetLaws.{put_last, put-more}
use Rattle.grouping.proofs.join.Lines.put_rising.Goals as goal

pub returns-then-self-last-2 : goal.returns-then-self-last-2
returns-then-self-last-2 c = put_last _ _ _ _ _ _ _ c.if-m-gt0.true (omega arith) c.if-self-last.true c.if-self-last-2.true

pub returns : goal.returns
returns c = put-more _ _ _ _ _ _ _ c.requires.0 (omega arith, omega arith, omega arith)
