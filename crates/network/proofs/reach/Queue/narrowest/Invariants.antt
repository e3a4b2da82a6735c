-- `network::reach::Queue::narrowest` meets its contract. The loop's invariant is `Narrow`: what is at most `most` and can go to place j can go to place `end`. The measure is j.
-- Assumes nothing.
use Rattle.network.proofs.PathLaws.{Narrow}
use Rattle.network.proofs.reach.Queue.narrowest.Given as goal

abbrev pub invariant-loop-j : goal.invariant-loop-j
invariant-loop-j l = Narrow l.lines.network.firsts.now l.spare.forth l.spare.back l.self.node l.self.via l.self.from l.end l.limit l.most l.j

abbrev pub decreases-loop-j : goal.decreases-loop-j
decreases-loop-j l = l.j
