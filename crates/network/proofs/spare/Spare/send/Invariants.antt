-- `network::spare::Spare::send` meets its contract. The loop's invariant is `Going`: what goes has gone from place j to place `end`, and can still go to place j. The measure is j.
-- Assumes nothing.
use mathlib.Core.Path.{◌≡◌}
use Rattle.network.proofs.PathLaws.{Going}
use Rattle.network.proofs.spare.Spare.send.Given as goal

abbrev pub invariant-loop-j : goal.invariant-loop-j
invariant-loop-j l = record {
  going : Going l.lines.network.firsts.now l.lines.network.seconds.now l.initial.self.forth l.initial.self.back l.queue.node l.queue.via l.queue.from l.end l.amount l.self.forth l.self.back l.j;
  drain : l.self.drain ≡ l.initial.self.drain;
}

abbrev pub decreases-loop-j : goal.decreases-loop-j
decreases-loop-j l = l.j
