-- `grouping::crossing::outs_of` meets its contract. The loop's invariant: each out is that of the first l lines. Assumes nothing.
use Rattle.std.proofs.Common.{◌≤◌, length}
use Rattle.grouping.proofs.GroupSums.{Tally, none, out_of}
use Rattle.grouping.proofs.crossing.outs_of.Given as goal

abbrev pub invariant-loop-l : goal.invariant-loop-l
invariant-loop-l l =
    (l.l ≤ length l.plant.firsts.now) × Tally l.plant.devices none (out_of l.plant.firsts.now l.plant.seconds.now l.plant.signals.now l.labels) l.outs l.l
