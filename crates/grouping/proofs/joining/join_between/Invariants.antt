-- The invariant of the loop of `grouping::joining::join_between`: two known levels, of which only the coarser has the two devices in one
-- group. The measure is what the finer has more of groups.
use Rattle.std.proofs.Common.{◌-◌}
use Rattle.cut.specs.Stated.{stated}
use Rattle.grouping.proofs.JoinCalls.{Parted}
use Rattle.grouping.proofs.joining.join_between.Given as goal

abbrev pub invariant-loop-finer : goal.invariant-loop-finer
invariant-loop-finer l = Parted (stated l.plant) l.one l.other l.finer l.coarser

abbrev pub decreases-loop-finer : goal.decreases-loop-finer
decreases-loop-finer l = l.finer.groups - l.coarser.groups
