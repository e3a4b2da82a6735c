-- `grouping::hierarchy::search` ends: the difference of the two levels' numbers of groups falls.
use Rattle.std.proofs.Common.{◌-◌}
use Rattle.grouping.proofs.hierarchy.+search.Given as goal

abbrev pub decreases-search : goal.decreases-search
decreases-search l = l.finer.now.groups - l.coarser.now.groups
