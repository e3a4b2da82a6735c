-- The laws of the definitions in specs/.
--     Statements    document 01's sentences on cuts, communities and groups, as it says them
--     Figures       K1 to K12
--     RefusalLaws   the first fault: 0 exactly for an accepted plant
--     FaultLaws     no fault has number 0, and number and place determine it
--     PlantLaws     an accepted plant: a pair occurs once, all signals together
--     SetLaws       small laws of tests and sets that the others cite
--     SumLaws       sums of numbers, and out and size as sums
--     SumLoop       a loop that adds up
--     Sums          out, size and cost of two sets together
--     AddedLaws     the cost is q times the cut of the graph with the added vertex t
--     Best          the community is the best set that holds its device
--     Communities   the only one; nested or apart
--     Bounds        the two bounds of a group
--     Rates         communities at two rates
--     RangeLaws     the range test of a rate, bound by bound, and its least and largest
--     LowestLaws    a fraction has one form in lowest terms
--     OrderLaws     the order of fractions by cross products
--     Family        what the groups need of the communities
--     GroupLaws     the group of a device
--     LabelLaws     the lowest device of a set, the label of a device, a list by its entries
--     FillLaws      a lent list filled at the front, entry by entry
--     DistinctLaws  the number of distinct labels: of devices that are their own label
--     Divides       a lower rate never divides a group of a higher one
--     Instance      the communities at a rate are such a family; the laws of groups for all positive fractions
--     LevelLaws     two group lists of one plant, and their numbers of groups
--     UnionLaws     the community of a group's own device at a lower rate is a union of groups
--     NetworkLaws   a network's least set is the only one, and the community where sets cost what they cost in the plant; sums over nodes
--     NodeNetwork   one network for all walls, whose nodes are sets of devices: what a set of nodes costs, and its least set
--     CrossingLaws  the rate that the search between two levels finds
--     EndLaws       the groups at the highest and at the lowest rates
--     LadderLaws    levels between two rates: one breakpoint, two ladders joined, and the hierarchy from a whole ladder
--     JoinLaws      the joining rate of two devices: the only one, and how it is found
--     HierarchyLaws a plant has one hierarchy, and its levels are all groupings that occur
--     Owners        owners of devices, whichever way the devices are gone through
--     Sweep         the groups by going through the devices once
--     SweepLaws     which sets the owners depend on
--     Order         the same in any order of the devices
pub mod Figures
pub mod RefusalLaws
pub mod FaultLaws
pub mod SetLaws
pub mod PlantLaws
pub mod SumLaws
pub mod SumLoop
pub mod Sums
pub mod AddedLaws
pub mod Best
pub mod Communities
pub mod Bounds
pub mod Rates
pub mod RangeLaws
pub mod LowestLaws
pub mod OrderLaws
pub mod Family
pub mod GroupLaws
pub mod LabelLaws
pub mod DistinctLaws
pub mod FillLaws
pub mod Divides
pub mod Owners
pub mod Sweep
pub mod Order
pub mod Instance
pub mod SweepLaws
pub mod EndLaws
pub mod LadderLaws
pub mod JoinLaws
pub mod HierarchyLaws
pub mod Statements
pub mod LevelLaws
pub mod CrossingLaws
pub mod UnionLaws
pub mod NetworkLaws
pub mod NodeNetwork
