-- The laws behind the grouping part.
--     FitLaws     a product fits in a word, and what turns of loops ask
--     OwnerLaws   labels from owners in one pass
--     MarkLaws    the marks of the devices that own themselves
--     FaultLaws   the first fault of the grouping call
--     LevelLaws   levels, and what it is enough to search for one
--     BetweenLaws the network between two levels
--     JoinNetLaws the lines of that network
--     DrainLaws   the drains of that network
--     GroupSums   lists with a number for each label, added up: shares, sizes and outs of groups
--     BestLaws    the greatest crossing rate of each coarser group, and the least of these
--     SearchLaws  the recursive search between two levels, on plain lists
--     CrossLaws   the crossing rate from the greatest rate of each coarser label and the least of these
--     HalfLaws    the two halves of the stretch between two known levels
--     EndCalls    the levels at the largest and at the least rate
--     CallLaws    the calls: what they answer and leave in the lent list
--     HierarchyCalls  the hierarchy call
--     JoinCalls   the call for a joining rate
--     RowLaws     the row of a level in the label list
--     RowCalls    the row of a level as it is shown: the first fault, test by test, and no accepted row is empty
--     Determined  two results that a contract allows are equal
--     HierarchyDetermined  the same of the hierarchy and the joining rate, and what the filled lists say
pub mod FitLaws
pub mod OwnerLaws
pub mod MarkLaws
pub mod FaultLaws
pub mod LevelLaws
pub mod BetweenLaws
pub mod DrainLaws
pub mod JoinNetLaws
pub mod BestLaws
pub mod RowLaws
pub mod HalfLaws
pub mod SearchLaws
pub mod GroupSums
pub mod CrossLaws
pub mod EndCalls
pub mod CallLaws
pub mod HierarchyCalls
pub mod JoinCalls
pub mod RowCalls
pub mod Determined
pub mod HierarchyDetermined
