-- Laws on plain values for the proofs of this crate's functions.
--     EndLaws     the ends of a line
--     IndexLaws   the index of each node's lines, line by line
--     ReachLaws   the tree that a search has reached, node by node
--     PathLaws    the way back from a place of the queue: how much can go, and what sending it changes
--     KeptLaws    what a send leaves of the search: the whole queue, or the places before the first whose line it used up
--     SpareLaws   what each set costs is what has been sent and what can still leave it: at the start, after a path, at the end
--     LeastLaws   the node that a search has found, and the way to it
--     AloneLaws   a node without a line is its own least set
--     CallLaws    the loop over the nodes, and the owners that it leaves
--     Determined  two results that its contract allows are equal
pub mod EndLaws
pub mod IndexLaws
pub mod ReachLaws
pub mod PathLaws
pub mod KeptLaws
pub mod SpareLaws
pub mod LeastLaws
pub mod AloneLaws
pub mod CallLaws
pub mod Determined
