-- Definitions that the contracts of this crate cite.
--     Between  the network between two levels; no public contract cites it
--     Calls    what the public calls answer and what they leave in the lent lists
--     Level    a level of the hierarchy as a value, and what makes it one; no public contract cites it
--     Stretch  what the functions of the search between two levels say to each other; no public contract cites it
pub mod Between
pub mod Calls
pub mod Level
pub mod Stretch
