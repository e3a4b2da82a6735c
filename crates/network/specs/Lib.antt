-- Definitions that the contracts of this crate cite.
--     Calls    what the public call takes, answers and fills
--     Search   what the functions of the search say to each other; no public contract cites it
--     Parts    the same of the structs that they hand to each other; no public contract cites it
pub mod Calls
pub mod Search
pub mod Parts
