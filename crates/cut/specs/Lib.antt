-- Definitions that the contracts of this crate cite.
--     Calls      what the public calls answer and what they leave in the lent lists
--     Stated     the plant that an accepted plant's number and lists state
--     RateCalls  what comparison and reduction of rates answer
--     RateLoop   what the loop of a reduction finds; no public contract cites it
pub mod Calls
pub mod Stated
pub mod RateCalls
pub mod RateLoop
