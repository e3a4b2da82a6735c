-- Definitions that the contract of this crate cites.
--     Timed  what the measured call answers and leaves in the lent lists
pub mod Timed
