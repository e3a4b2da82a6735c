-- Definitions that the contract of the desk's function cites.
--     Calls       what the desk's function answers and fills
pub mod Calls
