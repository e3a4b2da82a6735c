-- The laws behind the measured call.
--     Determined  two results that its contract allows are equal
pub mod Determined
