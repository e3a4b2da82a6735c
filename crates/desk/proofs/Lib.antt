-- The laws behind the desk's function.
--     FaultLaws   its first fault: that of reading the text, then that of the grouping call
--     CallLaws    what it answers and fills, by what was found on the way
--     Determined  two results that its contract allows are equal
pub mod FaultLaws
pub mod CallLaws
pub mod Determined
