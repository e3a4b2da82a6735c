-- Laws on plain values for the proofs of this crate's functions.
--     RateLaws    rates: the range, the common divisor, lowest terms and that they are the only ones
--     CheckLaws   the rules of a line and of the lines from k on, as the check of a plant goes through them
--     Determined  two results that a public contract allows are equal
--     CallLaws    the public calls: first fault, answer and lent lists, refused and accepted
--     SetLaws     the plant as a network, and sets that are given by marks
--     SameRate    rates that are one fraction: the community call answers the same and leaves the same marks
pub mod RateLaws
pub mod CheckLaws
pub mod SetLaws
pub mod CallLaws
pub mod Determined
pub mod SameRate
