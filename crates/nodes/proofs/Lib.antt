-- Laws that the proofs of the functions share.
pub mod Lookups
pub mod Sorts
pub mod Answers
