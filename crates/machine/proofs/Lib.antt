-- Laws that the functions' proofs cite.
pub mod Reasons
pub mod Calls
pub mod Explaining
pub mod Bare
