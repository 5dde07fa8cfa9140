-- Laws that the functions' proofs cite.
pub mod Calls
pub mod Examples
