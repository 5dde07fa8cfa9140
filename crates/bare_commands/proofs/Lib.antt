-- Laws that the functions' proofs cite.
pub mod Commands
pub mod Execution
