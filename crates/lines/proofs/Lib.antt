-- Laws that the functions' proofs cite.
pub mod Lines
pub mod Examples
