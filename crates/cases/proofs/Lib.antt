-- Laws that the functions' proofs cite.
pub mod Cases
pub mod Lines
