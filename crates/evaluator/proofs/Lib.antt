-- Laws that the functions' proofs cite.
pub mod Outcomes
pub mod Ready
pub mod Evaluation
pub mod Noted
