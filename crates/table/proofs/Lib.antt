-- Laws that the proofs of the functions share.
pub mod Uses
pub mod Nodes
pub mod Commands
pub mod Whole
pub mod Editions
