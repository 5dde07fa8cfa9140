-- Laws that the functions' proofs cite.
pub mod Items
pub mod Parts
