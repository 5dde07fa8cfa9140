-- Laws that the functions' proofs cite.
pub mod Lists
pub mod Blocks
pub mod Places
