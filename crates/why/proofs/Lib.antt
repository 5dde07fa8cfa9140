-- Laws that the functions' proofs cite.
pub mod Owners
pub mod Told
pub mod Room
pub mod Calls
pub mod Examples
