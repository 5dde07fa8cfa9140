-- Laws that the functions' proofs cite.
pub mod Lookups
pub mod Nodes
pub mod Ready
pub mod Shortcuts
pub mod Commands
