-- What the contracts of this crate cite.
pub mod Nodes
pub mod Promises
