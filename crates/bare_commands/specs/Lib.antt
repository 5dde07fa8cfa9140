-- What the contracts of this crate cite.
pub mod Command
pub mod Execution
