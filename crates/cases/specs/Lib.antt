-- What the contracts of this crate cite.
pub mod Cases
pub mod Lines
