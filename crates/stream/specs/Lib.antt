-- What the contracts of this crate cite.
pub mod Items
pub mod Parts
