-- What the contracts of this crate cite.
pub mod Layout
pub mod Lists
pub mod Types
pub mod Notes
pub mod Refusals
