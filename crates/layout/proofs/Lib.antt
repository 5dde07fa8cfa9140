-- Laws that the proofs of the functions share.
pub mod Laws
pub mod Entries
pub mod Lists
pub mod Editions
pub mod Sections
pub mod Types
pub mod Notes
