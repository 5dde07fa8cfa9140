-- What the contracts of this crate cite.
pub mod Ascii
pub mod Owners
pub mod Told
