-- Theorems about the definitions of specs/.
pub mod Examples
pub mod Numbers
pub mod Scanning
pub mod Decimal
