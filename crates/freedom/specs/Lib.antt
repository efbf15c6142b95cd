pub mod Values
pub mod Total
pub mod Freed
