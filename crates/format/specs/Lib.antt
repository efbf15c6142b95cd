pub mod Format
pub mod Faults
pub mod Fields
pub mod Words
