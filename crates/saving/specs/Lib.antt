pub mod Saving
pub mod Fields
pub mod Saved
