pub mod AnewSlopes
pub mod Moved
