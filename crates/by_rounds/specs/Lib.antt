pub mod Running
pub mod State
pub mod Held
