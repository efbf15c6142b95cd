pub mod Solve
pub mod Scene
pub mod Sheet
