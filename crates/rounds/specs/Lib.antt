pub mod Parts
pub mod Rounds
pub mod Solver
