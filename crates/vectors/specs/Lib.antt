pub mod Tol
pub mod Vec
pub mod Space
pub mod Math
