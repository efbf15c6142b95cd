pub mod Sort
pub mod Insertion
pub mod Eigen
pub mod EigenMemory
