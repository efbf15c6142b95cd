pub mod Flat
pub mod Eigen6
pub mod Span
pub mod Basis
pub mod Sorted
