pub mod Geometry
pub mod Model
pub mod Rows
