pub mod Bytes
pub mod Writing
pub mod Structs
pub mod Lent
