pub mod Bits
pub mod Arms
