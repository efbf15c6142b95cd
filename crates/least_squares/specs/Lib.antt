pub mod Lm
pub mod Memory
pub mod Triangle
pub mod LmPosts
pub mod Dense
pub mod Filled
