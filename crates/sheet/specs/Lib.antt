pub mod Calls
pub mod Solving
pub mod Freedoms
pub mod Cases
pub mod Going
