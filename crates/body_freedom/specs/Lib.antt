pub mod Dof
pub mod Square
pub mod Layout
pub mod Motions
pub mod BodyFreedom
pub mod BodySlopes
