pub mod SceneAt
pub mod Refusals
pub mod Parts
