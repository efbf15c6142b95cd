pub mod Second
pub mod Cases
