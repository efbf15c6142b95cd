pub mod Judge
pub mod Count
