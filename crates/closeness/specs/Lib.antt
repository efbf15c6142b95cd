pub mod RowBound
pub mod HowClosely
