pub mod RowBoundLaws
pub mod HowCloselyLaws
