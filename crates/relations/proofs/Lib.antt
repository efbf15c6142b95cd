pub mod Values
pub mod RowsLaws
