pub mod ValueLaws
pub mod ColumnLaws
pub mod TotalLaws
pub mod DofLaws
