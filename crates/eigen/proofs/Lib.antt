pub mod SortLaws
pub mod BeforeLaws
pub mod Sorting
pub mod EigenLaws
pub mod EigenSortLaws
pub mod SweepLaws
pub mod SumLaws
