pub mod Flat
pub mod Eigen6Laws
pub mod SpanLaws
pub mod SortedLaws
