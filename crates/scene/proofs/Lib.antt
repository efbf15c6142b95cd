pub mod SceneLaws
pub mod LayoutLaws
pub mod RowCountLaws
pub mod PutLaws
