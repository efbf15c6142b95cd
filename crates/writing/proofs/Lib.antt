pub mod PutLaws
pub mod NumberLaws
pub mod RecordLaws
pub mod LocalLaws
pub mod SheetLaws
pub mod OneSheetLaws
pub mod StructLaws
pub mod LentLaws
