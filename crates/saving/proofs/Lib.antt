pub mod ReadingLaws
pub mod PartsLaws
pub mod SavingLaws
pub mod SavedLaws
