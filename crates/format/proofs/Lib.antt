pub mod RefusalLaws
pub mod WordLaws
pub mod BitOrder
pub mod FieldLaws
