pub mod PortionLaws
pub mod FinishLaws
pub mod ChangeLaws
pub mod OwnLaws
pub mod KnownLaws
