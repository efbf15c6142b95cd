pub mod FigureLaws
pub mod LentLaws
pub mod PortionLaws
pub mod AcceptedLaws
pub mod NumberLaws
