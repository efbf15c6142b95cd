pub mod EndLaws
pub mod GoLaws
pub mod HeldLaws
pub mod OverLaws
