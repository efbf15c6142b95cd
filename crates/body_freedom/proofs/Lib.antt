pub mod BodyLaws
pub mod BodySlopeLaws
pub mod SquareLaws
