pub mod SlopeLaws
pub mod AnewLaws
pub mod StillLaws
pub mod PassLaws
pub mod MovedLaws
pub mod BodyLaws
