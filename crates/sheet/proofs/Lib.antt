pub mod CallLaws
pub mod LimitLaws
pub mod SolvingLaws
pub mod FreedomLaws
pub mod CaseLaws
pub mod GoingLaws
