pub mod TrialLaws
pub mod RoundLaws
pub mod RunLaws
