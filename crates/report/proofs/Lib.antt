pub mod TextLaws
pub mod RunLaws
pub mod ReportCaseLaws
