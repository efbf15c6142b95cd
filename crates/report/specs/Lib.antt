pub mod Report
pub mod ReportOf
pub mod ReportCases
