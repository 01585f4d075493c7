pub mod SendLaws
pub mod PutLaws
pub mod ReportLaws
pub mod Sending
