pub mod RowLaws
pub mod Sending
pub mod EditLaws
