pub mod Utf8
pub mod Control
pub mod Reading
