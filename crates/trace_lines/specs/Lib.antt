pub mod Lines
pub mod Entries
pub mod Readings
pub mod Refusals
pub mod Choices
pub mod Values
