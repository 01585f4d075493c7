pub mod Bags
pub mod Held
pub mod Steps
pub mod Parts
pub mod SafeMarks
