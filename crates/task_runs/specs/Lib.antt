pub mod Limits
pub mod Tasks
pub mod Lives
pub mod Histories
pub mod Answers
pub mod Numbers
pub mod Messages
pub mod Inside
