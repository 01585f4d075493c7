pub mod Sources
pub mod EventLines
pub mod EventFiles
pub mod Answers
pub mod Progress
pub mod ShortForm
