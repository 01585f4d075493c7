pub mod Words
pub mod Grammar
pub mod Clap
pub mod Inside
