pub mod Shelves
pub mod Sinks
pub mod Fakes
pub mod Readers
