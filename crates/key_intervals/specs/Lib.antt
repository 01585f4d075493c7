pub mod Intervals
pub mod Division
pub mod Refusing
pub mod Index
