pub mod Splitting
pub mod Cuts
pub mod Digits
pub mod Sayings
