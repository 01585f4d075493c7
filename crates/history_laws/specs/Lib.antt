pub mod Writes
pub mod Ids
pub mod Stamps
pub mod Keys
