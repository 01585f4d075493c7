pub mod Searching
pub mod Windows
pub mod Fresh
pub mod Totals
