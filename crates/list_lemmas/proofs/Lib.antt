pub mod Lists
pub mod Tests
pub mod Places
pub mod Told
pub mod Totals
pub mod Filters
pub mod Permuted
pub mod Numbered
