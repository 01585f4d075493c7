pub mod Contents
pub mod Changes
pub mod Spelling
pub mod Orders
pub mod Places
pub mod Reading
