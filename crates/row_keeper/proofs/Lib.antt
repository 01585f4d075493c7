pub mod Within
pub mod Answered
pub mod Shown
pub mod Overwritten
pub mod Edited
