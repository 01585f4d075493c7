pub mod Choices
pub mod Standings
pub mod Waits
pub mod Works
pub mod Keeping
pub mod Lows
pub mod Guesses
pub mod Steps
