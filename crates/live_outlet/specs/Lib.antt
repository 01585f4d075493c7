pub mod LiveLines
pub mod Collecting
pub mod Outlets
pub mod Covering
pub mod Guesses
pub mod Tokens
pub mod Progress
