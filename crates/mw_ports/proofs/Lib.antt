pub mod Pieces
pub mod Causings
pub mod Takings
