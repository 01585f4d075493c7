pub mod drains
pub mod scripts
pub mod Replays
pub mod WorldDrains
