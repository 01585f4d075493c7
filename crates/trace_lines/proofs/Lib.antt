pub mod Cutting
pub mod Writing
pub mod Choosing
pub mod Parting
pub mod ValueLaws
pub mod IdBounds
pub mod EntryLaws
pub mod OneReading
