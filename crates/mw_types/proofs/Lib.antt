pub mod OrderLaws
pub mod CauseLaws
mod Fronts
mod Pairs
mod Sides
