pub mod Firsts
pub mod Results
pub mod StartedWorlds
pub mod DrainTurnLaws
pub mod GoLaws
pub mod WholeDrains
pub mod RunLaws
