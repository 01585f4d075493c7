pub mod TestBooks
pub mod TestKinds
pub mod TestSeats
