pub mod TestLaws
pub mod TestSeatLaws
pub mod TestTurnLaws
