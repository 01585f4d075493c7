-- What a drain writes, what the marks are after a round of reports, and what holds while a drain is at work.
pub mod Drains
pub mod ReportRounds
pub mod DrainTurns
pub mod Turns
pub mod Standings
