-- What each step of a script does and keeps, the worked scripts, and what it means that steps are done for real.
pub mod Worlds
pub mod Acts
pub mod Keeping
pub mod Copies
pub mod Scripts
pub mod RelayScripts
pub mod WorldStates
pub mod Stepping
pub mod Standing
pub mod Relaying
pub mod WorkerCalls
pub mod ScriptRuns
