pub mod First
pub mod Drained
pub mod Overtaken
pub mod Rising
pub mod OwnWorks
pub mod Wide
pub mod Spikes
