pub mod Outcomes
pub mod Workers
pub mod Left
pub mod Ended
pub mod Crew
pub mod Making
pub mod Ran
pub mod Done
