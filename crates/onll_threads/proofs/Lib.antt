pub mod Acting
pub mod Sitting
pub mod Jobs
pub mod Ending
pub mod Hearing
