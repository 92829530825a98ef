pub mod Crashes
pub mod Resumes
pub mod Determined
pub mod PrintedReads
pub mod ReplaySteps
pub mod Replays
pub mod Detects
