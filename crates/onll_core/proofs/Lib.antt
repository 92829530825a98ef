pub mod Phases
pub mod Lawful
pub mod LawfulSteps
pub mod LegalReport
pub mod Timed
pub mod TimedSteps
pub mod InTime
pub mod Replicas
pub mod Calls
pub mod CoreFrames
pub mod Windows
pub mod Ties
pub mod StepEvents
pub mod Kept
pub mod Operations
pub mod Owns
pub mod Closings
pub mod Fences
pub mod Begin
pub mod FirstCore
pub mod Created
pub mod Ready
pub mod Bounds
pub mod ReachedCores
pub mod Stays
pub mod Images
pub mod Crashed
pub mod Recovered
pub mod GoOn
pub mod Rows
pub mod EntryLines
pub mod Plays
pub mod Firsts
pub mod Durable
mod FoundLogs
mod Heads
mod FoundWorkers
mod FoundCores
pub mod Generations
pub mod Based
