mod ExitCauses
mod Forms
pub mod ShowWords
pub mod Shown
pub mod ReplayEnds
pub mod AgainEnds
pub mod AgainDurable
pub mod AgainDone
pub mod ResumeEnds
pub mod ResumeDone
pub mod RunEnds
pub mod CrashLeft
pub mod SaidEnds
pub mod Told
pub mod RecoverCrashes
pub mod RecoverRuns
pub mod RunDone
mod FormsDetermined
mod ShowDetermined
mod Kept
mod RunCuts
mod Dispatched
pub mod MakeEnds
pub mod DetectEnds
pub mod DetectedNodes
pub mod DetectedCrash
pub mod DetectCrashes
mod EraEnds
mod ShipEnds
mod AuditReading
pub mod AuditEnds
mod AuditRuns
mod FewNodes
mod RunJudged
pub mod FoldSteps
