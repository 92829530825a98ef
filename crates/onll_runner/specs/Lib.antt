pub mod Devices
pub mod Ground
pub mod ResumeJob
pub mod RunEnds
pub mod RunJob
pub mod RunReport
