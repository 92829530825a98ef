pub mod RecoverJob
pub mod ReplayJob
pub mod AgainJob
pub mod DetectJob
