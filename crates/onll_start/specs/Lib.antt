pub mod Heads
pub mod Start
pub mod Found
pub mod Based
