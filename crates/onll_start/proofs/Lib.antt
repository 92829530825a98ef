pub mod Heads
pub mod Lines
pub mod Contents
pub mod Answered
pub mod Finding
pub mod Based
