pub mod Locked
pub mod DoNext
pub mod Kept
pub mod Whole
pub mod Laws
