pub mod Tallying
pub mod Accounting
pub mod Lifetimes
pub mod Telling
pub mod Ordering
