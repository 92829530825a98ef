pub mod Ordering
pub mod Fixtures
