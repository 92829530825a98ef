pub mod Keeping
pub mod Newest
pub mod Laws
