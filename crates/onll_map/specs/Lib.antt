pub mod Laws
pub mod Lookups
pub mod Map
pub mod Object
pub mod Places
pub mod Rows
