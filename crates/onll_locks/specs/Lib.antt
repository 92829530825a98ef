pub mod Locks
pub mod Laws
pub mod Requests
pub mod Clerks
pub mod Serving
