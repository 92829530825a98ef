pub mod Entry
pub mod Lease
pub mod Rows
pub mod Object
pub mod Laws
