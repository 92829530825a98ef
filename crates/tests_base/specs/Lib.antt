pub mod Register
pub mod Orders
