pub mod Tallies
pub mod Accounts
pub mod Facts
pub mod Lifetimes
pub mod Orders
pub mod Served
pub mod Beginning
