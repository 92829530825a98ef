pub mod Tickets
pub mod Sales
pub mod Selling
