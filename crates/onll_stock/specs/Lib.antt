pub mod Stock
pub mod Sales
pub mod Shop
