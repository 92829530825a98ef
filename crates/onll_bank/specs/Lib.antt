pub mod Bank
pub mod Laws
pub mod Object
pub mod Totals
