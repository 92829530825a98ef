mod Sums
pub mod Totals
