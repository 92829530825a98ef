pub mod Meter
pub mod Counting
pub mod Metering
