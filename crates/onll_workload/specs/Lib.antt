pub mod Workload
pub mod Faultless
pub mod Made
