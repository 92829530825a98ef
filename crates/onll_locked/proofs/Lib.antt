pub mod Places
pub mod Reports
pub mod Keeping
pub mod Updates
pub mod Made
pub mod Firsts
pub mod Ready
pub mod Merged
