pub mod Working
pub mod Lives
pub mod FileLines
pub mod Holding
pub mod Linking
pub mod Moments
