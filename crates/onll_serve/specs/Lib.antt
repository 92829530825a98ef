pub mod Serving
pub mod Lives
pub mod Linking
pub mod Moments
pub mod Ending
