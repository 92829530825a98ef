pub mod LinesBack
pub mod AreaReads
pub mod KeptDevices
pub mod Zeros
pub mod WholeAreas
pub mod NewestChanges
