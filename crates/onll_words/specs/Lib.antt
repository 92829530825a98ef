pub mod Bytes
pub mod Lines
pub mod Numbers
pub mod Short
pub mod Texts
