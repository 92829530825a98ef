pub mod Acts
pub mod Seats
pub mod Crews
pub mod Ended
