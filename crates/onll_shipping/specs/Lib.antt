pub mod FollowJob
pub mod Laws
pub mod ShipJob
pub mod Turns
