pub mod Placing
pub mod Nodes
pub mod Standing
pub mod Balancing
pub mod Exactly
