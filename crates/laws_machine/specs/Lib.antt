pub mod Frames
pub mod Delivery
pub mod Begins
pub mod Steps
pub mod Machine
pub mod Leaves
pub mod Laws
