pub mod Seats
pub mod Stopping
pub mod Taking
pub mod Deserializing
pub mod Deserializers
pub mod Turning
