pub mod Limits
pub mod Moving
pub mod Registers
pub mod Nearby
pub mod Steps
pub mod Starred
