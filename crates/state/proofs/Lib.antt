pub mod Levels
pub mod Kept
pub mod Nearness
pub mod Words
pub mod Nearby
