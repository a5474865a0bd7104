pub mod Placing
pub mod Counting
pub mod Blocks
pub mod Steps
