pub mod Scaling
pub mod Fractions
pub mod Steps
pub mod Starred
