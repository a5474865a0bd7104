pub mod Converting
pub mod Named
pub mod Steps
