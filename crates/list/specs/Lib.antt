pub mod Past
pub mod Rules
pub mod Lawful
pub mod Steps
