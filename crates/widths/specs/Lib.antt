pub mod Table
pub mod LookUp
pub mod Steps
pub mod AsBytes
pub mod Entries
