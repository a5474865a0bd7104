pub mod Judged
pub mod History
pub mod Names
pub mod Steps
pub mod Starred
pub mod OfList
pub mod Refusing
