pub mod Chosen
pub mod CutList
pub mod CutFile
pub mod Steps
pub mod Starred
