pub mod OldWords
pub mod Renumbered
pub mod Unplaced
pub mod SameCommand
