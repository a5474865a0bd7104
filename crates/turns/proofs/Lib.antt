pub mod Blocks
pub mod CharacterLaws
pub mod CountLaws
pub mod Frames
pub mod KeptLaws
pub mod TurnLaws
pub mod Words
