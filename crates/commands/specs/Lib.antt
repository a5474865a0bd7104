pub mod Kinds
pub mod Fields
pub mod Parameters
pub mod Lengths
pub mod Commands
pub mod Reading
pub mod ByKind
