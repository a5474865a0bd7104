pub mod Ranges
pub mod Opcodes
pub mod ParameterLengths
pub mod Fronts
pub mod Readings
pub mod RefusedWith
