pub mod Halving
pub mod OneDivision
pub mod RefusedWith
