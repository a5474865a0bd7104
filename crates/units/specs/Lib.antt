pub mod Divisor
pub mod Unit
pub mod Rounding
pub mod Starred
pub mod Steps
pub mod LowestTerms
