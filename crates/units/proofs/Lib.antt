pub mod Divisor
pub mod Cancelling
pub mod Unit
pub mod Rounding
pub mod RefusedWith
pub mod Sums
