pub mod Accepted
pub mod Listed
