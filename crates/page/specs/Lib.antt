pub mod PageList
pub mod Answers
pub mod Steps
pub mod Printed
pub mod Trace
