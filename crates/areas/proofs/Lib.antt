pub mod Pasting
