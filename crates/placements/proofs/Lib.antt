pub mod Areas
pub mod RecordWords
