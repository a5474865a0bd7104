pub mod Arms
pub mod Numbers
pub mod SameBytes
pub mod FontTables
pub mod Sayings
pub mod Reasons
pub mod FaultLaws
pub mod AtStages
