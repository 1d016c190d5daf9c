pub mod Adding
pub mod Scans
pub mod EventScans
pub mod EventRests
pub mod Entries
pub mod Answers
pub mod Theorems
