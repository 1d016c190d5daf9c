-- what must be believed
pub mod Places
pub mod CriticalSections
pub mod Sequential
pub mod Denials
pub mod Demand3
pub mod Entries
-- what is computed, and proved to be that
pub mod View
pub mod Refusals
pub mod Order
-- as it was before document 02 (i)
pub mod Ten
