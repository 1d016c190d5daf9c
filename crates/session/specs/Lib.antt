-- what must be believed
pub mod Sheet
pub mod Counting
pub mod Session
-- what the parts of the code compute
pub mod Computed
