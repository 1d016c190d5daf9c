-- what must be believed
pub mod Tail
-- what the parts of the code compute
pub mod Computed
