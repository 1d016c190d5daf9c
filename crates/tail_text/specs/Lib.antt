-- what must be believed
pub mod TailText
-- what the parts of the code compute
pub mod Computed
