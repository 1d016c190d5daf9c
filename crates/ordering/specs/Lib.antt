-- what must be believed
pub mod Answer
pub mod Serial
pub mod Traces
-- what the parts of the code compute
pub mod Computed
