pub mod State
pub mod Range
pub mod Step
pub mod Computed
