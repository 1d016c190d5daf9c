pub mod Report
pub mod Same
pub mod Ten
-- what is only computed
pub mod Computed
