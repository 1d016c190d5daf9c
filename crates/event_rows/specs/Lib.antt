pub mod EventRows
-- what is only computed
pub mod Computed
