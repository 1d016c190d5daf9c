pub mod Stepped
pub mod Follows
pub mod Courses
pub mod Rows
-- what is only computed
pub mod Computed
