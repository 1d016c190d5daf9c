pub mod Replies
-- what is only computed
pub mod Computed
