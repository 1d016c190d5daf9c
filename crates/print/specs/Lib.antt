-- what must be believed
pub mod Input
