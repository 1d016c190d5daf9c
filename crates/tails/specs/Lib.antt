pub mod Tails
pub mod Examples
pub mod Longest
