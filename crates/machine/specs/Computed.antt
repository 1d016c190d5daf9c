pub mod Walk
pub mod Tallies
