pub mod WalkLaws
pub mod VolatileLaws
pub mod TraceLaws
pub mod Exits
