pub mod Lettered
pub mod Lines
