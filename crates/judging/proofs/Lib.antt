pub mod Locks
pub mod Rows
pub mod Turned
pub mod Leads
pub mod Waits
pub mod AnyTurn
