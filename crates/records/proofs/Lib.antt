pub mod RecordLaws
pub mod RowLaws
pub mod HeldMarks
pub mod MarkedRows
pub mod Copies
