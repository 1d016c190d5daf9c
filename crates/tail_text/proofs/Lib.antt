pub mod RowTexts
pub mod TailLaws
