pub mod DigitLaws
pub mod SignedLaws
pub mod TextLaws
pub mod RowLaws
pub mod ScanLaws
pub mod NumberLaws
pub mod WidthLaws
