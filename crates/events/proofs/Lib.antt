pub mod StageLaws
pub mod LineLaws
pub mod FormLaws
pub mod WalkLaws
pub mod ReadLaws
pub mod LinedLaws
pub mod WidthLaws
pub mod ShortLines
