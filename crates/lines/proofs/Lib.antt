pub mod PartLaws
pub mod FieldLaws
pub mod StdLaws
