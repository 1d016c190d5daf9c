pub mod Kept
pub mod LeafLaws
pub mod Letters
pub mod Rings
pub mod Stands
pub mod StepWords
