pub mod FillLaws
pub mod EventLaws
pub mod TailLaws
