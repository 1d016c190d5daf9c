pub mod NumberText
pub mod FieldText
pub mod WriteLaws
pub mod EventBack
pub mod VolatileBack
pub mod TraceBack
