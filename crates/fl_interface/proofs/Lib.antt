pub mod Sames
pub mod SameTypes
pub mod FieldSizes
pub mod Aligned
