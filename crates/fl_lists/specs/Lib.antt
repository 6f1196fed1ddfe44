-- The public promises rest on both.
pub mod ThreeLists
pub mod Table
