pub mod Lookups
pub mod Numbers
