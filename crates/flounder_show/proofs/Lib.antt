pub mod Telling
pub mod TextImages
pub mod OutOfMemory
mod Naming
