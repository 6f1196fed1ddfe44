pub mod Events
pub mod Turns
