pub mod Idle
pub mod Logging
pub mod Steps
pub mod Telling
