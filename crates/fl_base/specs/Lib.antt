-- All are what promises rest on.
pub mod Control
pub mod Ends
pub mod Given
pub mod Numbered
pub mod Prefix
