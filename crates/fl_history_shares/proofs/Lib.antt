pub mod Own
pub mod Numbered
pub mod Shown
pub mod Gathered
pub mod Near
