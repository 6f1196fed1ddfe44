pub mod Conserved
pub mod Plains
pub mod Sides
