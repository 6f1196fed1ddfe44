-- The public promises rest on all of these. In this order they can be read.
pub mod Plain
pub mod Sides
pub mod Steps
pub mod Laws
