pub mod Events
pub mod Gathered
pub mod Laws
