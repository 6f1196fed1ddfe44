pub mod Facing
pub mod Moments
pub mod Laws
