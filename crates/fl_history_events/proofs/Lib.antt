pub mod Ways
pub mod Exchanging
pub mod Moving
pub mod Cutting
pub mod Taking
pub mod Ordering
pub mod Moments
pub mod Gathered
