-- The public promises rest on Types and Interface, Sizes, Counts, Depth and Payload, Limits (what holds of each interface), and
-- SameTypes.
pub mod Types
pub mod Interface
pub mod Sizes
pub mod Counts
pub mod Depth
pub mod Payload
pub mod Limits
pub mod SameTypes
