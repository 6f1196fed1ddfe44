-- The promises rest on these.
pub mod Replays
pub mod Alike
pub mod Kept
