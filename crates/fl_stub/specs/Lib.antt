-- The public promises rest on these: the structure of code and its meaning, on whole tapes and byte by byte.
pub mod Structure
pub mod Frames
pub mod Code
pub mod Meaning
pub mod Given
pub mod Marks
pub mod Streams
-- Working files: how `verify` walks, and what machines that stand inside code know of it.
pub mod Walk
pub mod Locations
pub mod Rests
