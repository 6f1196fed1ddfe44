-- The promises rest on these, in this order.
pub mod EndProgress
pub mod Sides
pub mod Run
pub mod LogEntries
pub mod Steps
pub mod Turn
pub mod OpeningStatus
pub mod Finished
pub mod Accepted
pub mod Ran
pub mod Wants
pub mod Stops
pub mod Single
-- This one only the proofs need.
pub mod Inside
