-- The public promises rest on all of these: what events come to at the parts of a world that they touch, from what fl_world_refines says of
-- a world.
pub mod Last
pub mod Wants
pub mod Places
pub mod Parts
pub mod Passing
pub mod Following
pub mod Requests
pub mod RingEnds
pub mod Queued
pub mod Routes
