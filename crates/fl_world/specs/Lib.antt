-- What a world makes of any event, of many (`Stepping`, `Hearing`, `Handling`), and of a set-up (`Booting`), are public promises. The others say what
-- fl_world_refines says of a world of the parts that an event touches.
pub mod Places
pub mod Parts
pub mod Following
pub mod Requests
pub mod RingEnds
pub mod Queued
pub mod Routes
pub mod Hearing
pub mod Handling
pub mod Stepping
pub mod Booting
