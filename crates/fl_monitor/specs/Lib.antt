-- The public promises rest on Routes, Intermon, Saying, Outboxes, Routing, Fates, Hearing, Monitors and Faults; Paths, Parts,
-- Tapes and Messengers are working files.
pub mod Routes
pub mod Intermon
pub mod Saying
pub mod Outboxes
pub mod Faults
pub mod Routing
pub mod Fates
pub mod Hearing
pub mod Monitors
pub mod Paths
pub mod Parts
pub mod Tapes
pub mod Messengers
