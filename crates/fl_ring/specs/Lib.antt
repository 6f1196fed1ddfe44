-- The public promises rest on these.
pub mod Way
pub mod Ring
pub mod Faults
pub mod Counts
pub mod Duo
pub mod Side
pub mod SharedWay
pub mod SharedTable
pub mod SharedRing
pub mod SharedSeats
pub mod SharedDuo
pub mod SharedSides
pub mod Laws
-- This one only the proofs need.
pub mod Halves
