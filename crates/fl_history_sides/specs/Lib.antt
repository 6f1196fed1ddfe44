-- The promises rest on States, Noted, Core, Ways and Laws; Lent is the code's own, and Given has proofs.
pub mod States
pub mod Noted
pub mod Lent
pub mod Given
pub mod Core
pub mod Ways
pub mod Laws
