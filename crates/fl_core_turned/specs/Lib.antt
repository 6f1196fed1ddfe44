-- The promises rest on these, in this order.
pub mod TurnEvents
pub mod Reasons
pub mod Turned
pub mod ReadyTurns
