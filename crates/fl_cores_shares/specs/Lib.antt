-- The promises rest on these, in this order.
pub mod Shares
pub mod Settled
pub mod Giving
pub mod Noted
