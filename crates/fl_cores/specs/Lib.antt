-- The public promises rest on Promised, and on the numbers in Faults.
pub mod Faults
pub mod Promised
-- The promises rest on these, in this order.
pub mod Behind
pub mod Outcomes
pub mod Runs
pub mod Wanted
pub mod Reasons
pub mod Over
pub mod Endings
pub mod OneCore
pub mod Follows
pub mod Honesty
pub mod Again
pub mod Wired
