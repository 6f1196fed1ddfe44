pub mod Places
pub mod Giving
pub mod Going
pub mod Conserving
