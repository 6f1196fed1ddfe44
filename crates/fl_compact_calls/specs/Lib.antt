-- What a compact call holds in place of the call that it is seen as, and which messages have a tape of one number.
pub mod Held
pub mod Plain
