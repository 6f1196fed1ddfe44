-- What the public promises rest on: the packed tape of a call.
pub mod Packed
