-- The public promises rest on all of these. In this order they can be read.
pub mod Cursor
pub mod Looks
pub mod Calls
pub mod Queue
pub mod Faults
pub mod Laws
