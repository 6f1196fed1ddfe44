pub mod Sums
pub mod Puts
pub mod Leaves
pub mod Values
pub mod Calls
pub mod Kept
pub mod Made
