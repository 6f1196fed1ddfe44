pub mod Numbers
pub mod Onlys
pub mod Stands
pub mod Seen
pub mod Placed
pub mod Kept
