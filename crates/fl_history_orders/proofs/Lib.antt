pub mod Cores
pub mod Events
pub mod Turning
pub mod Next
