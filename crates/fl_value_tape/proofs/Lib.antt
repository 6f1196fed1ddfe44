pub mod Elements
pub mod Lows
