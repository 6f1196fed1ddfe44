pub mod InTurn
pub mod Logged
pub mod Runs
