mod Alone
pub mod Plain
