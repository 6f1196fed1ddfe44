pub mod Members
pub mod Numbers
pub mod Chains
pub mod Rings
pub mod Tables
pub mod Sized
