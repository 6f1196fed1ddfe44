pub mod Carried
pub mod Conserved
pub mod Firsts
pub mod Rounds
