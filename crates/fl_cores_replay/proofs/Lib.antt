-- Lemmas.
pub mod Reasons
