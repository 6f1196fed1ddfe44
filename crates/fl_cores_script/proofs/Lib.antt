-- Lemmas.
pub mod Lines
pub mod Sorting
