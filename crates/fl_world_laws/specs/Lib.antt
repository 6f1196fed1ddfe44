-- Places: where fragments stand in a world. Meaning: that they mean the accepted calls, and no others.
-- Booted: what holds of every run from a booted world. Refusing: why openings are refused.
pub mod Places
pub mod Meaning
pub mod Booted
pub mod Refusing
