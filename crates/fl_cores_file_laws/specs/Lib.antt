pub mod SetUps
pub mod JobsJoin
pub mod OfLines
pub mod AtEnds
