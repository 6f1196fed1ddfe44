-- The promises rest on Dealt and Settled; Dealing is the code's own.
pub mod Dealt
pub mod Dealing
pub mod Settled
