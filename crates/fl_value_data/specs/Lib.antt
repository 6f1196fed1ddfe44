-- What the public promises rest on: values and which fit a type (Value, Fits), the plan's order (Plan), and tapes (Tape, Taken).
pub mod Value
pub mod Fits
pub mod Plan
pub mod Tape
pub mod Taken
