-- The public promises rest on these: what a table is and how it is numbered, what holds of every table and what a table
-- keeps, what each call makes of it, what a forward does, and what comes of many.
pub mod Table
pub mod Numbers
pub mod Joined
pub mod Limits
pub mod Openings
pub mod Entries
pub mod Later
pub mod OfCircuit
pub mod Forward
pub mod Stretch
pub mod Adds
pub mod Carried
pub mod Faults
-- A working file.
pub mod Slots
