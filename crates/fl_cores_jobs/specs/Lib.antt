-- The public promises rest on Ends' work, Joined and State (what is joined), Whole (the jobs of a whole file), Requested and Fitting (circuits
-- and rules that jobs ask for), Rules, and Faults (why a job is refused). What State and Whole say of one job more is the code's own,
-- and Kept is a working file.
pub mod EndWork
pub mod Joined
pub mod Kept
pub mod Rules
pub mod State
pub mod Whole
pub mod Faults
pub mod Fitting
pub mod Requested
