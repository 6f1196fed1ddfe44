-- The public promise rests on Ran and Faults, and these on Begins, Shares, Heard and AtTable. CoreThreads and Dealing have what
-- the code's own functions say, Wired what a run begins with, Recorded what a recorded run noted.
pub mod Faults
pub mod Begins
pub mod Heard
pub mod Shares
pub mod CoreThreads
pub mod AtTable
pub mod Dealing
pub mod Ran
pub mod Recorded
pub mod Wired
