-- The public promises of crates above rest on Runs and Tells, and on `shown_run` of CoreThreads; else CoreThreads and
-- Taking have what the code's own functions say, `run_each` and `tell` among them.
pub mod Runs
pub mod Tells
pub mod CoreThreads
pub mod Taking
pub mod NoReports
