-- The public promises rest on these: packed tapes of code and what code makes of them (Spreading), prepared code (Steps), and what
-- it takes back from payloads (Taking).
pub mod Spreading
pub mod Steps
pub mod Taking
-- Working file: the open blocks while code is prepared.
pub mod Opened
