-- The public promises rest on these: the fragments that a run gives or was fed, the laws, and the faults' numbers; and, where
-- they say where a run stands and what is kept of a call, on `Cursors`, `Taking` and `Kept`.
pub mod Sending
pub mod Receiving
pub mod Reassembling
pub mod Rounds
pub mod Laws
pub mod Faults
-- Working files: what runs store as the first group sees it (`Cursors`, `Taking`, `Runs`,
-- `Reassembled`, `Rooms`, `Places`, `Kept`), how a fragment is filled, and code without loops.
pub mod Cursors
pub mod Taking
pub mod Runs
pub mod Reassembled
pub mod Filling
pub mod Straight
pub mod Rooms
pub mod Places
pub mod Kept
