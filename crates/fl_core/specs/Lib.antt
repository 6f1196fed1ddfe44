-- The public promises rest on View, Sound, Turns, Events, Laws, Accounts and Faults; Inside is a working file.
pub mod BoardView
pub mod BoardSound
pub mod BoardTurns
pub mod BoardEvents
pub mod BoardLaws
pub mod BoardAccounts
pub mod BoardFaults
pub mod BoardInside
-- The public promises rest on View, Sound, Ends, Making, Links, Hearing, Faults and Numbers; Inside is a working file.
pub mod View
pub mod Sound
pub mod Ends
pub mod Making
pub mod Links
pub mod Hearing
pub mod Faults
pub mod Numbers
pub mod Inside
-- The promises rest on this.
pub mod Jobs
