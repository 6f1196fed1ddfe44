-- The public promises rest on View, Rules, Events, Accounts, Lent, Laws and Faults; Stored and Inside are working files.
pub mod View
pub mod Rules
pub mod Events
pub mod Accounts
pub mod Lent
pub mod Laws
pub mod Faults
pub mod Stored
pub mod Inside
