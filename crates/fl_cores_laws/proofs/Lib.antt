pub mod Turns
pub mod Heard
pub mod Going
pub mod Learning
pub mod EndedProgress
pub mod Ended
pub mod Complete
pub mod Older
pub mod Opening
pub mod Entries
pub mod Staying
pub mod EndedNamed
pub mod Seats
pub mod Few
pub mod Silent
pub mod Rest
pub mod Prefixes
mod Progress
pub mod GivenWork
mod Accepting
mod Parties
mod Passages
mod OverLinks
mod Starts
mod OffLinks
mod Routes
mod Circuits
mod Counted
mod Bound
mod Named
mod Zero
mod Logged
mod Refused
mod LoggedNames
mod LoggedRefusals
mod Neighbours
mod Back
mod Whole
mod Ample
mod Unbound
mod Ruled
mod RuledEnds
mod Answered
mod LoggedAnswers
mod Opened
mod WholeFew
mod WholeTrails
mod WholeEnds
mod WholeOpened
mod WholeHome
mod Asked
mod AskedLaid
mod AskedProgress
mod AskedLogs
mod AskedMade
mod AskedCores
mod AskedRoutes
mod AskedEnds
mod Added
mod Trails
mod Wired
mod Forth
mod Standing
mod Lone
mod Runs
mod Sitting
mod ReasonsOwn
mod Reasoned
mod ReasonsKept
mod ReasonedHears
mod ReasonsHere
mod ReasonsProgress
mod Gone
mod Given
mod Settled
mod GivenHears
mod GivenLogs
mod GivenCores
mod ReasonsAll
mod Spent
