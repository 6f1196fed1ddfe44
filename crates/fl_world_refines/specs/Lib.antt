-- The public promises rest on all of these: when parts are what is shown (Fragments, Ends, Queues, Rings, Cores), and the laws (the files `..Laws`).
pub mod Fragments
pub mod Ends
pub mod Queues
pub mod Rings
pub mod Cores
pub mod EndLaws
pub mod RingLaws
pub mod FragmentLaws
pub mod CoreLaws
pub mod StateLaws
-- The public promises rest on View and ShowsState, on the relations of events (Making, Binding, Sending, Taking, Linking, Step), with Lending
-- for where one happens, on Laws, and on Apart. Hearing is a working file: a law that only the proofs need.
pub mod View
pub mod ShowsState
pub mod Lending
pub mod Making
pub mod Binding
pub mod Sending
pub mod Taking
pub mod Linking
pub mod Step
pub mod Laws
pub mod Hearing
pub mod Apart
