-- The laws rest on these, in this order.
pub mod AloneTurns
pub mod AloneShown
pub mod AloneLaws
pub mod AloneHanded
pub mod AloneCalls
-- The laws rest on these, in this order.
pub mod CutSides
pub mod CutEnds
pub mod Cut
pub mod CutEvents
pub mod CutLinks
pub mod CutOpening
pub mod CutHearing
pub mod CutDoes
pub mod CutStart
pub mod CutLaws
pub mod CutReady
-- The laws rest on these, in this order.
pub mod SetUpUntouched
pub mod SetUpStart
