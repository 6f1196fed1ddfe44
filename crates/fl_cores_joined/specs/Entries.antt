-- What the cores do entry by entry, where entries of others may come between a look and what follows it. Law.
use Rattle.std.specs.Prelude.{ℕ, ◌≡◌, ◌==◌, if◌then◌else◌, List, [], ◌∷◌, length, slice_get, Option, Some, None}
use Rattle.fl_core.specs.declared.core_job.CoreJob.{CoreJob}
use Rattle.fl_core_run.specs.LogEntries.{LogEntry}
use Rattle.fl_cores_joined.specs.Joined.{JoinedCore}
use Rattle.fl_cores_joined.specs.Steps.{HappensAt, IsWholeEvent, Follows, Moment, does, forwards, Interleaves}

-- a core's event; its look, that leaves something to follow; and what follows that look of its
pub data CoreStep : Type 0 where
  acts : ℕ → LogEntry → CoreStep
  looks : ℕ → LogEntry → CoreStep
  follows : ℕ → LogEntry → LogEntry → CoreStep

-- by core, the look that wasn't followed yet
abbrev pub OpenLooks : Type 0
OpenLooks = ℕ → Option LogEntry

abbrev pub none_open : OpenLooks
none_open n = None

abbrev pub with_look : ℕ → Option LogEntry → OpenLooks → OpenLooks
with_look n o pending m = if m == n then o else pending m

-- one after another, each in its place, finding what stands in the rings then; what follows a look is its
-- core's next, if anything is
abbrev pub StepByStep : List CoreJob → OpenLooks → List JoinedCore → List CoreStep → List JoinedCore → Type 0
StepByStep jobs pending xs [] ys = ys ≡ xs
StepByStep jobs pending xs (acts n log_entry ∷ steps) ys = (pending n ≡ None) × IsWholeEvent log_entry
    × ((ms : List JoinedCore) × HappensAt jobs n log_entry xs ms × StepByStep jobs pending ms steps ys)
StepByStep jobs pending xs (looks n look ∷ steps) ys = (pending n ≡ None) × ((log_entry : LogEntry) × Follows look log_entry)
    × ((ms : List JoinedCore) × HappensAt jobs n look xs ms
    × StepByStep jobs (with_look n (Some look) pending) ms steps ys)
StepByStep jobs pending xs (follows n look log_entry ∷ steps) ys = (pending n ≡ Some look) × Follows look log_entry
    × ((ms : List JoinedCore) × HappensAt jobs n log_entry xs ms
    × StepByStep jobs (with_look n None pending) ms steps ys)

-- the looks that are open in the end
abbrev pub left_open : OpenLooks → List CoreStep → OpenLooks
left_open pending [] = pending
left_open pending (acts n log_entry ∷ steps) = left_open pending steps
left_open pending (looks n look ∷ steps) = left_open (with_look n (Some look) pending) steps
left_open pending (follows n look log_entry ∷ steps) = left_open (with_look n None pending) steps

-- cores that are these, but that looks which are open weren't taken: each finds what it found there still
pub record AreBeforeLooks (jobs : List CoreJob) (pending : OpenLooks) (ys ms : List JoinedCore) : Type 0 where
  pub count : length ms ≡ length ys
  pub others : (n : ℕ) → pending n ≡ None → slice_get ms n ≡ slice_get ys n
  pub looking : (n : ℕ) (look : LogEntry) → pending n ≡ Some look
      → (zs : List JoinedCore) × HappensAt jobs n look ms zs × (slice_get zs n ≡ slice_get ys n)

-- the same with each look at the moment of what follows it
abbrev pub moments_of : List CoreStep → List Moment
moments_of [] = []
moments_of (acts n log_entry ∷ steps) = does n log_entry ∷ moments_of steps
moments_of (looks n look ∷ steps) = moments_of steps
moments_of (follows n look log_entry ∷ steps) = forwards n look log_entry ∷ moments_of steps

-- it comes to the same, but for looks that are open in the end, which are still to come then
abbrev pub StepsInterleave : Type 0
StepsInterleave = (jobs : List CoreJob) (xs ys : List JoinedCore) (steps : List CoreStep)
    → StepByStep jobs none_open xs steps ys
    → (ms : List JoinedCore) × Interleaves jobs xs (moments_of steps) ms
    × AreBeforeLooks jobs (left_open none_open steps) ys ms

-- and just the same where none is
abbrev pub FollowedStepsInterleave : Type 0
FollowedStepsInterleave = (jobs : List CoreJob) (xs ys : List JoinedCore) (steps : List CoreStep)
    → StepByStep jobs none_open xs steps ys → ((n : ℕ) → left_open none_open steps n ≡ None)
    → Interleaves jobs xs (moments_of steps) ys
