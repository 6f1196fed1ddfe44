-- Neighbours in what cores do may change places, where neither puts anything to where the other goes: so one order of
-- it is brought into others, with the same cores behind it. Law.
use Rattle.std.specs.Prelude.{ℕ, zero, suc, ◌≡◌, ◌≢◌, ◌⊎◌, List, ◌∷◌, ◌++◌, slice_get, Some, None, Result}
use Rattle.fl_base.specs.declared.identity.EndId.{EndId}
use Rattle.fl_ring.specs.SharedSides.{TheSide}
use Rattle.fl_core.specs.declared.core_job.CoreJob.{CoreJob}
use Rattle.fl_core.specs.declared.core_job.OpenRequest.{OpenRequest}
use Rattle.fl_core.specs.declared.fault.OpenFault.{OpenFault}
use Rattle.fl_core.specs.declared.wiring.Outlet.TheVariants as outlet
use Rattle.fl_core.specs.declared.wiring.Inlet.TheVariants as inlet
use Rattle.fl_core_run.specs.LogEntries.{LogEntry, looked, passed, arrived, heard, said, told, opened}
use Rattle.fl_core_run.specs.LogEntries.{wrote, acked, turned}
use Rattle.fl_core_run.specs.Run.{TheRun}
use Rattle.fl_world_refines.specs.View.{ring_at}
use Rattle.fl_cores_joined.specs.Joined.{JoinedCore, across_from, alone}
use Rattle.fl_cores_joined.specs.Steps.{HappensAt, IsWholeEvent, Follows}
use Rattle.fl_cores_joined.specs.Entries.{CoreStep, acts, looks, follows, OpenLooks, with_look, left_open, StepByStep}

-- ---- two events

-- the sides over which an event goes, by their places with its core
abbrev pub GoesOver : LogEntry → ℕ → Type 0
GoesOver (looked n l answer) i = i ≡ n
GoesOver (passed n m frag c outcome) i = (i ≡ n) ⊎ (i ≡ m)
GoesOver (arrived n l frag e answer) i = i ≡ n
GoesOver (heard n l frag answer) i = i ≡ n
GoesOver (said n l answer) i = i ≡ n
GoesOver (told n l answer) i = i ≡ n
GoesOver (wrote name (outlet.Side n) answer) i = i ≡ n
GoesOver (acked name n answer) i = i ≡ n
GoesOver (turned d name (inlet.Side n) answer) i = i ≡ n
GoesOver log_entry i = ⊥

-- a core that came to this has put nothing more on its sides across from those over which another core's event goes
abbrev pub PutsNothingTo : JoinedCore → LogEntry → JoinedCore → TheRun TheSide → Type 0
PutsNothingTo other log_entry core run = (i k number : ℕ) (p q : TheSide) → GoesOver log_entry i
    → slice_get other.sides i ≡ Some number → slice_get core.sides k ≡ Some (across_from number)
    → slice_get core.run.rings k ≡ Some p → slice_get run.rings k ≡ Some q → q.sent ≡ p.sent

-- two events, one after the other, are of two cores, of which neither puts anything to where the other goes
pub record MayChange {jobs : List CoreJob} {n m : ℕ} {one two : LogEntry} {xs ms ys : List JoinedCore}
    (first : HappensAt jobs n one xs ms) (second : HappensAt jobs m two ms ys) : Type 0 where
  pub cores : n ≢ m
  pub to_second : PutsNothingTo second.before two first.before (alone first.after)
  pub to_first : PutsNothingTo first.before one second.before (alone second.after)

-- they come to the same in the other order
abbrev pub EventsExchange : Type 0
EventsExchange = (jobs : List CoreJob) (n m : ℕ) (one two : LogEntry) (xs ms ys : List JoinedCore)
    (first : HappensAt jobs n one xs ms) (second : HappensAt jobs m two ms ys) → MayChange first second
    → (zs : List JoinedCore) × HappensAt jobs m two xs zs × HappensAt jobs n one zs ys

-- So it is of two cores' events that go over no ring in common.
pub record AreApart {jobs : List CoreJob} {n m : ℕ} {one two : LogEntry} {xs ms ys : List JoinedCore}
    (first : HappensAt jobs n one xs ms) (second : HappensAt jobs m two ms ys) : Type 0 where
  pub cores : n ≢ m
  pub rings : (i k a b : ℕ) → GoesOver one i → GoesOver two k → slice_get first.before.sides i ≡ Some a
      → slice_get second.before.sides k ≡ Some b → ring_at a ≢ ring_at b

abbrev pub ApartMayChange : Type 0
ApartMayChange = (jobs : List CoreJob) (n m : ℕ) (one two : LogEntry) (xs ms ys : List JoinedCore)
    (first : HappensAt jobs n one xs ms) (second : HappensAt jobs m two ms ys) → AreApart first second
    → MayChange first second

-- An opening goes over no ring, and puts nothing. So it may change places with whatever another core does just
-- before it, or just after.
abbrev pub OpeningsGoAhead : Type 0
OpeningsGoAhead = (jobs : List CoreJob) (n m : ℕ) (log_entry : LogEntry) (name : EndId) (request : OpenRequest)
    (answer : Result ℕ OpenFault) (xs ms ys : List JoinedCore) → n ≢ m → (first : HappensAt jobs n log_entry xs ms)
    → (second : HappensAt jobs m (opened name request answer) ms ys) → MayChange first second

abbrev pub OpeningsStayBehind : Type 0
OpeningsStayBehind = (jobs : List CoreJob) (n m : ℕ) (log_entry : LogEntry) (name : EndId) (request : OpenRequest)
    (answer : Result ℕ OpenFault) (xs ms ys : List JoinedCore) → n ≢ m
    → (first : HappensAt jobs n (opened name request answer) xs ms) → (second : HappensAt jobs m log_entry ms ys)
    → MayChange first second

-- ---- in what cores do, entry by entry

-- whose a step is, and which event
abbrev pub core_of : CoreStep → ℕ
core_of (acts n log_entry) = n
core_of (looks n look) = n
core_of (follows n look log_entry) = n

abbrev pub event_of : CoreStep → LogEntry
event_of (acts n log_entry) = log_entry
event_of (looks n look) = look
event_of (follows n look log_entry) = log_entry

-- it may come where these looks are open
abbrev pub MayCome : OpenLooks → CoreStep → Type 0
MayCome pending (acts n log_entry) = (pending n ≡ None) × IsWholeEvent log_entry
MayCome pending (looks n look) = (pending n ≡ None) × ((log_entry : LogEntry) × Follows look log_entry)
MayCome pending (follows n look log_entry) = (pending n ≡ Some look) × Follows look log_entry

-- the looks that are open behind it
abbrev pub open_behind : CoreStep → OpenLooks → OpenLooks
open_behind (acts n log_entry) pending = pending
open_behind (looks n look) pending = with_look n (Some look) pending
open_behind (follows n look log_entry) pending = with_look n None pending

-- of steps, one after another, two neighbours have changed places
pub record ChangePlaces (jobs : List CoreJob) (pending : OpenLooks) (xs ys : List JoinedCore)
    (steps others : List CoreStep) : Type 0 where
  pub before : List CoreStep
  pub one : CoreStep
  pub two : CoreStep
  pub behind : List CoreStep
  pub steps_are : steps ≡ before ++ one ∷ two ∷ behind
  pub others_are : others ≡ before ++ two ∷ one ∷ behind
  -- what is done before them, by each of them, and behind them
  pub begin : List JoinedCore
  pub goes : StepByStep jobs pending xs before begin
  pub between : List JoinedCore
  pub one_may : MayCome (left_open pending before) one
  pub first : HappensAt jobs (core_of one) (event_of one) begin between
  pub end : List JoinedCore
  pub two_may : MayCome (open_behind one (left_open pending before)) two
  pub second : HappensAt jobs (core_of two) (event_of two) between end
  pub goes_on : StepByStep jobs (open_behind two (open_behind one (left_open pending before))) end behind ys
  -- neither puts anything to where the other goes
  pub may : MayChange first second

-- by so many changes of neighbours these steps come to those
abbrev pub ComeTo : List CoreJob → OpenLooks → List JoinedCore → List JoinedCore → ℕ → List CoreStep
    → List CoreStep → Type 0
ComeTo jobs pending xs ys zero steps others = others ≡ steps
ComeTo jobs pending xs ys (suc n) steps others =
    (next : List CoreStep) × ChangePlaces jobs pending xs ys steps next × ComeTo jobs pending xs ys n next others

-- the others are steps from the same cores to the same
abbrev pub StepsExchange : Type 0
StepsExchange = (jobs : List CoreJob) (pending : OpenLooks) (xs ys : List JoinedCore) (n : ℕ)
    (steps others : List CoreStep) → StepByStep jobs pending xs steps ys → ComeTo jobs pending xs ys n steps others
    → StepByStep jobs pending xs others ys
