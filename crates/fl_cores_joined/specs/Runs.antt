-- What an interleaving of the cores' logs comes to: a run of the machine, where circuits are asked for in the
-- order of their numbers.
use Rattle.std.specs.Prelude.{◌≡◌, List, [], ◌∷◌, ◌++◌, length, map}
use Rattle.fl_ring.specs.SharedSides.{TheSide}
use Rattle.fl_core.specs.declared.core_job.CoreJob.{CoreJob}
use Rattle.fl_core_run.specs.LogEntries.{LogEntry, opened}
use Rattle.fl_core_run.specs.Run.{TheRun}
use Rattle.fl_model.specs.Events.{Event}
use Rattle.fl_model.specs.Runs.{Exchange, run, reached}
use Rattle.fl_model.specs.State.{State}
use Rattle.fl_cores_joined.specs.Joined.{JoinedCore, AreWhole}
use Rattle.fl_cores_joined.specs.Steps.{Moment, does, forwards, Interleaves, asks, forward_asks}
use Rattle.fl_cores_joined.specs.Laws.{TheyShow, AsksRightly, IsNumbered}

-- what is asked of the machine in an interleaving, moment by moment, with the cores' answers
abbrev pub asked_in : (jobs : List CoreJob) (xs : List JoinedCore) (moments : List Moment)
    (ys : List JoinedCore) → Interleaves jobs xs moments ys → List Exchange
asked_in jobs xs [] ys h = []
asked_in jobs xs (does n log_entry ∷ moments) ys h =
    asks n h.1.1.before.run log_entry ++ asked_in jobs h.0 moments ys h.2
asked_in jobs xs (forwards n look follows ∷ moments) ys h =
    forward_asks n h.1.1.1.before.run look follows ++ asked_in jobs h.0 moments ys h.2

abbrev pub events_of : List Exchange → List Event
events_of xs = map (λ (x : Exchange). x.event) xs

-- the machine, asked the same from this state, answers the same, and comes to a state that the cores show
pub record MachineRuns (exchanges : List Exchange) (s : State) (ys : List JoinedCore) : Type 0 where
  pub answers : run s (events_of exchanges) ≡ exchanges
  pub shows : TheyShow ys (reached s (events_of exchanges))

-- ---- circuits

-- of each event that is whole in itself: of the cores before it, the one that does it, and where the machine
-- has come by then
abbrev pub AtEach : (List JoinedCore → TheRun TheSide → State → LogEntry → Type 0) → (jobs : List CoreJob)
    (s : State) (xs : List JoinedCore) (moments : List Moment) (ys : List JoinedCore)
    → Interleaves jobs xs moments ys → Type 0
AtEach Holds jobs s xs [] ys h = Unit {0}
AtEach Holds jobs s xs (does n log_entry ∷ moments) ys h =
    Holds xs h.1.1.before.run s log_entry
    × AtEach Holds jobs (reached s (events_of (asks n h.1.1.before.run log_entry))) h.0 moments ys h.2
AtEach Holds jobs s xs (forwards n look follows ∷ moments) ys h =
    AtEach Holds jobs (reached s (events_of (forward_asks n h.1.1.1.before.run look follows))) h.0 moments
    ys h.2

-- a circuit is asked for as a job does that was accepted
abbrev pub AsksRightlyAt : List JoinedCore → TheRun TheSide → State → LogEntry → Type 0
AsksRightlyAt xs r s (opened name request answer) = AsksRightly (length xs) r request
AsksRightlyAt xs r s log_entry = Unit {0}

-- and for the binding that the machine makes next, but where its own core refuses it
abbrev pub IsNumberedAt : List JoinedCore → TheRun TheSide → State → LogEntry → Type 0
IsNumberedAt xs r s (opened name request answer) =
    IsNumbered (length s.bindings) answer request.opening.binding
IsNumberedAt xs r s log_entry = Unit {0}

-- so is each, in an interleaving
abbrev pub AllAskRightly : (jobs : List CoreJob) (s : State) (xs : List JoinedCore) (moments : List Moment)
    (ys : List JoinedCore) → Interleaves jobs xs moments ys → Type 0
AllAskRightly jobs s xs moments ys h = AtEach AsksRightlyAt jobs s xs moments ys h

abbrev pub AllAreNumbered : (jobs : List CoreJob) (s : State) (xs : List JoinedCore) (moments : List Moment)
    (ys : List JoinedCore) → Interleaves jobs xs moments ys → Type 0
AllAreNumbered jobs s xs moments ys h = AtEach IsNumberedAt jobs s xs moments ys h

-- cores that show a state of the machine, in an interleaving in which each look finds what stands in its
-- ring: the machine's run
abbrev pub RunsJoin : Type 0
RunsJoin = (jobs : List CoreJob) (xs ys : List JoinedCore) (moments : List Moment) (s : State)
    → TheyShow xs s → (h : Interleaves jobs xs moments ys) → AreWhole ys → AllAskRightly jobs s xs moments ys h
    → AllAreNumbered jobs s xs moments ys h
    → MachineRuns (asked_in jobs xs moments ys h) s ys
