-- What cores do, as a run of the machine in which bindings have other numbers: those that the machine gives. Laws.
use Rattle.std.specs.Prelude.{ℕ, ◌≡◌, ◌+◌, ◌<◌, ◌≤◌, true, false, Bool, List, [], ◌∷◌, length, map, slice_get, Option, Some, None, Ok}
use Rattle.fl_core.specs.declared.core_job.CoreJob.{CoreJob}
use Rattle.fl_core.specs.declared.wiring.EndWiring.TheVariants.{Ring}
use Rattle.fl_core.specs.declared.wiring.WiredEnd.{WiredEnd}
use Rattle.fl_base.specs.declared.fragment.Frag.{Frag}
use Rattle.fl_base.specs.declared.identity.EndId.{EndId}
use Rattle.fl_core.specs.View.{place_of, side_of_link}
use Rattle.fl_hop.specs.declared.entry.Hop.{Hop}
use Rattle.fl_monitor.specs.declared.message.MonitorMessage.{MonitorMessage}
use Rattle.fl_monitor.specs.Saying.{Says}
use Rattle.fl_ring.specs.SharedSides.{TheSide}
use Rattle.fl_core_run.specs.LogEntries.{LogEntry, opened}
use Rattle.fl_core_run_laws.specs.Led.{IsLed}
use Rattle.fl_model.specs.Events.{Event, call, show, write, ack, register, deregister, reply}
use Rattle.fl_model.specs.Events.{Answer, handle, part, ready, quiet, opened as circuit_opened, opening_refused}
use Rattle.fl_model.specs.Runs.{Exchange}
use Rattle.fl_model.specs.State.{State}
use Rattle.fl_world_refines.specs.View.{ring_at}
use Rattle.fl_cores_joined.specs.Joined.{JoinedCore, AreWhole}
use Rattle.fl_cores_joined.specs.Laws.{TheyShow, IsNumbered}
use Rattle.fl_cores_joined.specs.Renamed.{Renaming, end_under, AreUnder}
use Rattle.fl_cores_joined.specs.Runs.{asked_in, MachineRuns, AllAskRightly}
use Rattle.fl_cores_joined.specs.Steps.{Moment, does, forwards, Interleaves}

-- ---- what is asked of the machine, under other numbers

module _ (r : Renaming) where
  abbrev pub event_under : Event → Event
  event_under (call e c) = call (end_under r e) c
  event_under (show e) = show (end_under r e)
  event_under (write e) = write (end_under r e)
  event_under (ack e) = ack (end_under r e)
  event_under (register e) = register (end_under r e)
  event_under (deregister e) = deregister (end_under r e)
  event_under (reply e msg answer) = reply (end_under r e) msg answer
  event_under event = event

  abbrev pub answer_under : Answer → Answer
  answer_under (handle e c) = handle (end_under r e) c
  answer_under (part e) = part (end_under r e)
  answer_under (ready e) = ready (end_under r e)
  answer_under (quiet e) = quiet (end_under r e)
  answer_under (circuit_opened e) = circuit_opened (end_under r e)
  answer_under (opening_refused reason e) = opening_refused reason (end_under r e)
  answer_under answer = answer

  abbrev pub exchange_under : Exchange → Exchange
  exchange_under x = record { event = event_under x.event; answer = answer_under x.answer }

  abbrev pub all_under : List Exchange → List Exchange
  all_under xs = map exchange_under xs

-- ---- numbers of openings

-- an opening has a number that none has yet: no binding of the first so many, and no opening that was accepted
abbrev pub IsNewNumber : ℕ → List ℕ → LogEntry → Type 0
IsNewNumber first taken (opened name request answer) =
    (first ≤ request.opening.binding) × ((n : ℕ) → slice_get taken n ≡ Some request.opening.binding → ⊥)
IsNewNumber first taken log_entry = Unit {0}

abbrev pub and_taken : List ℕ → LogEntry → List ℕ
and_taken taken (opened name request (Ok e)) = request.opening.binding ∷ taken
and_taken taken log_entry = taken

-- so has each, one after another
abbrev pub AllAreNew : ℕ → List ℕ → List Moment → Type 0
AllAreNew first taken [] = Unit {0}
AllAreNew first taken (does n log_entry ∷ moments) =
    IsNewNumber first taken log_entry × AllAreNew first (and_taken taken log_entry) moments
AllAreNew first taken (forwards n look follows ∷ moments) = AllAreNew first taken moments

-- by a renaming they have the numbers from k on, in the order in which they are accepted; a refused one has none below the
-- next
abbrev pub CountAt : Renaming → ℕ → LogEntry → Type 0
CountAt r k (opened name request answer) = IsNumbered k answer (r.to request.opening.binding)
CountAt r k log_entry = Unit {0}

abbrev pub and_counted : ℕ → LogEntry → ℕ
and_counted k (opened name request (Ok e)) = k + 1
and_counted k log_entry = k

abbrev pub CountFrom : Renaming → ℕ → List Moment → Type 0
CountFrom r k [] = Unit {0}
CountFrom r k (does n log_entry ∷ moments) = CountAt r k log_entry × CountFrom r (and_counted k log_entry) moments
CountFrom r k (forwards n look follows ∷ moments) = CountFrom r k moments

-- ---- how cores are wired

-- links tells which rings are links': a link's side is of such a ring, an end's is not; and the core's table leads to its ends
pub record IsWiredFor (links : ℕ → Bool) (x : JoinedCore) : Type 0 where
  pub long : length x.sides ≡ length x.run.rings
  pub link_sides : (l side number : ℕ) → side_of_link x.run.core.link_sides l ≡ Some side
      → slice_get x.sides side ≡ Some number → links (ring_at number) ≡ true
  pub rings : (e side number : ℕ) (p : WiredEnd) → slice_get x.run.core.wired_ends e ≡ Some p → p.wiring ≡ Ring side
      → slice_get x.sides side ≡ Some number → links (ring_at number) ≡ false
  pub led : IsLed x.run.core

abbrev pub AreWiredFor : (ℕ → Bool) → List JoinedCore → Type 0
AreWiredFor links xs = (n : ℕ) (x : JoinedCore) → slice_get xs n ≡ Some x → IsWiredFor links x

-- ---- cores at first

-- a side over which no message has gone
pub record IsQuietSide (p : TheSide) : Type 0 where
  pub sent : (i : ℕ) (f : Frag) (m : MonitorMessage) → slice_get p.sent i ≡ Some f → Says f m → ⊥
  pub got : (i : ℕ) (f : Frag) (m : MonitorMessage) → slice_get p.got i ≡ Some f → Says f m → ⊥
  pub unseen : p.peeked ≡ None

-- a core with ends of the first so many bindings alone, without circuits, whose monitor has nothing to say, and over
-- whose links no message has gone
pub record IsAtFirst (first : ℕ) (links : ℕ → Bool) (x : JoinedCore) : Type 0 where
  pub ends : (e : EndId) (at : ℕ) → place_of x.run.core e ≡ Some at → e.binding < first
  pub hops : (i : ℕ) (o : Option Hop) → slice_get x.run.core.monitor.circuits.hops i ≡ Some o → o ≡ None
  pub outboxes : (l : ℕ) (outbox : List Frag) → slice_get x.run.core.monitor.outboxes l ≡ Some outbox → outbox ≡ []
  pub sides : (i number : ℕ) (p : TheSide) → slice_get x.sides i ≡ Some number → slice_get x.run.rings i ≡ Some p
      → links (ring_at number) ≡ true → IsQuietSide p

abbrev pub AreAtFirst : ℕ → (ℕ → Bool) → List JoinedCore → Type 0
AreAtFirst first links xs = (n : ℕ) (x : JoinedCore) → slice_get xs n ≡ Some x → IsAtFirst first links x

-- ---- laws

-- the machine's run, under these numbers, to a state that the cores show under them
pub record MachineRunsUnder (r : Renaming) (links : ℕ → Bool) (exchanges : List Exchange) (s : State)
    (ys : List JoinedCore) : Type 0 where
  pub cores : List JoinedCore
  pub under : AreUnder r links ys cores
  pub runs : MachineRuns (all_under r exchanges) s cores

-- If each opening has a new number, there is a renaming that keeps the first so many and gives accepted ones those from
-- there on, in order.
abbrev pub NumbersAreGiven : Type 0
NumbersAreGiven = (first : ℕ) (jobs : List CoreJob) (xs ys : List JoinedCore) (moments : List Moment)
    → Interleaves jobs xs moments ys → AllAreNew first [] moments
    → (r : Renaming) × ((n : ℕ) → n < first → r.to n ≡ n) × CountFrom r first moments

-- Cores, wired for these links, that show a state of the machine under other numbers, in an interleaving in which each
-- look finds what stands in its ring and circuits are asked for rightly, and whole in the end: where, under these numbers,
-- openings that their cores accept have the numbers that the machine gives next, and refused ones none below the next, it is
-- the machine's run, under them. (Asking rightly looks at no state, so any will do.)
abbrev pub RunsJoinUnder : Type 0
RunsJoinUnder = (r : Renaming) (links : ℕ → Bool) (jobs : List CoreJob) (xs ys others : List JoinedCore)
    (moments : List Moment) (s any : State)
    → TheyShow others s → AreUnder r links xs others → AreWiredFor links xs → (h : Interleaves jobs xs moments ys)
    → AreWhole ys → AllAskRightly jobs any xs moments ys h → CountFrom r (length s.bindings) moments
    → MachineRunsUnder r links (asked_in jobs xs moments ys h) s ys

-- a run under a renaming that keeps the numbers of the state's bindings, and gives accepted openings the next, in order
pub record RunsUnderSome (links : ℕ → Bool) (moments : List Moment) (exchanges : List Exchange) (s : State)
    (ys : List JoinedCore) : Type 0 where
  pub renaming : Renaming
  pub keeps : (n : ℕ) → n < length s.bindings → renaming.to n ≡ n
  pub counts : CountFrom renaming (length s.bindings) moments
  pub runs : MachineRunsUnder renaming links exchanges s ys

-- So it is of cores at first, whatever the order in which openings are accepted.
abbrev pub RunsJoinInAnyOrder : Type 0
RunsJoinInAnyOrder = (links : ℕ → Bool) (jobs : List CoreJob) (xs ys : List JoinedCore) (moments : List Moment)
    (s any : State) → TheyShow xs s → AreAtFirst (length s.bindings) links xs → AreWiredFor links xs
    → (h : Interleaves jobs xs moments ys) → AreWhole ys → AllAskRightly jobs any xs moments ys h
    → AllAreNew (length s.bindings) [] moments → RunsUnderSome links moments (asked_in jobs xs moments ys h) s ys
