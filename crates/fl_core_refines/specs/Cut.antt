-- A cut: what one core knows of the machine's state. When a core that runs, with the sides and queues that it is lent, shows a cut.
use Rattle.std.specs.Prelude.{ℕ, ◌≡◌, ◌⊎◌, false, List, length, map, slice_get, Option, Some, None}
use Rattle.std.specs.List.{AllZip}
use Rattle.fl_base.specs.declared.fragment.Frag.{Frag}
use Rattle.fl_base.specs.declared.identity.EndId.{EndId}
use Rattle.fl_base.specs.Control.{bare}
use Rattle.fl_base.specs.Given.{given}
use Rattle.fl_compile.specs.declared.program.Program.{Program}
use Rattle.fl_link.specs.Queue.{TheQueue}
use Rattle.fl_ring.specs.SharedSides.{TheSide}
use Rattle.fl_core.specs.BoardView.{TheDispatcher, TheEndAtChannel}
use Rattle.fl_core.specs.declared.wiring.LinkSide.{LinkSide}
use Rattle.fl_core.specs.declared.wiring.WiredEnd.{WiredEnd}
use Rattle.fl_core.specs.declared.wiring.EndWiring.{EndWiring}
use Rattle.fl_core.specs.declared.wiring.EndWiring.TheVariants.{Queues, Ring, Circuit}
use Rattle.fl_core.specs.View.{arrivals_by}
use Rattle.fl_core_run.specs.Run.{TheRun}
use Rattle.fl_model.specs.Calls.{Planned}
use Rattle.fl_model.specs.Ends.{Queue, Seat}
use Rattle.fl_model.specs.Waits.{Dispatcher}
use Rattle.fl_model.specs.Monitors.{Core}
use Rattle.fl_world_refines.specs.Ends.{planned_of}
use Rattle.fl_world_refines.specs.Cores.{MonitorShows}
use Rattle.fl_core_refines.specs.CutSides.{SideCut, ShowsSide}
use Rattle.fl_core_refines.specs.CutEnds.{EndCut, ShowsEnd}

-- the machine's queue, and the fragments that stand there, one for each label, epochs and counts set aside
pub record QueueCut : Type 0 where
  pub queue : Queue
  pub frags : List Frag

pub record CoreCut : Type 0 where
  -- the machine's core: its waitsets, and its circuits and outboxes
  pub core : Core
  -- its ends, by their places at the core; and by name their places
  pub ends : List EndCut
  pub places : List (Option ℕ)
  -- of each of its links which side is its own, and whether what comes there has failed
  pub link_sides : List LinkSide
  -- its sides of rings, its local queues, and the arrival queues of its ends of circuits
  pub sides : List SideCut
  pub queues : List QueueCut
  pub arrivals : List QueueCut
  -- the interfaces and plans of the programs that it is lent
  pub plans : List Planned

-- ---- parts

pub record ShowsQueue (x : QueueCut) (t : TheQueue) : Type 0 where
  pub frags : map bare t.items ≡ x.frags
  pub labels : length x.frags ≡ length x.queue.labels
  pub capacity : t.capacity ≡ x.queue.capacity
  -- a slot is free again once its fragment is taken
  pub freed : t.acked ≡ false
  pub unacknowledged : t.unacknowledged ≡ 0
  pub sent : t.sent ≡ 0

-- an end of this wiring puts to this queue, or takes from it; and this is its arrival queue
abbrev pub UsesQueue : ℕ → EndWiring → Type 0
UsesQueue n (Queues out from) = (out ≡ n) ⊎ (from ≡ n)
UsesQueue n (Ring side) = ⊥
UsesQueue n (Circuit link arrivals) = ⊥

abbrev pub UsesArrivals : ℕ → EndWiring → Type 0
UsesArrivals n wiring = arrivals_by wiring ≡ Some n

-- one of the ends does
pub record IsUsed (Uses : ℕ → EndWiring → Type 0) (wired_ends : List WiredEnd) (n : ℕ) : Type 0 where
  pub place : ℕ
  pub wired_end : WiredEnd
  pub wired_end_is : slice_get wired_ends place ≡ Some wired_end
  pub uses : Uses n wired_end.wiring

-- there are as many, and each that an end uses shows what it is; of others nothing is known
pub record QueuesShow (Uses : ℕ → EndWiring → Type 0) (wired_ends : List WiredEnd) (xs : List QueueCut) (ts : List TheQueue) : Type 0 where
  pub count : length xs ≡ length ts
  pub each : (n : ℕ) (t : TheQueue) → IsUsed Uses wired_ends n → slice_get ts n ≡ Some t → (x : QueueCut) × (slice_get xs n ≡ Some x) × ShowsQueue x t

-- the names of ends, by their places
abbrev pub name_at : List WiredEnd → ℕ → Option EndId
name_at wired_ends place = given (slice_get wired_ends place) None λ p. Some p.name

-- the same channels wait, and each is the same end's
pub record ShowsWaits (wired_ends : List WiredEnd) (x : Dispatcher) (d : TheDispatcher) : Type 0 where
  pub lists : d.lists ≡ x.lists
  pub ends : map (name_at wired_ends) d.ends ≡ map (λ e. Some e) x.ends

-- where an end sits at this core
abbrev pub seat_at : ℕ → TheEndAtChannel → Seat
seat_at core t = record { dispatcher = record { core = core; place = t.dispatcher }; channel = t.channel }

pub record ShowsSeat (core : ℕ) (x : EndCut) (t : TheEndAtChannel) : Type 0 where
  pub shows : ShowsEnd x t.end
  pub seat : x.end.seat ≡ Some (seat_at core t)

-- ---- the whole

pub record ShowsCut (a : CoreCut) (s : TheRun TheSide) : Type 0 where
  pub monitor : MonitorShows a.core s.core.monitor
  pub waits : AllZip (ShowsWaits s.core.wired_ends) a.core.dispatchers s.core.board.dispatchers
  pub ends : AllZip (ShowsSeat s.core.monitor.circuits.core) a.ends s.core.board.seats
  pub wired_ends : map (λ (x : EndCut). x.wired_end) a.ends ≡ s.core.wired_ends
  pub places : a.places ≡ s.core.places
  pub link_sides : a.link_sides ≡ s.core.link_sides
  pub sides : AllZip ShowsSide a.sides s.rings
  pub queues : QueuesShow UsesQueue s.core.wired_ends a.queues s.queues
  pub arrivals : QueuesShow UsesArrivals s.core.wired_ends a.arrivals s.core.arrivals
  pub plans : map (λ (p : Program). planned_of p) s.offers.programs ≡ a.plans
