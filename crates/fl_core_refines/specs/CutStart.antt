-- A core with which nothing was done yet, as a set-up leaves it, and the cut that it shows. Law.
use Rattle.std.specs.Prelude.{ℕ, ◌≡◌, false, List, [], ◌∷◌, length, map, slice_get, Some, None}
use Rattle.std.specs.List.{AllZip}
use Rattle.fl_compile.specs.declared.program.Program.{Program}
use Rattle.fl_link.specs.Queue.{TheQueue}
use Rattle.fl_ring.specs.SharedSides.{TheSide}
use Rattle.fl_endpoint.specs.View.{TheEnd, nothing_to_send}
use Rattle.fl_core.specs.BoardView.{TheEndAtChannel}
use Rattle.fl_core.specs.declared.wiring.WiredEnd.{WiredEnd}
use Rattle.fl_core.specs.Sound.{IsCore}
use Rattle.fl_core_run.specs.Run.{TheRun}
use Rattle.fl_model.specs.Rings.{fresh_ring}
use Rattle.fl_model.specs.Ends.{fresh_queue, fresh_direction, unbound_end}
use Rattle.fl_model.specs.Monitors.{Core}
use Rattle.fl_world_refines.specs.Ends.{planned_of}
use Rattle.fl_world_refines.specs.Cores.{MonitorShows}
use Rattle.fl_core_refines.specs.CutSides.{SideCut}
use Rattle.fl_core_refines.specs.CutEnds.{EndCut}
use Rattle.fl_core_refines.specs.Cut.{QueueCut, CoreCut, UsesQueue, UsesArrivals, IsUsed, ShowsWaits, seat_at, ShowsCut}

-- ---- nothing was done

-- an end that is bound, off links: it has nothing to send and no part of a call, and never failed. It may have reply rules
pub record IsFirstEnd (t : TheEnd) : Type 0 where
  pub outgoing : t.outgoing ≡ nothing_to_send
  pub parts : t.parts ≡ []
  pub circuit : t.circuit ≡ Some 0
  pub sound : t.failed ≡ false

-- a side that put and took nothing
pub record IsFirstSide (s : TheSide) : Type 0 where
  pub sent : s.sent ≡ []
  pub known : s.known ≡ 0
  pub got : s.got ≡ []
  pub told : s.told ≡ 0

-- an empty queue, whose slots are free once their fragments are taken
pub record IsFirstQueue (q : TheQueue) : Type 0 where
  pub items : q.items ≡ []
  pub freed : q.acked ≡ false
  pub unacknowledged : q.unacknowledged ≡ 0
  pub sent : q.sent ≡ 0

pub record IsStarting (s : TheRun TheSide) : Type 0 where
  pub core : IsCore s.core
  pub ends : (e : ℕ) (seat : TheEndAtChannel) → slice_get s.core.board.seats e ≡ Some seat → IsFirstEnd seat.end
  pub sides : (n : ℕ) (side : TheSide) → slice_get s.rings n ≡ Some side → IsFirstSide side
  pub queues : (n : ℕ) (q : TheQueue) → IsUsed UsesQueue s.core.wired_ends n → slice_get s.queues n ≡ Some q → IsFirstQueue q
  pub arrivals : (n : ℕ) (q : TheQueue) → IsUsed UsesArrivals s.core.wired_ends n → slice_get s.core.arrivals n ≡ Some q → IsFirstQueue q

-- ---- the cut

-- no call was accepted, or came; it has the end's reply rules
abbrev pub first_end : ℕ → WiredEnd → TheEndAtChannel → EndCut
first_end core wired_end seat =
    let i = planned_of seat.end.program in
    record {
      wired_end = wired_end;
      planned = i;
      end = record (unbound_end (length i.interface.messages) 2 None) { seat = Some (seat_at core seat); circuit = Some 0; rules = seat.end.rules };
      got = [];
      came = fresh_direction 2;
      failed = false;
    }

abbrev pub first_ends : ℕ → List TheEndAtChannel → List WiredEnd → List EndCut
first_ends core [] wired_ends = []
first_ends core (seat ∷ seats) [] = []
first_ends core (seat ∷ seats) (p ∷ wired_ends) = first_end core p seat ∷ first_ends core seats wired_ends

abbrev pub first_queue : TheQueue → QueueCut
first_queue q = record { queue = fresh_queue q.capacity; frags = [] }

abbrev pub first_side : TheSide → SideCut
first_side s = record { ring = fresh_ring s.size; put = []; got = [] }

-- with this core of the machine: its waitsets, its circuits and its outboxes
abbrev pub first_cut : Core → TheRun TheSide → CoreCut
first_cut k s = record {
  core = k;
  ends = first_ends s.core.monitor.circuits.core s.core.board.seats s.core.wired_ends;
  places = s.core.places;
  link_sides = s.core.link_sides;
  sides = map first_side s.rings;
  queues = map first_queue s.queues;
  arrivals = map first_queue s.core.arrivals;
  plans = map (λ (p : Program). planned_of p) s.offers.programs;
}

-- where the core of the machine is the one that the core shows
abbrev pub StartsShow : Type 0
StartsShow = (k : Core) (s : TheRun TheSide) → IsStarting s → MonitorShows k s.core.monitor
    → AllZip (ShowsWaits s.core.wired_ends) k.dispatchers s.core.board.dispatchers → ShowsCut (first_cut k s) s
