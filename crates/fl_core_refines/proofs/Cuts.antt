-- A cut of which parts are changed shows a core of which these parts have changed.
use Rattle.std.proofs.Common.{◌≡◌, refl, sym, ◌∙◌, ap, subst, ℕ, List, map, slice_get, slice_set, Option, Some, None}
use Rattle.std.specs.List.{AllZip}
use Rattle.fl_base.specs.declared.identity.EndId.{EndId}
use Rattle.fl_base.specs.Given.{given}
use Rattle.fl_lists.specs.ThreeLists.{ThreeLists}
use Rattle.fl_waitset.specs.Waiting.{triggered}
use Rattle.fl_link.specs.Queue.{TheQueue}
use Rattle.fl_ring.specs.SharedSides.{TheSide}
use Rattle.fl_endpoint.specs.View.{TheEnd}
use Rattle.fl_core.specs.BoardView.{TheEndAtChannel, TheBoard}
use Rattle.fl_hop.specs.Table.{TheCircuits}
use Rattle.fl_monitor.specs.Monitors.{TheMonitor}
use Rattle.fl_core.specs.declared.wiring.LinkSide.{LinkSide}
use Rattle.fl_core.specs.declared.wiring.WiredEnd.{WiredEnd}
use Rattle.fl_core.specs.View.{TheCore, with_board, place_in, place_of}
use Rattle.fl_core.specs.Sound.{IsCore, IsPlaced}
use Rattle.fl_core.specs.Ends.{TriggersIf}
use Rattle.fl_core_run.specs.EndProgress.{TheEndProgress}
use Rattle.fl_core_run.specs.Run.{TheRun}
use Rattle.fl_model.specs.Ends.{Seat}
use Rattle.fl_model.specs.Waits.{Dispatcher, triggers}
use Rattle.fl_model.specs.Monitors.{Core}
use Rattle.fl_world_refines.specs.Cores.{MonitorShows}
use Rattle.fl_core_refines.specs.CutSides.{SideCut, ShowsSide}
use Rattle.fl_core_refines.specs.CutEnds.{EndCut}
use Rattle.fl_core_refines.specs.Cut.{QueueCut, CoreCut, UsesQueue, UsesArrivals, QueuesShow, ShowsWaits, ShowsSeat, ShowsCut}
use Rattle.fl_core_refines.specs.CutEvents.{EndAt, triggers_seat, triggers_end, with_waits}
use Rattle.fl_core_refines.proofs.Lists.{there, set_both, map_same, map_at}

-- ---- the whole

-- with all that may change at the core and beside it
pub record Parts : Type 0 where
  pub board : TheBoard
  pub monitor : TheMonitor
  pub link_sides : List LinkSide
  pub arrivals : List TheQueue
  pub rings : List TheSide
  pub stands : List TheQueue
  pub progresses : List TheEndProgress

abbrev pub with_parts : TheRun TheSide → Parts → TheRun TheSide
with_parts s p = record s {
  core = record s.core { board = p.board; monitor = p.monitor; link_sides = p.link_sides; arrivals = p.arrivals };
  rings = p.rings;
  queues = p.stands;
  progresses = p.progresses;
}

pub shown_all : (a : CoreCut) (s : TheRun TheSide) → ShowsCut a s → (b : CoreCut) (p : Parts) → MonitorShows b.core p.monitor
    → AllZip (ShowsWaits s.core.wired_ends) b.core.dispatchers p.board.dispatchers → AllZip (ShowsSeat p.monitor.circuits.core) b.ends p.board.seats
    → map (λ (x : EndCut). x.wired_end) b.ends ≡ map (λ (x : EndCut). x.wired_end) a.ends → b.places ≡ a.places → b.plans ≡ a.plans → b.link_sides ≡ p.link_sides → AllZip ShowsSide b.sides p.rings
    → QueuesShow UsesQueue s.core.wired_ends b.queues p.stands → QueuesShow UsesArrivals s.core.wired_ends b.arrivals p.arrivals → ShowsCut b (with_parts s p)
shown_all a s h b p monitor waits ends wired_ends places plans link_sides sides queues arrivals = record {
  monitor = monitor;
  waits = waits;
  ends = ends;
  wired_ends = wired_ends ∙ h.wired_ends;
  places = places ∙ h.places;
  link_sides = link_sides;
  sides = sides;
  queues = queues;
  arrivals = arrivals;
  plans = h.plans ∙ sym plans;
}

abbrev pub built : TheRun TheSide → TheBoard → List TheSide → List TheQueue → List TheEndProgress → TheRun TheSide
built s b rings stands progresses = record s { core = with_board s.core b; rings = rings; queues = stands; progresses = progresses }

abbrev pub changed : CoreCut → List Dispatcher → List EndCut → List SideCut → List QueueCut → CoreCut
changed a waits ends sides queues = record (with_waits a waits) { ends = ends; sides = sides; queues = queues }

same_monitor : (a : CoreCut) (s : TheRun TheSide) (waits : List Dispatcher) → ShowsCut a s → MonitorShows (record a.core { dispatchers = waits }) s.core.monitor
same_monitor a s waits h = record { circuits = h.monitor.circuits; outboxes = h.monitor.outboxes }

pub shown_by : (a : CoreCut) (s : TheRun TheSide) → ShowsCut a s → (waits : List Dispatcher) (ends : List EndCut) (sides : List SideCut) (queues : List QueueCut)
    (b : TheBoard) (rings : List TheSide) (stands : List TheQueue) (progresses : List TheEndProgress) → AllZip (ShowsWaits s.core.wired_ends) waits b.dispatchers
    → AllZip (ShowsSeat s.core.monitor.circuits.core) ends b.seats → map (λ (x : EndCut). x.wired_end) ends ≡ map (λ (x : EndCut). x.wired_end) a.ends
    → AllZip ShowsSide sides rings → QueuesShow UsesQueue s.core.wired_ends queues stands → ShowsCut (changed a waits ends sides queues) (built s b rings stands progresses)
shown_by a s h waits ends sides queues b rings stands progresses waits_show ends_show wired_ends sides_show queues_show =
    shown_all a s h (changed a waits ends sides queues) (record {
      board = b;
      monitor = s.core.monitor;
      link_sides = s.core.link_sides;
      arrivals = s.core.arrivals;
      rings = rings;
      stands = stands;
      progresses = progresses;
    }) (same_monitor a s waits h) waits_show ends_show wired_ends refl refl h.link_sides sides_show queues_show h.arrivals

-- over the end's own arrival queue
pub shown_arrivals : (a : CoreCut) (s : TheRun TheSide) → ShowsCut a s → (waits : List Dispatcher) (ends : List EndCut) (sides : List SideCut) (arrivals : List QueueCut)
    (b : TheBoard) (rings : List TheSide) (stands : List TheQueue) (progresses : List TheEndProgress) → AllZip (ShowsWaits s.core.wired_ends) waits b.dispatchers
    → AllZip (ShowsSeat s.core.monitor.circuits.core) ends b.seats → map (λ (x : EndCut). x.wired_end) ends ≡ map (λ (x : EndCut). x.wired_end) a.ends
    → AllZip ShowsSide sides rings → QueuesShow UsesArrivals s.core.wired_ends arrivals stands
    → ShowsCut (record (with_waits a waits) { ends = ends; sides = sides; arrivals = arrivals })
    (record s { core = record s.core { board = b; arrivals = stands }; rings = rings; progresses = progresses })
shown_arrivals a s h waits ends sides arrivals b rings stands progresses waits_show ends_show wired_ends sides_show arrivals_show =
    shown_all a s h (record (with_waits a waits) { ends = ends; sides = sides; arrivals = arrivals }) (record {
      board = b;
      monitor = s.core.monitor;
      link_sides = s.core.link_sides;
      arrivals = stands;
      rings = rings;
      stands = s.queues;
      progresses = progresses;
    }) (same_monitor a s waits h) waits_show ends_show wired_ends refl refl h.link_sides sides_show h.queues arrivals_show

-- sides and link sides alone
pub shown_link_sides : (a : CoreCut) (s : TheRun TheSide) → ShowsCut a s → (sides : List SideCut) (here link_sides : List LinkSide) (rings : List TheSide) (progresses : List TheEndProgress)
    → AllZip ShowsSide sides rings → here ≡ link_sides
    → ShowsCut (record a { sides = sides; link_sides = here }) (record s { core = record s.core { link_sides = link_sides }; rings = rings; progresses = progresses })
shown_link_sides a s h sides here link_sides rings progresses sides_show same =
    shown_all a s h (record a { sides = sides; link_sides = here }) (record {
      board = s.core.board;
      monitor = s.core.monitor;
      link_sides = link_sides;
      arrivals = s.core.arrivals;
      rings = rings;
      stands = s.queues;
      progresses = progresses;
    }) h.monitor h.waits h.ends refl refl refl same sides_show h.queues h.arrivals

-- sides and outboxes alone
pub shown_monitor : (a : CoreCut) (s : TheRun TheSide) → ShowsCut a s → (sides : List SideCut) (core : Core) (m : TheMonitor) (rings : List TheSide) (progresses : List TheEndProgress)
    → AllZip ShowsSide sides rings → MonitorShows core m → core.dispatchers ≡ a.core.dispatchers → m.circuits ≡ s.core.monitor.circuits
    → ShowsCut (record a { core = core; sides = sides }) (record s { core = record s.core { monitor = m }; rings = rings; progresses = progresses })
shown_monitor a s h sides core m rings progresses sides_show monitor waits circuits =
    shown_all a s h (record a { core = core; sides = sides }) (record {
      board = s.core.board;
      monitor = m;
      link_sides = s.core.link_sides;
      arrivals = s.core.arrivals;
      rings = rings;
      stands = s.queues;
      progresses = progresses;
    }) monitor (subst (λ (ds : List Dispatcher). AllZip (ShowsWaits s.core.wired_ends) ds s.core.board.dispatchers) (sym waits) h.waits)
    (subst (λ (t : TheCircuits). AllZip (ShowsSeat t.core) a.ends s.core.board.seats) (sym circuits) h.ends) refl refl refl h.link_sides sides_show h.queues h.arrivals

-- the board has changed, and the ends' progress, and nothing else; or a side, or a queue, too
pub board_run : (s m t : TheRun TheSide) → m ≡ record s { core = m.core } → m.core ≡ with_board s.core m.core.board → t ≡ record m { progresses = t.progresses }
    → t ≡ built s m.core.board s.rings s.queues t.progresses
board_run s m t rest core progresses =
    progresses ∙ ap (λ (z : TheRun TheSide). record z { progresses = t.progresses }) (rest ∙ ap (λ (k : TheCore). record s { core = k }) core)

pub ring_run : (s m t : TheRun TheSide) (rings : List TheSide) → m ≡ record s { core = m.core; rings = rings } → m.core ≡ with_board s.core m.core.board
    → t ≡ record m { progresses = t.progresses } → t ≡ built s m.core.board rings s.queues t.progresses
ring_run s m t rings rest core progresses =
    progresses ∙ ap (λ (z : TheRun TheSide). record z { progresses = t.progresses }) (rest ∙ ap (λ (k : TheCore). record s { core = k; rings = rings }) core)

pub queue_run : (s m t : TheRun TheSide) (stands : List TheQueue) → m ≡ record s { core = m.core; queues = stands } → m.core ≡ with_board s.core m.core.board
    → t ≡ record m { progresses = t.progresses } → t ≡ built s m.core.board s.rings stands t.progresses
queue_run s m t stands rest core progresses =
    progresses ∙ ap (λ (z : TheRun TheSide). record z { progresses = t.progresses }) (rest ∙ ap (λ (k : TheCore). record s { core = k; queues = stands }) core)

-- ---- an end

-- the end of a name, and what it shows
pub record Seen (a : CoreCut) (core : ℕ) (name : EndId) (e : ℕ) (seat : TheEndAtChannel) : Type 0 where
  pub end : EndCut
  pub end_is : slice_get a.ends e ≡ Some end
  pub name_is : end.wired_end.name ≡ name
  pub place_is : place_in a.places name ≡ Some e
  pub shows : ShowsSeat core end seat

pub seen_by : (a : CoreCut) (s : TheRun TheSide) (name : EndId) (e : ℕ) (seat : TheEndAtChannel) → ShowsCut a s
    → ((who : EndId) (f : ℕ) → place_of s.core who ≡ Some f → IsPlaced s.core.wired_ends who f) → place_of s.core name ≡ Some e
    → slice_get s.core.board.seats e ≡ Some seat → Seen a s.core.monitor.circuits.core name e seat
seen_by a s name e seat h all at seat_is =
    let x = there (ShowsSeat s.core.monitor.circuits.core) a.ends s.core.board.seats e seat h.ends seat_is in
    let placed = all name e at in
    record {
      end = x.0;
      end_is = x.1;
      name_is = ap (λ (p : WiredEnd). p.name) (map_at (λ (y : EndCut). y.wired_end) a.ends s.core.wired_ends e x.0 placed.wired_end h.wired_ends x.1 placed.wired_end_is) ∙ placed.name_is;
      place_is = ap (λ (places : List (Option ℕ)). place_in places name) h.places ∙ at;
      shows = x.2;
    }

pub seen : (a : CoreCut) (s : TheRun TheSide) (name : EndId) (e : ℕ) (seat : TheEndAtChannel) → ShowsCut a s → IsCore s.core → place_of s.core name ≡ Some e
    → slice_get s.core.board.seats e ≡ Some seat → Seen a s.core.monitor.circuits.core name e seat
seen a s name e seat h core at seat_is = seen_by a s name e seat h core.placed at seat_is

abbrev pub end_at : (a : CoreCut) (core : ℕ) (name : EndId) (e : ℕ) (seat : TheEndAtChannel) → Seen a core name e seat → EndAt a name
end_at a core name e seat x = record { place = e; place_is = x.place_is; end = x.end; end_is = x.end_is; name_is = x.name_is }

abbrev pub seated : TheEndAtChannel → TheEnd → TheEndAtChannel
seated seat t = record { end = t; dispatcher = seat.dispatcher; channel = seat.channel; kind = seat.kind }

-- ends, one of which has changed
pub ends_shown : (a : CoreCut) (core : ℕ) (name : EndId) (e : ℕ) (seat : TheEndAtChannel) (seats : List TheEndAtChannel) (x : Seen a core name e seat) (y : EndCut) (t : TheEnd)
    → AllZip (ShowsSeat core) a.ends seats → ShowsSeat core y (seated seat t)
    → AllZip (ShowsSeat core) (slice_set a.ends e y) (slice_set seats e (seated seat t))
ends_shown a core name e seat seats x y t h k = set_both (ShowsSeat core) a.ends seats e y (seated seat t) h k

pub wired_ends_same : (a : CoreCut) (core : ℕ) (name : EndId) (e : ℕ) (seat : TheEndAtChannel) (x : Seen a core name e seat) (y : EndCut) → y.wired_end ≡ x.end.wired_end
    → map (λ (z : EndCut). z.wired_end) (slice_set a.ends e y) ≡ map (λ (z : EndCut). z.wired_end) a.ends
wired_ends_same a core name e seat x y same = map_same (λ (z : EndCut). z.wired_end) a.ends e x.end y x.end_is same

-- ---- a channel is triggered

pub record Triggered (core : ℕ) (wired_ends : List WiredEnd) (waits : List Dispatcher) (ends : List EndCut) (b : TheBoard) : Type 0 where
  pub waits_show : AllZip (ShowsWaits wired_ends) waits b.dispatchers
  pub ends_show : AllZip (ShowsSeat core) ends b.seats

pub on_board : (core : ℕ) (wired_ends : List WiredEnd) (waits : List Dispatcher) (ends : List EndCut) (b c : TheBoard) → c ≡ b → Triggered core wired_ends waits ends b
    → Triggered core wired_ends waits ends c
on_board core wired_ends waits ends b c e h = subst (Triggered core wired_ends waits ends) (sym e) h

pub triggers_shown : (core : ℕ) (wired_ends : List WiredEnd) (o : Option ℕ) (waits : List Dispatcher) (ends : List EndCut) (b c : TheBoard) → TriggersIf o b c
    → AllZip (ShowsWaits wired_ends) waits b.dispatchers → AllZip (ShowsSeat core) ends b.seats → Triggered core wired_ends (triggers_end o ends waits) ends c
triggers_shown core wired_ends None waits ends b c e w h = on_board core wired_ends waits ends b c e (record { waits_show = w; ends_show = h })
triggers_shown core wired_ends (Some place) waits ends b c t w h =
    let x = there (ShowsSeat core) ends b.seats place t.seat h t.seat_is in
    let d = there (ShowsWaits wired_ends) waits b.dispatchers t.seat.dispatcher t.dispatcher w t.dispatcher_is in
    let is : triggers_end (Some place) ends waits ≡ slice_set waits t.seat.dispatcher (triggers t.seat.channel d.0)
    = ap (λ (o : Option EndCut). given o waits λ y. triggers_seat y.end.seat waits) x.1
    ∙ ap (λ (o : Option Seat). triggers_seat o waits) x.2.seat
    ∙ ap (λ (o : Option Dispatcher). given o waits λ y. slice_set waits t.seat.dispatcher (triggers t.seat.channel y)) d.1 in
    let shows : ShowsWaits wired_ends (triggers t.seat.channel d.0) (record { lists = t.lists; ends = t.dispatcher.ends }) = record {
      lists = t.event ∙ ap (λ (l : ThreeLists). triggered l t.seat.channel) d.2.lists;
      ends = d.2.ends;
    } in
    on_board core wired_ends (triggers_end (Some place) ends waits) ends _ c t.board (record {
      waits_show = subst (λ (ds : List Dispatcher). AllZip (ShowsWaits wired_ends) ds
          (slice_set b.dispatchers t.seat.dispatcher (record { lists = t.lists; ends = t.dispatcher.ends }))) (sym is)
          (set_both (ShowsWaits wired_ends) waits b.dispatchers t.seat.dispatcher (triggers t.seat.channel d.0) (record { lists = t.lists; ends = t.dispatcher.ends }) w shows);
      ends_show = h;
    })
