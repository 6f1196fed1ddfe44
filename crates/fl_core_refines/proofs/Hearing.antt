-- A monitors' message is heard as the machine hears it.
use Rattle.std.proofs.Common.{◌≡◌, inl, inr, refl, sym, ◌∙◌, ap, subst, ℕ, zero, suc, ◌+◌, ◌||◌, ◌≤◌, Bool, true, false, if◌then◌else◌, List, [], ◌∷◌, ◌++◌, length, map, slice_get, slice_set, Option, Some, None, arith}
use Rattle.std.specs.Prelude.{Result, Ok, Err, IsSome}
use Rattle.std.specs.Option.{option_map}
use Rattle.std.proofs.lemmas.Bool.{false≢true}
use Rattle.std.proofs.lemmas.Option.{same_Some, slice_get_past}
use Rattle.std.specs.List.{AllZip}
use Rattle.fl_base.specs.declared.fragment.Frag.{Frag}
use Rattle.fl_base.specs.declared.identity.CoreId.{CoreId}
use Rattle.fl_base.specs.declared.identity.EndId.{EndId}
use Rattle.fl_base.specs.declared.identity.LinkId.{LinkId}
use Rattle.fl_base.specs.declared.identity.Circuit.{Circuit}
use Rattle.fl_base.specs.Control.{bare}
use Rattle.fl_base.specs.Given.{given}
use Rattle.fl_lists.specs.declared.place.Place.{Place}
use Rattle.fl_lists.specs.declared.place.Place.TheVariants as place
use Rattle.fl_lists.specs.ThreeLists.{ThreeLists, list_at, is_in, pushed}
use Rattle.fl_waitset.specs.Waiting.{is_registered}
use Rattle.fl_link.specs.Looks.{found}
use Rattle.fl_link.specs.Queue.{TheQueue, QueueTakes}
use Rattle.fl_ring.specs.SharedSides.{TheSide, SharedTakes}
use Rattle.fl_hop.specs.declared.entry.HopTarget.{HopTarget}
use Rattle.fl_hop.specs.declared.entry.HopTarget.TheVariants.{Link as to_link, End as to_end}
use Rattle.fl_hop.specs.declared.entry.Hop.{Hop}
use Rattle.fl_hop.specs.declared.links.LinkState.{LinkState}
use Rattle.fl_hop.specs.Numbers.{with_opening, with_taking, changed, count_opening, count_taking}
use Rattle.fl_hop.specs.Table.{TheCircuits, hop_at}
use Rattle.fl_compile.specs.declared.program.Program.{Program}
use Rattle.fl_value_data.specs.Value.{TheCall}
use Rattle.fl_endpoint.specs.View.{TheEnd, fresh, bound}
use Rattle.fl_core.proofs.BoardPlaces.{set_here}
use Rattle.fl_core.specs.declared.hearing.OfferedService.{OfferedService}
use Rattle.fl_core.specs.declared.board_fault.BoardFault.{BoardFault}
use Rattle.fl_core.specs.declared.board_fault.BoardFault.TheVariants as board
use Rattle.fl_core.specs.declared.kind.ChannelKind.{ChannelKind}
use Rattle.fl_core.specs.declared.kind.ChannelKind.TheVariants as kind
use Rattle.fl_core.specs.BoardView.{TheDispatcher, TheEndAtChannel, TheBoard}
use Rattle.fl_core.specs.BoardView.{with_new_end as board_with_end, with_end as board_set}
use Rattle.fl_core.specs.BoardSound.{IsBoard}
use Rattle.fl_core.specs.BoardEvents.{ChangesLists, Registers}
use Rattle.fl_core.specs.BoardTurns.{lent}
use Rattle.fl_monitor.specs.declared.fault.MonitorFault.TheVariants as monitor
use Rattle.fl_monitor.specs.declared.heard.MessageOutcome.{MessageOutcome}
use Rattle.fl_monitor.specs.declared.heard.MessageOutcome.TheVariants as was
use Rattle.fl_monitor.specs.declared.message.MonitorMessage.{MonitorMessage}
use Rattle.fl_monitor.specs.declared.message.MonitorMessage.TheVariants.{OpenCircuit, CircuitOpened, CircuitRefused}
use Rattle.fl_monitor.specs.Monitors.{TheMonitor, Hears as MonitorHears}
use Rattle.fl_monitor.specs.Fates.{Known}
use Rattle.fl_monitor.specs.Saying.{Says}
use Rattle.fl_core.specs.declared.answer.MonitorAnswer.{MonitorAnswer}
use Rattle.fl_core.specs.declared.answer.MonitorAnswer.TheVariants as answer
use Rattle.fl_core.specs.declared.fault.LinkReceiveFault.{LinkReceiveFault}
use Rattle.fl_core.specs.declared.fault.LinkReceiveFault.TheVariants as link
use Rattle.fl_wire.specs.declared.fault.WireFault.TheVariants as wiring
use Rattle.fl_core.specs.declared.wiring.ArrivalPlace.{ArrivalPlace}
use Rattle.fl_core.specs.declared.wiring.LinkSide.{LinkSide}
use Rattle.fl_core.specs.declared.wiring.WiredEnd.{WiredEnd}
use Rattle.fl_core.specs.declared.wiring.EndWiring.{EndWiring}
use Rattle.fl_core.specs.declared.wiring.EndWiring.TheVariants.{Queues, Ring as OverRing, Circuit as ByCircuit}
use Rattle.fl_core.specs.View.{TheCore, with_monitor, with_failed, failed_at, place_in, place_of, arriving, arriving_at, arrivals_by, circuit_wired_end, server_of, kind_of, new_arrivals as node_arrivals}
use Rattle.fl_core.specs.Hearing.{Offers, known_for, may_offer, offer_of, offer_for, offering, MakesServer as NodeMakes, Binds, BindsIf as NodeBindsIf, Follows as NodeFollows, HearsAll, HearsFrag, TakesHeard}
use Rattle.fl_core.specs.Sound.{IsPlaced}
use Rattle.fl_core_run.specs.Run.{TheRun}
use Rattle.fl_core_run.specs.LogEntries.{OnRing, IsSound}
use Rattle.fl_model.specs.Events.{DispatcherId}
use Rattle.fl_model.specs.Rings.{MonitorLabel, says, open_circuit, circuit_opened, circuit_refused, OpeningLabel}
use Rattle.fl_model.specs.Ends.{Direction, Seat}
use Rattle.fl_model.specs.Calls.{Planned}
use Rattle.fl_model.specs.Waits.{Dispatcher, waits_in, registers}
use Rattle.fl_model.specs.Monitors.{Core, Service, service_of, Fate, goes_on, ends_at, fails, can_say, Hearing, hears, hears_opening, hears_opened, hears_refused, fate, saying, with_said, with_circuits, goes_misrouted}
use Rattle.fl_model.specs.Monitors.{Heard as MachineHeard, no_outbox, misrouted, opening_went_on, server_made, opening_failed, answer_went_on, end_opened, end_refused}
use Rattle.fl_world_refines.specs.Fragments.{message_of}
use Rattle.fl_world_refines.specs.Cores.{MonitorShows, NamesShow}
use Rattle.fl_nameserv.specs.Registrations.{TheRegistration}
use Rattle.fl_world_refines.proofs.Names.{names_agree}
use Rattle.fl_world_refines.specs.CoreLaws.{registration_of, NamesAgree, SameHeard, delivery, HearsAgree}
use Rattle.fl_world_refines.specs.Ends.{planned_of, outgoing_of, circuit_of}
use Rattle.fl_world_refines.proofs.Tests.{either}
use Rattle.fl_core_refines.specs.CutSides.{SideCut, ShowsSide}
use Rattle.fl_core_refines.specs.CutEnds.{EndCut, ShowsEnd}
use Rattle.fl_core_refines.specs.Cut.{QueueCut, CoreCut, ShowsQueue, ShowsWaits, ShowsSeat, ShowsCut}
use Rattle.fl_core_refines.specs.CutEvents.{EndAt, with_waits}
use Rattle.fl_core_refines.specs.CutOpening.{new_arrivals, new_end, next_seat, with_new_end}
use Rattle.fl_core_refines.specs.CutHearing.{said_of, asked_service, route_length, hearing, ReceivedRequest, MakesServer, registers_seat, bound_to, BindsEnd, BindsIf, ThenFollows, Hears, HearsOver, IsUnbound, IsInOrder}
use Rattle.fl_core_refines.proofs.Lists.{there, set_both}
use Rattle.fl_core_refines.proofs.Sides.{takes_again}
use Rattle.fl_core_refines.proofs.Cuts.{shown_all, shown_by, built, seen_by, end_at, seated, ends_shown, wired_ends_same}
use Rattle.fl_core_refines.proofs.Events.{queue_waits, kind_at}
use Rattle.fl_core_refines.proofs.Links.{progresses_shown, side_shown, side_link_sides, link_sides_run, set_same, arrives_at, wired_end_at, used_at, own_number}
use Rattle.fl_core_refines.proofs.Opening.{copied, path_same, new_shows, added_shows, new_own, added_run, same_length, place_left, last_there}

-- ---- the message, as the machine has it

pub message_same : (m : MonitorMessage) → message_of (said_of m) ≡ m
message_same (OpenCircuit c binding service path) = ap (λ (p : List CoreId). OpenCircuit c binding service p) (path_same path)
message_same (CircuitOpened c) = refl
message_same (CircuitRefused c reason) = refl

-- ---- neighbours

-- the core on a link's other side
abbrev pub beside : TheCircuits → ℕ → Option CoreId
beside t l = option_map (λ (x : LinkState). x.neighbour) (slice_get t.links l)

set_beside : (xs : List LinkState) (i l : ℕ) (a b : LinkState) → slice_get xs i ≡ Some a → b.neighbour ≡ a.neighbour
    → option_map (λ (x : LinkState). x.neighbour) (slice_get (slice_set xs i b) l) ≡ option_map (λ (x : LinkState). x.neighbour) (slice_get xs l)
set_beside [] i l a b at same = absurd (cc)
set_beside (x ∷ xs) zero zero a b at same = let one : x ≡ a = cc in ap (λ (c : CoreId). Some c) (same ∙ ap (λ (y : LinkState). y.neighbour) (sym one))
set_beside (x ∷ xs) zero (suc l) a b at same = refl
set_beside (x ∷ xs) (suc i) zero a b at same = refl
set_beside (x ∷ xs) (suc i) (suc l) a b at same = set_beside xs i l a b at same

-- no count changes it
changed_beside : (f : LinkState → LinkState) → ((a : LinkState) → (f a).neighbour ≡ a.neighbour) → (xs : List LinkState) (i l : ℕ) (o : Option LinkState) → slice_get xs i ≡ o
    → option_map (λ (x : LinkState). x.neighbour) (slice_get (changed f xs i o) l) ≡ option_map (λ (x : LinkState). x.neighbour) (slice_get xs l)
changed_beside f keeps xs i l None at = refl
changed_beside f keeps xs i l (Some a) at = set_beside xs i l a (f a) at (keeps a)

pub opening_beside : (xs : List LinkState) (i l : ℕ)
    → option_map (λ (x : LinkState). x.neighbour) (slice_get (count_opening xs i) l) ≡ option_map (λ (x : LinkState). x.neighbour) (slice_get xs l)
opening_beside xs i l = changed_beside with_opening (λ a. refl) xs i l (slice_get xs i) refl

taking_beside : (xs : List LinkState) (i l : ℕ)
    → option_map (λ (x : LinkState). x.neighbour) (slice_get (count_taking xs i) l) ≡ option_map (λ (x : LinkState). x.neighbour) (slice_get xs l)
taking_beside xs i l = changed_beside with_taking (λ a. refl) xs i l (slice_get xs i) refl

-- ---- what a machine's core keeps when it hears

pub record Keeps (k : Core) (h : Hearing) : Type 0 where
  pub waits : h.core.dispatchers ≡ k.dispatchers
  pub number : h.core.circuits.core ≡ k.circuits.core
  pub links : (i : ℕ) → beside h.core.circuits i ≡ beside k.circuits i

saying_keeps : (l : ℕ) (m : MonitorLabel) (t : TheCircuits) (word : MachineHeard) (k : Core) → t.core ≡ k.circuits.core → ((i : ℕ) → beside t i ≡ beside k.circuits i)
    → Keeps k (saying l m t word k)
saying_keeps l m t word k e h =
    either (Keeps k) (can_say l k) (record { core = with_said l m (with_circuits t k); heard = word }) (record { core = k; heard = no_outbox })
    (λ q. record { waits = refl; number = e; links = h }) (λ q. record { waits = refl; number = refl; links = λ i. refl })

pub opening_keeps : (l : ℕ) (o : OpeningLabel) (f : Fate) (k : Core) → Keeps k (hears_opening l o f k)
opening_keeps l o (goes_on m n) k = saying_keeps m _ _ _ k refl (λ i. opening_beside (count_taking k.circuits.links l) m i ∙ taking_beside k.circuits.links l i)
opening_keeps l o (ends_at d) k = saying_keeps l _ _ _ k refl (λ i. taking_beside k.circuits.links l i)
opening_keeps l o (fails fault) k = saying_keeps l _ _ _ k refl (λ i. taking_beside k.circuits.links l i)

opened_keeps : (l c : ℕ) (hop : Hop) (way : HopTarget) (k : Core) → Keeps k (hears_opened l c hop way k)
opened_keeps l c hop (to_link m d) k = saying_keeps m.0 _ _ _ k refl (λ i. refl)
opened_keeps l c hop (to_end e) k = record { waits = refl; number = refl; links = λ i. refl }

refused_keeps : (l c fault : ℕ) (hop : Hop) (way : HopTarget) (k : Core) → Keeps k (hears_refused l c fault hop way k)
refused_keeps l c fault hop (to_link m d) k = saying_keeps m.0 _ _ _ k refl (λ i. refl)
refused_keeps l c fault hop (to_end e) k = record { waits = refl; number = refl; links = λ i. refl }

by_hop : (k : Core) (o : Option Hop) (f : Hop → Hearing) → ((hop : Hop) → Keeps k (f hop)) → Keeps k (given o (goes_misrouted k) f)
by_hop k None f h = record { waits = refl; number = refl; links = λ i. refl }
by_hop k (Some hop) f h = h hop

pub hears_keeps : (services : List Service) (l : ℕ) (m : MonitorLabel) (k : Core) → Keeps k (hears services l m k)
hears_keeps services l (open_circuit o) k = opening_keeps l o (fate services o k) k
hears_keeps services l (circuit_opened c) k = by_hop k (hop_at k.circuits l c) (λ hop. hears_opened l c hop hop.way k) (λ hop. opened_keeps l c hop hop.way k)
hears_keeps services l (circuit_refused c fault) k =
    by_hop k (hop_at k.circuits l c) (λ hop. hears_refused l c fault hop hop.way k) (λ hop. refused_keeps l c fault hop hop.way k)

-- ---- the core once its monitor has heard

abbrev pub heard_run : TheRun TheSide → TheMonitor → List TheSide → TheRun TheSide
heard_run s m rings = record s { core = with_monitor s.core m; rings = rings }

pub heard_shows : (a : CoreCut) (s : TheRun TheSide) (sides : List SideCut) (core : Core) (m : TheMonitor) (rings : List TheSide) → ShowsCut a s → AllZip ShowsSide sides rings
    → MonitorShows core m → core.dispatchers ≡ a.core.dispatchers → m.circuits.core ≡ s.core.monitor.circuits.core
    → ShowsCut (record a { core = core; sides = sides }) (heard_run s m rings)
heard_shows a s sides core m rings h sides_show monitor_shows waits number =
    shown_all a s h (record a { core = core; sides = sides }) (record {
      board = s.core.board;
      monitor = m;
      link_sides = s.core.link_sides;
      arrivals = s.core.arrivals;
      rings = rings;
      stands = s.queues;
      progresses = s.progresses;
    }) monitor_shows (subst (λ (ds : List Dispatcher). AllZip (ShowsWaits s.core.wired_ends) ds s.core.board.dispatchers) (sym waits) h.waits)
    (subst (λ (n : ℕ). AllZip (ShowsSeat n) a.ends s.core.board.seats) (sym number) h.ends) refl refl refl h.link_sides sides_show h.queues h.arrivals

-- ---- a channel is registered

-- none is, of an end that isn't ready
in_some : (w : ThreeLists) (c : ℕ) → is_registered w c ≡ true → (list : Place) × (is_in c (list_at w list) ≡ true)
in_some w c h = by (is_in c w.idle) (is_in c w.polled) (is_in c w.pending) refl refl refl h where
  by : (x y z : Bool) → is_in c w.idle ≡ x → is_in c w.polled ≡ y → is_in c w.pending ≡ z → (x || y || z) ≡ true → (list : Place) × (is_in c (list_at w list) ≡ true)
  by true y z p q r e = (place.Idle, p)
  by false true z p q r e = (place.Polled, q)
  by false false true p q r e = (place.Pending, r)
  by false false false p q r e = absurd (false≢true e)

-- what registering makes of a dispatcher's lists
record Registered (w v : ThreeLists) (c : ℕ) (q : QueueCut) : Type 0 where
  pub lists : v ≡ pushed w c (waits_in (Some q.queue))

registers_so : (seat : TheEndAtChannel) (w v : ThreeLists) (q : QueueCut) (p : TheQueue) (r : Result (Unit {0}) BoardFault) → ShowsQueue q p → seat.kind ≡ kind.Queue
    → IsSome seat.end.circuit → seat.end.failed ≡ false → (is_registered w seat.channel ≡ true → ⊥) → Registers QueueTakes seat (lent w p) r (lent v p)
    → Registered w v seat.channel q
registers_so seat w v q p (Ok done) h queue is_bound ready free (is_ready, (none, (to, waits, lists))) =
    let at = queue_waits q p p to h (subst (λ (k : ChannelKind). Rattle.fl_core.specs.BoardTurns.WaitsIn QueueTakes k p to p) queue waits) in
    record { lists = lists ∙ ap (pushed w seat.channel) at.0 }
registers_so seat w v q p (Err board.Registered) h queue is_bound ready free (is_ready, (some, same, lists)) = absurd (free some)
registers_so seat w v q p (Err board.NotBound) h queue is_bound ready free (unbound, same, lists) =
    absurd (false≢true (subst (λ (o : Option ℕ). Rattle.std.specs.Prelude.is_some o ≡ true) unbound is_bound))
registers_so seat w v q p (Err board.Failed) h queue is_bound ready free ((some, failed), same, lists) = absurd (let clash : true ≡ false = sym failed ∙ ready in cc)
registers_so seat w v q p (Err board.NotRegistered) h queue is_bound ready free x = absurd x
registers_so seat w v q p (Err board.TooManyEnds) h queue is_bound ready free x = absurd x
registers_so seat w v q p (Err board.Memory) h queue is_bound ready free x = absurd x

-- the waitsets then
record Joined (core : ℕ) (wired_ends : List WiredEnd) (waits : List Dispatcher) (ends : List EndCut) (b : TheBoard) : Type 0 where
  pub waits_show : AllZip (ShowsWaits wired_ends) waits b.dispatchers
  pub ends_show : AllZip (ShowsSeat core) ends b.seats

registers_shown : (core : ℕ) (wired_ends : List WiredEnd) (waits : List Dispatcher) (ends : List EndCut) (b c : TheBoard) (e : ℕ) (q : QueueCut) (p : TheQueue)
    (r : Result (Unit {0}) BoardFault) (ch : ChangesLists b e (λ s w v. Registers QueueTakes s (lent w p) r (lent v p)) c) → AllZip (ShowsWaits wired_ends) waits b.dispatchers
    → AllZip (ShowsSeat core) ends b.seats → ShowsQueue q p → ch.seat.kind ≡ kind.Queue → IsSome ch.seat.end.circuit → ch.seat.end.failed ≡ false
    → (is_registered ch.dispatcher.lists ch.seat.channel ≡ true → ⊥) → (x : EndCut) → slice_get ends e ≡ Some x
    → Joined core wired_ends (registers_seat x.end.seat q waits) ends c
registers_shown core wired_ends waits ends b c e q p r ch w h shown queue some ready free x x_is =
    let y = there (ShowsSeat core) ends b.seats e ch.seat h ch.seat_is in
    let d = there (ShowsWaits wired_ends) waits b.dispatchers ch.seat.dispatcher ch.dispatcher w ch.dispatcher_is in
    let joined = registers_so ch.seat ch.dispatcher.lists ch.lists q p r shown queue some ready free ch.event in
    let same : x ≡ y.0 = same_Some x y.0 (sym x_is ∙ y.1) in
    let is : registers_seat x.end.seat q waits ≡ slice_set waits ch.seat.dispatcher (registers ch.seat.channel (waits_in (Some q.queue)) d.0)
    = ap (λ (z : EndCut). registers_seat z.end.seat q waits) same
    ∙ ap (λ (o : Option Seat). registers_seat o q waits) y.2.seat
    ∙ ap (λ (o : Option Dispatcher). given o waits λ z. slice_set waits ch.seat.dispatcher (registers ch.seat.channel (waits_in (Some q.queue)) z)) d.1 in
    let shows : ShowsWaits wired_ends (registers ch.seat.channel (waits_in (Some q.queue)) d.0) (record { lists = ch.lists; ends = ch.dispatcher.ends }) = record {
      lists = joined.lists ∙ ap (λ (l : ThreeLists). pushed l ch.seat.channel (waits_in (Some q.queue))) d.2.lists;
      ends = d.2.ends;
    } in
    subst (Joined core wired_ends (registers_seat x.end.seat q waits) ends) (sym ch.board) (record {
      waits_show = subst (λ (ds : List Dispatcher). AllZip (ShowsWaits wired_ends) ds
          (slice_set b.dispatchers ch.seat.dispatcher (record { lists = ch.lists; ends = ch.dispatcher.ends }))) (sym is)
          (set_both (ShowsWaits wired_ends) waits b.dispatchers ch.seat.dispatcher (registers ch.seat.channel (waits_in (Some q.queue)) d.0)
          (record { lists = ch.lists; ends = ch.dispatcher.ends }) w shows);
      ends_show = h;
    })

-- ---- the server's end

-- a new channel isn't registered
new_free : (b : TheBoard) (n : ℕ) (d : TheDispatcher) → IsBoard b → slice_get b.dispatchers n ≡ Some d → is_registered d.lists (length d.ends) ≡ true → ⊥
new_free b n d sound at h =
    let is = sound.dispatchers n d at in
    let listed = in_some d.lists (length d.ends) h in
    let turn = is.registered listed.0 (length d.ends) listed.1 in
    let past : slice_get d.ends (length d.ends) ≡ None = slice_get_past d.ends (length d.ends) (omega arith) in
    let clash : None ≡ Some turn.place = sym past ∙ turn.place_is in
    absurd (cc)

server_shows : (wired_end : WiredEnd) (program : Program) (stations c : ℕ) (seat : Seat) → 1 ≤ stations
    → ShowsEnd (bound_to c (new_end wired_end (planned_of program) stations seat)) (fresh program (Some c))
server_shows wired_end program stations c seat some =
    let g = new_shows wired_end program stations seat some in
    record {
      program = g.program;
      circuit = refl;
      rules = g.rules;
      outgoing = g.outgoing;
      reads = g.reads;
      taken = g.taken;
      failed = g.failed;
      counted = record { before = g.counted.before; most = g.counted.most };
      stations = g.stations;
      exits = g.exits;
    }

record Made (asked : Option Service) (stations n : ℕ) (d : DispatcherId) (c : ℕ) (l : LinkId) (a : CoreCut) (t : TheRun TheSide) : Type 0 where
  pub after : CoreCut
  pub makes : MakesServer (record { service = asked; stations = stations; link = l }) (record { binding = n; dispatcher = d; circuit = c }) a after
  pub shows : ShowsCut after t

-- the offer is the service that is asked for
abbrev Fits : Option Service → Option OfferedService → Type 0
Fits asked offer = (x : OfferedService) → offer ≡ Some x → (y : Service) × (asked ≡ Some y) × (y.interface ≡ x.interface)

offer_fits : (services : List Service) (o : Offers) (k : TheCore) (m : MonitorMessage) → NamesShow services o.names → Fits (asked_service services m) (offer_for o k m)
offer_fits services o k (CircuitOpened c) names x e = absurd (cc)
offer_fits services o k (CircuitRefused c reason) names x e = absurd (cc)
offer_fits services o k (OpenCircuit c binding service path) names x e = by (service_of services service.0) refl where
  agree : NamesAgree services o.names
  agree = names_agree services o.names names

  by_test : (y : Service) (t : Bool) → (if t then Some (let z : OfferedService = record { dispatcher = y.dispatcher.place; interface = y.interface } in z) else None) ≡ Some x
      → y.interface ≡ x.interface
  by_test y true q = ap (λ (z : OfferedService). z.interface) (same_Some (let z : OfferedService = record { dispatcher = y.dispatcher.place; interface = y.interface } in z) x q)
  by_test y false q = absurd (cc)

  by : (s : Option Service) → service_of services service.0 ≡ s → (y : Service) × (service_of services service.0 ≡ Some y) × (y.interface ≡ x.interface)
  by None q =
      let none : offer_of o k service.0 ≡ None
      = ap (λ (r : Option TheRegistration). given r None λ z. if may_offer o k z then Some (let w : OfferedService = record {
        dispatcher = z.service.dispatcher;
        interface = z.service.interface;
      } in w) else None) (agree.none service.0 q) in
      let clash : None ≡ Some x = sym none ∙ e in
      absurd (cc)
  by (Some y) q = (
    y,
    q,
    by_test y (may_offer o k (registration_of service.0 y))
        (sym (ap (λ (r : Option TheRegistration). given r None λ z. if may_offer o k z then Some (let w : OfferedService = record {
          dispatcher = z.service.dispatcher;
          interface = z.service.interface;
        } in w) else None) (agree.found service.0 y q)) ∙ e),
  )

makes_server : (asked : Option Service) (programs : List Program) (offer : Option OfferedService) (l : LinkId) (n stations : ℕ) (d : DispatcherId) (c : Circuit) (a : CoreCut) (s t : TheRun TheSide)
    → Fits asked offer → map (λ (p : Program). planned_of p) programs ≡ a.plans → ShowsCut a s → map (λ (y : TheEndAtChannel). y.kind) s.core.board.seats ≡ map (λ (q : WiredEnd). kind_of q.wiring) s.core.wired_ends → IsBoard s.core.board → 1 ≤ stations
    → NodeMakes (offering programs offer l) n d.place c s.core t.core → t ≡ record s { core = t.core } → Made asked stations n d c.0 l a t
makes_server asked programs offer l n stations d c a s t fits lent_plans h kinds sound some make rest =
    let (e_is, (w, w_is, few, board_is)) = make.adds in
    let copy = make.program_is in
    let (y_asked, y_is, y_interface) = fits copy.offered copy.offered_is in
    let number : ℕ = s.core.monitor.circuits.core in
    let waits = there (ShowsWaits s.core.wired_ends) a.core.dispatchers s.core.board.dispatchers d.place w h.waits w_is in
    let many = place_left waits.0 w s.core.wired_ends waits.2 in
    let queues : length a.arrivals ≡ length s.core.arrivals = h.arrivals.count in
    let p : WiredEnd = circuit_wired_end (server_of n) l (length s.core.arrivals) in
    let x : EndCut = new_end (circuit_wired_end (server_of n) l (length a.arrivals)) (planned_of make.program) stations (next_seat a.core.circuits.core d.place waits.0) in
    let y : EndCut = bound_to c.0 x in
    let new_seat : TheEndAtChannel = record { end = fresh make.program (Some c.0); dispatcher = d.place; channel = length w.ends; kind = kind.Queue } in
    let sits : ShowsSeat s.core.monitor.circuits.core y new_seat = record {
      shows = server_shows (circuit_wired_end (server_of n) l (length a.arrivals)) make.program stations c.0 (next_seat a.core.circuits.core d.place waits.0) some;
      seat = ap (λ (k : ℕ). Some (let z : Seat = record { dispatcher = record { core = k; place = d.place }; channel = length waits.0.ends } in z))
          (ap (λ (z : TheCircuits). z.core) (sym h.monitor.circuits))
          ∙ ap (λ (k : ℕ). Some (let z : Seat = record { dispatcher = record { core = s.core.monitor.circuits.core; place = d.place }; channel = k } in z)) many;
    } in
    let made : CoreCut = with_new_end d.place waits.0 y a in
    let before = added_shows a s d.place w waits.0 make.program stations make.end p y (fresh make.program (Some c.0)) made.core s.core.monitor h kinds w_is waits.1 waits.2 e_is
    sits (ap (λ (k : ℕ). circuit_wired_end (server_of n) l k) queues) (record { circuits = h.monitor.circuits; outboxes = h.monitor.outboxes }) refl refl (λ k less used. used) (λ k less used. new_own (length s.core.arrivals) k less used) in
    let same_board : make.added ≡ board_with_end s.core.board d.place w (fresh make.program (Some c.0)) kind.Queue = board_is in
    let r = make.joins.0 in
    let ch : ChangesLists (board_with_end s.core.board d.place w (fresh make.program (Some c.0)) kind.Queue) make.end
    (λ z v u. Registers QueueTakes z (lent v node_arrivals) r (lent u node_arrivals)) t.core.board
    = subst (λ (b : TheBoard). ChangesLists b make.end (λ z v u. Registers QueueTakes z (lent v node_arrivals) r (lent u node_arrivals)) t.core.board) same_board make.joins.1 in
    let its_seat : ch.seat ≡ new_seat
    = same_Some ch.seat new_seat (sym ch.seat_is ∙ ap (slice_get (s.core.board.seats ++ new_seat ∷ [])) e_is ∙ last_there s.core.board.seats new_seat) in
    let its_lists : ch.dispatcher.lists ≡ w.lists
    = ap (λ (z : TheDispatcher). z.lists) (same_Some ch.dispatcher (record { lists = w.lists; ends = w.ends ++ length s.core.board.seats ∷ [] })
    (sym ch.dispatcher_is
    ∙ ap (λ (z : TheEndAtChannel). slice_get (slice_set s.core.board.dispatchers d.place (record { lists = w.lists; ends = w.ends ++ length s.core.board.seats ∷ [] })) z.dispatcher) its_seat
    ∙ set_here s.core.board.dispatchers d.place w (record { lists = w.lists; ends = w.ends ++ length s.core.board.seats ∷ [] }) w_is)) in
    let last : slice_get (a.ends ++ y ∷ []) make.end ≡ Some y
    = ap (slice_get (a.ends ++ y ∷ [])) (e_is ∙ sym (same_length (ShowsSeat s.core.monitor.circuits.core) a.ends s.core.board.seats h.ends)) ∙ last_there a.ends y in
    let joined = registers_shown s.core.monitor.circuits.core (s.core.wired_ends ++ p ∷ []) made.core.dispatchers (a.ends ++ y ∷ [])
    (board_with_end s.core.board d.place w (fresh make.program (Some c.0)) kind.Queue) t.core.board make.end new_arrivals node_arrivals r ch before.waits before.ends
    (record { frags = refl; labels = refl; capacity = refl; freed = refl; unacknowledged = refl; sent = refl })
    (ap (λ (z : TheEndAtChannel). z.kind) its_seat) (subst (λ (z : TheEndAtChannel). IsSome z.end.circuit) (sym its_seat) refl) (ap (λ (z : TheEndAtChannel). z.end.failed) its_seat)
    (λ listed. new_free s.core.board d.place w sound w_is
    (ap (λ (z : ThreeLists). is_registered z (length w.ends)) (sym its_lists) ∙ ap (λ (z : TheEndAtChannel). is_registered ch.dispatcher.lists z.channel) (sym its_seat) ∙ listed))
    y last in
    let between : TheRun TheSide = added_run s (board_with_end s.core.board d.place w (fresh make.program (Some c.0)) kind.Queue) s.core.monitor p make.end in
    let next : CoreCut = with_waits made (registers_seat x.end.seat new_arrivals made.core.dispatchers) in
    let run : t ≡ built between t.core.board s.rings s.queues s.progresses = rest ∙ ap (λ (k : TheCore). record s { core = k }) make.rest in
    record {
      after = next;
      makes = record {
        service = y_asked;
        service_is = y_is;
        planned = planned_of make.program;
        planned_is = copied programs a.plans y_asked.interface make.program copy.source lent_plans (ap (slice_get programs) y_interface ∙ copy.source_is) copy.same;
        waits = waits.0;
        waits_is = waits.1;
        end = x;
        end_is = refl;
        made = made;
        made_is = refl;
        rest = refl;
      };
      shows = subst (ShowsCut next) (sym run)
          (shown_by made between before (registers_seat x.end.seat new_arrivals made.core.dispatchers) (a.ends ++ y ∷ []) a.sides a.queues t.core.board s.rings s.queues s.progresses
          joined.waits_show joined.ends_show refl h.sides before.queues);
    }

-- ---- an end is bound

-- what isn't ready isn't registered
unready_free : (b : TheBoard) (e : ℕ) (seat : TheEndAtChannel) (d : TheDispatcher) → IsBoard b → slice_get b.seats e ≡ Some seat → slice_get b.dispatchers seat.dispatcher ≡ Some d
    → seat.end.circuit ≡ None → is_registered d.lists seat.channel ≡ true → ⊥
unready_free b e seat d sound at there_ unbound h =
    let is = sound.dispatchers seat.dispatcher d there_ in
    let listed = in_some d.lists seat.channel h in
    let turn = is.registered listed.0 seat.channel listed.1 in
    let sits = sound.seats e seat at in
    let same_dispatcher : d ≡ sits.dispatcher = same_Some d sits.dispatcher (sym there_ ∙ sits.dispatcher_is) in
    let back : slice_get d.ends seat.channel ≡ Some e = ap (λ (z : TheDispatcher). slice_get z.ends seat.channel) same_dispatcher ∙ sits.leads_back in
    let same_place : turn.place ≡ e = same_Some turn.place e (sym turn.place_is ∙ back) in
    let same_seat : turn.seat ≡ seat = same_Some turn.seat seat (sym turn.seat_is ∙ ap (slice_get b.seats) same_place ∙ at) in
    let some : IsSome turn.seat.end.circuit = turn.ready.0 in
    let none : turn.seat.end.circuit ≡ None = ap (λ (z : TheEndAtChannel). z.end.circuit) same_seat ∙ unbound in
    false≢true (subst (λ (o : Option ℕ). Rattle.std.specs.Prelude.is_some o ≡ true) none some)

-- nothing was accepted, so nothing is to be sent, on whatever circuit
same_outgoing : (c : ℕ) (i : Planned) (d : Direction) → d.accepted ≡ [] → d.waiting ≡ [] → outgoing_of 0 i d ≡ outgoing_of c i d
same_outgoing c i d accepted waiting =
    ap (λ (cs : List TheCall). outgoing_of 0 i (record d { accepted = cs })) accepted
    ∙ ap (λ (cs : List TheCall). outgoing_of 0 i (record { accepted = []; waiting = cs; passed = d.passed })) waiting
    ∙ sym (ap (λ (cs : List TheCall). outgoing_of c i (record { accepted = []; waiting = cs; passed = d.passed })) waiting)
    ∙ sym (ap (λ (cs : List TheCall). outgoing_of c i (record d { accepted = cs })) accepted)

bound_shows : (x : EndCut) (s : TheEnd) (c : ℕ) → ShowsEnd x s → IsUnbound x → ShowsEnd (bound_to c x) (bound s c)
bound_shows x s c h none =
    let unbound : s.circuit ≡ None = h.circuit ∙ none.circuit in
    let zero_first : outgoing_of (circuit_of x.end) x.planned x.end.out ≡ outgoing_of 0 x.planned x.end.out
    = ap (λ (o : Option ℕ). outgoing_of (Rattle.fl_endpoint.specs.View.number_or_0 o) x.planned x.end.out) none.circuit in
    let becomes : bound s c ≡ record s { circuit = Some c } = ap (λ (o : Option ℕ). Rattle.fl_endpoint.specs.View.bound_by o c s) unbound in
    subst (ShowsEnd (bound_to c x)) (sym becomes) (record {
      program = h.program;
      circuit = refl;
      rules = h.rules;
      outgoing = h.outgoing ∙ zero_first ∙ same_outgoing c x.planned x.end.out none.accepted none.waiting;
      reads = h.reads;
      taken = h.taken;
      failed = h.failed;
      counted = h.counted;
      stations = h.stations;
      exits = h.exits;
    })

queue_by_number : (wiring : EndWiring) (number : ℕ) → arrivals_by wiring ≡ Some number → kind_of wiring ≡ kind.Queue
queue_by_number (Queues out from) number h = absurd (cc)
queue_by_number (OverRing side) number h = absurd (cc)
queue_by_number (ByCircuit link arrivals) number h = refl

-- the wired end of an end that is there
pub wired_end_of : (ends : List EndCut) (wired_ends : List WiredEnd) (e : ℕ) (x : EndCut) → map (λ (y : EndCut). y.wired_end) ends ≡ wired_ends → slice_get ends e ≡ Some x
    → slice_get wired_ends e ≡ Some x.wired_end
wired_end_of [] wired_ends e x h at = absurd (cc)
wired_end_of (y ∷ ends) [] e x h at = absurd (cc)
wired_end_of (y ∷ ends) (p ∷ wired_ends) zero x h at =
    let first : y.wired_end ≡ p = cc in
    let same : y ≡ x = cc in
    ap Some (sym first ∙ ap (λ (z : EndCut). z.wired_end) same)
wired_end_of (y ∷ ends) (p ∷ wired_ends) (suc e) x h at = let rest : map (λ (z : EndCut). z.wired_end) ends ≡ wired_ends = cc in wired_end_of ends wired_ends e x rest at

record Bound (name : EndId) (c : ℕ) (a : CoreCut) (t : TheRun TheSide) : Type 0 where
  pub after : CoreCut
  pub binds : BindsEnd name c a after
  pub shows : ShowsCut after t

binds_end : (name : EndId) (c : Circuit) (e number : ℕ) (a : CoreCut) (s t : TheRun TheSide) → ShowsCut a s
    → map (λ (y : TheEndAtChannel). y.kind) s.core.board.seats ≡ map (λ (q : WiredEnd). kind_of q.wiring) s.core.wired_ends
    → ((who : EndId) (f : ℕ) → place_of s.core who ≡ Some f → IsPlaced s.core.wired_ends who f) → IsBoard s.core.board → arriving_at s.core name ≡ Some (arriving e number)
    → ((at : EndAt a name) → arrivals_by at.end.wired_end.wiring ≡ Some number → IsUnbound at.end) → Binds (arriving e number) c s.core t.core → t ≡ record s { core = t.core } → Bound name c.0 a t
binds_end name c e number a s t h kinds placed sound at none b rest =
    let core : ℕ = s.core.monitor.circuits.core in
    let found_at = arrives_at s.core name e number at in
    let wired_end = wired_end_at s.core e number found_at.number in
    let seat : TheEndAtChannel = b.binds.seat in
    let end : TheEnd = b.binds.end in
    let x = seen_by a s name e seat h placed found_at.place b.binds.seat_is in
    let y : EndCut = bound_to c.0 x.end in
    let own = own_number a s e number x.end wired_end.0 h x.end_is wired_end.1 wired_end.2 in
    let unbound = none (end_at a core name e seat x) own in
    let was_none : seat.end.circuit ≡ None = x.shows.shows.circuit ∙ unbound.circuit in
    let shows : ShowsEnd y end = subst (ShowsEnd y) (sym b.binds.event) (bound_shows x.end seat.end c.0 x.shows.shows unbound) in
    let sits : ShowsSeat core y (seated seat end) = record { shows = shows; seat = x.shows.seat } in
    let ends : AllZip (ShowsSeat core) (slice_set a.ends e y) (slice_set s.core.board.seats e (seated seat end))
    = ends_shown a core name e seat s.core.board.seats x y end h.ends sits in
    let q = h.arrivals.each number b.queue (used_at s.core e number found_at.number) b.queue_is in
    let ch : ChangesLists (board_set s.core.board e seat end) e (λ z v u. Registers QueueTakes z (lent v b.queue) b.answer (lent u b.queue)) t.core.board
    = subst (λ (w : TheBoard). ChangesLists w e (λ z v u. Registers QueueTakes z (lent v b.queue) b.answer (lent u b.queue)) t.core.board) b.binds.board b.registers in
    let its_seat : ch.seat ≡ seated seat end
    = same_Some ch.seat (seated seat end) (sym ch.seat_is ∙ set_here s.core.board.seats e seat (seated seat end) b.binds.seat_is) in
    let its_dispatcher : slice_get s.core.board.dispatchers seat.dispatcher ≡ Some ch.dispatcher
    = ap (λ (z : TheEndAtChannel). slice_get s.core.board.dispatchers z.dispatcher) (sym its_seat) ∙ ch.dispatcher_is in
    let is_queue : seat.kind ≡ kind.Queue
    = kind_at s.core.board.seats s.core.wired_ends e seat wired_end.0 kinds b.binds.seat_is wired_end.1 ∙ queue_by_number wired_end.0.wiring number wired_end.2 in
    let joined = registers_shown core s.core.wired_ends a.core.dispatchers (slice_set a.ends e y) (board_set s.core.board e seat end) t.core.board e q.0 b.queue b.answer ch
    h.waits ends q.2 (ap (λ (z : TheEndAtChannel). z.kind) its_seat ∙ is_queue)
    (subst (λ (z : TheEndAtChannel). IsSome z.end.circuit) (sym its_seat) (subst (λ (o : Option ℕ). IsSome o) (sym shows.circuit) refl))
    (ap (λ (z : TheEndAtChannel). z.end.failed) its_seat ∙ shows.failed ∙ unbound.sound)
    (λ listed. unready_free s.core.board e seat ch.dispatcher sound b.binds.seat_is its_dispatcher was_none
    (ap (λ (z : TheEndAtChannel). is_registered ch.dispatcher.lists z.channel) (sym its_seat) ∙ listed))
    y (set_here a.ends e x.end y x.end_is) in
    let next : CoreCut = record (with_waits a (registers_seat x.end.end.seat q.0 a.core.dispatchers)) { ends = slice_set a.ends e y } in
    let run : t ≡ built s t.core.board s.rings s.queues s.progresses = rest ∙ ap (λ (k : TheCore). record s { core = k }) b.rest in
    record {
      after = next;
      binds = record {
        at = end_at a core name e seat x;
        number = number;
        number_is = own;
        queue = q.0;
        queue_is = q.1;
        rest = refl;
      };
      shows = subst (ShowsCut next) (sym run)
          (shown_by a s h (registers_seat x.end.end.seat q.0 a.core.dispatchers) (slice_set a.ends e y) a.sides a.queues t.core.board s.rings s.queues s.progresses
          joined.waits_show joined.ends_show (wired_ends_same a core name e seat x y refl) h.sides h.queues);
    }

-- ---- what follows

record Followed (asked : Option Service) (l : LinkId) (stations : ℕ) (w : MachineHeard) (told : MonitorAnswer) (a : CoreCut) (t : TheRun TheSide) : Type 0 where
  pub after : CoreCut
  pub follows : ThenFollows (record { service = asked; stations = stations; link = l }) w told a after
  pub shows : ShowsCut after t

pub same_core : (a : CoreCut) (s t : TheRun TheSide) → ShowsCut a s → t.core ≡ s.core → t ≡ record s { core = t.core } → ShowsCut a t
same_core a s t h core rest = let same : t ≡ s = rest ∙ ap (λ (k : TheCore). record s { core = k }) core in subst (ShowsCut a) (sym same) h

-- an end without an arrival queue
none_arrives : (a : CoreCut) (s : TheRun TheSide) (name : EndId) → ShowsCut a s → arriving_at s.core name ≡ None → (at : EndAt a name) → arrivals_by at.end.wired_end.wiring ≡ None
none_arrives a s name h none at =
    let place : place_of s.core name ≡ Some at.place = sym (ap (λ (places : List (Option ℕ)). place_in places name) h.places) ∙ at.place_is in
    let wired_end : slice_get s.core.wired_ends at.place ≡ Some at.end.wired_end = wired_end_of a.ends s.core.wired_ends at.place at.end h.wired_ends at.end_is in
    by (arrivals_by at.end.wired_end.wiring) refl
    (sym (ap (λ (o : Option ℕ). given o None λ (f : ℕ). given (given (slice_get s.core.wired_ends f) None λ (p : WiredEnd). arrivals_by p.wiring) None λ (b : ℕ). Some (arriving f b))
    place ∙ ap (λ (o : Option WiredEnd). given (given o None λ (p : WiredEnd). arrivals_by p.wiring) None λ (b : ℕ). Some (arriving at.place b)) wired_end) ∙ none)
  where
    by : (o : Option ℕ) → arrivals_by at.end.wired_end.wiring ≡ o → (given (arrivals_by at.end.wired_end.wiring) None λ (b : ℕ). Some (arriving at.place b)) ≡ None
        → arrivals_by at.end.wired_end.wiring ≡ None
    by None p q = p
    by (Some b) p q =
        let clash : Some (arriving at.place b) ≡ None = sym (ap (λ (o : Option ℕ). given o None λ (d : ℕ). Some (arriving at.place d)) p) ∙ q in absurd (cc)

record BoundIf (name : EndId) (c : ℕ) (a : CoreCut) (t : TheRun TheSide) : Type 0 where
  pub after : CoreCut
  pub binds : BindsIf name c a after
  pub shows : ShowsCut after t

binds_if : (name : EndId) (c : Circuit) (o : Option ArrivalPlace) (a : CoreCut) (s t : TheRun TheSide) → ShowsCut a s
    → map (λ (y : TheEndAtChannel). y.kind) s.core.board.seats ≡ map (λ (q : WiredEnd). kind_of q.wiring) s.core.wired_ends
    → ((who : EndId) (f : ℕ) → place_of s.core who ≡ Some f → IsPlaced s.core.wired_ends who f) → IsBoard s.core.board → arriving_at s.core name ≡ o
    → ((number : ℕ) (at : EndAt a name) → arrivals_by at.end.wired_end.wiring ≡ Some number → IsUnbound at.end) → NodeBindsIf o c s.core t.core → t ≡ record s { core = t.core } → BoundIf name c.0 a t
binds_if name c None a s t h kinds placed sound at none b rest =
    record { after = a; binds = inr (none_arrives a s name h at, refl); shows = same_core a s t h b rest }
binds_if name c (Some x) a s t h kinds placed sound at none b rest =
    let one = binds_end name c x.end x.queue a s t h kinds placed sound at (none x.queue) b rest in
    record { after = one.after; binds = inl one.binds; shows = one.shows }

follows_on : (asked : Option Service) (programs : List Program) (offer : Option OfferedService) (l : LinkId) (stations : ℕ) (w : MachineHeard) (x : MessageOutcome) (told : MonitorAnswer) (a : CoreCut)
    (s t : TheRun TheSide) → Fits asked offer → map (λ (p : Program). planned_of p) programs ≡ a.plans → ShowsCut a s → map (λ (y : TheEndAtChannel). y.kind) s.core.board.seats ≡ map (λ (q : WiredEnd). kind_of q.wiring) s.core.wired_ends
    → ((who : EndId) (f : ℕ) → place_of s.core who ≡ Some f → IsPlaced s.core.wired_ends who f) → IsBoard s.core.board → 1 ≤ stations
    → ((e : EndId) (c number : ℕ) (at : EndAt a e) → w ≡ end_opened e c → arrivals_by at.end.wired_end.wiring ≡ Some number → IsUnbound at.end) → SameHeard w x → NodeFollows (offering programs offer l) x s.core told t.core
    → t ≡ record s { core = t.core } → Followed asked l stations w told a t
follows_on asked programs offer l stations no_outbox x told a s t fits lent_plans h kinds placed sound some free same f rest = absurd same
follows_on asked programs offer l stations misrouted x told a s t fits lent_plans h kinds placed sound some free same f rest = absurd same
follows_on asked programs offer l stations (opening_went_on u0 u1) (was.OpeningWentOn v0 v1 v2) told a s t fits lent_plans h kinds placed sound some free same f rest =
    record { after = a; follows = (f.0, refl); shows = same_core a s t h f.1 rest }
follows_on asked programs offer l stations (opening_went_on u0 u1) (was.ServerMade v0 v1 v2) told a s t fits lent_plans h kinds placed sound some free same f rest = absurd same
follows_on asked programs offer l stations (opening_went_on u0 u1) (was.OpeningFailed v0 v1) told a s t fits lent_plans h kinds placed sound some free same f rest = absurd same
follows_on asked programs offer l stations (opening_went_on u0 u1) (was.AnswerWentOn v0 v1 v2) told a s t fits lent_plans h kinds placed sound some free same f rest = absurd same
follows_on asked programs offer l stations (opening_went_on u0 u1) (was.EndOpened v0 v1) told a s t fits lent_plans h kinds placed sound some free same f rest = absurd same
follows_on asked programs offer l stations (opening_went_on u0 u1) (was.EndRefused v0 v1) told a s t fits lent_plans h kinds placed sound some free same f rest = absurd same
follows_on asked programs offer l stations (server_made u0 u1 u2) (was.OpeningWentOn v0 v1 v2) told a s t fits lent_plans h kinds placed sound some free same f rest = absurd same
follows_on asked programs offer l stations (server_made u0 u1 u2) (was.ServerMade v0 v1 v2) told a s t fits lent_plans h kinds placed sound some free same f rest =
    let (same_n, same_d, same_c) = same in
    let make : NodeMakes (offering programs offer l) u0 u1.place v2 s.core t.core = subst (λ (n : ℕ). NodeMakes (offering programs offer l) n u1.place v2 s.core t.core) same_n
    (subst (λ (d : ℕ). NodeMakes (offering programs offer l) v0 d v2 s.core t.core) same_d f.1) in
    let one = makes_server asked programs offer l u0 stations u1 v2 a s t fits lent_plans h kinds sound some make rest in
    let request : ReceivedRequest = record { service = asked; stations = stations; link = l } in
    record {
      after = one.after;
      follows = (f.0 ∙ ap (λ (n : ℕ). answer.Opened (server_of n)) same_n, subst (λ (c : ℕ). MakesServer request (record { binding = u0; dispatcher = u1; circuit = c }) a one.after) same_c one.makes);
      shows = one.shows;
    }
follows_on asked programs offer l stations (server_made u0 u1 u2) (was.OpeningFailed v0 v1) told a s t fits lent_plans h kinds placed sound some free same f rest = absurd same
follows_on asked programs offer l stations (server_made u0 u1 u2) (was.AnswerWentOn v0 v1 v2) told a s t fits lent_plans h kinds placed sound some free same f rest = absurd same
follows_on asked programs offer l stations (server_made u0 u1 u2) (was.EndOpened v0 v1) told a s t fits lent_plans h kinds placed sound some free same f rest = absurd same
follows_on asked programs offer l stations (server_made u0 u1 u2) (was.EndRefused v0 v1) told a s t fits lent_plans h kinds placed sound some free same f rest = absurd same
follows_on asked programs offer l stations (opening_failed u0 u1) (was.OpeningWentOn v0 v1 v2) told a s t fits lent_plans h kinds placed sound some free same f rest = absurd same
follows_on asked programs offer l stations (opening_failed u0 u1) (was.ServerMade v0 v1 v2) told a s t fits lent_plans h kinds placed sound some free same f rest = absurd same
follows_on asked programs offer l stations (opening_failed u0 u1) (was.OpeningFailed v0 v1) told a s t fits lent_plans h kinds placed sound some free same f rest =
    record { after = a; follows = (f.0, refl); shows = same_core a s t h f.1 rest }
follows_on asked programs offer l stations (opening_failed u0 u1) (was.AnswerWentOn v0 v1 v2) told a s t fits lent_plans h kinds placed sound some free same f rest = absurd same
follows_on asked programs offer l stations (opening_failed u0 u1) (was.EndOpened v0 v1) told a s t fits lent_plans h kinds placed sound some free same f rest = absurd same
follows_on asked programs offer l stations (opening_failed u0 u1) (was.EndRefused v0 v1) told a s t fits lent_plans h kinds placed sound some free same f rest = absurd same
follows_on asked programs offer l stations (answer_went_on u0) (was.OpeningWentOn v0 v1 v2) told a s t fits lent_plans h kinds placed sound some free same f rest = absurd same
follows_on asked programs offer l stations (answer_went_on u0) (was.ServerMade v0 v1 v2) told a s t fits lent_plans h kinds placed sound some free same f rest = absurd same
follows_on asked programs offer l stations (answer_went_on u0) (was.OpeningFailed v0 v1) told a s t fits lent_plans h kinds placed sound some free same f rest = absurd same
follows_on asked programs offer l stations (answer_went_on u0) (was.AnswerWentOn v0 v1 v2) told a s t fits lent_plans h kinds placed sound some free same f rest =
    record { after = a; follows = (f.0, refl); shows = same_core a s t h f.1 rest }
follows_on asked programs offer l stations (answer_went_on u0) (was.EndOpened v0 v1) told a s t fits lent_plans h kinds placed sound some free same f rest = absurd same
follows_on asked programs offer l stations (answer_went_on u0) (was.EndRefused v0 v1) told a s t fits lent_plans h kinds placed sound some free same f rest = absurd same
follows_on asked programs offer l stations (end_opened u0 u1) (was.OpeningWentOn v0 v1 v2) told a s t fits lent_plans h kinds placed sound some free same f rest = absurd same
follows_on asked programs offer l stations (end_opened u0 u1) (was.ServerMade v0 v1 v2) told a s t fits lent_plans h kinds placed sound some free same f rest = absurd same
follows_on asked programs offer l stations (end_opened u0 u1) (was.OpeningFailed v0 v1) told a s t fits lent_plans h kinds placed sound some free same f rest = absurd same
follows_on asked programs offer l stations (end_opened u0 u1) (was.AnswerWentOn v0 v1 v2) told a s t fits lent_plans h kinds placed sound some free same f rest = absurd same
follows_on asked programs offer l stations (end_opened u0 u1) (was.EndOpened v0 v1) told a s t fits lent_plans h kinds placed sound some free same f rest =
    let b : NodeBindsIf (arriving_at s.core u0) v1 s.core t.core = subst (λ (e : EndId). NodeBindsIf (arriving_at s.core e) v1 s.core t.core) same.0 f.1 in
    let one = binds_if u0 v1 (arriving_at s.core u0) a s t h kinds placed sound refl (λ number at own. free u0 u1 number at refl own) b rest in
    record {
      after = one.after;
      follows = (f.0 ∙ ap (λ (e : EndId). answer.Opened e) same.0, subst (λ (c : ℕ). BindsIf u0 c a one.after) same.1 one.binds);
      shows = one.shows;
    }
follows_on asked programs offer l stations (end_opened u0 u1) (was.EndRefused v0 v1) told a s t fits lent_plans h kinds placed sound some free same f rest = absurd same
follows_on asked programs offer l stations (end_refused u0 u1) (was.OpeningWentOn v0 v1 v2) told a s t fits lent_plans h kinds placed sound some free same f rest = absurd same
follows_on asked programs offer l stations (end_refused u0 u1) (was.ServerMade v0 v1 v2) told a s t fits lent_plans h kinds placed sound some free same f rest = absurd same
follows_on asked programs offer l stations (end_refused u0 u1) (was.OpeningFailed v0 v1) told a s t fits lent_plans h kinds placed sound some free same f rest = absurd same
follows_on asked programs offer l stations (end_refused u0 u1) (was.AnswerWentOn v0 v1 v2) told a s t fits lent_plans h kinds placed sound some free same f rest = absurd same
follows_on asked programs offer l stations (end_refused u0 u1) (was.EndOpened v0 v1) told a s t fits lent_plans h kinds placed sound some free same f rest = absurd same
follows_on asked programs offer l stations (end_refused u0 u1) (was.EndRefused v0 v1) told a s t fits lent_plans h kinds placed sound some free same f rest = record {
  after = a;
  follows = (f.0 ∙ ap (λ (e : EndId). answer.OpeningRefused e v1) same.0 ∙ ap (λ (r : ℕ). answer.OpeningRefused u0 r) same.1, refl);
  shows = same_core a s t h f.1 rest;
}

-- ---- a message is heard

pub record AllHeard (services : List Service) (n : ℕ) (l : LinkId) (frag : Frag) (told : MonitorAnswer) (a : CoreCut) (t : TheRun TheSide) : Type 0 where
  pub after : CoreCut
  pub hears : Hears services (record { side = n; link = l; frag = frag }) told a after
  pub shows : ShowsCut after t

pub hears_all : HearsAgree → (services : List Service) (a : CoreCut) (s m : TheRun TheSide) (n : ℕ) (l : LinkId) (frag : Frag) (msg : MonitorMessage) (told : MonitorAnswer)
    (before after : TheSide) → ShowsCut a s → IsSound s.core → NamesShow services s.offers.names → IsInOrder services l.0 a s msg → Says frag msg
    → slice_get s.rings n ≡ Some before → HearsAll s.offers l msg s.core told m.core → SharedTakes before (found (bare frag)) after
    → m ≡ record s { core = m.core; rings = slice_set s.rings n after } → AllHeard services n l frag told a m
hears_all law services a s m n l frag msg told before after h sound names order is before_is all takes rest =
    let v = there ShowsSide a.sides s.rings n before h.sides before_is in
    let one = takes_again (says (said_of msg)) v.0 before after (bare frag) v.2 takes in
    let known : Known = known_for s.offers s.core msg in
    let agree = law known (delivery services l.0 (said_of msg) a.core) s.core.monitor all.monitor (Ok all.heard) h.monitor names order.may
    (subst (λ (x : MonitorMessage). MonitorHears known l x s.core.monitor (Ok all.heard) all.monitor) (sym (message_same msg)) all.hears) in
    let keeps = hears_keeps services l.0 (said_of msg) a.core in
    let number : all.monitor.circuits.core ≡ s.core.monitor.circuits.core
    = ap (λ (c : TheCircuits). c.core) agree.1.circuits ∙ keeps.number ∙ sym (ap (λ (c : TheCircuits). c.core) h.monitor.circuits) in
    let sides : List SideCut = slice_set a.sides n one.0 in
    let middle : CoreCut = record a { core = (hearing services l.0 msg a).core; sides = slice_set a.sides n one.0 } in
    let base : TheRun TheSide = heard_run s all.monitor (slice_set s.rings n after) in
    let shown : ShowsCut middle base = heard_shows a s (slice_set a.sides n one.0) (hearing services l.0 msg a).core all.monitor (slice_set s.rings n after) h
    (set_both ShowsSide a.sides s.rings n one.0 after h.sides one.2) agree.1 keeps.waits number in
    let next = follows_on (asked_service services msg) s.offers.programs (offer_for s.offers s.core msg) l (route_length msg + 1) (hearing services l.0 msg a).heard all.heard told middle base m
    (offer_fits services s.offers s.core msg names) h.plans shown
    sound.core.kinds sound.core.placed sound.board (omega (arith)) (λ e c number at w own. order.unbound e c number (below at) w own) agree.0 all.follows rest in
    record {
      after = next.after;
      hears = record {
        message = msg;
        says_it = is;
        middle = middle;
        sides = record { before = v.0; before_is = v.1; after = one.0; event = one.1; rest = refl };
        middle_is = refl;
        follows = next.follows;
      };
      shows = next.shows;
    }
  where
    below : {e : EndId} {core : Core} {sides : List SideCut} → EndAt (record a { core = core; sides = sides }) e → EndAt a e
    below at = record { place = at.place; place_is = at.place_is; end = at.end; end_is = at.end_is; name_is = at.name_is }

-- nothing has changed, or what comes on the link has failed
pub still : (a : CoreCut) (s m : TheRun TheSide) (n : ℕ) (before after : TheSide) → ShowsCut a s → slice_get s.rings n ≡ Some before → after ≡ before
    → m ≡ record s { core = m.core; rings = slice_set s.rings n after } → m.core ≡ s.core → ShowsCut a m
still a s m n before after h at same rest core =
    let v = there ShowsSide a.sides s.rings n before h.sides at in
    subst (λ (sides : List SideCut). ShowsCut (record a { sides = sides }) m) (set_same a.sides n v.0 v.1)
    (side_shown a s m n v.0 after h (subst (ShowsSide v.0) (sym same) v.2) rest core)

fails_for_good : (a : CoreCut) (s m : TheRun TheSide) (n l : ℕ) (before after : TheSide) → ShowsCut a s → slice_get s.rings n ≡ Some before → after ≡ before
    → m ≡ record s { core = m.core; rings = slice_set s.rings n after } → m.core ≡ with_failed s.core l → ShowsCut (record a { link_sides = failed_at a.link_sides l }) m
fails_for_good a s m n l before after h at same rest core =
    let v = there ShowsSide a.sides s.rings n before h.sides at in
    subst (λ (sides : List SideCut). ShowsCut (record a { sides = sides; link_sides = failed_at a.link_sides l }) m) (set_same a.sides n v.0 v.1)
    (side_link_sides a s m n v.0 after (failed_at a.link_sides l) (failed_at s.core.link_sides l) h (subst (ShowsSide v.0) (sym same) v.2)
    (ap (λ (link_sides : List LinkSide). failed_at link_sides l) h.link_sides) (link_sides_run s m (failed_at s.core.link_sides l) (slice_set s.rings n after) rest core))

pub record HeardAs (services : List Service) (n : ℕ) (l : LinkId) (frag : Frag) (answer : Result MonitorAnswer LinkReceiveFault) (a : CoreCut)
    (t : TheRun TheSide) : Type 0 where
  pub after : CoreCut
  pub does : HearsOver services (record { side = n; link = l; frag = frag }) answer a after
  pub shows : ShowsCut after t

abbrev failing : LinkId → CoreCut → CoreCut
failing l a = record a { link_sides = failed_at a.link_sides l.0 }

pub hears_follow : HearsAgree → (services : List Service) (a : CoreCut) (s m t : TheRun TheSide) (n : ℕ) (l : LinkId) (frag : Frag) (told : MonitorAnswer)
    → ShowsCut a s → IsSound s.core → NamesShow services s.offers.names → ((x : MonitorMessage) → Says frag x → IsInOrder services l.0 a s x)
    → OnRing n s (λ k p k2 q. HearsFrag s.offers l frag k (Ok told) k2 × TakesHeard SharedTakes frag p (Ok told) q) m → t ≡ record m { progresses = t.progresses }
    → HeardAs services n l frag (Ok told) a t
hears_follow law services a s m t n l frag answer.Full h sound names order on progresses =
    let ((msg, is, both), same) = on.event in
    let known : Known = known_for s.offers s.core msg in
    let agree = law known (delivery services l.0 (said_of msg) a.core) s.core.monitor s.core.monitor (Err monitor.OutboxFull) h.monitor names (order msg is).may
    (subst (λ (x : MonitorMessage). MonitorHears known l x s.core.monitor (Err monitor.OutboxFull) s.core.monitor) (sym (message_same msg)) both.0) in
    record {
      after = a;
      does = (msg, is, agree.0, refl);
      shows = progresses_shown a m t (still a s m n on.before on.after h on.before_is same on.rest both.1) progresses;
    }
hears_follow law services a s m t n l frag answer.Done h sound names order on progresses =
    let ((msg, is, all), takes) = on.event in
    let one = hears_all law services a s m n l frag msg answer.Done on.before on.after h sound names (order msg is) is on.before_is all takes on.rest in
    record { after = one.after; does = one.hears; shows = progresses_shown one.after m t one.shows progresses }
hears_follow law services a s m t n l frag (answer.Opened e) h sound names order on progresses =
    let ((msg, is, all), takes) = on.event in
    let one = hears_all law services a s m n l frag msg (answer.Opened e) on.before on.after h sound names (order msg is) is on.before_is all takes on.rest in
    record { after = one.after; does = one.hears; shows = progresses_shown one.after m t one.shows progresses }
hears_follow law services a s m t n l frag (answer.OpeningRefused e reason) h sound names order on progresses =
    let ((msg, is, all), takes) = on.event in
    let one = hears_all law services a s m n l frag msg (answer.OpeningRefused e reason) on.before on.after h sound names (order msg is) is on.before_is all takes on.rest in
    record { after = one.after; does = one.hears; shows = progresses_shown one.after m t one.shows progresses }

-- one that isn't heard, whatever it says
pub fails_follow : (services : List Service) (a : CoreCut) (s m t : TheRun TheSide) (n : ℕ) (l : LinkId) (frag : Frag) (fault : LinkReceiveFault) → ShowsCut a s
    → OnRing n s (λ k p k2 q. HearsFrag s.offers l frag k (Err fault) k2 × TakesHeard SharedTakes frag p (Err fault) q) m → t ≡ record m { progresses = t.progresses }
    → HeardAs services n l frag (Err fault) a t
fails_follow services a s m t n l frag (link.Wire wiring.NotFirst) h on progresses =
    record { after = failing l a; does = refl; shows = progresses_shown (failing l a) m t (fails_for_good a s m n l.0 on.before on.after h on.before_is on.event.1 on.rest on.event.0.1) progresses }
fails_follow services a s m t n l frag (link.Wire wiring.FirstInside) h on progresses =
    record { after = failing l a; does = refl; shows = progresses_shown (failing l a) m t (fails_for_good a s m n l.0 on.before on.after h on.before_is on.event.1 on.rest on.event.0.1) progresses }
fails_follow services a s m t n l frag (link.Wire wiring.UnknownMessage) h on progresses =
    record { after = failing l a; does = refl; shows = progresses_shown (failing l a) m t (fails_for_good a s m n l.0 on.before on.after h on.before_is on.event.1 on.rest on.event.0.1) progresses }
fails_follow services a s m t n l frag (link.Wire wiring.NotZero) h on progresses =
    record { after = failing l a; does = refl; shows = progresses_shown (failing l a) m t (fails_for_good a s m n l.0 on.before on.after h on.before_is on.event.1 on.rest on.event.0.1) progresses }
fails_follow services a s m t n l frag (link.Wire wiring.OutOfType) h on progresses =
    record { after = failing l a; does = refl; shows = progresses_shown (failing l a) m t (fails_for_good a s m n l.0 on.before on.after h on.before_is on.event.1 on.rest on.event.0.1) progresses }
fails_follow services a s m t n l frag (link.Wire wiring.TooLong) h on progresses =
    record { after = failing l a; does = refl; shows = progresses_shown (failing l a) m t (fails_for_good a s m n l.0 on.before on.after h on.before_is on.event.1 on.rest on.event.0.1) progresses }
fails_follow services a s m t n l frag (link.Wire wiring.Memory) h on progresses = absurd on.event.0
fails_follow services a s m t n l frag link.Misrouted h on progresses =
    let ((msg, is, both), same) = on.event in
    record { after = failing l a; does = refl; shows = progresses_shown (failing l a) m t (fails_for_good a s m n l.0 on.before on.after h on.before_is same on.rest both.1) progresses }
fails_follow services a s m t n l frag link.Memory h on progresses =
    record { after = a; does = refl; shows = progresses_shown a m t (still a s m n on.before on.after h on.before_is on.event.1 on.rest on.event.0) progresses }
fails_follow services a s m t n l frag link.Failed h on progresses = let ((msg, is, none), same) = on.event in absurd none
fails_follow services a s m t n l frag link.Marked h on progresses = let ((msg, is, none), same) = on.event in absurd none
