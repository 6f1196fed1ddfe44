-- A circuit is asked for: the core's client's end is the machine's, and so is the opening.
use Rattle.std.proofs.Common.{◌≡◌, refl, sym, ◌∙◌, ap, subst, ℕ, zero, suc, ◌+◌, ◌≤◌, ◌<◌, true, List, [], ◌∷◌, ◌++◌, length, map, slice_get, slice_set, Option, Some, None, arith}
use Rattle.std.specs.Prelude.{Result, Ok, Err}
use Rattle.std.proofs.lemmas.List.{length-map, map_push}
use Rattle.std.specs.List.{AllZip}
use Rattle.fl_base.specs.declared.identity.CoreId.{CoreId}
use Rattle.fl_base.specs.declared.identity.EndId.{EndId}
use Rattle.fl_base.specs.declared.identity.Circuit.{Circuit}
use Rattle.fl_base.specs.Given.{given}
use Rattle.fl_base.specs.Numbered.{core_id}
use Rattle.fl_compile.specs.Programs.{TheProgram, program_of}
use Rattle.fl_compile.specs.declared.program.Program.{Program}
use Rattle.fl_hop.specs.Table.{TheCircuits}
use Rattle.fl_hop.specs.Numbers.{next_own}
use Rattle.fl_endpoint.specs.View.{TheEnd, fresh}
use Rattle.fl_core.specs.declared.board_fault.BoardFault.TheVariants as board
use Rattle.fl_core.specs.BoardView.{TheDispatcher, TheEndAtChannel, TheBoard}
use Rattle.fl_core.specs.BoardView.{with_new_end as board_with_end}
use Rattle.fl_core.specs.declared.kind.ChannelKind.TheVariants as kind
use Rattle.fl_monitor.specs.declared.fault.MonitorFault.{MonitorFault}
use Rattle.fl_monitor.specs.declared.fault.MonitorFault.TheVariants as monitor
use Rattle.fl_monitor.specs.declared.opening.Opening.{Opening as Asked}
use Rattle.fl_monitor.specs.Monitors.{TheMonitor, Opens}
use Rattle.fl_monitor.specs.Monitors.{RefusesOpening}
use Rattle.fl_core.specs.declared.fault.OpenFault.{OpenFault}
use Rattle.fl_core.specs.declared.fault.OpenFault.TheVariants as opening
use Rattle.fl_core.specs.declared.wiring.WiredEnd.{WiredEnd}
use Rattle.fl_core.specs.View.{TheCore, client_of, slot_of, circuit_wired_end, kind_of, new_arrivals as node_arrivals}
use Rattle.fl_core.specs.Making.{asked, Asks}
use Rattle.fl_core.specs.declared.core_job.OpenRequest.{OpenRequest}
use Rattle.fl_core_run.specs.Run.{TheRun}
use Rattle.fl_core_run.specs.LogEntries.{opened, OnCore, AsksFor, IsSound}
use Rattle.fl_ring.specs.SharedSides.{TheSide}
use Rattle.fl_model.specs.Calls.{Planned}
use Rattle.fl_model.specs.Ends.{Seat, fresh_direction}
use Rattle.fl_model.specs.Waits.{Dispatcher, has_places, with_end}
use Rattle.fl_model.specs.Monitors.{Core, can_say, opens}
use Rattle.fl_world_refines.specs.Cores.{MonitorShows}
use Rattle.fl_world_refines.specs.CoreLaws.{asked_of, RoomsAgree, OpensAgree}
use Rattle.fl_world_refines.specs.Ends.{planned_of}
use Rattle.fl_world_refines.proofs.EndCalling.{fresh_is}
use Rattle.fl_world_refines.proofs.Tests.{le_true, le_false}
use Rattle.fl_core_refines.specs.CutEnds.{EndCut, ShowsEnd}
use Rattle.fl_core_refines.specs.Cut.{CoreCut, name_at, UsesQueue, UsesArrivals, ShowsWaits, ShowsSeat, ShowsCut}
use Rattle.fl_core_refines.specs.CutOpening.{new_arrivals, new_end, next_seat, with_new_end, opening_with, RefusesFor}
use Rattle.fl_core_refines.specs.CutLaws.{HasNoLinks}
use Rattle.fl_core_refines.proofs.Lists.{there, set_both, push_used, more_wired_ends}
use Rattle.fl_core_refines.proofs.Events.{After}
use Rattle.fl_core_refines.proofs.Links.{progresses_shown}
use Rattle.fl_core_refines.proofs.Starting.{nothing_read}

-- ---- lists with one more

pub push_both : {A B : Type 0} (R : A → B → Type 0) (xs : List A) (ys : List B) (x : A) (y : B) → AllZip R xs ys → R x y → AllZip R (xs ++ x ∷ []) (ys ++ y ∷ [])
push_both R [] [] x y h r = (r, tt)
push_both R [] (z ∷ ys) x y h r = absurd h
push_both R (w ∷ xs) [] x y h r = absurd h
push_both R (w ∷ xs) (z ∷ ys) x y h r = (h.0, push_both R xs ys x y h.1 r)

-- of large records cc does not end, of any type it does
same_some : {X : Type 0} (x y : X) → Some x ≡ Some y → x ≡ y
same_some x y e = cc

-- of a copy of a program that is lent
pub copied : (programs : List Program) (plans : List Planned) (n : ℕ) (p source : Program) → map (λ (q : Program). planned_of q) programs ≡ plans
    → slice_get programs n ≡ Some source → program_of p ≡ program_of source → slice_get plans n ≡ Some (planned_of p)
copied programs plans n p source h at same =
    ap (λ (is : List Planned). slice_get is n) (sym h) ∙ lent_at programs n at
    ∙ ap (λ (q : TheProgram). Some (let i : Planned = record { interface = q.interface; plan = q.plan } in i)) (sym same)
  where
    lent_at : (ps : List Program) (m : ℕ) → slice_get ps m ≡ Some source → slice_get (map (λ (q : Program). planned_of q) ps) m ≡ Some (planned_of source)
    lent_at [] m q = absurd (cc)
    lent_at (x ∷ ps) zero q = let first : x ≡ source = same_some x source q in ap (λ (z : Program). Some (planned_of z)) first
    lent_at (x ∷ ps) (suc m) q = lent_at ps m q

pub same_length : {A B : Type 0} (R : A → B → Type 0) (xs : List A) (ys : List B) → AllZip R xs ys → length xs ≡ length ys
same_length R [] [] h = refl
same_length R [] (z ∷ ys) h = absurd h
same_length R (w ∷ xs) [] h = absurd h
same_length R (w ∷ xs) (z ∷ ys) h = ap suc (same_length R xs ys h.1)

weaker : {A B : Type 0} (R S : A → B → Type 0) → ((x : A) (y : B) → R x y → S x y) → (xs : List A) (ys : List B) → AllZip R xs ys → AllZip S xs ys
weaker R S f [] [] h = tt
weaker R S f [] (z ∷ ys) h = absurd h
weaker R S f (w ∷ xs) [] h = absurd h
weaker R S f (w ∷ xs) (z ∷ ys) h = (f w z h.0, weaker R S f xs ys h.1)

there_still : {X : Type 0} (xs : List X) (n : ℕ) (x y : X) → slice_get xs n ≡ Some x → slice_get (xs ++ y ∷ []) n ≡ Some x
there_still [] n x y e = absurd (cc)
there_still (z ∷ xs) zero x y e = e
there_still (z ∷ xs) (suc n) x y e = there_still xs n x y e

pub last_there : {X : Type 0} (xs : List X) (y : X) → slice_get (xs ++ y ∷ []) (length xs) ≡ Some y
last_there [] y = refl
last_there (z ∷ xs) y = last_there xs y

-- a name that stands stays
name_still : (wired_ends : List WiredEnd) (p : WiredEnd) (e : ℕ) (name : EndId) → name_at wired_ends e ≡ Some name → name_at (wired_ends ++ p ∷ []) e ≡ Some name
name_still wired_ends p e name h = by (slice_get wired_ends e) refl h where
  by : (o : Option WiredEnd) → slice_get wired_ends e ≡ o → (given o None λ q. Some q.name) ≡ Some name → name_at (wired_ends ++ p ∷ []) e ≡ Some name
  by None q r = absurd (cc)
  by (Some x) q r = ap (λ (o : Option WiredEnd). given o None λ y. Some y.name) (there_still wired_ends e x p q) ∙ r

names_still : (wired_ends : List WiredEnd) (p : WiredEnd) (es : List ℕ) (names : List EndId) → map (name_at wired_ends) es ≡ map (λ e. Some e) names
    → map (name_at (wired_ends ++ p ∷ [])) es ≡ map (λ e. Some e) names
names_still wired_ends p [] [] h = refl
names_still wired_ends p [] (name ∷ names) h = absurd (cc)
names_still wired_ends p (e ∷ es) [] h = absurd (cc)
names_still wired_ends p (e ∷ es) (name ∷ names) h =
    let first : name_at wired_ends e ≡ Some name = cc in
    let rest : map (name_at wired_ends) es ≡ map (λ x. Some x) names = cc in
    ap (λ (o : Option EndId). o ∷ map (name_at (wired_ends ++ p ∷ [])) es) (name_still wired_ends p e name first)
    ∙ ap (λ (os : List (Option EndId)). Some name ∷ os) (names_still wired_ends p es names rest)

-- ---- the end that is made

zero_at : (n k : ℕ) → Rattle.std.specs.Prelude.slice_index (Rattle.std.specs.Prelude.replicate n 0) k ≡ 0
zero_at zero k = refl
zero_at (suc n) zero = refl
zero_at (suc n) (suc k) = zero_at n k

-- of a new end nothing is known
pub new_shows : (wired_end : WiredEnd) (program : Program) (stations : ℕ) (seat : Seat) → 1 ≤ stations
    → ShowsEnd (new_end wired_end (planned_of program) stations seat) (fresh program None)
new_shows wired_end program stations seat some =
    let i : Planned = planned_of program in
    let g = fresh_is program stations None (planned_of program) refl in
    let long = length_replicate stations in
    let written = zero_at stations 0 in
    let taken : Rattle.fl_model.specs.Ends.taken_of (fresh_direction stations) ≡ 0 = zero_at stations (Rattle.fl_model.specs.Ends.last_station (fresh_direction stations)) in
    record {
      program = refl;
      circuit = refl;
      rules = g.rules;
      outgoing = g.outgoing;
      reads = nothing_read (planned_of program);
      taken = taken;
      failed = refl;
      counted = record { before = omega arith; most = omega (arith, written) };
      stations = omega (arith, long, some);
      exits = omega (arith, long, some);
    }
  where
    length_replicate : (n : ℕ) → length {A = ℕ} (Rattle.std.specs.Prelude.replicate n 0) ≡ n
    length_replicate zero = refl
    length_replicate (suc n) = ap suc (length_replicate n)

-- ---- the core with an end more

abbrev pub added_run : TheRun TheSide → TheBoard → TheMonitor → WiredEnd → ℕ → TheRun TheSide
added_run s b m p e = record s {
  core = record s.core {
    board = b;
    monitor = m;
    wired_ends = s.core.wired_ends ++ p ∷ [];
    places = slice_set s.core.places (slot_of p.name) (Some e);
    arrivals = s.core.arrivals ++ node_arrivals ∷ [];
  };
}

-- a new arrival queue is no other's
pub new_own : (many n : ℕ) → n < many → Some many ≡ Some n → ⊥
new_own many n less e = let same : many ≡ n = cc in omega (arith, less, same)

-- it shows the cut with an end more
pub added_shows : (a : CoreCut) (s : TheRun TheSide) (place : ℕ) (d : TheDispatcher) (waits : Dispatcher) (program : Program) (stations e : ℕ) (p : WiredEnd) (x : EndCut)
    (t : TheEnd) (core : Core) (m : TheMonitor) → ShowsCut a s
    → map (λ (y : TheEndAtChannel). y.kind) s.core.board.seats ≡ map (λ (q : WiredEnd). kind_of q.wiring) s.core.wired_ends → slice_get s.core.board.dispatchers place ≡ Some d
    → slice_get a.core.dispatchers place ≡ Some waits → ShowsWaits s.core.wired_ends waits d → e ≡ length s.core.board.seats
    → ShowsSeat m.circuits.core x (record { end = t; dispatcher = place; channel = length d.ends; kind = kind.Queue }) → x.wired_end ≡ p
    → MonitorShows core m → core.dispatchers ≡ slice_set a.core.dispatchers place (with_end p.name waits) → m.circuits.core ≡ s.core.monitor.circuits.core
    → ((n : ℕ) → n < length s.queues → UsesQueue n p.wiring → ⊥) → ((n : ℕ) → n < length s.core.arrivals → UsesArrivals n p.wiring → ⊥)
    → ShowsCut (record (with_new_end place waits x a) { core = core }) (added_run s (board_with_end s.core.board place d t kind.Queue) m p e)
added_shows a s place d waits program stations e p x t core m h kinds d_is waits_is shows e_is sits wired_end monitor_shows cores number none own =
    let wired_ends : List WiredEnd = s.core.wired_ends ++ p ∷ [] in
    let long : length s.core.board.seats ≡ length s.core.wired_ends
    = sym (length-map s.core.board.seats (λ (y : TheEndAtChannel). y.kind)) ∙ ap length kinds ∙ length-map s.core.wired_ends (λ (q : WiredEnd). kind_of q.wiring) in
    let ends : length a.ends ≡ length s.core.board.seats = same_length (ShowsSeat s.core.monitor.circuits.core) a.ends s.core.board.seats h.ends in
    let last : name_at (s.core.wired_ends ++ p ∷ []) (length s.core.board.seats) ≡ Some p.name
    = ap (λ (n : ℕ). name_at (s.core.wired_ends ++ p ∷ []) n) long ∙ ap (λ (o : Option WiredEnd). given o None λ q. Some q.name) (last_there s.core.wired_ends p) in
    let more : ShowsWaits (s.core.wired_ends ++ p ∷ []) (with_end p.name waits) (record { lists = d.lists; ends = d.ends ++ length s.core.board.seats ∷ [] }) = record {
      lists = shows.lists;
      ends = map_push (name_at (s.core.wired_ends ++ p ∷ [])) d.ends (length s.core.board.seats)
          ∙ ap (λ (os : List (Option EndId)). os ++ name_at (s.core.wired_ends ++ p ∷ []) (length s.core.board.seats) ∷ []) (names_still s.core.wired_ends p d.ends waits.ends shows.ends)
          ∙ ap (λ (o : Option EndId). map (λ f. Some f) waits.ends ++ o ∷ []) last
          ∙ sym (map_push (λ (f : EndId). Some f) waits.ends p.name);
    } in
    let all = weaker (ShowsWaits s.core.wired_ends) (ShowsWaits (s.core.wired_ends ++ p ∷ []))
    (λ w f k. record { lists = k.lists; ends = names_still s.core.wired_ends p f.ends w.ends k.ends }) a.core.dispatchers s.core.board.dispatchers h.waits in
    record {
      plans = h.plans;
      monitor = monitor_shows;
      waits = subst (λ (ds : List Dispatcher). AllZip (ShowsWaits (s.core.wired_ends ++ p ∷ [])) ds
          (slice_set s.core.board.dispatchers place (record { lists = d.lists; ends = d.ends ++ length s.core.board.seats ∷ [] }))) (sym cores)
          (set_both (ShowsWaits (s.core.wired_ends ++ p ∷ [])) a.core.dispatchers s.core.board.dispatchers place (with_end p.name waits)
          (record { lists = d.lists; ends = d.ends ++ length s.core.board.seats ∷ [] }) all more);
      ends = push_both (ShowsSeat m.circuits.core) a.ends s.core.board.seats x _
          (subst (λ (n : ℕ). AllZip (ShowsSeat n) a.ends s.core.board.seats) (sym number) h.ends) sits;
      wired_ends = map_push (λ (y : EndCut). y.wired_end) a.ends x ∙ ap (λ (qs : List WiredEnd). qs ++ x.wired_end ∷ []) h.wired_ends ∙ ap (λ (q : WiredEnd). s.core.wired_ends ++ q ∷ []) wired_end;
      places = ap (λ (places : List (Option ℕ)). slice_set places (slot_of x.wired_end.name) (Some (length a.ends))) h.places
          ∙ ap (λ (q : WiredEnd). slice_set s.core.places (slot_of q.name) (Some (length a.ends))) wired_end
          ∙ ap (λ (n : ℕ). slice_set s.core.places (slot_of p.name) (Some n)) (ends ∙ sym e_is);
      link_sides = h.link_sides;
      sides = h.sides;
      queues = more_wired_ends UsesQueue s.core.wired_ends p a.queues s.queues none h.queues;
      arrivals = push_used UsesArrivals (s.core.wired_ends ++ p ∷ []) a.arrivals s.core.arrivals new_arrivals node_arrivals
          (more_wired_ends UsesArrivals s.core.wired_ends p a.arrivals s.core.arrivals own h.arrivals)
          (record { frags = refl; labels = refl; capacity = refl; freed = refl; unacknowledged = refl; sent = refl });
    }

-- ---- the opening

pub path_same : (path : List CoreId) → map core_id (map (λ (x : CoreId). x.0) path) ≡ path
path_same [] = refl
path_same (x ∷ path) = ap (λ (xs : List CoreId). x ∷ xs) (path_same path)

asked_same : (number : ℕ) (o : Asked) → asked_of (opening_with number o) ≡ o
asked_same number o = ap (λ (path : List CoreId). record o { path = path }) (path_same o.path)

-- the machine's core says it too
opens_so : OpensAgree → (request : OpenRequest) (k : Core) (before after : TheMonitor) (c : Circuit) → MonitorShows k before → Opens request.link request.opening before (Ok c) after
    → MonitorShows (opens request.link.0 c.0 (opening_with c.0 request.opening) k) after
opens_so law request k before after c h a =
    law request.link.0 (opening_with c.0 request.opening) k before after c h refl
    (subst (λ (o : Asked). Opens request.link o before (Ok c) after) (sym (asked_same c.0 request.opening)) a)

pub place_left : (waits : Dispatcher) (d : TheDispatcher) (wired_ends : List WiredEnd) → ShowsWaits wired_ends waits d → length waits.ends ≡ length d.ends
place_left waits d wired_ends h =
    sym (length-map waits.ends (λ (e : EndId). Some e)) ∙ ap length (sym h.ends) ∙ length-map d.ends (name_at wired_ends)

pub opens_follow : RoomsAgree → OpensAgree → (a : CoreCut) (s m t : TheRun TheSide) (name : EndId) (request : OpenRequest) (answer : Result ℕ OpenFault) → ShowsCut a s
    → IsSound s.core → OnCore s (λ k k2. AsksFor s.offers.programs request k answer k2) m → (HasNoLinks s.core → HasNoLinks t.core) → t ≡ record m { progresses = t.progresses }
    → After (opened name request answer) a s t
opens_follow rooms law a s m t name request (Ok e) h sound on links progresses =
    let begins = on.event.asks in
    let (e_is, (d, d_is, few, board_is)) = begins.adds in
    let number : ℕ = s.core.monitor.circuits.core in
    let w = there (ShowsWaits s.core.wired_ends) a.core.dispatchers s.core.board.dispatchers request.dispatcher d h.waits d_is in
    let many = place_left w.0 d s.core.wired_ends w.2 in
    let c = begins.circuit in
    let own : next_own a.core.circuits request.link.0 ≡ Some c.0
    = ap (λ (y : TheCircuits). next_own y request.link.0) (sym h.monitor.circuits) ∙ begins.opens.2 in
    let has_room : can_say request.link.0 a.core ≡ true = sym (rooms a.core s.core.monitor request.link.0 h.monitor) ∙ begins.opens.1 in
    let there_is : has_places 1 w.0 ≡ true = le_true (length w.0.ends + 1) 1024 (omega (arith, few, many)) in
    let queues : length a.arrivals ≡ length s.core.arrivals = h.arrivals.count in
    let ends : length a.ends ≡ length s.core.board.seats = same_length (ShowsSeat s.core.monitor.circuits.core) a.ends s.core.board.seats h.ends in
    let p : WiredEnd = circuit_wired_end (client_of request.opening.binding) request.link (length s.core.arrivals) in
    let q : WiredEnd = circuit_wired_end (client_of request.opening.binding) request.link (length a.arrivals) in
    let x : EndCut = new_end (circuit_wired_end (client_of request.opening.binding) request.link (length a.arrivals)) (planned_of on.event.program) (length request.opening.path + 1)
    (next_seat a.core.circuits.core request.dispatcher w.0) in
    let made : CoreCut = with_new_end request.dispatcher w.0 x a in
    let core : Core = opens request.link.0 c.0 (opening_with c.0 request.opening) made.core in
    let shown_monitor : MonitorShows core m.core.monitor = opens_so law request made.core s.core.monitor m.core.monitor c
    (record { circuits = h.monitor.circuits; outboxes = h.monitor.outboxes }) begins.opens in
    let same_core : m.core.monitor.circuits.core ≡ s.core.monitor.circuits.core = ap (λ (y : TheCircuits). y.core) begins.opens.3 in
    let sits : ShowsSeat m.core.monitor.circuits.core x (record { end = fresh on.event.program None; dispatcher = request.dispatcher; channel = length d.ends; kind = kind.Queue }) = record {
      shows = new_shows (circuit_wired_end (client_of request.opening.binding) request.link (length a.arrivals)) on.event.program (length request.opening.path + 1)
          (next_seat a.core.circuits.core request.dispatcher w.0) (omega arith);
      seat = ap (λ (n : ℕ). Some (let y : Seat = record { dispatcher = record { core = n; place = request.dispatcher }; channel = length w.0.ends } in y))
          (ap (λ (y : TheCircuits). y.core) (sym h.monitor.circuits) ∙ sym same_core)
          ∙ ap (λ (n : ℕ). Some (let y : Seat = record { dispatcher = record { core = m.core.monitor.circuits.core; place = request.dispatcher }; channel = n } in y)) many;
    } in
    let run : m ≡ added_run s (board_with_end s.core.board request.dispatcher d (fresh on.event.program None) kind.Queue) m.core.monitor p e
    = on.rest ∙ ap (λ (k : TheCore). record s { core = k }) begins.rest
    ∙ ap (λ (b : TheBoard). added_run s b m.core.monitor p e) board_is in
    let next : CoreCut = record made { core = core } in
    record {
      after = next;
      does = record {
        planned = planned_of on.event.program;
        planned_is = copied s.offers.programs a.plans request.interface on.event.program on.event.copy.source h.plans on.event.copy.source_is on.event.copy.same;
        waits = w.0;
        waits_is = w.1;
        place = there_is;
        number = c.0;
        number_is = own;
        room = has_room;
        end_is = e_is ∙ sym ends;
        opened = made;
        opened_is = refl;
        rest = refl;
      };
      shows = progresses_shown next m t
          (subst (ShowsCut next) (sym run)
          (added_shows a s request.dispatcher d w.0 on.event.program (length request.opening.path + 1) e p x (fresh on.event.program None) core m.core.monitor h sound.core.kinds d_is w.1 w.2 e_is
          sits (ap (λ (n : ℕ). circuit_wired_end (client_of request.opening.binding) request.link n) queues) shown_monitor refl same_core (λ k less used. used) (λ k less used. new_own (length s.core.arrivals) k less used))) progresses;
      links = links;
    }
opens_follow rooms law a s m t name request (Err fault) h sound on links progresses = record {
  after = a;
  does = (reason fault on.event.asks, refl);
  shows = progresses_shown a m t (subst (ShowsCut a) (sym (on.rest ∙ ap (λ (k : TheCore). record s { core = k }) (core_same fault on.event.asks))) h) progresses;
  links = links;
}
  where
    core_same : (f : OpenFault) → Asks (asked request.dispatcher on.event.program request.link request.opening) s.core (Err f) m.core → m.core ≡ s.core
    core_same (opening.Board f) x = x.1
    core_same (opening.Monitor f) x = x.2

    refused : (f : MonitorFault) → RefusesOpening s.core.monitor.circuits request.link.0 request.opening.binding f → RefusesOpening a.core.circuits request.link.0 request.opening.binding f
    refused f x = subst (λ (y : TheCircuits). RefusesOpening y request.link.0 request.opening.binding f) h.monitor.circuits x

    reason : (f : OpenFault) → Asks (asked request.dispatcher on.event.program request.link request.opening) s.core (Err f) m.core → RefusesFor request f a
    reason (opening.Board board.TooManyEnds) x =
        let (d, d_is, full) = x.0.0 in
        let w = there (ShowsWaits s.core.wired_ends) a.core.dispatchers s.core.board.dispatchers request.dispatcher d h.waits d_is in
        let many = place_left w.0 d s.core.wired_ends w.2 in
        (w.0, w.1, le_false (length w.0.ends + 1) 1024 (omega (arith, full, many)))
    reason (opening.Board board.NotBound) x = tt
    reason (opening.Board board.Registered) x = tt
    reason (opening.Board board.NotRegistered) x = tt
    reason (opening.Board board.Failed) x = tt
    reason (opening.Board board.Memory) x = tt
    reason (opening.Monitor monitor.OutboxFull) x = sym (rooms a.core s.core.monitor request.link.0 h.monitor) ∙ x.1.1
    reason (opening.Monitor monitor.Memory) x = tt
    reason (opening.Monitor monitor.NoRoute) x = refused monitor.NoRoute x.1.0
    reason (opening.Monitor monitor.Misrouted) x = refused monitor.Misrouted x.1.0
    reason (opening.Monitor monitor.UsedUp) x = refused monitor.UsedUp x.1.0
    reason (opening.Monitor monitor.Differs) x = refused monitor.Differs x.1.0
    reason (opening.Monitor monitor.PlansDiffer) x = refused monitor.PlansDiffer x.1.0
