-- A binding over a route: its client's end is there, and the opening waits.
use Rattle.std.proofs.Common.{◌≡◌, refl, sym, ◌∙◌, ap, subst, ℕ, zero, suc, ◌+◌, ◌-◌, ◌*◌, ◌/◌, ◌%◌, ◌<◌, ◌==◌, inl, inr, true, false, if◌then◌else◌, List, [], ◌∷◌, ◌++◌, length, slice_get, slice_set, slice_index, Option, Some, None, arith}
use Rattle.std.proofs.lemmas.Bool.{eqb-true}
use Rattle.std.proofs.lemmas.Bool.Decides.{nat_tests}
use Rattle.fl_base.specs.declared.identity.EndId.{EndId}
use Rattle.fl_base.specs.declared.identity.LinkId.{LinkId}
use Rattle.fl_base.specs.declared.identity.Side.{Side}
use Rattle.fl_base.specs.declared.identity.Side.TheVariants.{Client, Server}
use Rattle.fl_base.specs.Given.{given}
use Rattle.fl_hop.proofs.Lists.{set_here, push_keeps, push_cases, at_within}
use Rattle.fl_compile.specs.declared.program.Program.{Program}
use Rattle.fl_endpoint.specs.View.{fresh}
use Rattle.fl_core.specs.BoardView.{TheDispatcher, TheEndAtChannel, TheBoard, with_new_end}
use Rattle.fl_core.specs.declared.kind.ChannelKind.TheVariants.{Queue as QueueKind}
use Rattle.fl_core.specs.View.{TheCore, new_arrivals, side_of_link, with_wired_end, with_circuit_wired_end}
use Rattle.fl_core.specs.Making.{asked, Begins}
use Rattle.fl_core.specs.declared.wiring.EndWiring.{EndWiring}
use Rattle.fl_core.specs.declared.wiring.EndWiring.TheVariants.{Queues, Circuit}
use Rattle.fl_core.specs.declared.wiring.LinkSide.{LinkSide}
use Rattle.fl_core.specs.declared.wiring.WiredEnd.{WiredEnd}
use Rattle.fl_model.specs.Given.{changed_at}
use Rattle.fl_model.specs.Events.{DispatcherId}
use Rattle.fl_model.specs.Calls.{Planned}
use Rattle.fl_model.specs.Rings.{OpeningLabel, open_circuit, RingSide, first_side, second_side}
use Rattle.fl_model.specs.Ends.{Queue, Seat, End}
use Rattle.fl_model.specs.Waits.{Dispatcher, with_end}
use Rattle.fl_model.specs.Monitors.{Core, Link, Service, service_of, link_to, says_more, opens}
use Rattle.fl_model.specs.State.{over_route, undecided, Route, Binding, State, end_of, end_in, change_core, outlet_by, ring_side}
use Rattle.fl_model.specs.Making.{count_dispatchers}
use Rattle.fl_model.specs.Binding.{BindByNames, end_id, arrival_queue, with_circuit_begun}
use Rattle.fl_model.specs.Sound.{Sound}
use Rattle.fl_world_refines.specs.Fragments.{calls_off_links}
use Rattle.fl_world_refines.specs.Ends.{planned_of}
use Rattle.fl_world_refines.specs.Cores.{MonitorShows}
use Rattle.fl_world_refines.proofs.Hearing.{opens_agree}
use Rattle.fl_world_refines.proofs.Standing.{new_show}
use Rattle.fl_model_laws.proofs.LabelsForward.{link_is}
use Rattle.fl_model_laws.proofs.OpeningsMoves.{changed_twice}
use Rattle.fl_model_laws.proofs.PlacesStep.{two_lists, opening_counted, said_rings, ring_behind}
use Rattle.fl_model_laws.proofs.Ready.{get_last}
use Rattle.fl_model_laws.proofs.Replies.{length_changed}
use Rattle.fl_model_laws.proofs.Views.{map_kept}
use Rattle.fl_world_refines.specs.declared.binding.Binding.{Binding as TheBinding}
use Rattle.fl_world_refines.specs.View.{TheWorld, IsWhole, core_in, number_in, side_number, side_at, with_core}
use Rattle.fl_world_refines.specs.Binding.{BindingRequest, IsCopy, binding_for, opening_for}
use Rattle.fl_world_refines.specs.ShowsState.{link_side_of, CoreShows, TakesFrom, IsMade, SitsAt, IsUnmade, BindingShows, IsSilent, ShowsState}
use Rattle.fl_world_refines.proofs.MakingBase.{some_is, same_found, at_map}
use Rattle.fl_world_refines.proofs.MakingGrows.{CoresGrow, cores_same, cores_set, ring_between, ring_first}
use Rattle.fl_world_refines.proofs.MakingCores.{AllShow, all_of, core_there, shows_set, how_many, count_more}
use Rattle.fl_world_refines.proofs.MakingDispatchers.{same_rings}
use Rattle.fl_world_refines.proofs.JoiningCores.{seated, new_seat, core_shows_more, seats_more, machine_dispatcher, Longer, grows_of}
use Rattle.fl_world_refines.proofs.JoiningEnds.{is_even, made_at}
use Rattle.fl_world_refines.proofs.JoiningStages.{stage, at_dispatcher, sits_at, sat, new_end, binding_with, seats_stage}
use Rattle.fl_world_refines.proofs.JoiningShowings.{Joins, joined_shown, fresh_unbound, copied}
use Rattle.fl_world_refines.proofs.JoiningQueues.{request, wanted}
use Rattle.fl_world_refines.proofs.JoiningRoutes.{RouteParts, link_within}

-- ---- sides by their numbers

side_back : (r : ℕ) (side : RingSide) → side_at (2 * r + number_in side) ≡ record { ring = r; side = side }
side_back r first_side =
    let half : (2 * r + 0) / 2 ≡ r = omega arith in
    let even : ((2 * r + 0) % 2 == 0) ≡ true = grind (arith, nat_tests) in
    ap (λ n. record { ring = n; side = if (2 * r + 0) % 2 == 0 then first_side else second_side }) half ∙ ap (λ b. record { ring = r; side = if b then first_side else second_side }) even
side_back r second_side =
    let half : (2 * r + 1) / 2 ≡ r = omega arith in
    let odd : ((2 * r + 1) % 2 == 0) ≡ false = grind (arith, nat_tests) in
    ap (λ n. record { ring = n; side = if (2 * r + 1) % 2 == 0 then first_side else second_side }) half ∙ ap (λ b. record { ring = r; side = if b then first_side else second_side }) odd

get_index : (xs : List ℕ) (n : ℕ) → n < length xs → slice_get xs n ≡ Some (slice_index xs n)
get_index [] n h = absurd (omega arith)
get_index (x ∷ xs) zero h = refl
get_index (x ∷ xs) (suc n) h = get_index xs n (omega arith)

module _ (client : DispatcherId) (i : ℕ) (p : Program) (planned : Planned) (service : Service) (iref : ℕ) (cores : List ℕ) (w : TheWorld) (s : State)
    (sound : Sound s) (h : ShowsState w s) (interface_is : slice_get s.interfaces i ≡ Some planned) (program_is : planned_of p ≡ planned)
    (service_is : service_of s.services iref ≡ Some service) (offered : service.interface ≡ i)
    (parts : RouteParts cores client.core service.dispatcher.core (length s.cores)) (core after : TheCore) (core_is : slice_get w.cores client.core ≡ Some core)
    (whole : IsWhole core) (still : IsWhole after) (l : LinkId) (program kept : Program) (copy : IsCopy (request client i p service iref) program)
    (kept_copy : IsCopy (request client i p service iref) kept) (place : ℕ)
    (begins : Begins (asked client.place program l (opening_for (request client i p service iref) (length s.bindings) cores)) core place after)
    (first : link_to (slice_index cores 1) (core_there s.cores w.cores client.core core (all_of w s h.cores) core_is).0 ≡ Some l.0) where
  abbrev n : ℕ
  n = client.core

  abbrev pc : ℕ
  pc = client.place

  abbrev want : BindingRequest
  want = request client i p service iref

  abbrev m : BindByNames
  m = wanted client i planned service iref

  abbrev ec : EndId
  ec = end_id (length s.bindings) Client

  abbrev next : ℕ
  next = slice_index cores 1

  abbrev all : AllShow s.cores w.cores
  all = all_of w s h.cores

  abbrev k : Core
  k = (core_there s.cores w.cores n core all core_is).0

  kt : slice_get s.cores n ≡ Some k
  kt = (core_there s.cores w.cores n core all core_is).1

  k_shows : CoreShows k core
  k_shows = h.cores.each n k core kt core_is

  abbrev d : TheDispatcher
  d = begins.adds.1.0

  dt : slice_get core.board.dispatchers pc ≡ Some d
  dt = begins.adds.1.1

  pub found : (x : Dispatcher) × (slice_get k.dispatchers pc ≡ Some x) × (length x.ends ≡ length d.ends)
  found = machine_dispatcher k core pc d k_shows dt

  abbrev x : Dispatcher
  x = found.0

  abbrev wired_end : WiredEnd
  wired_end = record { name = ec; wiring = Circuit l (length core.arrivals) }

  abbrev board : TheBoard
  board = with_new_end core.board pc d (fresh program None) QueueKind

  abbrev made_core : TheCore
  made_core = record (with_circuit_wired_end core board (length core.board.seats) ec l) { monitor = after.monitor }

  now : after ≡ made_core
  now = begins.rest ∙ ap (λ b. record (with_circuit_wired_end core b place ec l) { monitor = after.monitor }) begins.adds.1.3
      ∙ ap (λ e. record (with_circuit_wired_end core board e ec l) { monitor = after.monitor }) begins.adds.0

  abbrev seat : TheEndAtChannel
  seat = new_seat (fresh program None) pc (length x.ends) QueueKind

  wired_ends_are : after.wired_ends ≡ core.wired_ends ++ wired_end ∷ []
  wired_ends_are = ap (λ (z : TheCore). z.wired_ends) now

  seats_are : after.board.seats ≡ core.board.seats ++ seat ∷ []
  seats_are = ap (λ (z : TheCore). z.board.seats) now
      ∙ seats_more k core pc (fresh program None) wired_end x d k_shows (is_even core whole.core) found.1 dt

  link_sides_are : after.link_sides ≡ core.link_sides
  link_sides_are = ap (λ (z : TheCore). z.link_sides) now

  arrivals_are : after.arrivals ≡ core.arrivals ++ new_arrivals ∷ []
  arrivals_are = ap (λ (z : TheCore). z.arrivals) now

  -- ---- the machine

  abbrev c : ℕ
  c = begins.circuit.0

  abbrev route : Route
  route = record { service = iref; cores = cores; numbers = c ∷ []; verdict = undecided }

  abbrev opening : OpeningLabel
  opening = record { circuit = c; binding = length s.bindings; service = iref; path = cores }

  abbrev queue : Option Queue
  queue = Some arrival_queue

  abbrev unbound : End
  unbound = new_end m (length cores + 1) queue

  abbrev b : Binding
  b = binding_with m (over_route route) (sat client x unbound) unbound

  abbrev opened_cores : List Core
  opened_cores = changed_at n (opens l.0 c opening) (at_dispatcher client (with_end ec) s.cores)

  abbrev state : State
  state = stage s opened_cores b

  pub reached : with_circuit_begun m cores (length s.bindings) l.0 c s ≡ state
  reached = ap (change_core n (opens l.0 c opening)) (seats_stage s s.cores (binding_with m (over_route route) unbound unbound) client Client x
      (ap (λ o. given o None (λ (z : Core). slice_get z.dispatchers pc)) kt ∙ found.1))

  abbrev change : Core → Core
  change z = opens l.0 c opening (seated pc ec z)

  cores_are : opened_cores ≡ changed_at n change s.cores
  cores_are = changed_twice (opens l.0 c opening) (seated pc ec) s.cores n

  -- ---- the core

  abbrev new_core : TheCore
  new_core = with_wired_end core board (length core.board.seats) wired_end

  more : CoreShows (seated pc ec k) new_core
  more = core_shows_more k core pc (fresh program None) wired_end x d k_shows (is_even core whole.core) found.1 dt

  monitor_shows : MonitorShows (change k) after.monitor
  monitor_shows = opens_agree l.0 opening (seated pc ec k) core.monitor after.monitor begins.circuit
      (record { circuits = more.monitor.circuits; outboxes = more.monitor.outboxes }) refl begins.opens

  core_opened : CoreShows (change k) made_core
  core_opened = record {
    monitor = record { circuits = monitor_shows.circuits; outboxes = monitor_shows.outboxes };
    link_sides = k_shows.link_sides ∙ sym (map_kept link_side_of (says_more (open_circuit opening)) k.links l.0 (λ z q. refl));
    count = more.count;
    dispatchers = λ e y f q r. (let was = more.dispatchers e y f q r in record { lists = was.lists; ends = was.ends });
  }

  core_shows : CoreShows (change k) after
  core_shows = subst (λ z. CoreShows (change k) z) (sym now) core_opened

  abbrev New : ℕ → EndId → EndWiring → Type 0
  New e f z = (e ≡ n) × (f ≡ ec) × (z ≡ Circuit l (length core.arrivals))

  longer : Longer (New n) core after
  longer = record {
    before = whole.core;
    after = still.core;
    wired_ends = λ e z q. ap (λ xs. slice_get xs e) wired_ends_are ∙ push_keeps core.wired_ends (wired_end ∷ []) e z q;
    seats = λ e z q. ap (λ xs. slice_get xs e) seats_are ∙ push_keeps core.board.seats (seat ∷ []) e z q;
    link_sides = link_sides_are;
    arrivals = λ e z q. ap (λ xs. slice_get xs e) arrivals_are ∙ push_keeps core.arrivals (new_arrivals ∷ []) e z q;
    back = λ e z q. elim (push_cases core.wired_ends wired_end e z (ap (λ xs. slice_get xs e) (sym wired_ends_are) ∙ q)) [
      | inl a ↦ inl a
      | inr a ↦ inr (refl, ap (λ (v : WiredEnd). v.name) a.1, ap (λ (v : WiredEnd). v.wiring) a.1)
    ];
  }

  -- ---- the world

  abbrev there : TheBinding
  there = binding_for want (Some (fresh kept None))

  abbrev world : TheWorld
  world = record (with_core w n after) { bindings = w.bindings ++ there ∷ [] }

  cores_grow : CoresGrow New w.cores (slice_set w.cores n after)
  cores_grow = cores_set New w.cores w.cores n core after (cores_same New w.cores) core_is core_is (grows_of (New n) core after longer)

  show : AllShow opened_cores (slice_set w.cores n after)
  show = subst (λ ks. AllShow ks (slice_set w.cores n after)) (sym cores_are) (shows_set s.cores w.cores n k change after all kt core_shows)

  count : count_dispatchers state ≡ count_dispatchers s
  count =
      let same : how_many (change k) ≡ how_many k = length_changed k.dispatchers pc (with_end ec) in
      let one = count_more s.cores n change k 0 kt (omega (arith, same)) in
      let two = ap (λ ks. count_dispatchers (record s { cores = ks })) cores_are in
      omega (arith, one, two)

  links : (e f : ℕ) → ring_between state e f ≡ ring_between s e f
  links e f = ap (λ ks. ring_between (record s { cores = ks }) e f) cores_are
      ∙ same_rings n change s e f (λ z q. two_lists _ _ _ _ (opening_counted z.circuits.links l.0) (said_rings (open_circuit opening) z.links l.0))

  -- ---- the client's end

  few_links : l.0 < length k.links
  few_links =
      let a = link_within k next l.0 first in
      let e = (sound.cores n k kt).links in
      omega (arith, a, e)

  abbrev link : Link
  link = (at_within k.links l.0 few_links).0

  link_there : slice_get k.links l.0 ≡ Some link
  link_there = (at_within k.links l.0 few_links).1

  ring_there : ring_between state n next ≡ Some link.ring
  ring_there = links n next ∙ ap ring_behind (link_is s n next k l.0 link kt first link_there)

  link_side_there : side_of_link after.link_sides l.0 ≡ Some (side_number link.ring)
  link_side_there = ap (λ (ls : List LinkSide). given (slice_get ls l.0) None (λ (z : LinkSide). Some z.side)) (link_sides_are ∙ k_shows.link_sides)
      ∙ ap (λ o. given o None (λ (z : LinkSide). Some z.side)) (at_map link_side_of k.links l.0 link link_there)

  long : 1 < length cores
  long = let a = parts.some in grind (arith, nat_tests, a)

  begins_here : slice_get cores 0 ≡ Some n
  begins_here = get_index cores 0 (omega (arith, long)) ∙ ap (λ e. Some e) (eqb-true (slice_index cores 0) n parts.first)

  outlet : outlet_by state Client (over_route route) ≡ Some (ring_side (side_at (side_number link.ring)))
  outlet = ring_first state cores n next link.ring begins_here (get_index cores 1 long) ring_there
      ∙ ap (λ e. Some (ring_side e)) (sym (side_back link.ring.ring link.ring.side))

  core_now : slice_get world.cores n ≡ Some after
  core_now = set_here w.cores n core after core_is

  wired_end_is : slice_get after.wired_ends (length core.wired_ends) ≡ Some wired_end
  wired_end_is = ap (λ xs. slice_get xs (length core.wired_ends)) wired_ends_are ∙ get_last core.wired_ends wired_end

  seat_is : slice_get after.board.seats (length core.wired_ends) ≡ Some seat
  seat_is = ap (slice_get after.board.seats) (sym (is_even core whole.core)) ∙ ap (λ xs. slice_get xs (length core.board.seats)) seats_are
      ∙ get_last core.board.seats seat

  takes : TakesFrom after.arrivals state b.client (length core.arrivals)
  takes = record {
    queue = arrival_queue;
    queue_is = refl;
    there = new_arrivals;
    there_is = ap (λ xs. slice_get xs (length core.arrivals)) arrivals_are ∙ get_last core.arrivals new_arrivals;
    shows = new_show.queue (calls_off_links state) 16;
  }

  client_made : IsMade world state ec b planned (sits_at client x)
  client_made =
      made_at world state ec b planned (sits_at client x) after (length core.wired_ends) seat wired_end still.core core_now seat_is refl refl
      (fresh_unbound program (length cores + 1) queue (Some (sits_at client x)) planned (copied program p copy ∙ program_is)) wired_end_is refl
      ((side_number link.ring, link_side_there, outlet), takes)

  made : (side : Side) (i2 : Planned) (at : Seat) → slice_get s.interfaces i ≡ Some i2 → (end_in side b).seat ≡ Some at
      → IsMade world state (end_id (length s.bindings) side) b i2 at
  made Client i2 at q r =
      subst (λ z. IsMade world state ec b z at) (same_found (slice_get s.interfaces i) planned i2 interface_is q)
      (subst (IsMade world state ec b planned) (some_is (sits_at client x) at r) client_made)
  made Server i2 at q r = absurd (cc)

  sits : (e : ℕ) (f : EndId) (z : EndWiring) → New e f z → SitsAt state f e
  sits e f z q =
      (b.client, (sits_at client x, (ap (λ v. end_of state v) q.1 ∙ ap (λ o. given o None (λ (v : Binding). Some v.client)) (get_last s.bindings b)), refl, sym q.0))

  no_queues : {X : Type 0} (e : ℕ) (f : EndId) (u v : ℕ) → New e f (Queues u v) → X
  no_queues e f u v q = absurd (let r = q.2 in cc)

  route_is : (other : Route) → over_route route ≡ over_route other → route ≡ other
  route_is other q = cc

  unmade : (i2 : Planned) → slice_get s.interfaces i ≡ Some i2 → IsUnmade i2 b there
  unmade i2 q = subst (λ z. IsUnmade z b there) (same_found (slice_get s.interfaces i) planned i2 interface_is q) (record {
    end = fresh kept None;
    end_is = refl;
    shows = fresh_unbound kept (length cores + 1) queue None planned (copied kept p kept_copy ∙ program_is);
    queue = refl;
  })

  shows : BindingShows state (length s.bindings) b there
  shows = record {
    interface = refl;
    seated = λ e at q r. by e.side at r;
    routed = λ other q. sym (eqb-true _ _ parts.last) ∙ ap (λ (z : Route). slice_index z.cores (length z.cores - 1)) (route_is other q);
    offered = λ other z q r. ap (λ (v : Service). v.interface) (sym (same_found (service_of s.services iref) service z service_is
        (ap (λ (v : Route). service_of s.services v.service) (route_is other q) ∙ r))) ∙ offered;
    unmade = λ i2 q r. unmade i2 q;
  }
    where
      by : (side : Side) (at : Seat) → (end_in side b).seat ≡ Some at → core_in side there ≡ at.dispatcher.core
      by Client at r = ap (λ (z : Seat). z.dispatcher.core) (some_is (sits_at client x) at r)
      by Server at r = absurd (cc)

  silent : (side : Side) → IsSilent (end_in side b).out
  silent Client = record { accepted = refl; waiting = refl }
  silent Server = record { accepted = refl; waiting = refl }

  joins : Joins New w world s state b there
  joins = record {
    may_set_cores = refl;
    may_set = refl;
    world_bindings = refl;
    bindings = refl;
    programs = refl;
    interfaces = refl;
    names = refl;
    services = refl;
    show = show;
    cores = cores_grow;
    world_count = refl;
    count = count;
    queues = λ e z q. q;
    links = links;
    rings_count = h.rings.count;
    rings = λ e r z q u. inl (q, u);
    joined = λ e q. absurd (cc);
    made = made;
    sits = sits;
    fresh = λ e f u v q. no_queues e f u v q;
    one = λ e f g o u v z q r. no_queues e g u z q;
    shows = shows;
    silent = silent;
  }

  pub circuit_shown : ShowsState world state
  circuit_shown = joined_shown New w world s state b there sound h joins
