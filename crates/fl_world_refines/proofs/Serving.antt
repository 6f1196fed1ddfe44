-- A server's end that an opening makes is bound and registered, with the rules that were set for it before, in the world as in the machine.
use Rattle.std.proofs.Common.{◌≡◌, inl, inr, refl, sym, ◌∙◌, ap, subst, ℕ, zero, suc, ◌<◌, nat_lt, Bool, false, if◌then◌else◌, List, [], map, drop, take, length, slice_get, slice_set, Option, Some, None, Result, Ok, arith}
use Rattle.std.proofs.lemmas.Option.{slice_get_within}
use Rattle.fl_base.specs.declared.fragment.Frag.{Frag}
use Rattle.fl_base.specs.declared.identity.EndId.{EndId}
use Rattle.fl_base.specs.declared.identity.LinkId.{LinkId}
use Rattle.fl_base.specs.declared.identity.Circuit.{Circuit as Number}
use Rattle.fl_base.specs.declared.identity.Side.TheVariants.{Client, Server}
use Rattle.fl_base.specs.Given.{given}
use Rattle.fl_base.specs.Numbered.{link_id}
use Rattle.fl_value_data.specs.Value.{TheCall}
use Rattle.fl_wire.specs.Payload.{frags_on}
use Rattle.fl_lists.specs.ThreeLists.{ThreeLists}
use Rattle.fl_waitset.specs.Waiting.{is_registered}
use Rattle.fl_compile.specs.declared.program.Program.{Program}
use Rattle.fl_link.specs.Queue.{QueueTakes}
use Rattle.fl_ring.specs.Duo.{TheDuo}
use Rattle.fl_endpoint.specs.View.{TheEnd, TheOutgoing, fresh, nothing_to_send}
use Rattle.fl_core.specs.BoardView.{TheDispatcher, TheEndAtChannel}
use Rattle.fl_core.specs.declared.kind.ChannelKind.TheVariants.{Queue as QueueKind}
use Rattle.fl_core.specs.declared.board_fault.BoardFault.{BoardFault}
use Rattle.fl_core.specs.BoardTurns.{over}
use Rattle.fl_hop.proofs.Lists.{set_here}
use Rattle.fl_monitor.specs.Monitors.{TheMonitor}
use Rattle.fl_core.specs.declared.answer.MonitorAnswer.TheVariants as told
use Rattle.fl_core.specs.Ends.{RegistersAt}
use Rattle.fl_core.specs.Hearing.{offer_for, IsCopyFor}
use Rattle.fl_core.specs.Sound.{IsCore}
use Rattle.fl_core.specs.View.{TheCore, new_arrivals, place_of, side_of_link, server_of, with_monitor}
use Rattle.fl_core.specs.declared.wiring.LinkSide.{LinkSide}
use Rattle.fl_model.specs.Events.{DispatcherId}
use Rattle.fl_model.specs.Calls.{Planned, total, last_count, whole_in, stream}
use Rattle.fl_model.specs.Rings.{OpeningLabel, MonitorLabel}
use Rattle.fl_model.specs.Ends.{Direction, Seat, End, written_of, taken_of}
use Rattle.fl_model.specs.Waits.{Dispatcher, with_end}
use Rattle.fl_model.specs.Monitors.{Core, Link, link_to, hears}
use Rattle.fl_model.specs.State.{over_route, Binding, State, core_of, dispatcher_of, binding_of, interface_of, with_end_in, in_route, outlet_by, ring_side, way_of}
use Rattle.fl_model.specs.State.{change_end, change_dispatcher, change_route, seats, binds_end, registers_end}
use Rattle.fl_model.specs.Binding.{end_id}
use Rattle.fl_model.specs.Forwarding.{grants}
use Rattle.fl_model_laws.proofs.ListingStep.{end_at as end_with}
use Rattle.fl_model_laws.proofs.Ready.{get_last}
use Rattle.fl_model_laws.proofs.Seating.{dispatcher_here}
use Rattle.fl_model_laws.proofs.TurnsTold.{interface_there}
use Rattle.fl_world_refines.specs.Ends.{planned_of, outgoing_of, parts_of, EndShows}
use Rattle.fl_world_refines.specs.Fragments.{message_of}
use Rattle.fl_world_refines.proofs.Tests.{lt_false}
use Rattle.fl_world_refines.specs.declared.binding.Binding.{Binding as TheBinding}
use Rattle.fl_world_refines.specs.View.{TheWorld, unmade, made, nowhere, location_at, location_of, with_core, with_ring, with_binding, keeping, side_number, side_at}
use Rattle.fl_world_refines.specs.ShowsState.{link_side_of, IsUnmade, BindingShows, IsSilent, ShowsState, Shows}
use Rattle.fl_world_refines.specs.Linking.{HasRules, TakesRules, BringsRules, ThenRules, offers_in}
use Rattle.fl_world_refines.specs.Hearing.{IsMessage}
use Rattle.fl_world_refines.proofs.Frames.{Stands, Awaits, UnmadeFrame, ListsFrame, CoreStays}
use Rattle.fl_world_refines.proofs.MakingBase.{map_at, at_map}
use Rattle.fl_world_refines.proofs.MakingGrows.{ring_between, ring_first}
use Rattle.fl_world_refines.proofs.JoiningCores.{new_seat, free_above, unregistered}
use Rattle.fl_world_refines.proofs.JoiningStages.{at_dispatcher, sits_at, sat}
use Rattle.fl_world_refines.proofs.PassingArrivals.{Arrival}
use Rattle.fl_world_refines.proofs.PassingCores.{hears_keeps}
use Rattle.fl_world_refines.proofs.PassingHeard.{HearFrames, with_heard, heard_state, same_numbers}
use Rattle.fl_world_refines.proofs.PassingHears.{ServersAreMade}
use Rattle.fl_world_refines.proofs.PassingKnows.{OpeningHere, opening_here}
use Rattle.fl_world_refines.proofs.PassingLinkSides.{LinkedTo, end_at, some_too, side_of_number}
use Rattle.fl_world_refines.proofs.PassingLists.{set_twice, changed_twice, get_set, get_changed, some_is, given_is}
use Rattle.fl_world_refines.proofs.PassingOpened.{bound_stays}
use Rattle.fl_world_refines.proofs.PassingOpens.{stands_of}
use Rattle.fl_world_refines.proofs.PassingRegisters.{registered}
use Rattle.fl_world_refines.proofs.PassingRings.{Showings}
use Rattle.fl_world_refines.proofs.ServingSeats.{Comes, core_with, closed, world, state, new_made, takes, here, came}
use Rattle.fl_world_refines.proofs.ServingHeard.{MakesEnd, makes_end, Serves, serves, program_is}
use Rattle.fl_world_refines.proofs.ServingBorn.{wider, born_board, born_core, JoinsNew, Born, born, joins_with, place_there, whole_with, whole_before, GetsRules, gets_rules, rules_first}

-- ---- a direction in which nothing was accepted

drop_none : (n : ℕ) → drop n [] ≡ (let none : List Frag = [] in none)
drop_none zero = refl
drop_none (suc n) = refl

take_none : (n : ℕ) → take n [] ≡ (let none : List Frag = [] in none)
take_none zero = refl
take_none (suc n) = refl

below_none : (n : ℕ) → nat_lt n 0 ≡ false
below_none n = lt_false n 0 (omega arith)

abbrev sends : ℕ → Planned → ℕ → List TheCall → List TheCall → TheOutgoing
sends circuit i n accepted waiting = record {
  unwritten = drop n (stream circuit i accepted);
  count = if nat_lt n (total i accepted) then last_count i accepted else 0;
  waiting = map (frags_on circuit i.plan i.interface) waiting;
}

nothing_sent : (circuit : ℕ) (i : Planned) (d : Direction) → IsSilent d → nothing_to_send ≡ outgoing_of circuit i d
nothing_sent circuit i d h =
    sym (ap (λ (cs : List TheCall). sends circuit i (written_of d) cs d.waiting) h.accepted
    ∙ ap (sends circuit i (written_of d) []) h.waiting
    ∙ ap (λ (fs : List Frag). record { unwritten = fs; count = if nat_lt (written_of d) 0 then last_count i [] else 0; waiting = [] }) (drop_none (written_of d))
    ∙ ap (λ (b : Bool). record { unwritten = []; count = if b then last_count i [] else 0; waiting = [] }) (below_none (written_of d)))

no_parts : (i : Planned) (d : Direction) → IsSilent d → [] ≡ parts_of i d
no_parts i d h =
    sym (ap (λ (cs : List TheCall). drop (total i (whole_in i cs (taken_of d))) (take (taken_of d) (stream 0 i cs))) h.accepted ∙ take_none (taken_of d))

-- ---- the end, from the opening on

module _ (frame : HearFrames) (frame_unmade : UnmadeFrame) (frame_lists : ListsFrame) (w : TheWorld) (s : State) (shows : Shows w s) (core neighbour l : ℕ) (link : Link)
    (t : LinkedTo w s core neighbour l link) (d2 : TheDuo) (after : TheMonitor) (whole : IsCore t.c) (j : Core) (keeps : CoreStays t.k j)
    (p0 : ShowsState (with_heard w core link.ring.ring d2 (with_monitor t.c after)) (heard_state s core link.ring.ring link.ring.side j))
    (n : ℕ) (d : DispatcherId) (o : OpeningLabel) (at : Serves s core neighbour n d t.k o) (c : Number) (program : Program)
    (copy : (i : Planned) → interface_of s at.binding ≡ Some i → planned_of program ≡ i) where
  abbrev e : EndId
  e = end_id n Server

  abbrev k0 : TheCore
  k0 = with_monitor t.c after

  abbrev w0 : TheWorld
  w0 = with_heard w core link.ring.ring d2 k0

  abbrev s0 : State
  s0 = heard_state s core link.ring.ring link.ring.side j

  abbrev s1 : State
  s1 = change_route n grants s0

  p1 : ShowsState w0 s1
  p1 = frame.route w0 s0 n grants p0 (same_numbers grants (λ r. refl) (λ r. refl) (λ r. refl))

  abbrev b1 : Binding
  b1 = record at.binding { back = in_route grants at.binding.back }

  b1_is : binding_of s1 e ≡ Some b1
  b1_is = get_changed s.bindings n (λ (b : Binding). record b { back = in_route grants b.back }) at.binding at.binding_is

  back1 : b1.back ≡ over_route (grants at.route)
  back1 = ap (in_route grants) at.back

  interface : (i : Planned) × (interface_of s at.binding ≡ Some i)
  interface = interface_there s shows.sound e at.binding at.binding_is

  abbrev i : Planned
  i = interface.0

  kept : (y : TheBinding) × (slice_get w.bindings n ≡ Some y)
  kept = some_too w.bindings s.bindings n at.binding shows.showing.bindings.count at.binding_is

  shown1 : BindingShows s1 n b1 kept.0
  shown1 = p1.bindings.each n b1 kept.0 b1_is kept.1

  waits : IsUnmade i b1 kept.0
  waits = shown1.unmade i interface.1 at.none.2

  abbrev awaits : Awaits w0 s1 e
  awaits = record {
    binding = b1;
    binding_is = b1_is;
    interface = i;
    interface_is = interface.1;
    server = refl;
    route = grants at.route;
    back = back1;
    seat = at.none.2;
    circuit = at.none.1;
    there = kept.0;
    there_is = kept.1;
    kept = waits;
  }

  -- ---- it is bound

  abbrev binds_to : End → End
  binds_to x = record x { circuit = Some c.0 }

  abbrev t0 : TheEnd
  t0 = fresh program (Some c.0)

  abbrev t2 : TheEnd
  t2 = record t0 { rules = waits.end.rules }

  shows2 : EndShows i (binds_to b1.server) b1.client.out t2
  shows2 = record {
    program = copy i interface.1;
    circuit = refl;
    rules = waits.shows.rules;
    outgoing = nothing_sent c.0 i b1.server.out (p1.bindings.silent e b1.server (end_with s1 e b1 b1_is) at.none.1);
    parts = no_parts i b1.client.out (p1.bindings.silent (end_id n Client) b1.client (end_with s1 (end_id n Client) b1 b1_is) at.none.0);
    failed = refl;
  }

  abbrev w1 : TheWorld
  w1 = with_binding w0 n (keeping kept.0 t2)

  abbrev s2 : State
  s2 = change_end e binds_to s1

  p2 : ShowsState w1 s2
  p2 = frame_unmade w0 s1 e awaits binds_to t2 p1 (bound_stays i b1.server c.0) shows2

  -- ---- it comes to its core

  abbrev lid : LinkId
  lid = link_id l

  -- the core's link, with which nothing happened
  now_link : (x : Link) × (slice_get j.links l ≡ Some x) × (link_side_of x ≡ link_side_of link)
  now_link = map_at link_side_of j.links l (link_side_of link) (ap (λ (ls : List LinkSide). slice_get ls l) keeps.link_sides ∙ at_map link_side_of t.k.links l link t.link_is)

  core_there : core_of s0 core ≡ Some j
  core_there = get_changed s.cores core (λ (k : Core). j) t.k t.k_is

  ring_there : ring_between s2 core neighbour ≡ Some now_link.0.ring
  ring_there =
      ap (λ (q : Option Core). given (given q None λ k. given (link_to neighbour k) None λ m. slice_get k.links m) None (λ (x : Link). Some x.ring)) core_there
      ∙ ap (λ (q : Option ℕ). given (given q None λ m. slice_get j.links m) None (λ (x : Link). Some x.ring)) (keeps.links neighbour ∙ t.to)
      ∙ ap (λ (q : Option Link). given q None (λ (x : Link). Some x.ring)) now_link.1

  outlet : outlet_by s2 Server b1.back ≡ Some (ring_side (side_at (side_number link.ring)))
  outlet =
      ap (outlet_by s2 Server) back1
      ∙ ring_first s2 (way_of Server at.route) core neighbour now_link.0.ring at.first at.second ring_there
      ∙ ap (λ x. Some (ring_side x)) (sym (side_of_number now_link.0.ring)) ∙ ap (λ (x : LinkSide). Some (ring_side (side_at x.side))) now_link.2

  link_side_there : side_of_link k0.link_sides l ≡ Some (side_number link.ring)
  link_side_there =
      ap (λ (ls : List LinkSide). given (slice_get ls l) None (λ (x : LinkSide). Some x.side)) t.shows.link_sides
      ∙ ap (λ (q : Option LinkSide). given q None (λ (x : LinkSide). Some x.side)) (at_map link_side_of t.k.links l link t.link_is)

  its_dispatcher : dispatcher_of s2 d ≡ Some at.dispatcher
  its_dispatcher =
      given_is (core_of s0 d.core) None (λ (k : Core). slice_get k.dispatchers d.place) j (ap (core_of s0) at.at_core ∙ core_there)
      ∙ ap (λ (xs : List Dispatcher). slice_get xs d.place) keeps.dispatchers ∙ at.there

  module _ (listed : TheDispatcher) (listed_is : slice_get k0.board.dispatchers d.place ≡ Some listed) (lists : ThreeLists) (answer : Result (Unit {0}) BoardFault)
      (joins : JoinsNew t0 d.place listed answer lists) (born_whole : IsCore (born_core k0 d.place listed t0 lists n lid)) where
    abbrev comes : Comes w1 s2 n d lid t2
    comes = record {
      binding = record b1 { server = binds_to b1.server };
      binding_is = get_changed s1.bindings n (with_end_in Server binds_to) b1 b1_is;
      route = grants at.route;
      back = back1;
      away = at.none.2;
      queue = waits.queue;
      interface = i;
      interface_is = interface.1;
      shows = shows2;
      kept = keeping kept.0 t2;
      kept_is = get_set w.bindings n kept.0 (keeping kept.0 t2) kept.1;
      server = shown1.routed (grants at.route) back1 ∙ at.last ∙ sym at.at_core;
      k = j;
      k_is = ap (core_of s0) at.at_core ∙ core_there;
      core = k0;
      core_is = ap (slice_get w0.cores) at.at_core ∙ get_set w.cores core t.c k0 t.c_is;
      whole = whole_before t.c after d.place listed t0 lists n lid whole born_whole;
      dispatcher = at.dispatcher;
      dispatcher_is = ap (λ (xs : List Dispatcher). slice_get xs d.place) keeps.dispatchers ∙ at.there;
      listed = listed;
      listed_is = listed_is;
      side = side_number link.ring;
      side_is = link_side_there;
      outlet = outlet;
    }

    made_whole : IsCore (core_with k0 d.place listed t2 n lid)
    made_whole = whole_with k0 d.place listed t0 t2 lists n lid born_whole

    abbrev w3 : TheWorld
    w3 = world w1 s2 n d lid t2 p2 comes made_whole

    abbrev s3 : State
    s3 = state w1 s2 n d lid t2 p2 comes made_whole

    p3 : ShowsState w3 s3
    p3 = came w1 s2 n d lid t2 p2 comes made_whole

    abbrev sits : Seat
    sits = sits_at d at.dispatcher

    abbrev b3 : Binding
    b3 = record b1 { server = record b1.server { seat = Some sits; circuit = Some c.0 } }

    b3_is : binding_of s3 e ≡ Some b3
    b3_is = here w1 s2 n d lid t2 p2 comes made_whole

    -- ---- its channel is registered

    abbrev stands : Stands w3 s3 e d.core (length k0.board.seats)
    stands = stands_of w3 s3 e b3 i sits b3_is interface.1 refl (new_made w1 s2 n d lid t2 p2 comes made_whole)

    abbrev arrival : Arrival w3 stands.core s3 e stands.binding stands.wired_end
    arrival = record { link = lid; place = length k0.arrivals; wiring = refl; takes = takes w1 s2 n d lid t2 p2 comes made_whole }

    free : (y : Dispatcher) → dispatcher_of s3 d ≡ Some y → is_registered y.lists (length at.dispatcher.ends) ≡ false
    free y there =
        let was : dispatcher_of s d ≡ Some at.dispatcher =
        given_is (core_of s d.core) None (λ (k : Core). slice_get k.dispatchers d.place) t.k (ap (core_of s) at.at_core ∙ t.k_is) ∙ at.there in
        let now : y ≡ with_end e at.dispatcher = some_is y (with_end e at.dispatcher) (sym there ∙ dispatcher_here d (with_end e) s2 at.dispatcher its_dispatcher) in
        subst (λ (z : Dispatcher). is_registered z.lists (length at.dispatcher.ends) ≡ false) (sym now)
        (unregistered (length at.dispatcher.ends) at.dispatcher.lists
        (free_above at.dispatcher (length at.dispatcher.ends) (shows.sound.waitsets d at.dispatcher was) (omega arith)))

    abbrev registers : RegistersAt QueueTakes (length k0.board.seats) (over (core_with k0 d.place listed t2 n lid).board new_arrivals) answer (over (born_board k0 d.place listed t2 lists) new_arrivals)
    registers = record {
      seat = new_seat t2 d.place (length listed.ends) QueueKind;
      seat_is = get_last k0.board.seats (new_seat t2 d.place (length listed.ends) QueueKind);
      dispatcher = wider k0 listed;
      dispatcher_is = set_here k0.board.dispatchers d.place listed (wider k0 listed) listed_is;
      lists = lists;
      event = joins_with t0 waits.end.rules d.place listed answer lists joins;
      board = refl;
    }

    abbrev last_core : TheCore
    last_core = born_core k0 d.place listed t2 lists n lid

    p4 : ShowsState (with_core w3 d.core last_core) (registers_end e s3)
    p4 =
        registered frame_lists w3 s3 e d.core (length k0.board.seats) stands p3 arrival made_whole.kinds refl free (born_board k0 d.place listed t2 lists) answer registers

    -- ---- in the machine it is bound after it has its seat

    state_is : registers_end e s3 ≡ binds_end e c.0 (seats d e s1)
    state_is =
        ap (λ (bs : List Binding). registers_end e (record s2 { cores = at_dispatcher d (with_end e) s2.cores; bindings = bs }))
        (changed_twice s1.bindings n (with_end_in Server (sat d at.dispatcher)) (with_end_in Server binds_to)
        ∙ sym (changed_twice s1.bindings n (with_end_in Server binds_to) (with_end_in Server (sat d at.dispatcher))))
        ∙ ap (λ z. binds_end e c.0 z)
        (sym (given_is (dispatcher_of s1 d) s1 (λ (y : Dispatcher). change_dispatcher d (with_end e) (change_end e (sat d y) s1)) at.dispatcher its_dispatcher))

    -- these cores and bindings, in the world whose core has taken the message
    abbrev taken_with : List TheCore → List TheBinding → TheWorld
    taken_with cores bindings = record w { rings = slice_set w.rings link.ring.ring d2; cores = cores; bindings = bindings }

    abbrev last_world : TheWorld
    last_world = taken_with (slice_set w.cores core last_core) (slice_set w.bindings n (closed kept.0))

    world_is : with_core w3 d.core last_core ≡ last_world
    world_is =
        let bindings : List TheBinding = slice_set (slice_set w.bindings n (keeping kept.0 t2)) n (closed kept.0) in
        let seated : TheCore = core_with k0 d.place listed t2 n lid in
        ap (λ (m : ℕ). taken_with (slice_set (slice_set (slice_set w.cores core k0) m seated) m last_core) bindings) at.at_core
        ∙ ap (λ (cs : List TheCore). taken_with cs bindings)
        (set_twice (slice_set w.cores core k0) core seated last_core ∙ set_twice w.cores core k0 last_core)
        ∙ ap (taken_with (slice_set w.cores core last_core)) (set_twice w.bindings n (keeping kept.0 t2) (closed kept.0))

    served : ShowsState last_world (binds_end e c.0 (seats d e s1))
    served = subst (λ z. ShowsState last_world z) state_is (subst (λ v. ShowsState v (registers_end e s3)) world_is p4)

  -- ---- with the rules that were kept for it

  few : n < 1024
  few = let a = slice_get_within s.bindings n at.binding at.binding_is in let b = shows.sound.few_bindings in omega (arith, a, b)

  module _ (listed : TheDispatcher) (listed_is : slice_get k0.board.dispatchers d.place ≡ Some listed) (lists : ThreeLists) (answer : Result (Unit {0}) BoardFault)
      (joins : JoinsNew t0 d.place listed answer lists) (v : TheWorld) where
    abbrev c2 : TheCore
    c2 = born_core k0 d.place listed t0 lists n lid

    abbrev w2 : TheWorld
    w2 = with_heard w core link.ring.ring d2 c2

    abbrev place : ℕ
    place = length k0.board.seats

    abbrev seat : TheEndAtChannel
    seat = new_seat t0 d.place (length listed.ends) QueueKind

    core_is : slice_get w2.cores core ≡ Some c2
    core_is = get_set w.cores core t.c c2 t.c_is

    seat_is : slice_get c2.board.seats place ≡ Some seat
    seat_is = get_last k0.board.seats seat

    location : location_of w2 (server_of n) ≡ made core place
    location =
        ap (λ (q : Option TheBinding). given q nowhere λ b. location_at w2.cores b.server (server_of n)) kept.1
        ∙ ap (λ (m : ℕ). location_at w2.cores m (server_of n)) (shown1.routed (grants at.route) back1 ∙ at.last)
        ∙ ap (λ (q : Option TheCore). given q unmade λ k. given (place_of k (server_of n)) unmade λ p. made core p) core_is
        ∙ ap (λ (q : Option ℕ). given q unmade λ p. made core p) (place_there k0 d.place listed t0 lists n lid whole.slots few)

    takes_rules : TakesRules w2 core place n v → ShowsState v (binds_end e c.0 (seats d e s1))
    takes_rules taken =
        let g : GetsRules w2 core place n c2 seat kept.0 waits.end v =
        gets_rules w2 v core place n c2 seat kept.0 waits.end core_is seat_is kept.1 waits.end_is (ap (λ (x : Planned). x.interface) (copy i interface.1 ∙ sym waits.shows.program)) taken in
        subst (λ x. ShowsState x (binds_end e c.0 (seats d e s1)))
        (sym (g.rest
        ∙ ap (λ (k : TheCore). with_binding (with_core w2 core k) n (closed kept.0)) (rules_first k0 d.place listed t0 waits.end.rules lists n lid)
        ∙ ap (λ (cs : List TheCore). record w { rings = slice_set w.rings link.ring.ring d2; cores = cs; bindings = slice_set w.bindings n (closed kept.0) })
        (set_twice w.cores core c2 (born_core k0 d.place listed t2 lists n lid))))
        (served listed listed_is lists answer joins g.whole)

    -- the binding keeps an end for it
    has_rules : HasRules w2 core place n
    has_rules = record { core = c2; core_is = core_is; made = seat; made_is = seat_is; kept = kept.0; kept_is = kept.1; end = waits.end; end_is = waits.end_is }

    served_here : ThenRules (Ok (told.Opened (server_of n))) w2 v → ShowsState v (binds_end e c.0 (seats d e s1))
    served_here rules =
        let brings : BringsRules (made core place) Server n w2 v = subst (λ z. BringsRules z Server n w2 v) location rules in
        elim brings [ inl taken ↦ takes_rules taken | inr none ↦ absurd (none.0 has_rules) ]

-- ---- the law

pub servers_are_made : (law : Showings) (frame : HearFrames) → UnmadeFrame → ListsFrame → ServersAreMade law frame
servers_are_made law frame frame_unmade frame_lists w s core neighbour l link m frag duo h may left after monitor_shows whole n place c d k2 v still is place_is mk rules p0 =
    let t : LinkedTo w s core neighbour l link = h.linked in
    let ends : MakesEnd s.services h.linked.k m n d c.0 = makes_end s.services l m h.linked.k n d c.0 is in
    let due : OpeningHere s neighbour core ends.opening =
    opening_here w s core neighbour l link ends.opening frag h.shows.sound h.linked
    (subst (λ (x : MonitorLabel). IsMessage s (end_at core neighbour l link) x frag) ends.message h.message) in
    let at : Serves s core neighbour n d h.linked.k ends.opening = serves w s core neighbour l link h.shows h.linked m n c.0 d ends due in
    let b : Born (with_monitor h.linked.c after) k2 d.place n (link_id l) (fresh mk.program (Some c.0)) =
    subst (λ (x : ℕ). Born (with_monitor h.linked.c after) k2 x n (link_id l) (fresh mk.program (Some c.0))) place_is
    (born (offers_in (with_ring w link.ring.ring duo)).programs (offer_for (offers_in (with_ring w link.ring.ring duo)) h.linked.c (message_of m)) (link_id l) n place c
    (with_monitor h.linked.c after) k2 mk) in
    served_here frame frame_unmade frame_lists w s h.shows core neighbour l link h.linked left.duo.now after whole (hears s.services l m h.linked.k).core
    (hears_keeps s.services l m h.linked.k) p0 n d ends.opening at c mk.program
    (λ i i_is. program_is w s core neighbour n d h.linked.k ends.opening h.linked.c link.ring.ring duo mk.program i h.shows at i_is
    (subst (λ (x : MonitorLabel). IsCopyFor (offers_in (with_ring w link.ring.ring duo)).programs (offer_for (offers_in (with_ring w link.ring.ring duo)) h.linked.c (message_of x)) mk.program) ends.message mk.program_is))
    b.listed b.listed_is b.lists b.answer b.registers v
    (subst (λ (k : TheCore). ThenRules (Ok (told.Opened (server_of n))) (with_heard w core link.ring.ring left.duo.now k) v) b.core_is rules)
