-- An end to which the answer came that its circuit is open is bound and registered, in the world as in the machine.
use Rattle.std.proofs.Common.{◌≡◌, refl, sym, ◌∙◌, ap, subst, ℕ, zero, suc, Bool, true, false, List, [], ◌∷◌, map, slice_get, slice_set, Option, Some, None, Result, Ok}
use Rattle.std.specs.Prelude.{is_some, IsSome}
use Rattle.fl_base.specs.declared.identity.EndId.{EndId}
use Rattle.fl_base.specs.declared.identity.Circuit.{Circuit}
use Rattle.fl_base.specs.declared.identity.Side.TheVariants.{Client}
use Rattle.fl_base.specs.Given.{given}
use Rattle.fl_waitset.specs.Waiting.{is_registered}
use Rattle.fl_link.specs.Queue.{TheQueue, QueueTakes}
use Rattle.fl_ring.specs.Duo.{TheDuo}
use Rattle.fl_endpoint.specs.View.{TheEnd, bound}
use Rattle.fl_core.specs.BoardView.{TheBoard, TheEndAtChannel, with_end}
use Rattle.fl_core.specs.declared.kind.ChannelKind.{ChannelKind}
use Rattle.fl_core.specs.BoardTurns.{over}
use Rattle.fl_monitor.specs.Monitors.{TheMonitor}
use Rattle.fl_core.specs.declared.answer.MonitorAnswer.TheVariants as told
use Rattle.fl_core.specs.declared.wiring.EndWiring.{EndWiring}
use Rattle.fl_core.specs.declared.wiring.WiredEnd.{WiredEnd}
use Rattle.fl_core.specs.declared.wiring.ArrivalPlace.{ArrivalPlace}
use Rattle.fl_core.specs.Hearing.{Binds, BindsIf}
use Rattle.fl_core.specs.Ends.{RegistersAt}
use Rattle.fl_core.specs.Sound.{IsCore, kinds_seated, kinds_wired}
use Rattle.fl_core.specs.View.{TheCore, place_of, with_board, with_monitor, arrivals_by, arrivals_of, arriving, arriving_at}
use Rattle.fl_model.specs.Given.{changed_at}
use Rattle.fl_model.specs.Calls.{Planned}
use Rattle.fl_model.specs.Rings.{MonitorLabel, RingSide}
use Rattle.fl_model.specs.Ends.{Seat, End}
use Rattle.fl_model.specs.Waits.{Dispatcher}
use Rattle.fl_model.specs.Monitors.{Core, Link, hears}
use Rattle.fl_model.specs.State.{Route, Back, over_route, Binding, State, core_of, dispatcher_of, binding_of, interface_of, end_of, end_in, with_end_in, in_route, change_end, change_route, binds_end, registers_end}
use Rattle.fl_model.specs.Binding.{end_id}
use Rattle.fl_model.specs.Events.{DispatcherId}
use Rattle.fl_model.specs.Forwarding.{passes_word}
use Rattle.fl_model_laws.proofs.ListingStep.{end_at as end_with}
use Rattle.fl_model_laws.proofs.TurnsTold.{interface_there}
use Rattle.fl_world_refines.specs.View.{TheWorld, WhereEnd, nowhere, unmade, made, with_core, with_ring}
use Rattle.fl_world_refines.specs.ShowsState.{IsMade, ShowsState, Shows}
use Rattle.fl_world_refines.specs.Linking.{BringsRules, ThenRules}
use Rattle.fl_world_refines.proofs.Frames.{Stands, EndFrame, ListsFrame, RouteFrame}
use Rattle.fl_world_refines.proofs.PassingArrivals.{Arrival, by_wiring}
use Rattle.fl_world_refines.proofs.PassingCores.{hears_keeps}
use Rattle.fl_world_refines.proofs.PassingHeard.{HearFrames, with_heard, heard_state, same_numbers, EndOpens, known}
use Rattle.fl_world_refines.proofs.PassingHears.{Hearer, EndsOpen}
use Rattle.fl_world_refines.proofs.PassingLinkSides.{LinkedTo, end_at, its_end}
use Rattle.fl_world_refines.proofs.PassingLists.{set_twice, get_set, get_changed, some_is, given_is}
use Rattle.fl_world_refines.proofs.PassingOpened.{bound_too, bound_stays, opens_end, IsClient, is_client}
use Rattle.fl_world_refines.proofs.PassingRegisters.{registered}
use Rattle.fl_world_refines.proofs.PassingRings.{Showings}

-- ---- an end that is made stands

abbrev pub stands_of : (w : TheWorld) (s : State) (e : EndId) (b : Binding) (i : Planned) (seat : Seat) → binding_of s e ≡ Some b → interface_of s b ≡ Some i
    → (end_in e.side b).seat ≡ Some seat → (its : IsMade w s e b i seat) → Stands w s e seat.dispatcher.core its.place
stands_of w s e b i seat b_is i_is seat_is its = record {
  binding = b;
  binding_is = b_is;
  interface = i;
  interface_is = i_is;
  seat = seat;
  seat_is = seat_is;
  core_at = refl;
  core = its.core;
  core_is = its.core_is;
  place_is = its.place_is;
  at = its.at;
  at_is = its.at_is;
  dispatcher = its.dispatcher;
  channel = its.channel;
  shows = its.shows;
  wired_end = its.wired_end;
  wired_end_is = its.wired_end_is;
  name_is = its.name_is;
  wiring = its.wiring;
}

-- where fragments arrive for it
pub finds_of : (w : TheWorld) (s : State) (e : EndId) (b : Binding) (i : Planned) (seat : Seat) (its : IsMade w s e b i seat) (a : Arrival w its.core s e b its.wired_end)
    → arriving_at its.core e ≡ Some (arriving its.place a.place)
finds_of w s e b i seat its a =
    ap (λ (q : Option ℕ). given q None λ m. given (arrivals_of its.core m) None λ x. Some (arriving m x)) its.place_is
    ∙ ap (λ (q : Option WiredEnd). given (given q None λ wired_end. arrivals_by wired_end.wiring) None λ x. Some (arriving its.place x)) its.wired_end_is
    ∙ ap (λ (v : EndWiring). given (arrivals_by v) None λ x. Some (arriving its.place x)) a.wiring

same_kinds : (xs : List TheEndAtChannel) (n : ℕ) (x y : TheEndAtChannel) → slice_get xs n ≡ Some x → y.kind ≡ x.kind → kinds_seated (slice_set xs n y) ≡ kinds_seated xs
same_kinds [] n x y q e = refl
same_kinds (z ∷ xs) zero x y q e = let one : z ≡ x = some_is z x q in ap (λ (k : ChannelKind). k ∷ kinds_seated xs) (e ∙ ap (λ (a : TheEndAtChannel). a.kind) (sym one))
same_kinds (z ∷ xs) (suc n) x y q e = ap (λ (ks : List ChannelKind). z.kind ∷ ks) (same_kinds xs n x y q e)

-- a client's end brings no rules
no_rules : (location : WhereEnd) (b : ℕ) (w v : TheWorld) → BringsRules location Client b w v → v ≡ w
no_rules nowhere b w v h = h
no_rules unmade b w v h = h
no_rules (made n place) b w v h = h

module _ (frame : HearFrames) (frame_end : EndFrame) (frame_lists : ListsFrame) (w : TheWorld) (s : State) (shows : Shows w s) (core neighbour l : ℕ) (link : Link)
    (t : LinkedTo w s core neighbour l link) (d2 : TheDuo) (j : Core) (keeps : j.dispatchers ≡ t.k.dispatchers) (after : TheMonitor) (whole : IsCore t.c)
    (p0 : ShowsState (with_heard w core link.ring.ring d2 (with_monitor t.c after)) (heard_state s core link.ring.ring link.ring.side j))
    (q : ℕ) (client : IsClient s core (end_id q Client)) (c : Circuit) where
  abbrev e : EndId
  e = end_id q Client

  abbrev k0 : TheCore
  k0 = with_monitor t.c after

  abbrev w0 : TheWorld
  w0 = with_heard w core link.ring.ring d2 k0

  abbrev s0 : State
  s0 = heard_state s core link.ring.ring link.ring.side j

  abbrev s1 : State
  s1 = change_route q passes_word s0

  p1 : ShowsState w0 s1
  p1 = frame.route w0 s0 q passes_word p0 (same_numbers passes_word (λ r. refl) (λ r. refl) (λ r. refl))

  abbrev b1 : Binding
  b1 = record client.binding { back = in_route passes_word client.binding.back }

  b1_is : binding_of s1 e ≡ Some b1
  b1_is = get_changed s.bindings q (λ (b : Binding). record b { back = in_route passes_word b.back }) client.binding client.binding_is

  interface : (i : Planned) × (interface_of s client.binding ≡ Some i)
  interface = interface_there s shows.sound e client.binding client.binding_is

  abbrev i : Planned
  i = interface.0

  abbrev d : DispatcherId
  d = client.seat.dispatcher

  abbrev made1 : IsMade w0 s1 e b1 i client.seat
  made1 = p1.ends.made e b1 i client.seat b1_is interface.1 client.seat_is

  back1 : b1.back ≡ over_route (passes_word client.route)
  back1 = ap (in_route passes_word) client.back

  core1 : made1.core ≡ k0
  core1 = some_is made1.core k0 (sym made1.core_is ∙ ap (slice_get w0.cores) client.at ∙ get_set w.cores core t.c k0 t.c_is)

  arrival1 : Arrival w0 made1.core s1 e b1 made1.wired_end
  arrival1 = by_wiring w0 made1.core s1 e b1 made1.wired_end (passes_word client.route) back1 made1.wired_end.wiring refl made1.wiring

  at_place : arriving_at k0 e ≡ Some (arriving made1.place arrival1.place)
  at_place = ap (λ (k : TheCore). arriving_at k e) (sym core1) ∙ finds_of w0 s1 e b1 i client.seat made1 arrival1

  -- ---- it is bound

  abbrev binds_to : End → End
  binds_to x = record x { circuit = Some c.0 }

  abbrev t2 : TheEnd
  t2 = bound made1.at.end c.0

  abbrev c2 : TheCore
  c2 = with_board made1.core (with_end made1.core.board made1.place made1.at t2)

  abbrev w2 : TheWorld
  w2 = with_core w0 d.core c2

  abbrev s2 : State
  s2 = change_end e binds_to s1

  p2 : ShowsState w2 s2
  p2 =
      frame_end w0 s1 e d.core made1.place (stands_of w0 s1 e b1 i client.seat b1_is interface.1 client.seat_is made1) binds_to t2 p1 (bound_stays i client.binding.client c.0)
      (bound_too i client.binding.client client.binding.server.out made1.at.end c.0 made1.shows client.unbound
      (p1.bindings.silent e client.binding.client (end_with s1 e b1 b1_is) client.unbound))

  abbrev b2 : Binding
  b2 = with_end_in Client binds_to b1

  b2_is : binding_of s2 e ≡ Some b2
  b2_is = get_changed s1.bindings q (with_end_in Client binds_to) b1 b1_is

  abbrev made2 : IsMade w2 s2 e b2 i client.seat
  made2 = p2.ends.made e b2 i client.seat b2_is interface.1 client.seat_is

  core2 : made2.core ≡ c2
  core2 = some_is made2.core c2 (sym made2.core_is ∙ get_set w0.cores d.core made1.core c2 made1.core_is)

  arrival2 : Arrival w2 made2.core s2 e b2 made2.wired_end
  arrival2 = by_wiring w2 made2.core s2 e b2 made2.wired_end (passes_word client.route) back1 made2.wired_end.wiring refl made2.wiring

  same_place : arriving made2.place arrival2.place ≡ arriving made1.place arrival1.place
  same_place =
      some_is (arriving made2.place arrival2.place) (arriving made1.place arrival1.place)
      (sym (finds_of w2 s2 e b2 i client.seat made2 arrival2) ∙ ap (λ (k : TheCore). arriving_at k e) core2 ∙ finds_of w0 s1 e b1 i client.seat made1 arrival1)

  kinds2 : kinds_seated made2.core.board.seats ≡ kinds_wired made2.core.wired_ends
  kinds2 =
      subst (λ (k : TheCore). kinds_seated k.board.seats ≡ kinds_wired k.wired_ends) (sym core2)
      (same_kinds made1.core.board.seats made1.place made1.at _ made1.at_is refl
      ∙ subst (λ (k : TheCore). kinds_seated k.board.seats ≡ kinds_wired k.wired_ends) (sym core1) whole.kinds)

  core_there : core_of s0 core ≡ Some j
  core_there = get_changed s.cores core (λ (k : Core). j) t.k t.k_is

  same_dispatcher : dispatcher_of s2 d ≡ dispatcher_of s d
  same_dispatcher =
      given_is (core_of s0 d.core) None (λ k. slice_get k.dispatchers d.place) j (ap (core_of s0) client.at ∙ core_there)
      ∙ ap (λ (xs : List Dispatcher). slice_get xs d.place) keeps
      ∙ sym (given_is (core_of s d.core) None (λ k. slice_get k.dispatchers d.place) t.k (ap (core_of s) client.at ∙ t.k_is))

  bound2 : IsSome made2.at.end.circuit
  bound2 = ap is_some made2.shows.circuit

  -- ---- and registered

  module _ (k2 : TheCore) (h : Binds (arriving made1.place arrival1.place) c k0 k2) where
    seat_is : h.binds.seat ≡ made1.at
    seat_is = some_is h.binds.seat made1.at (sym h.binds.seat_is ∙ ap (λ (k : TheCore). slice_get k.board.seats made1.place) (sym core1) ∙ made1.at_is)

    board_is : h.bound_board ≡ made2.core.board
    board_is =
        h.binds.board
        ∙ ap (with_end k0.board made1.place h.binds.seat) (h.binds.event ∙ ap (λ (x : TheEndAtChannel). bound x.end c.0) seat_is)
        ∙ ap (λ (x : TheEndAtChannel). with_end k0.board made1.place x t2) seat_is
        ∙ ap (λ (k : TheCore). with_end k.board made1.place made1.at t2) (sym core1)
        ∙ ap (λ (k : TheCore). k.board) (sym core2)

    queue_is : h.queue ≡ arrival2.takes.there
    queue_is =
        some_is h.queue arrival2.takes.there
        (sym h.queue_is ∙ ap (λ (k : TheCore). slice_get k.arrivals arrival1.place) (sym core1) ∙ ap (λ (x : ArrivalPlace). slice_get made1.core.arrivals x.queue) (sym same_place)
        ∙ ap (λ (k : TheCore). slice_get k.arrivals arrival2.place) (sym core2) ∙ arrival2.takes.there_is)

    registers : RegistersAt QueueTakes made2.place (over made2.core.board arrival2.takes.there) h.answer (over k2.board arrival2.takes.there)
    registers =
        subst (λ (x : ArrivalPlace). RegistersAt QueueTakes x.end (over made2.core.board arrival2.takes.there) h.answer (over k2.board arrival2.takes.there)) (sym same_place)
        (subst (λ (b : TheBoard). RegistersAt QueueTakes made1.place (over b arrival2.takes.there) h.answer (over k2.board arrival2.takes.there)) board_is
        (subst (λ (x : TheQueue). RegistersAt QueueTakes made1.place (over h.bound_board x) h.answer (over k2.board x)) queue_is h.registers))

    p3 : ShowsState (with_core w2 d.core (with_board made2.core k2.board)) (registers_end e s2)
    p3 =
        registered frame_lists w2 s2 e d.core made2.place (stands_of w2 s2 e b2 i client.seat b2_is interface.1 client.seat_is made2) p2 arrival2 kinds2 bound2
        (λ y there. client.free y (sym same_dispatcher ∙ there)) k2.board h.answer registers

    last_core : with_board made2.core k2.board ≡ k2
    last_core = ap (λ (k : TheCore). with_board k k2.board) core2 ∙ ap (λ (k : TheCore). with_board k k2.board) core1 ∙ sym h.rest

    world_is : with_core w2 d.core (with_board made2.core k2.board) ≡ with_heard w core link.ring.ring d2 k2
    world_is =
        ap (with_core w2 d.core) last_core
        ∙ ap (λ (cs : List TheCore). record w0 { cores = cs }) (set_twice w0.cores d.core c2 k2)
        ∙ ap (λ (m : ℕ). with_core w0 m k2) client.at
        ∙ ap (λ (cs : List TheCore). record w0 { cores = cs }) (set_twice w.cores core k0 k2)

    opened_showing : ShowsState (with_heard w core link.ring.ring d2 k2) (binds_end e c.0 (change_route q passes_word s0))
    opened_showing = subst (λ (v : TheWorld). ShowsState v (registers_end e s2)) world_is p3

  bound_here : (k2 : TheCore) → BindsIf (arriving_at k0 e) c k0 k2 → ShowsState (with_heard w core link.ring.ring d2 k2) (binds_end e c.0 (change_route q passes_word s0))
  bound_here k2 h = opened_showing k2 (subst (λ (o : Option ArrivalPlace). BindsIf o c k0 k2) at_place h)

pub ends_open : (law : Showings) (frame : HearFrames) → EndFrame → ListsFrame → EndsOpen law frame
ends_open law frame frame_end frame_lists w s core neighbour l link m frag d h may left after monitor_shows whole e c k2 v is binds rules p0 =
    let t : LinkedTo w s core neighbour l link = h.linked in
    let client : IsClient s core e =
    is_client s h.shows.sound (end_at core neighbour l link) h.message.first h.linked.k m e c.0
    (record { core = core; neighbour = neighbour; here_is = its_end w s core neighbour l link h.linked }) h.message.first_is h.message.label h.linked.k_is
    (opens_end s.services l m h.linked.k e c.0 is) in
    by e client binds rules
  where
    by : (f : EndId) → IsClient s core f → BindsIf (arriving_at (with_monitor h.linked.c after) f) c (with_monitor h.linked.c after) k2
        → ThenRules (Ok (told.Opened f)) (with_heard w core link.ring.ring left.duo.now k2) v
        → ShowsState v (binds_end f c.0 (change_route f.binding passes_word (heard_state s core link.ring.ring link.ring.side (hears s.services l m h.linked.k).core)))
    by f client =
        subst (λ (g : EndId). BindsIf (arriving_at (with_monitor h.linked.c after) g) c (with_monitor h.linked.c after) k2
        → ThenRules (Ok (told.Opened g)) (with_heard w core link.ring.ring left.duo.now k2) v
        → ShowsState v (binds_end g c.0 (change_route g.binding passes_word (heard_state s core link.ring.ring link.ring.side (hears s.services l m h.linked.k).core)))) (sym client.client)
        (λ b r. subst (λ (x : TheWorld). ShowsState x (binds_end (end_id f.binding Client) c.0 (change_route f.binding passes_word
        (heard_state s core link.ring.ring link.ring.side (hears s.services l m h.linked.k).core)))) (sym (no_rules _ f.binding _ v r))
        (bound_here frame frame_end frame_lists w s h.shows core neighbour l link h.linked left.duo.now (hears s.services l m h.linked.k).core
        (hears_keeps s.services l m h.linked.k).dispatchers after whole p0 f.binding (subst (IsClient s core) client.client client) c k2 b))
