-- A call's fragment arrives for an end of its circuit: the world agrees with the machine.
use Rattle.std.proofs.Common.{◌≡◌, ◌≢◌, inl, inr, refl, sym, ◌∙◌, ap, subst, ℕ, zero, suc, ◌+◌, ◌-◌, ◌<◌, ◌^◌, List, [], ◌∷◌, length, reverse, slice_get, slice_set, Option, Some, None, Result, Ok, Err, arith}
use Rattle.std.specs.Prelude.{IsSome}
use Rattle.std.proofs.lemmas.List.{length-reverse}
use Rattle.fl_base.specs.declared.fragment.Frag.{Frag}
use Rattle.fl_base.specs.declared.identity.EndId.{EndId}
use Rattle.fl_base.specs.declared.identity.LinkId.{LinkId}
use Rattle.fl_base.specs.declared.identity.Side.{Side}
use Rattle.fl_base.specs.declared.identity.Side.TheVariants.{Client, Server}
use Rattle.fl_base.specs.Ends.{other, peer}
use Rattle.fl_base.specs.Control.{bare, with_circuit}
use Rattle.fl_base.specs.Given.{given}
use Rattle.fl_lists.specs.ThreeLists.{ThreeLists}
use Rattle.fl_waitset.specs.Waiting.{triggered}
use Rattle.fl_hop.specs.declared.entry.HopTarget.{HopTarget}
use Rattle.fl_hop.specs.declared.entry.HopTarget.TheVariants.{End as to_end}
use Rattle.fl_hop.specs.declared.forward.ForwardOutcome.{ForwardOutcome as Moving}
use Rattle.fl_hop.specs.declared.forward.ForwardOutcome.TheVariants as moving
use Rattle.fl_hop.specs.OfCircuit.{as_carried}
use Rattle.fl_hop.specs.Forward.{put_label, Leaves}
use Rattle.fl_link.specs.Looks.{Look, placed, no_room, spent, found}
use Rattle.fl_link.specs.Queue.{TheQueue, QueuePuts}
use Rattle.fl_ring.specs.Duo.{TheDuo}
use Rattle.fl_ring.specs.Side.{SideTakes}
use Rattle.fl_ring.specs.declared.duo_side.DuoSide.{DuoSide}
use Rattle.fl_core.specs.BoardView.{TheBoard, TheDispatcher, TheEndAtChannel, with_lists}
use Rattle.fl_core.specs.declared.wiring.EndWiring.{EndWiring}
use Rattle.fl_core.specs.declared.wiring.EndWiring.TheVariants.{Queues, Ring as OverRing, Circuit}
use Rattle.fl_core.specs.declared.wiring.WiredEnd.{WiredEnd}
use Rattle.fl_core.specs.declared.wiring.ArrivalPlace.{ArrivalPlace}
use Rattle.fl_core.specs.declared.fault.LinkReceiveFault.{LinkReceiveFault}
use Rattle.fl_core.specs.declared.fault.LinkReceiveFault.TheVariants as fault
use Rattle.fl_core.specs.View.{TheCore, place_of, arrivals_by, arrivals_of, arriving, arriving_at, with_board, with_arrivals}
use Rattle.fl_core.specs.Ends.{at_side, Triggers, TriggersIf}
use Rattle.fl_core.specs.Links.{Arrives, inbound, ArrivesAt, reached}
use Rattle.fl_model.specs.Given.{changed_at}
use Rattle.fl_model.specs.Events.{DispatcherId, Answer, nothing, full, forwarded}
use Rattle.fl_model.specs.Calls.{Planned}
use Rattle.fl_model.specs.Rings.{Label, next_of, RingLabel, Ring, first_for, looks, takes, there_is_room, Room}
use Rattle.fl_model.specs.Rings.{no_room as none_free}
use Rattle.fl_model.specs.Ends.{Queue, Direction, Seat, End, joined_by, queue_room, passes}
use Rattle.fl_model.specs.Waits.{Dispatcher, triggers}
use Rattle.fl_model.specs.Monitors.{Core, Link}
use Rattle.fl_model.specs.State.{OpeningVerdict, granted, Route, Back, local, over_route, Binding, State, StepOutcome, answers, core_of, dispatcher_of, binding_of, interface_of, end_of, end_in, with_end_in, own_ring, change_core, change_dispatcher, change_ring, change_end, change_out, in_queue, delivers}
use Rattle.fl_model.specs.Standing.{core_at}
use Rattle.fl_model.specs.SoundRoutes.{RouteLeads, BoundBy, BoundWhere}
use Rattle.fl_model.specs.Forwarding.{LinkEnd, follows_entry, arrives_by, leaves_link}
use Rattle.fl_model_laws.proofs.Cases.{by_given}
use Rattle.fl_model_laws.proofs.Faces.{some_there}
use Rattle.fl_model_laws.proofs.LabelsForward.{Onward}
use Rattle.fl_model_laws.proofs.LabelsPass.{end_own, end_back}
use Rattle.fl_model_laws.proofs.ListingStep.{end_at as end_with}
use Rattle.fl_model_laws.proofs.Scenes.{way_on}
use Rattle.fl_model_laws.proofs.Small.{interface_side}
use Rattle.fl_model_laws.proofs.Ways.{LeadsOn, got_index, flipped, way_long}
use Rattle.fl_world_refines.specs.Fragments.{Streams, calls_off_links}
use Rattle.fl_world_refines.specs.Queues.{QueueShows}
use Rattle.fl_world_refines.specs.Rings.{RingShows}
use Rattle.fl_world_refines.specs.RingLaws.{IsPutOf, QueuePutAgrees}
use Rattle.fl_world_refines.specs.View.{TheWorld, side_number, with_core, with_ring}
use Rattle.fl_world_refines.specs.Lending.{OverSide}
use Rattle.fl_world_refines.specs.ShowsState.{TakesFrom, IsWiring, IsMade, Carries, ShowsState, Shows, DispatcherShows}
use Rattle.fl_world_refines.specs.Linking.{ArrivesWith, IsMoved, moved_answer}
use Rattle.fl_world_refines.specs.Laws.{Agrees}
use Rattle.fl_world_refines.proofs.Frames.{Stands, OutStays, RingFrame, PassFrame, ArrivalsFrame, ListsFrame}
use Rattle.fl_world_refines.proofs.PassingFirst.{CallFirst}
use Rattle.fl_world_refines.proofs.PassingLinkSides.{LinkedTo, end_at, some_too}
use Rattle.fl_world_refines.proofs.PassingLists.{set_twice, set_same, get_set, changed_twice, get_changed, some_is, given_is}
use Rattle.fl_world_refines.proofs.PassingNumbers.{onward, routed, its_back, is_granted}
use Rattle.fl_world_refines.proofs.PassingOnward.{taken_first}
use Rattle.fl_world_refines.proofs.PassingRings.{Showings, Over, over, side_takes, RingOf}
use Rattle.fl_world_refines.proofs.PassingStations.{StationPassed, station_passed}
use Rattle.fl_world_refines.proofs.PassingWrites.{agrees_at, agrees_with, with_rings_like}

queue_seat : (f : Queue → Queue) (x : End) → (in_queue f x).seat ≡ x.seat
queue_seat f x = by_given (λ (y : End). y.seat ≡ x.seat) x.queue x _ refl (λ q r. refl)

bound_seat : (route : Route) (b : Binding) (v : OpeningVerdict) (i : ℕ) → v ≡ granted i → BoundBy route v b → IsSome b.server.seat
bound_seat route b v i e h = (subst (λ (x : OpeningVerdict). BoundBy route x b) e h).2

-- the arrival queue of an end of a circuit, by its wiring
pub record Arrival (w : TheWorld) (c : TheCore) (s : State) (e : EndId) (b : Binding) (wired_end : WiredEnd) : Type 0 where
  pub link : LinkId
  pub place : ℕ
  pub wiring : wired_end.wiring ≡ Circuit link place
  pub takes : TakesFrom c.arrivals s (end_in e.side b) place

no_ring : (route : Route) (side : Side) (back : Back) → back ≡ over_route route → own_ring side back ≡ None
no_ring route side back e = ap (own_ring side) e

pub by_wiring : (w : TheWorld) (c : TheCore) (s : State) (e : EndId) (b : Binding) (wired_end : WiredEnd) (route : Route) → b.back ≡ over_route route → (wiring : EndWiring) → wired_end.wiring ≡ wiring
    → IsWiring w c s e b wiring → Arrival w c s e b wired_end
by_wiring w c s e b wired_end route back (Queues out from) q h = absurd (let u : over_route route ≡ local = sym back ∙ h.0 in cc)
by_wiring w c s e b wired_end route back (OverRing side) q h = absurd (let u : None ≡ Some h.0 = sym (no_ring route e.side b.back back) ∙ h.1 in cc)
by_wiring w c s e b wired_end route back (Circuit link place) q h = record { link = link; place = place; wiring = q; takes = h.1 }

module _ (law : Showings) (frame : RingFrame) (frame_pass : PassFrame) (frame_arrivals : ArrivalsFrame) (frame_lists : ListsFrame) (w : TheWorld) (s : State)
    (shows : Shows w s) (core neighbour l : ℕ) (link : Link) (t : LinkedTo w s core neighbour l link) (first : RingLabel) (frag : Frag)
    (c : CallFirst s core neighbour l link first frag) (x : RingOf w s link.ring.ring) (d1 : TheDuo) (first_is : first_for link.ring.side x.ring ≡ Some first)
    (seen : (streams : Streams) → Carries s link.ring.ring streams → RingShows streams (looks link.ring.side x.ring) d1)
    (to : EndId) (way_is : c.hop.way ≡ to_end to) where
  abbrev here : LinkEnd
  here = end_at core neighbour l link

  abbrev n : ℕ
  n = link.ring.ring

  abbrev e : EndId
  e = c.call.end

  abbrev b : Binding
  b = c.passing.binding

  abbrev label : Label
  label = next_of c.call.end c.call.number

  o : Onward s.cores here c.call c.route c.hop
  o = onward s shows.sound here c.call first c.route c.hop c.passing

  leads : (length (way_on e.side c.route.cores) ≡ suc (suc o.place)) × (e ≡ peer to)
  leads = subst (λ (v : HopTarget). LeadsOn (way_on e.side c.route.cores) o.place o.core e v) way_is o.leads

  back_is : b.back ≡ over_route c.route
  back_is = its_back s shows.sound here c.call first c.route c.hop c.passing

  same_binding : e.binding ≡ to.binding
  same_binding = ap (λ (f : EndId). f.binding) leads.1

  other_side : e.side ≡ other to.side
  other_side = ap (λ (f : EndId). f.side) leads.1

  b_is : binding_of s to ≡ Some b
  b_is = ap (slice_get s.bindings) (sym same_binding) ∙ c.passing.binding_is

  its_passed : StationPassed s c.call.end c.passing.binding c.call.station
  its_passed = station_passed law s shows.sound here c.call first c.route c.hop c.passing

  abbrev i : Planned
  i = its_passed.interface

  -- ---- where the end is

  route_leads : RouteLeads s c.route b
  route_leads = shows.sound.routes e.binding c.route (routed s shows.sound here c.call first c.route c.hop c.passing)

  abbrev SeatHere : Side → Type 0
  SeatHere side = (seat : Seat) × ((end_in side b).seat ≡ Some seat) × (seat.dispatcher.core ≡ core)

  seat_by : (side : Side) → e.side ≡ other side → SeatHere side
  seat_by Client q =
      let far : slice_get (reverse c.route.cores) (suc o.place) ≡ Some core = subst (λ (y : Side). slice_get (way_on y c.route.cores) (suc o.place) ≡ Some core) q o.far in
      let long : length (way_on e.side c.route.cores) ≡ length c.route.cores = way_long e.side c.route.cores in
      let all : length (way_on e.side c.route.cores) ≡ suc (suc o.place) = leads.0 in
      let none : length c.route.cores - 1 - suc o.place ≡ 0 = omega (arith, long, all) in (
        route_leads.client,
        route_leads.client_is,
        route_leads.first ∙ ap (core_at c.route) (sym none) ∙ got_index c.route.cores (length c.route.cores - 1 - suc o.place) core (flipped c.route.cores (suc o.place) core far),
      )
  seat_by Server q =
      let far : slice_get c.route.cores (suc o.place) ≡ Some core = subst (λ (y : Side). slice_get (way_on y c.route.cores) (suc o.place) ≡ Some core) q o.far in
      let long : length (way_on e.side c.route.cores) ≡ length c.route.cores = way_long e.side c.route.cores in
      let all : length (way_on e.side c.route.cores) ≡ suc (suc o.place) = leads.0 in
      let last : length c.route.cores - 1 ≡ suc o.place = omega (arith, long, all) in
      let (i, verdict) = is_granted s shows.sound here c.call first c.route c.hop c.passing in
      let bound : BoundWhere (over_route c.route) b = subst (λ (a : Back). BoundWhere a b) back_is (shows.sound.bound e.binding b c.passing.binding_is) in
      let (seat, is) = some_there b.server.seat (bound_seat c.route b c.route.verdict i verdict bound) in
      (seat, is, ap (λ (d : DispatcherId). d.core) (route_leads.server seat is) ∙ route_leads.last ∙ ap (core_at c.route) last ∙ got_index c.route.cores (suc o.place) core far)

  seat_here : SeatHere to.side
  seat_here = seat_by to.side other_side

  abbrev seat : Seat
  seat = seat_here.0

  -- ---- in a what is shown in which the link's ring has changed

  module _ (f : Ring → Ring) (d2 : TheDuo) (p : ShowsState (with_ring w n d2) (change_ring n f s)) where
    abbrev its : IsMade (with_ring w n d2) (change_ring n f s) to b i seat
    its = p.ends.made to b i seat b_is its_passed.interface_is seat_here.1

    core_same : its.core ≡ t.c
    core_same = some_is its.core t.c (sym its.core_is ∙ ap (slice_get w.cores) seat_here.2 ∙ t.c_is)

    arrival : Arrival (with_ring w n d2) its.core (change_ring n f s) to b its.wired_end
    arrival = by_wiring (with_ring w n d2) its.core (change_ring n f s) to b its.wired_end c.route back_is its.wired_end.wiring refl its.wiring

    abbrev stands : Stands (with_ring w n d2) (change_ring n f s) to seat.dispatcher.core its.place
    stands = record {
      binding = b;
      binding_is = b_is;
      interface = i;
      interface_is = its_passed.interface_is;
      seat = seat;
      seat_is = seat_here.1;
      core_at = refl;
      core = its.core;
      core_is = its.core_is;
      place_is = its.place_is;
      at = its.at;
      at_is = its.at_is;
      dispatcher = its.dispatcher;
      channel = its.channel;
      shows = its.shows;
      wired_end = its.wired_end;
      wired_end_is = its.wired_end_is;
      name_is = its.name_is;
      wiring = its.wiring;
    }

    finds : arriving_at t.c to ≡ Some (arriving its.place arrival.place)
    finds =
        ap (λ (k : TheCore). arriving_at k to) (sym core_same)
        ∙ ap (λ (q : Option ℕ). given q None λ m. given (arrivals_of its.core m) None λ a. Some (arriving m a)) its.place_is
        ∙ ap (λ (q : Option WiredEnd). given (given q None λ wired_end. arrivals_by wired_end.wiring) None λ a. Some (arriving its.place a)) its.wired_end_is
        ∙ ap (λ (v : EndWiring). given (arrivals_by v) None λ a. Some (arriving its.place a)) arrival.wiring

    queue_there : slice_get t.c.arrivals arrival.place ≡ Some arrival.takes.there
    queue_there = ap (λ (k : TheCore). slice_get k.arrivals arrival.place) (sym core_same) ∙ arrival.takes.there_is

    -- what the machine makes of it
    follows_is : (r : Room) → queue_room arrival.takes.queue ≡ r
        → follows_entry here c.call c.passing.core c.hop.way (change_ring n (looks link.ring.side) s) ≡ arrives_by here c.call to r (change_ring n (looks link.ring.side) s)
    follows_is r q =
        ap (λ (v : HopTarget). follows_entry here c.call c.passing.core v (change_ring n (looks link.ring.side) s)) way_is
        ∙ given_is (end_of s to) _ _ (end_in to.side b) (end_with s to b b_is)
        ∙ given_is (end_in to.side b).queue _ _ arrival.takes.queue arrival.takes.queue_is
        ∙ ap (λ (y : Room). arrives_by here c.call to y (change_ring n (looks link.ring.side) s)) q

    -- ---- its queue, its channel, and its sender

    abbrev join : End → End
    join = in_queue (joined_by label)

    abbrev b2 : Binding
    b2 = with_end_in to.side join b

    abbrev s2 : State
    s2 = change_end to join (change_ring n f s)

    sent : (end_in e.side b2).out ≡ (end_in e.side b).out
    sent = ap (λ (side : Side). (end_in side b2).out) other_side ∙ ap (λ (y : End). y.out) (end_back to.side join b) ∙ ap (λ (side : Side). (end_in side b).out) (sym other_side)

    module _ (queue : TheQueue) (shown : QueueShows (calls_off_links s) (joined_by label arrival.takes.queue) queue) (whole : Rattle.fl_core.specs.Sound.IsCore t.c) where
      abbrev c2 : TheCore
      c2 = with_arrivals its.core arrival.place queue

      abbrev w2 : TheWorld
      w2 = with_core (with_ring w n d2) seat.dispatcher.core c2

      joined : ShowsState w2 s2
      joined =
          frame_arrivals (with_ring w n d2) (change_ring n f s) to seat.dispatcher.core its.place arrival.link arrival.place stands arrival.takes.queue (joined_by label) queue
          p (subst Rattle.fl_core.specs.Sound.IsCore (sym core_same) whole) arrival.wiring arrival.takes.queue_is shown

      module _ (there : TheDispatcher) (v : ThreeLists) (there_is : slice_get its.core.board.dispatchers seat.dispatcher.place ≡ Some there)
          (v_is : v ≡ triggered there.lists seat.channel) where
        dispatcher : (y : Dispatcher) × (slice_get t.k.dispatchers seat.dispatcher.place ≡ Some y)
        dispatcher =
            some_too t.k.dispatchers t.c.board.dispatchers seat.dispatcher.place there (sym t.shows.count)
            (ap (λ (k : TheCore). slice_get k.board.dispatchers seat.dispatcher.place) (sym core_same) ∙ there_is)

        lists_same : there.lists ≡ dispatcher.0.lists
        lists_same =
            (t.shows.dispatchers seat.dispatcher.place dispatcher.0 there dispatcher.1
            (ap (λ (k : TheCore). slice_get k.board.dispatchers seat.dispatcher.place) (sym core_same) ∙ there_is)).lists

        dispatcher_is : dispatcher_of s seat.dispatcher ≡ Some dispatcher.0
        dispatcher_is = given_is (core_of s seat.dispatcher.core) None _ t.k (ap (core_of s) seat_here.2 ∙ t.k_is) ∙ dispatcher.1

        abbrev c3 : TheCore
        c3 = with_board c2 (with_lists c2.board seat.dispatcher.place there v)

        abbrev w3 : TheWorld
        w3 = with_core w2 seat.dispatcher.core c3

        abbrev s3 : State
        s3 = change_dispatcher seat.dispatcher (triggers seat.channel) s2

        triggered_too : ShowsState w3 s3
        triggered_too =
            frame_lists w2 s2 seat.dispatcher c2 there dispatcher.0 (triggers seat.channel) v joined (get_set w.cores seat.dispatcher.core its.core c2 its.core_is) there_is dispatcher_is refl
            (v_is ∙ ap (λ (ls : ThreeLists). triggered ls seat.channel) lists_same)

        b2_is : binding_of s3 e ≡ Some b2
        b2_is = ap (λ (m : ℕ). slice_get (changed_at to.binding (with_end_in to.side join) s.bindings) m) same_binding ∙ get_changed s.bindings to.binding (with_end_in to.side join) b b_is

        passed_too : ShowsState w3 (change_out e (passes c.call.station) s3)
        passed_too =
            frame_pass w3 s3 e b2 i (passes c.call.station) triggered_too b2_is (ap (slice_get s.interfaces) (interface_side to.side join b) ∙ its_passed.interface_is)
            (subst (λ (d : Direction). OutStays i d (passes c.call.station d)) (sym sent) its_passed.out)
            (subst (λ (d : Direction). Rattle.fl_world_refines.specs.Ends.parts_of i (passes c.call.station d) ≡ Rattle.fl_world_refines.specs.Ends.parts_of i d) (sym sent) its_passed.parts)

  -- a label is delivered: the end's channel is triggered
  delivers_is : (g : Ring → Ring) → delivers label to (change_ring n g s)
      ≡ change_dispatcher seat.dispatcher (triggers seat.channel) (change_end to (in_queue (joined_by label)) (change_ring n g s))
  delivers_is g =
      given_is (end_of (change_end to (in_queue (joined_by label)) s) to) _ _ (in_queue (joined_by label) (end_in to.side b))
      (end_with (change_end to (in_queue (joined_by label)) s) to (with_end_in to.side (in_queue (joined_by label)) b)
      (get_changed s.bindings to.binding (with_end_in to.side (in_queue (joined_by label))) b b_is)
      ∙ ap (λ (y : End). Some y) (end_own to.side (in_queue (joined_by label)) b))
      ∙ given_is (in_queue (joined_by label) (end_in to.side b)).seat _ _ seat (queue_seat (joined_by label) (end_in to.side b) ∙ seat_here.1)

  -- ---- the fragment in the queue

  is_put : IsPutOf (calls_off_links s) label (placed (as_carried frag))
  is_put g same =
      let one : as_carried frag ≡ g = (let q : placed (as_carried frag) ≡ placed g = same in cc) in
      c.goes.arrives
      ∙ ap (λ (f : Frag). Some f) (sym ((law.aside frag).another 0 (omega arith)) ∙ sym (law.aside (with_circuit 0 frag)).twice ∙ ap bare one)

  no_put : (look : Look) → ((g : Frag) → look ≡ placed g → ⊥) → IsPutOf (calls_off_links s) label look
  no_put look h g same = absurd (h g same)

  -- the look alone
  looked : ShowsState (with_ring w n d1) (change_ring n (looks link.ring.side) s)
  looked = frame w s n x.ring (looks link.ring.side) d1 shows.showing x.ring_is seen

  module _ (a : Answer) (v2 : TheWorld) (h : Over (with_ring w link.ring.ring d1) core link.ring t.c d1 (ArrivesWith (inbound l frag to) a) v2) where
    arrived : (r : Arrives SideTakes frag to (at_side t.c h.side) moving.Moved (at_side h.after h.left)) → a ≡ forwarded
        → Agrees (follows_entry here c.call c.passing.core c.hop.way (change_ring n (looks link.ring.side) s)) a v2
    arrived r answer =
        let g : Ring → Ring = λ y. takes link.ring.side (looks link.ring.side y) in
        let left = taken_first law w s shows link.ring x first (bare frag) d1 h.left.duo.now first_is seen (side_takes link.ring d1 h.side h.left _ h.lent r.left) in
        let p : ShowsState (with_ring w n h.left.duo.now) (change_ring n (λ y. takes link.ring.side (looks link.ring.side y)) s) =
        frame w s n x.ring (λ y. takes link.ring.side (looks link.ring.side y)) h.left.duo.now shows.showing x.ring_is left in
        let made = its (λ y. takes link.ring.side (looks link.ring.side y)) h.left.duo.now p in
        let same = core_same (λ y. takes link.ring.side (looks link.ring.side y)) h.left.duo.now p in
        let comes = arrival (λ y. takes link.ring.side (looks link.ring.side y)) h.left.duo.now p in
        let at : arriving r.end r.queue ≡ arriving made.place comes.place =
        some_is (arriving r.end r.queue) (arriving made.place comes.place) (sym r.at ∙ finds (λ y. takes link.ring.side (looks link.ring.side y)) h.left.duo.now p) in
        let end_is : r.end ≡ made.place = ap (λ (y : ArrivalPlace). y.end) at in
        let queue_is : r.queue ≡ comes.place = ap (λ (y : ArrivalPlace). y.queue) at in
        let before_is : r.before ≡ comes.takes.there =
        some_is r.before comes.takes.there (sym r.before_is ∙ ap (slice_get t.c.arrivals) queue_is ∙ queue_there (λ y. takes link.ring.side (looks link.ring.side y)) h.left.duo.now p) in
        let put : QueuePutAgrees (calls_off_links s) label comes.takes.queue (placed (as_carried frag)) r.after =
        law.queues (calls_off_links s) label comes.takes.queue comes.takes.there r.after (placed (as_carried frag)) comes.takes.shows is_put
        (subst (λ (q : TheQueue). QueuePuts q (placed (as_carried frag)) r.after) before_is r.puts) in
        let seat_is : r.triggers.seat ≡ made.at =
        some_is r.triggers.seat made.at (sym r.triggers.seat_is ∙ ap (slice_get t.c.board.seats) end_is ∙ ap (λ (k : TheCore). slice_get k.board.seats made.place) (sym same) ∙ made.at_is) in
        let place_is : r.triggers.seat.dispatcher ≡ seat.dispatcher.place = ap (λ (y : TheEndAtChannel). y.dispatcher) seat_is ∙ made.dispatcher in
        let channel_is : r.triggers.seat.channel ≡ seat.channel = ap (λ (y : TheEndAtChannel). y.channel) seat_is ∙ made.channel in
        let there_is : slice_get made.core.board.dispatchers seat.dispatcher.place ≡ Some r.triggers.dispatcher =
        ap (λ (k : TheCore). slice_get k.board.dispatchers seat.dispatcher.place) same ∙ ap (slice_get t.c.board.dispatchers) (sym place_is) ∙ r.triggers.dispatcher_is in
        let passed = passed_too (λ y. takes link.ring.side (looks link.ring.side y)) h.left.duo.now p r.after put.1 h.whole.core r.triggers.dispatcher r.triggers.lists there_is
        (r.triggers.event ∙ ap (triggered r.triggers.dispatcher.lists) channel_is) in
        let state : leaves_link here c.call (delivers label to (change_ring n (looks link.ring.side) s))
        ≡ change_out e (passes c.call.station) (change_ring n (takes link.ring.side)
        (change_dispatcher seat.dispatcher (triggers seat.channel) (change_end to (in_queue (joined_by label)) (change_ring n (looks link.ring.side) s)))) =
        ap (leaves_link here c.call) (delivers_is (looks link.ring.side)) in
        let after_is : h.after ≡ with_board (with_arrivals made.core comes.place r.after) (with_lists made.core.board seat.dispatcher.place r.triggers.dispatcher r.triggers.lists) =
        r.rest
        ∙ ap (λ (q : ℕ). with_board (with_arrivals t.c q r.after) h.after.board) queue_is
        ∙ ap (with_board (with_arrivals t.c comes.place r.after)) (r.triggers.board ∙ ap (λ (m : ℕ). with_lists t.c.board m r.triggers.dispatcher r.triggers.lists) place_is)
        ∙ ap (λ (k : TheCore). with_board (with_arrivals k comes.place r.after) (with_lists k.board seat.dispatcher.place r.triggers.dispatcher r.triggers.lists)) (sym same) in
        let c2 : TheCore = with_arrivals made.core comes.place r.after in
        let c3 : TheCore = with_board (with_arrivals made.core comes.place r.after) (with_lists made.core.board seat.dispatcher.place r.triggers.dispatcher r.triggers.lists) in
        let world : v2 ≡ with_core (with_core (with_ring w n h.left.duo.now) seat.dispatcher.core (with_arrivals made.core comes.place r.after)) seat.dispatcher.core
        (with_board (with_arrivals made.core comes.place r.after) (with_lists made.core.board seat.dispatcher.place r.triggers.dispatcher r.triggers.lists)) =
        h.rest
        ∙ ap (λ (k : TheCore). with_ring (with_core (with_ring w n d1) core k) n h.left.duo.now) after_is
        ∙ ap (λ (m : ℕ). with_ring (with_core (with_ring w n d1) m
        (with_board (with_arrivals made.core comes.place r.after) (with_lists made.core.board seat.dispatcher.place r.triggers.dispatcher r.triggers.lists))) n h.left.duo.now) (sym seat_here.2)
        ∙ ap (λ (ds : List TheDuo). record w {
          cores = slice_set w.cores seat.dispatcher.core
              (with_board (with_arrivals made.core comes.place r.after) (with_lists made.core.board seat.dispatcher.place r.triggers.dispatcher r.triggers.lists));
          rings = ds;
        })
        (set_twice w.rings n d1 h.left.duo.now)
        ∙ ap (λ (cs : List TheCore). record w { cores = cs; rings = slice_set w.rings n h.left.duo.now })
        (sym (set_twice w.cores seat.dispatcher.core (with_arrivals made.core comes.place r.after)
        (with_board (with_arrivals made.core comes.place r.after) (with_lists made.core.board seat.dispatcher.place r.triggers.dispatcher r.triggers.lists)))) in
        agrees_at _ _ a v2
        (follows_is (λ y. takes link.ring.side (looks link.ring.side y)) h.left.duo.now p there_is_room put.0 ∙ ap (λ (z : State). answers z forwarded) state)
        (agrees_with _ forwarded a _ v2 (sym answer) world
        (with_rings_like _ _ _ (sym (changed_twice s.rings n (takes link.ring.side) (looks link.ring.side))) passed))

    left_alone : (r : Arrives SideTakes frag to (at_side t.c h.side) moving.Full (at_side h.after h.left)) → a ≡ full
        → Agrees (follows_entry here c.call c.passing.core c.hop.way (change_ring n (looks link.ring.side) s)) a v2
    left_alone r answer =
        let comes = arrival (looks link.ring.side) d1 looked in
        let made = its (looks link.ring.side) d1 looked in
        let at : arriving r.end r.queue ≡ arriving made.place comes.place =
        some_is (arriving r.end r.queue) (arriving made.place comes.place) (sym r.at ∙ finds (looks link.ring.side) d1 looked) in
        let queue_is : r.queue ≡ comes.place = ap (λ (y : ArrivalPlace). y.queue) at in
        let before_is : r.before ≡ comes.takes.there =
        some_is r.before comes.takes.there (sym r.before_is ∙ ap (slice_get t.c.arrivals) queue_is ∙ queue_there (looks link.ring.side) d1 looked) in
        let put : QueuePutAgrees (calls_off_links s) label comes.takes.queue no_room r.after =
        law.queues (calls_off_links s) label comes.takes.queue comes.takes.there r.after no_room comes.takes.shows (no_put no_room (λ g q. absurd (cc)))
        (subst (λ (q : TheQueue). QueuePuts q no_room r.after) before_is r.puts) in
        let after_is : h.after ≡ t.c =
        r.rest
        ∙ ap (with_board (with_arrivals t.c r.queue r.after)) r.triggers
        ∙ ap (λ (qs : List TheQueue). record t.c { arrivals = qs }) (ap (slice_set t.c.arrivals r.queue) r.puts.1 ∙ set_same t.c.arrivals r.queue r.before r.before_is) in
        let ring_is : h.left.duo.now ≡ d1 = ap (λ (q : DuoSide). q.duo.now) r.left ∙ h.lent.ring in
        let world : v2 ≡ with_ring w n d1 =
        h.rest
        ∙ ap (λ (k : TheCore). with_ring (with_core (with_ring w n d1) core k) n h.left.duo.now) after_is
        ∙ ap (λ (d : TheDuo). with_ring (with_core (with_ring w n d1) core t.c) n d) ring_is
        ∙ ap (λ (ds : List TheDuo). record w { cores = slice_set w.cores core t.c; rings = ds }) (set_twice w.rings n d1 d1)
        ∙ ap (λ (cs : List TheCore). record w { cores = cs; rings = slice_set w.rings n d1 }) (set_same w.cores core t.c t.c_is) in
        agrees_at _ _ a v2 (follows_is (looks link.ring.side) d1 looked none_free put.0) (agrees_with _ full a _ v2 (sym answer) world looked)

    by_result : (r : Result Moving LinkReceiveFault) → ArrivesAt SideTakes (inbound l frag to) (at_side t.c h.side) r (at_side h.after h.left) → IsMoved r a
        → Agrees (follows_entry here c.call c.passing.core c.hop.way (change_ring n (looks link.ring.side) s)) a v2
    by_result (Ok moving.Moved) does answer = arrived does answer
    by_result (Ok moving.Full) does answer = left_alone does answer
    by_result (Ok moving.Spent) does answer =
        absurd (let comes = arrival (looks link.ring.side) d1 looked in
        let made = its (looks link.ring.side) d1 looked in
        let at : arriving does.end does.queue ≡ arriving made.place comes.place =
        some_is (arriving does.end does.queue) (arriving made.place comes.place) (sym does.at ∙ finds (looks link.ring.side) d1 looked) in
        let queue_is : does.queue ≡ comes.place = ap (λ (y : ArrivalPlace). y.queue) at in
        let before_is : does.before ≡ comes.takes.there =
        some_is does.before comes.takes.there (sym does.before_is ∙ ap (slice_get t.c.arrivals) queue_is ∙ queue_there (looks link.ring.side) d1 looked) in
        law.queues (calls_off_links s) label comes.takes.queue comes.takes.there does.after spent comes.takes.shows (no_put spent (λ g q. absurd (cc)))
        (subst (λ (q : TheQueue). QueuePuts q spent does.after) before_is does.puts))
    by_result (Err fault.Misrouted) does answer =
        absurd (let made = its (looks link.ring.side) d1 looked in
        let comes = arrival (looks link.ring.side) d1 looked in
        let u : None ≡ Some (arriving made.place comes.place) = sym does.0 ∙ finds (looks link.ring.side) d1 looked in cc)
    by_result (Err other) does answer = absurd does

    pub arrives_agree : Agrees (follows_entry here c.call c.passing.core c.hop.way (change_ring n (looks link.ring.side) s)) a v2
    arrives_agree = let (r, does, answer) = h.event in by_result r does answer
