-- The channel of an end of a circuit is registered over its arrival queue.
use Rattle.std.proofs.Common.{◌≡◌, ◌⊎◌, inl, inr, refl, sym, ◌∙◌, ap, subst, ℕ, suc, ◌<◌, nat_lt, Bool, true, false, if◌then◌else◌, List, [], ◌∷◌, length, map, slice_get, Option, Some, None, Result, Ok, Err, arith}
use Rattle.std.specs.Prelude.{is_some, IsSome}
use Rattle.std.proofs.lemmas.List.{length-map}
use Rattle.fl_base.specs.declared.fragment.Frag.{Frag}
use Rattle.fl_base.specs.declared.identity.EndId.{EndId}
use Rattle.fl_base.specs.Given.{given}
use Rattle.fl_lists.specs.declared.place.Place.{Place}
use Rattle.fl_lists.specs.declared.place.Place.TheVariants.{Idle, Polled, Pending}
use Rattle.fl_lists.specs.ThreeLists.{ThreeLists, pushed}
use Rattle.fl_waitset.specs.Waiting.{is_registered}
use Rattle.fl_link.specs.Looks.{Look, saw, saw_ack, missed}
use Rattle.fl_link.specs.Queue.{TheQueue, QueueTakes, front_of}
use Rattle.fl_core.specs.declared.kind.ChannelKind.{ChannelKind}
use Rattle.fl_core.specs.declared.kind.ChannelKind.TheVariants as kind
use Rattle.fl_core.specs.declared.board_fault.BoardFault.{BoardFault}
use Rattle.fl_core.specs.declared.board_fault.BoardFault.TheVariants as fault
use Rattle.fl_core.specs.BoardView.{TheBoard, TheDispatcher, TheEndAtChannel, with_lists}
use Rattle.fl_core.specs.BoardEvents.{Registers}
use Rattle.fl_core.specs.BoardTurns.{WaitsIn, lent, over}
use Rattle.fl_core.specs.declared.wiring.EndWiring.{EndWiring}
use Rattle.fl_core.specs.declared.wiring.WiredEnd.{WiredEnd}
use Rattle.fl_core.specs.View.{TheCore, kind_of, with_board}
use Rattle.fl_core.specs.Sound.{kinds_seated, kinds_wired}
use Rattle.fl_core.specs.Ends.{RegistersAt}
use Rattle.fl_model.specs.Rings.{Label}
use Rattle.fl_model.specs.Ends.{Queue, Seat, End}
use Rattle.fl_model.specs.Waits.{Dispatcher, waits_in, registers}
use Rattle.fl_model.specs.Monitors.{Core}
use Rattle.fl_model.specs.State.{State, core_of, dispatcher_of, end_of, end_in, change_dispatcher, registers_end}
use Rattle.fl_model_laws.proofs.ListingStep.{end_at as end_with}
use Rattle.fl_world_refines.specs.Fragments.{Streams, frag_of, standing, calls_off_links}
use Rattle.fl_world_refines.specs.Queues.{QueueShows}
use Rattle.fl_world_refines.specs.View.{TheWorld, with_core}
use Rattle.fl_world_refines.specs.ShowsState.{ShowsState, CoreShows}
use Rattle.fl_world_refines.proofs.Frames.{Stands, ListsFrame}
use Rattle.fl_world_refines.proofs.PassingArrivals.{Arrival}
use Rattle.fl_world_refines.proofs.PassingLinkSides.{some_too, mapped_get}
use Rattle.fl_world_refines.proofs.PassingLists.{some_is, given_is}

-- ---- where the channel waits

-- as many fragments stand in the queue as labels
as_many : (streams : Streams) (q : Queue) (t : TheQueue) → QueueShows streams q t → length t.items ≡ length q.labels
as_many streams q t h =
    sym (length-map t.items standing) ∙ ap (λ (xs : List (Option Frag)). length xs) h.frags ∙ length-map q.labels (frag_of streams)

waits_by : (items : List Frag) (labels : List Label) (capacity : ℕ) → length items ≡ length labels → (to : Place) (t : TheQueue) → t.items ≡ items → WaitsIn QueueTakes kind.Queue t to t
    → to ≡ waits_in (Some (record { labels = labels; capacity = capacity }))
waits_by items labels capacity n Polled t e h = absurd h
waits_by [] [] capacity n Idle t e h = refl
waits_by [] (l ∷ ls) capacity n to t e h = absurd (let q : 0 ≡ length (l ∷ ls) = n in omega arith)
waits_by (f ∷ fs) [] capacity n to t e h = absurd (let q : length (f ∷ fs) ≡ 0 = n in omega arith)
waits_by [] [] capacity n Pending t e h = elim h [
  | inl (f, k) ↦ absurd (let u : missed ≡ saw f = sym (ap front_of e) ∙ k.0 in cc)
  | inr k ↦ absurd (let u : missed ≡ saw_ack = sym (ap front_of e) ∙ k.0 in cc)
]
waits_by (f ∷ fs) (l ∷ ls) capacity n Idle t e h = absurd (let u : [] ≡ f ∷ fs = sym h.0 ∙ e in cc)
waits_by (f ∷ fs) (l ∷ ls) capacity n Pending t e h =
    let some : nat_lt 0 (length (l ∷ ls)) ≡ true = Rattle.fl_world_refines.proofs.Tests.lt_true 0 (length (l ∷ ls)) (omega arith) in
    sym (ap (λ (b : Bool). if b then Pending else Idle) some)

-- ---- an end that has just been bound

module _ (frame : ListsFrame) (w : TheWorld) (s : State) (e : EndId) (n place : ℕ) (h : Stands w s e n place) (p : ShowsState w s)
    (arrival : Arrival w h.core s e h.binding h.wired_end) (kinds : kinds_seated h.core.board.seats ≡ kinds_wired h.core.wired_ends) (bound : IsSome h.at.end.circuit)
    (free : (y : Dispatcher) → dispatcher_of s h.seat.dispatcher ≡ Some y → is_registered y.lists h.seat.channel ≡ false) where
  its_end : end_of s e ≡ Some (end_in e.side h.binding)
  its_end = end_with s e h.binding h.binding_is

  -- how fragments come to it
  kind_is : (seat : TheEndAtChannel) → slice_get h.core.board.seats place ≡ Some seat → seat.kind ≡ kind.Queue
  kind_is seat q =
      some_is seat.kind (kind_of h.wired_end.wiring)
      (sym (mapped_get (λ (x : TheEndAtChannel). x.kind) h.core.board.seats place seat q)
      ∙ ap (λ (ks : List ChannelKind). slice_get ks place) kinds
      ∙ mapped_get (λ (x : WiredEnd). kind_of x.wiring) h.core.wired_ends place h.wired_end h.wired_end_is)
      ∙ ap kind_of arrival.wiring

  module _ (board : TheBoard) (answer : Result (Unit {0}) BoardFault) (r : RegistersAt QueueTakes place (over h.core.board arrival.takes.there) answer (over board arrival.takes.there)) where
    seat_is : r.seat ≡ h.at
    seat_is = some_is r.seat h.at (sym r.seat_is ∙ h.at_is)

    at_dispatcher : r.seat.dispatcher ≡ h.seat.dispatcher.place
    at_dispatcher = ap (λ (x : TheEndAtChannel). x.dispatcher) seat_is ∙ h.dispatcher

    at_channel : r.seat.channel ≡ h.seat.channel
    at_channel = ap (λ (x : TheEndAtChannel). x.channel) seat_is ∙ h.channel

    there_is : slice_get h.core.board.dispatchers h.seat.dispatcher.place ≡ Some r.dispatcher
    there_is = ap (slice_get h.core.board.dispatchers) (sym at_dispatcher) ∙ r.dispatcher_is

    core_here : (k : Core) × (core_of s h.seat.dispatcher.core ≡ Some k)
    core_here = some_too s.cores w.cores h.seat.dispatcher.core h.core (sym p.cores.count) (ap (slice_get w.cores) h.core_at ∙ h.core_is)

    shown : CoreShows core_here.0 h.core
    shown = p.cores.each h.seat.dispatcher.core core_here.0 h.core core_here.1 (ap (slice_get w.cores) h.core_at ∙ h.core_is)

    its : (y : Dispatcher) × (slice_get core_here.0.dispatchers h.seat.dispatcher.place ≡ Some y)
    its = some_too core_here.0.dispatchers h.core.board.dispatchers h.seat.dispatcher.place r.dispatcher (sym shown.count) there_is

    its_is : dispatcher_of s h.seat.dispatcher ≡ Some its.0
    its_is = given_is (core_of s h.seat.dispatcher.core) None _ core_here.0 core_here.1 ∙ its.1

    same_lists : r.dispatcher.lists ≡ its.0.lists
    same_lists = (shown.dispatchers h.seat.dispatcher.place its.0 r.dispatcher its.1 there_is).lists

    not_there : is_registered r.dispatcher.lists r.seat.channel ≡ false
    not_there = ap (λ (ls : ThreeLists). is_registered ls r.seat.channel) same_lists ∙ ap (is_registered its.0.lists) at_channel ∙ free its.0 its_is

    machine_is : registers_end e s ≡ change_dispatcher h.seat.dispatcher (registers h.seat.channel (waits_in (end_in e.side h.binding).queue)) s
    machine_is = given_is (end_of s e) _ _ (end_in e.side h.binding) its_end ∙ given_is (end_in e.side h.binding).seat _ _ h.seat h.seat_is

    by_answer : (a : Result (Unit {0}) BoardFault) → Registers QueueTakes r.seat (lent r.dispatcher.lists arrival.takes.there) a (lent r.lists arrival.takes.there)
        → r.lists ≡ pushed its.0.lists h.seat.channel (waits_in (end_in e.side h.binding).queue)
    by_answer (Ok done) event =
        let (to, waits, is) = event.1.1 in
        let by_queue : WaitsIn QueueTakes kind.Queue arrival.takes.there to arrival.takes.there =
        subst (λ (k : ChannelKind). WaitsIn QueueTakes k arrival.takes.there to arrival.takes.there) (kind_is r.seat r.seat_is) waits in
        let place_is : to ≡ waits_in (end_in e.side h.binding).queue =
        waits_by arrival.takes.there.items arrival.takes.queue.labels arrival.takes.queue.capacity (as_many (calls_off_links s) arrival.takes.queue arrival.takes.there arrival.takes.shows) to arrival.takes.there refl by_queue
        ∙ ap waits_in (sym arrival.takes.queue_is) in
        is ∙ ap (λ (ls : ThreeLists). pushed ls r.seat.channel to) same_lists ∙ ap (λ (c : ℕ). pushed its.0.lists c to) at_channel ∙ ap (pushed its.0.lists h.seat.channel) place_is
    by_answer (Err fault.Registered) event = absurd (let u : false ≡ true = sym not_there ∙ event.1.0 in cc)
    by_answer (Err fault.NotBound) event =
        absurd (let u : false ≡ true = sym (ap is_some event.0) ∙ ap (λ (x : TheEndAtChannel). is_some x.end.circuit) seat_is ∙ bound in cc)
    by_answer (Err fault.Failed) event =
        absurd (let u : false ≡ true = sym h.shows.failed ∙ sym (ap (λ (x : TheEndAtChannel). x.end.failed) seat_is) ∙ event.0.1 in cc)
    by_answer (Err other) event = absurd event

    pub registered : ShowsState (with_core w n (with_board h.core board)) (registers_end e s)
    registered =
        subst (ShowsState (with_core w n (with_board h.core board))) (sym machine_is)
        (subst (λ (b : TheBoard). ShowsState (with_core w n (with_board h.core b)) (change_dispatcher h.seat.dispatcher (registers h.seat.channel (waits_in (end_in e.side h.binding).queue)) s))
        (ap (λ (m : ℕ). with_lists h.core.board m r.dispatcher r.lists) (sym at_dispatcher) ∙ sym r.board)
        (subst (λ (m : ℕ). ShowsState (with_core w m (with_board h.core (with_lists h.core.board h.seat.dispatcher.place r.dispatcher r.lists)))
        (change_dispatcher h.seat.dispatcher (registers h.seat.channel (waits_in (end_in e.side h.binding).queue)) s)) h.core_at
        (frame w s h.seat.dispatcher h.core r.dispatcher its.0 (registers h.seat.channel (waits_in (end_in e.side h.binding).queue)) r.lists p (ap (slice_get w.cores) h.core_at ∙ h.core_is)
        there_is its_is refl (by_answer answer r.event))))
