-- The server's end of a circuit comes to its dispatcher, as it was kept: the world goes on showing the machine's state.
use Rattle.std.proofs.Common.{◌≡◌, ◌≢◌, refl, sym, ◌∙◌, ap, subst, ℕ, ◌⊎◌, inl, inr, [], ◌∷◌, ◌++◌, length, slice_get, slice_set, Some, None, arith}
use Rattle.fl_base.specs.declared.identity.EndId.{EndId}
use Rattle.fl_base.specs.declared.identity.LinkId.{LinkId}
use Rattle.fl_base.specs.declared.identity.Side.{Side}
use Rattle.fl_base.specs.declared.identity.Side.TheVariants.{Client, Server}
use Rattle.fl_base.specs.Prefix.{IsPrefix}
use Rattle.fl_base.specs.Given.{given}
use Rattle.fl_hop.proofs.Entering.{same_or}
use Rattle.fl_hop.proofs.Lists.{set_cases, set_here, push_keeps, push_cases}
use Rattle.fl_endpoint.specs.View.{TheEnd}
use Rattle.fl_core.specs.BoardView.{TheBoard, TheDispatcher, TheEndAtChannel, with_new_end}
use Rattle.fl_core.specs.declared.kind.ChannelKind.TheVariants.{Queue as QueueKind}
use Rattle.fl_core.specs.View.{TheCore, new_arrivals, side_of_link, with_wired_end, circuit_wired_end, with_circuit_wired_end}
use Rattle.fl_core.specs.Sound.{IsCore}
use Rattle.fl_core.specs.declared.wiring.EndWiring.{EndWiring}
use Rattle.fl_core.specs.declared.wiring.EndWiring.TheVariants.{Queues, Ring as OverRing, Circuit}
use Rattle.fl_core.specs.declared.wiring.WiredEnd.{WiredEnd}
use Rattle.fl_model.specs.Given.{changed_at}
use Rattle.fl_model.specs.Events.{DispatcherId}
use Rattle.fl_model.specs.Calls.{Planned}
use Rattle.fl_model.specs.Ends.{Seat, End}
use Rattle.fl_model.specs.Waits.{Dispatcher, with_end}
use Rattle.fl_model.specs.Monitors.{Core}
use Rattle.fl_model.specs.State.{over_ring, over_route, Route, Binding, State, binding_of, interface_of, end_of, end_in, with_end_in}
use Rattle.fl_model.specs.State.{outlet_by, ring_side}
use Rattle.fl_model.specs.Making.{count_dispatchers}
use Rattle.fl_model.specs.Binding.{end_id, arrival_queue}
use Rattle.fl_model.specs.Keeping.{KeepsBinding, KeepsCalls}
use Rattle.fl_world_refines.specs.Fragments.{calls_off_links}
use Rattle.fl_world_refines.specs.FragmentLaws.{SameFragments}
use Rattle.fl_world_refines.specs.Ends.{EndShows}
use Rattle.fl_world_refines.proofs.Carried.{labels_stay}
use Rattle.fl_world_refines.proofs.Standing.{new_show}
use Rattle.fl_model_laws.proofs.BindingWalk.{end_there}
use Rattle.fl_model_laws.proofs.Ready.{get_last}
use Rattle.fl_model_laws.proofs.Replies.{length_changed}
use Rattle.fl_model_laws.proofs.Small.{length_set}
use Rattle.fl_world_refines.specs.declared.binding.Binding.{Binding as TheBinding}
use Rattle.fl_world_refines.specs.View.{TheWorld, core_in, side_at, with_core, with_binding}
use Rattle.fl_world_refines.specs.ShowsState.{wiring_of, CoreShows, TakesFrom, IsWiring, IsMade, SitsAt, EndsShow, BindingShows, BindingsShow, RingsShow, IsSilent, ShowsState}
use Rattle.fl_world_refines.proofs.FramesBase.{outlets_same}
use Rattle.fl_world_refines.proofs.FramesWhole.{prefix_same}
use Rattle.fl_world_refines.proofs.MakingBase.{some_is, same_found}
use Rattle.fl_world_refines.proofs.MakingGrows.{CoresGrow, cores_same, cores_set, ring_between, Grows, made_grows, rings_grow, binding_grows}
use Rattle.fl_world_refines.proofs.MakingCores.{AllShow, all_of, shows_set, shows_of, how_many, count_more}
use Rattle.fl_world_refines.proofs.MakingDispatchers.{same_rings}
use Rattle.fl_world_refines.proofs.JoiningCores.{seated, new_seat, core_shows_more, seats_more, Longer, grows_of}
use Rattle.fl_world_refines.proofs.JoiningEnds.{is_even}
use Rattle.fl_world_refines.proofs.JoiningStages.{at_dispatcher, sits_at, sat}
use Rattle.fl_world_refines.proofs.PassingLists.{get_changed, get_changed_apart}

-- ---- what is known of it

-- binding n is over a route, and its server's end isn't at a core yet: this end of the service's dispatcher is to come there, over this link
pub record Comes (w : TheWorld) (s : State) (n : ℕ) (d : DispatcherId) (l : LinkId) (t : TheEnd) : Type 0 where
  pub binding : Binding
  pub binding_is : slice_get s.bindings n ≡ Some binding
  pub route : Route
  pub back : binding.back ≡ over_route route
  pub away : binding.server.seat ≡ None
  pub queue : binding.server.queue ≡ Some arrival_queue
  pub interface : Planned
  pub interface_is : interface_of s binding ≡ Some interface
  pub shows : EndShows interface binding.server binding.client.out t
  pub kept : TheBinding
  pub kept_is : slice_get w.bindings n ≡ Some kept
  pub server : kept.server ≡ d.core
  pub k : Core
  pub k_is : slice_get s.cores d.core ≡ Some k
  pub core : TheCore
  pub core_is : slice_get w.cores d.core ≡ Some core
  pub whole : IsCore core
  pub dispatcher : Dispatcher
  pub dispatcher_is : slice_get k.dispatchers d.place ≡ Some dispatcher
  pub listed : TheDispatcher
  pub listed_is : slice_get core.board.dispatchers d.place ≡ Some listed
  pub side : ℕ
  pub side_is : side_of_link core.link_sides l.0 ≡ Some side
  pub outlet : outlet_by s Server binding.back ≡ Some (ring_side (side_at side))

abbrev pub board_with : TheCore → ℕ → TheDispatcher → TheEnd → TheBoard
board_with c place x t = with_new_end c.board place x t QueueKind

-- the core with the server's end of binding n at a dispatcher's place
abbrev pub core_with : TheCore → ℕ → TheDispatcher → TheEnd → ℕ → LinkId → TheCore
core_with c place x t n l = with_circuit_wired_end c (board_with c place x t) (length c.board.seats) (end_id n Server) l

abbrev pub closed : TheBinding → TheBinding
closed b = record b { unmade = None }

-- ---- the end comes there

module _ (w : TheWorld) (s : State) (n : ℕ) (d : DispatcherId) (l : LinkId) (t : TheEnd) (p : ShowsState w s) (h : Comes w s n d l t)
    (after : IsCore (core_with h.core d.place h.listed t n l)) where
  abbrev pub e : EndId
  e = end_id n Server

  abbrev ec : EndId
  ec = end_id n Client

  abbrev b : Binding
  b = h.binding

  abbrev pub made_core : TheCore
  made_core = core_with h.core d.place h.listed t n l

  abbrev pub wired_end : WiredEnd
  wired_end = circuit_wired_end e l (length h.core.arrivals)

  abbrev pub seat : TheEndAtChannel
  seat = new_seat t d.place (length h.dispatcher.ends) QueueKind

  abbrev pub sits : Seat
  sits = sits_at d h.dispatcher

  -- the binding as it is then
  abbrev pub now : Binding
  now = record b { server = record b.server { seat = Some sits } }

  abbrev pub world : TheWorld
  world = with_binding (with_core w d.core made_core) n (closed h.kept)

  abbrev pub state : State
  state = record s { cores = at_dispatcher d (with_end e) s.cores; bindings = changed_at n (with_end_in Server (sat d h.dispatcher)) s.bindings }

  -- ---- bindings

  pub here : slice_get state.bindings n ≡ Some now
  here = get_changed s.bindings n (with_end_in Server (sat d h.dispatcher)) b h.binding_is

  others : (m : ℕ) → m ≢ n → slice_get state.bindings m ≡ slice_get s.bindings m
  others m q = get_changed_apart s.bindings n m (with_end_in Server (sat d h.dispatcher)) (λ r. q (sym r))

  now_is : (m : ℕ) (y : Binding) → m ≡ n → slice_get state.bindings m ≡ Some y → now ≡ y
  now_is m y a q = some_is now y (sym here ∙ ap (slice_get state.bindings) (sym a) ∙ q)

  accepted : (side : Side) → IsPrefix (end_in side b).out.accepted (end_in side now).out.accepted
  accepted Client = prefix_same b.client.out.accepted
  accepted Server = prefix_same b.server.out.accepted

  kept_on : (f : EndId) (y : Binding) → binding_of s f ≡ Some y → (f.binding ≡ n) ⊎ (f.binding ≢ n) → KeepsBinding state f y
  kept_on f y q (inr a) = record {
    now = y;
    there = others f.binding a ∙ q;
    interface = refl;
    numbers = λ route r. (route, r, λ c j m u. u);
    accepted = prefix_same (end_in f.side y).out.accepted;
  }
  kept_on f y q (inl a) =
      let same : y ≡ b = some_is y b (sym q ∙ ap (slice_get s.bindings) a ∙ h.binding_is) in
      subst (KeepsBinding state f) (sym same) (record {
        now = now;
        there = ap (slice_get state.bindings) a ∙ here;
        interface = refl;
        numbers = λ route r. (route, r, λ c j m u. u);
        accepted = accepted f.side;
      })

  keeps : KeepsCalls s state
  keeps = record { interfaces = λ m j q. q; bindings = λ f y q. kept_on f y q (same_or f.binding n) }

  fragments : SameFragments s state
  fragments = labels_stay s state keeps

  -- ---- the core

  shown : CoreShows h.k h.core
  shown = p.cores.each d.core h.k h.core h.k_is h.core_is

  even : length h.core.board.seats ≡ length h.core.wired_ends
  even = is_even h.core h.whole

  seats_are : made_core.board.seats ≡ h.core.board.seats ++ seat ∷ []
  seats_are = seats_more h.k h.core d.place t wired_end h.dispatcher h.listed shown even h.dispatcher_is h.listed_is

  core_shows : CoreShows (seated d.place e h.k) made_core
  core_shows =
      let more : CoreShows (seated d.place e h.k) (with_wired_end h.core (board_with h.core d.place h.listed t) (length h.core.board.seats) wired_end) =
      core_shows_more h.k h.core d.place t wired_end h.dispatcher h.listed shown even h.dispatcher_is h.listed_is in
      record {
        monitor = record { circuits = more.monitor.circuits; outboxes = more.monitor.outboxes };
        link_sides = more.link_sides;
        count = more.count;
        dispatchers = λ m y f q r. (let was = more.dispatchers m y f q r in record { lists = was.lists; ends = was.ends });
      }

  show : AllShow state.cores world.cores
  show = shows_set s.cores w.cores d.core h.k (seated d.place e) made_core (all_of w s p.cores) h.k_is core_shows

  count : count_dispatchers state ≡ count_dispatchers s
  count =
      let same : how_many (seated d.place e h.k) ≡ how_many h.k = length_changed h.k.dispatchers d.place (with_end e) in
      let one = count_more s.cores d.core (seated d.place e) h.k 0 h.k_is (omega (arith, same)) in
      omega (arith, one)

  pub links : (a c : ℕ) → ring_between state a c ≡ ring_between s a c
  links a c = same_rings d.core (seated d.place e) s a c (λ z r. refl)

  -- ---- what grows

  abbrev New : ℕ → EndId → EndWiring → Type 0
  New m f z = (m ≡ d.core) × (f ≡ e) × (z ≡ Circuit l (length h.core.arrivals))

  longer : Longer (New d.core) h.core made_core
  longer = record {
    before = h.whole;
    after = after;
    wired_ends = λ m z q. push_keeps h.core.wired_ends (wired_end ∷ []) m z q;
    seats = λ m z q. ap (λ xs. slice_get xs m) seats_are ∙ push_keeps h.core.board.seats (seat ∷ []) m z q;
    link_sides = refl;
    arrivals = λ m z q. push_keeps h.core.arrivals (new_arrivals ∷ []) m z q;
    back = λ m z q. elim (push_cases h.core.wired_ends wired_end m z q) [
      | inl a ↦ inl a
      | inr a ↦ inr (refl, ap (λ (v : WiredEnd). v.name) a.1, ap (λ (v : WiredEnd). v.wiring) a.1)
    ];
  }

  cores_grow : CoresGrow New w.cores (slice_set w.cores d.core made_core)
  cores_grow = cores_set New w.cores w.cores d.core h.core made_core (cores_same New w.cores) h.core_is h.core_is (grows_of (New d.core) h.core made_core longer)

  grows : Grows New w world s state
  grows = record { cores = cores_grow; queues = λ m q r. r; links = λ a c at r. links a c ∙ r; fragments = fragments }

  -- ---- the new end

  pub core_now : slice_get world.cores d.core ≡ Some made_core
  core_now = set_here w.cores d.core h.core made_core h.core_is

  pub wired_end_is : slice_get made_core.wired_ends (length h.core.board.seats) ≡ Some wired_end
  wired_end_is = ap (slice_get made_core.wired_ends) even ∙ get_last h.core.wired_ends wired_end

  pub seat_is : slice_get made_core.board.seats (length h.core.board.seats) ≡ Some seat
  seat_is = ap (λ xs. slice_get xs (length h.core.board.seats)) seats_are ∙ get_last h.core.board.seats seat

  pub seated_shows : EndShows h.interface now.server now.client.out t
  seated_shows = record {
    program = h.shows.program;
    circuit = h.shows.circuit;
    rules = h.shows.rules;
    outgoing = h.shows.outgoing;
    parts = h.shows.parts;
    failed = h.shows.failed;
  }

  abbrev pub takes : TakesFrom made_core.arrivals state now.server (length h.core.arrivals)
  takes = record {
    queue = arrival_queue;
    queue_is = h.queue;
    there = new_arrivals;
    there_is = get_last h.core.arrivals new_arrivals;
    shows = new_show.queue (calls_off_links state) 16;
  }

  abbrev pub new_made : IsMade world state e now h.interface sits
  new_made = record {
    core = made_core;
    core_is = core_now;
    place = length h.core.board.seats;
    place_is = after.named (length h.core.board.seats) wired_end wired_end_is;
    at = seat;
    at_is = seat_is;
    dispatcher = refl;
    channel = refl;
    shows = seated_shows;
    wired_end = wired_end;
    wired_end_is = wired_end_is;
    name_is = refl;
    wiring = ((h.side, h.side_is, outlets_same s state links Server b.back ∙ h.outlet), takes);
  }

  -- ---- all ends

  client_wiring : (core : TheCore) (z : EndWiring) → IsWiring world core state ec b z → IsWiring world core state ec now z
  client_wiring core (Queues out from) q = q
  client_wiring core (OverRing side) q = q
  client_wiring core (Circuit link a) q = q

  client_now : (j : Planned) (at : Seat) → IsMade world state ec b j at → IsMade world state ec now j at
  client_now j at m = record {
    core = m.core;
    core_is = m.core_is;
    place = m.place;
    place_is = m.place_is;
    at = m.at;
    at_is = m.at_is;
    dispatcher = m.dispatcher;
    channel = m.channel;
    shows = m.shows;
    wired_end = m.wired_end;
    wired_end_is = m.wired_end_is;
    name_is = m.name_is;
    wiring = client_wiring m.core m.wired_end.wiring m.wiring;
  }

  own_made : (side : Side) (j : Planned) (at : Seat) → interface_of s b ≡ Some j → (end_in side now).seat ≡ Some at → IsMade world state (end_id n side) now j at
  own_made Client j at r u = client_now j at (made_grows New w world s state ec b j at grows (p.ends.made ec b j at h.binding_is r u))
  own_made Server j at r u =
      subst (λ z. IsMade world state e now z at) (same_found (interface_of s b) h.interface j h.interface_is r)
      (subst (IsMade world state e now h.interface) (some_is sits at u) new_made)

  all_made : (f : EndId) (y : Binding) (j : Planned) (at : Seat) → binding_of state f ≡ Some y → interface_of state y ≡ Some j → (end_in f.side y).seat ≡ Some at
      → (f.binding ≡ n) ⊎ (f.binding ≢ n) → IsMade world state f y j at
  all_made f y j at q r u (inr a) = made_grows New w world s state f y j at grows (p.ends.made f y j at (sym (others f.binding a) ∙ q) r u)
  all_made f y j at q r u (inl a) =
      let same : now ≡ y = now_is f.binding y a q in
      let name : f ≡ end_id n f.side = ap (λ m. end_id m f.side) a in
      subst (λ g. IsMade world state g y j at) (sym name) (subst (λ z. IsMade world state (end_id n f.side) z j at) same
      (own_made f.side j at (ap (interface_of s) same ∙ r) (ap (λ (z : Binding). (end_in f.side z).seat) same ∙ u)))

  seated_still : (side : Side) (x : End) (at : Seat) → end_in side b ≡ x → x.seat ≡ Some at → end_in side now ≡ x
  seated_still Client x at q u = q
  seated_still Server x at q u = absurd (let v : None ≡ Some at = sym h.away ∙ ap (λ (y : End). y.seat) q ∙ u in cc)

  sits_on : (f : EndId) (m : ℕ) → SitsAt s f m → (f.binding ≡ n) ⊎ (f.binding ≢ n) → SitsAt state f m
  sits_on f m q (inr a) = (q.0, (q.1.0, ap (λ o. given o None (λ (y : Binding). Some (end_in f.side y))) (others f.binding a) ∙ q.1.1, q.1.2, q.1.3))
  sits_on f m q (inl a) =
      let (y, at, is) = end_there s f q.0 q.1.1 in
      let same : y ≡ b = some_is y b (sym at ∙ ap (slice_get s.bindings) a ∙ h.binding_is) in
      let still : end_in f.side now ≡ q.0 = seated_still f.side q.0 q.1.0 (ap (end_in f.side) (sym same) ∙ is) q.1.2 in
      (q.0, (q.1.0, ap (λ o. given o None (λ (y : Binding). Some (end_in f.side y))) (ap (slice_get state.bindings) a ∙ here) ∙ ap (λ z. Some z) still, q.1.2, q.1.3))

  new_sits : (m : ℕ) (f : EndId) (z : EndWiring) → New m f z → SitsAt state f m
  new_sits m f z q =
      (now.server, (sits, (ap (λ v. end_of state v) q.1 ∙ ap (λ o. given o None (λ (v : Binding). Some v.server)) here), refl, sym q.0))

  ends_show : EndsShow world state
  ends_show = record {
    made = λ f y j at q r u. all_made f y j at q r u (same_or f.binding n);
    only = λ m c f place q r. (let (c0, at, g) = cores_grow.back m c q in elim (g.back f place r) [
      | inl a ↦ sits_on f m (p.ends.only m c0 f place at a) (same_or f.binding n)
      | inr a ↦ new_sits m f a.0 a.1
    ]);
    apart = λ a m c c2 f g x y q ct c2t wf wg.
        (let (c0, at, grow) = cores_grow.back a c ct in
        let (c1, bt, grow2) = cores_grow.back m c2 c2t in
        both a m c0 c1 f g x y q at bt (grow.wirings f (Queues x q) wf) (grow2.wirings g (Queues y q) wg));
  }
    where
      both : (a m : ℕ) (c c2 : TheCore) (f g : EndId) (x y q : ℕ) → slice_get w.cores a ≡ Some c → slice_get w.cores m ≡ Some c2
          → (wiring_of c f ≡ Some (Queues x q)) ⊎ New a f (Queues x q) → (wiring_of c2 g ≡ Some (Queues y q)) ⊎ New m g (Queues y q) → f ≡ g
      both a m c c2 f g x y q at bt (inl u) (inl v) = p.ends.apart a m c c2 f g x y q at bt u v
      both a m c c2 f g x y q at bt (inr u) v = absurd (let r : Queues x q ≡ Circuit l (length h.core.arrivals) = u.2 in cc)
      both a m c c2 f g x y q at bt (inl u) (inr v) = absurd (let r : Queues y q ≡ Circuit l (length h.core.arrivals) = v.2 in cc)

  -- ---- all bindings

  now_shows : BindingShows state n now (closed h.kept)
  now_shows =
      let was = p.bindings.each n b h.kept h.binding_is h.kept_is in
      record {
        interface = was.interface;
        seated = λ f at q u. by f.side at u;
        routed = was.routed;
        offered = was.offered;
        unmade = λ j q none. absurd (let v : Some sits ≡ None = none in cc);
      }
    where
      by : (side : Side) (at : Seat) → (end_in side now).seat ≡ Some at → core_in side (closed h.kept) ≡ at.dispatcher.core
      by Client at u = (p.bindings.each n b h.kept h.binding_is h.kept_is).seated ec at refl u
      by Server at u = h.server ∙ ap (λ (z : Seat). z.dispatcher.core) (some_is sits at u)

  its_silent : (side : Side) → (end_in side now).circuit ≡ None → IsSilent (end_in side now).out
  its_silent Client q = p.bindings.silent ec b.client (ap (λ o. given o None (λ (y : Binding). Some y.client)) h.binding_is) q
  its_silent Server q = p.bindings.silent e b.server (ap (λ o. given o None (λ (y : Binding). Some y.server)) h.binding_is) q

  all_silent : (f : EndId) (x : End) → end_of state f ≡ Some x → x.circuit ≡ None → (f.binding ≡ n) ⊎ (f.binding ≢ n) → IsSilent x.out
  all_silent f x q none (inr a) = p.bindings.silent f x (ap (λ o. given o None (λ (y : Binding). Some (end_in f.side y))) (sym (others f.binding a)) ∙ q) none
  all_silent f x q none (inl a) =
      let (y, at, is) = end_there state f x q in
      let same : end_in f.side now ≡ x = ap (end_in f.side) (now_is f.binding y a at) ∙ is in
      subst (λ (z : End). z.circuit ≡ None → IsSilent z.out) same (its_silent f.side) none

  bindings_show : BindingsShow world state
  bindings_show = record {
    count = length_set w.bindings n (closed h.kept) ∙ p.bindings.count ∙ sym (length_changed s.bindings n (with_end_in Server (sat d h.dispatcher)));
    each = λ m y z q r. elim (set_cases w.bindings n (closed h.kept) m z r) [
      | inl a ↦ subst (λ k. BindingShows state k y z) (sym a.0) (subst (BindingShows state n y) (sym a.1)
          (subst (λ v. BindingShows state n v (closed h.kept)) (now_is m y a.0 q) now_shows))
      | inr a ↦ binding_grows s state m y z (λ route x u v. v) (λ j u. u) (p.bindings.each m y z (sym (others m a.0) ∙ q) a.1)
    ];
    silent = λ f x q none. all_silent f x q none (same_or f.binding n);
  }

  rings_show : RingsShow world state
  rings_show = rings_grow w world s state (record {
    count = p.rings.count;
    rings = λ m r u q v. inl (q, v);
    links = λ a c at q. inl (sym (links a c) ∙ q);
    joined = λ m r y q u. elim (same_or m n) [
      | inl a ↦ absurd (let v : over_route h.route ≡ over_ring r = sym h.back ∙ ap (λ (z : Binding). z.back) (now_is m y a q) ∙ u in cc)
      | inr a ↦ inl (sym (others m a) ∙ q)
    ];
    fragments = fragments;
  }) p.rings

  -- ---- the whole

  pub came : ShowsState world state
  came = record {
    may_set_cores = p.may_set_cores;
    cores = shows_of world state show;
    dispatchers = p.dispatchers ∙ sym count;
    programs = p.programs;
    limits = p.limits;
    names = p.names;
    rings = rings_show;
    bindings = bindings_show;
    ends = ends_show;
  }
