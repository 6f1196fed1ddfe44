-- A binding on two cores: its two ends are joined by a ring.
use Rattle.std.proofs.Common.{◌≡◌, ◌≢◌, refl, sym, ◌∙◌, ap, subst, ℕ, zero, suc, ◌+◌, ◌*◌, ◌⊎◌, inl, inr, List, [], ◌∷◌, ◌++◌, length, slice_get, slice_set, Some, None, arith}
use Rattle.fl_base.specs.declared.identity.EndId.{EndId}
use Rattle.fl_base.specs.declared.identity.Side.{Side}
use Rattle.fl_base.specs.declared.identity.Side.TheVariants.{Client, Server}
use Rattle.fl_base.specs.Given.{given}
use Rattle.fl_hop.proofs.Lists.{set_here, set_there, push_keeps, push_cases, within}
use Rattle.fl_lists.specs.declared.place.Place.TheVariants.{Polled}
use Rattle.fl_ring.specs.Duo.{TheDuo}
use Rattle.fl_ring.specs.Side.{SideTakes}
use Rattle.fl_compile.specs.declared.program.Program.{Program}
use Rattle.fl_endpoint.specs.View.{fresh}
use Rattle.fl_core.specs.BoardView.{TheEndAtChannel}
use Rattle.fl_core.specs.declared.kind.ChannelKind.TheVariants.{Ring as RingKind}
use Rattle.fl_core.specs.View.{TheCore, client_of, server_of}
use Rattle.fl_core.specs.declared.wiring.EndWiring.{EndWiring}
use Rattle.fl_core.specs.declared.wiring.EndWiring.TheVariants.{Queues, Ring as OverRing}
use Rattle.fl_core.specs.declared.wiring.WiredEnd.{WiredEnd}
use Rattle.fl_model.specs.Given.{changed_at}
use Rattle.fl_model.specs.Events.{DispatcherId}
use Rattle.fl_model.specs.Calls.{Planned}
use Rattle.fl_model.specs.Rings.{Ring, first_side, second_side, fresh_ring}
use Rattle.fl_model.specs.Ends.{Seat}
use Rattle.fl_model.specs.Waits.{Dispatcher, with_end, registers}
use Rattle.fl_model.specs.Monitors.{Core, Service}
use Rattle.fl_model.specs.State.{over_ring, Binding, State, end_of, end_in}
use Rattle.fl_model.specs.Making.{count_dispatchers}
use Rattle.fl_model.specs.Binding.{BindByNames, end_id, with_new_binding, binds_both}
use Rattle.fl_model.specs.Sound.{Sound}
use Rattle.fl_world_refines.specs.Ends.{planned_of}
use Rattle.fl_model_laws.proofs.OpeningsMoves.{changed_twice}
use Rattle.fl_model_laws.proofs.Places.{changed_other}
use Rattle.fl_model_laws.proofs.PlacesStep.{length_push}
use Rattle.fl_model_laws.proofs.Ready.{get_last}
use Rattle.fl_model_laws.proofs.Replies.{length_changed}
use Rattle.fl_model_laws.proofs.Views.{changed_later}
use Rattle.fl_world_refines.specs.declared.binding.Binding.{Binding as TheBinding}
use Rattle.fl_world_refines.specs.View.{TheWorld, IsWhole, core_in, with_core}
use Rattle.fl_world_refines.specs.Making.{new_duo}
use Rattle.fl_world_refines.specs.Binding.{BindingRequest, IsCopy, binding_for, end_for, JoinsSide}
use Rattle.fl_world_refines.specs.ShowsState.{IsMade, SitsAt, BindingShows, IsSilent, CoreShows, ShowsState}
use Rattle.fl_world_refines.proofs.MakingBase.{some_is, same_found}
use Rattle.fl_world_refines.proofs.MakingGrows.{CoresGrow, cores_same, cores_set, ring_between, IsNewRing}
use Rattle.fl_world_refines.proofs.MakingCores.{AllShow, all_of, core_there, shows_set, how_many, count_more}
use Rattle.fl_world_refines.proofs.MakingDispatchers.{same_rings}
use Rattle.fl_world_refines.proofs.JoiningCores.{seated, listed, new_seat, has_wired_end, Listed, core_lists, Longer, grows_of}
use Rattle.fl_world_refines.proofs.JoiningEnds.{AllFree, core_free, free_at, free_seated, ring_waits, is_even, made_at}
use Rattle.fl_world_refines.proofs.JoiningStages.{stage, at_dispatcher, dispatcher_in, sits_at, cores_joined, joined_binding, both_stage}
use Rattle.fl_world_refines.proofs.JoiningShowings.{Joins, joined_shown, fresh_bound, copied}
use Rattle.fl_world_refines.proofs.JoiningQueues.{request, wanted}

-- ---- one core

pub record Sided (want : BindingRequest) (k : Core) (c c2 : TheCore) (place : ℕ) (wired_end : WiredEnd) : Type 0 where
  pub program : Program
  pub copy : IsCopy want program
  pub dispatcher : Dispatcher
  pub there : slice_get k.dispatchers place ≡ Some dispatcher
  pub shows : CoreShows (listed place (length dispatcher.ends) Polled (seated place wired_end.name k)) c2
  pub seats : c2.board.seats ≡ c.board.seats ++ new_seat (fresh program (Some 0)) place (length dispatcher.ends) RingKind ∷ []
  pub wired_ends : c2.wired_ends ≡ c.wired_ends ++ wired_end ∷ []
  pub link_sides : c2.link_sides ≡ c.link_sides
  pub arrivals : c2.arrivals ≡ c.arrivals

sided : (want : BindingRequest) (k : Core) (c c2 : TheCore) (d : DispatcherId) (e : EndId) (m : ℕ) (ring : TheDuo) → CoreShows k c → IsWhole c → AllFree k
    → JoinsSide want (end_for d e) m ring c c2 → Sided want k c c2 d.place (record { name = e; wiring = OverRing m })
sided want k c c2 d e m ring h whole free j =
    let wired_end : WiredEnd = record { name = e; wiring = OverRing m } in
    let (at, added) = has_wired_end k c j.added d.place (fresh j.program (Some 0)) wired_end j.place h (is_even c whole.core) j.adds in
    let x = added.dispatcher in
    let seat : TheEndAtChannel = new_seat (fresh j.program (Some 0)) d.place (length x.ends) RingKind in
    let seat_is : slice_get j.added.board.seats j.place ≡ Some seat =
    ap (slice_get j.added.board.seats) at ∙ ap (λ ss. slice_get ss (length c.board.seats)) added.seats ∙ get_last c.board.seats seat in
    let on : Listed (seated d.place e k) j.added c2 d.place (length x.ends) Polled =
    core_lists SideTakes (seated d.place e k) j.added c2 j.place seat Polled j.side j.side j.answer added.shows seat_is (refl, refl)
    (free_seated d.place d.place e k (length x.ends) (free_at k d.place x free added.there)) (ring_waits SideTakes j.side) j.registers in
    record {
      program = j.program;
      copy = j.copy;
      dispatcher = x;
      there = added.there;
      shows = on.shows;
      seats = on.seats ∙ added.seats;
      wired_ends = on.wired_ends ∙ added.wired_ends;
      link_sides = on.link_sides ∙ added.link_sides;
      arrivals = on.arrivals ∙ added.arrivals;
    }

sided_longer : (want : BindingRequest) (New : EndId → EndWiring → Type 0) (k : Core) (c c2 : TheCore) (place : ℕ) (wired_end : WiredEnd) → IsWhole c → IsWhole c2 → New wired_end.name wired_end.wiring
    → Sided want k c c2 place wired_end → Longer New c c2
sided_longer want New k c c2 place wired_end whole still new h = record {
  before = whole.core;
  after = still.core;
  wired_ends = λ n p q. ap (λ xs. slice_get xs n) h.wired_ends ∙ push_keeps c.wired_ends (wired_end ∷ []) n p q;
  seats = λ n x q. ap (λ xs. slice_get xs n) h.seats ∙ push_keeps c.board.seats _ n x q;
  link_sides = h.link_sides;
  arrivals = λ n q r. ap (λ xs. slice_get xs n) h.arrivals ∙ r;
  back = λ n p q. elim (push_cases c.wired_ends wired_end n p (ap (λ xs. slice_get xs n) (sym h.wired_ends) ∙ q)) [
    | inl a ↦ inl a
    | inr a ↦ inr (subst (λ (z : WiredEnd). New z.name z.wiring) (sym a.1) new)
  ];
}

changed_swap : {X : Type 0} (f g : X → X) (xs : List X) (a b : ℕ) → a ≢ b → changed_at a f (changed_at b g xs) ≡ changed_at b g (changed_at a f xs)
changed_swap f g [] a b h = refl
changed_swap f g (x ∷ xs) zero zero h = absurd (h refl)
changed_swap f g (x ∷ xs) zero (suc b) h = ap (changed_at 0 f) (changed_later x xs b g) ∙ sym (changed_later (f x) xs b g)
changed_swap f g (x ∷ xs) (suc a) zero h = changed_later (g x) xs a f ∙ sym (ap (changed_at 0 g) (changed_later x xs a f))
changed_swap f g (x ∷ xs) (suc a) (suc b) h =
    ap (changed_at (suc a) f) (changed_later x xs b g) ∙ changed_later x (changed_at b g xs) a f
    ∙ ap (λ ys. x ∷ ys) (changed_swap f g xs a b (λ e. h (ap suc e)))
    ∙ sym (changed_later x (changed_at a f xs) b g) ∙ sym (ap (changed_at (suc b) g) (changed_later x xs a f))

-- ---- the world

module _ (client : DispatcherId) (i : ℕ) (p : Program) (planned : Planned) (service : Service) (iref size : ℕ) (w : TheWorld) (s : State)
    (sound : Sound s) (h : ShowsState w s) (interface_is : slice_get s.interfaces i ≡ Some planned) (program_is : planned_of p ≡ planned)
    (apart : client.core ≢ service.dispatcher.core) (first first_after second second_after : TheCore)
    (first_is : slice_get w.cores client.core ≡ Some first) (second_is : slice_get w.cores service.dispatcher.core ≡ Some second)
    (first_whole : IsWhole first) (first_still : IsWhole first_after) (second_whole : IsWhole second) (second_still : IsWhole second_after)
    (jc : JoinsSide (request client i p service iref) (end_for client (client_of (length s.bindings))) (2 * length w.rings) (new_duo size) first first_after)
    (js : JoinsSide (request client i p service iref) (end_for service.dispatcher (server_of (length s.bindings))) (2 * length w.rings + 1) (new_duo size) second second_after)
  where
    abbrev a : ℕ
    a = client.core

    abbrev b : ℕ
    b = service.dispatcher.core

    abbrev pc : ℕ
    pc = client.place

    abbrev ps : ℕ
    ps = service.dispatcher.place

    abbrev want : BindingRequest
    want = request client i p service iref

    abbrev m : BindByNames
    m = wanted client i planned service iref

    abbrev ec : EndId
    ec = end_id (length s.bindings) Client

    abbrev es : EndId
    es = end_id (length s.bindings) Server

    abbrev port_c : WiredEnd
    port_c = record { name = ec; wiring = OverRing (2 * length w.rings) }

    abbrev port_s : WiredEnd
    port_s = record { name = es; wiring = OverRing (2 * length w.rings + 1) }

    abbrev all : AllShow s.cores w.cores
    all = all_of w s h.cores

    abbrev k : Core
    k = (core_there s.cores w.cores a first all first_is).0

    kt : slice_get s.cores a ≡ Some k
    kt = (core_there s.cores w.cores a first all first_is).1

    abbrev l : Core
    l = (core_there s.cores w.cores b second all second_is).0

    lt : slice_get s.cores b ≡ Some l
    lt = (core_there s.cores w.cores b second all second_is).1

    pub sc : Sided want k first first_after pc port_c
    sc = sided want k first first_after client ec (2 * length w.rings) (new_duo size) (h.cores.each a k first kt first_is) first_whole
        (core_free s a k sound.waitsets kt) jc

    pub ss : Sided want l second second_after ps port_s
    ss = sided want l second second_after service.dispatcher es (2 * length w.rings + 1) (new_duo size) (h.cores.each b l second lt second_is) second_whole
        (core_free s b l sound.waitsets lt) js

    abbrev x : Dispatcher
    x = sc.dispatcher

    abbrev y : Dispatcher
    y = ss.dispatcher

    abbrev cx : ℕ
    cx = length x.ends

    abbrev cy : ℕ
    cy = length y.ends

    abbrev change_c : Core → Core
    change_c z = listed pc cx Polled (seated pc ec z)

    abbrev change_s : Core → Core
    change_s z = listed ps cy Polled (seated ps es z)

    abbrev there : TheBinding
    there = binding_for want None

    abbrev near : List TheCore
    near = slice_set w.cores a first_after

    abbrev world : TheWorld
    world = record (with_core (with_core w a first_after) b second_after) { rings = w.rings ++ new_duo size ∷ []; bindings = w.bindings ++ there ∷ [] }

    abbrev with_ring : State
    with_ring = record s { rings = s.rings ++ fresh_ring size ∷ [] }

    abbrev binding : Binding
    binding = joined_binding m (over_ring (length s.rings)) 2 None x y

    abbrev state : State
    state = stage with_ring (cores_joined with_ring m None x y) binding

    abbrev nears : List Core
    nears = changed_at a change_c s.cores

    cores_are : cores_joined with_ring m None x y ≡ changed_at b change_s nears
    cores_are =
        ap (changed_at b (listed ps cy Polled)) (changed_swap (listed pc cx Polled) (seated ps es) (changed_at a (seated pc ec) s.cores) a b apart)
        ∙ changed_twice (listed ps cy Polled) (seated ps es) (changed_at a (listed pc cx Polled) (changed_at a (seated pc ec) s.cores)) b
        ∙ ap (changed_at b change_s) (changed_twice (listed pc cx Polled) (seated pc ec) s.cores a)

    other : b ≢ a
    other e = apart (sym e)

    client_there : dispatcher_in s.cores client ≡ Some x
    client_there = ap (λ o. given o None (λ (z : Core). slice_get z.dispatchers pc)) kt ∙ sc.there

    server_there : dispatcher_in (at_dispatcher client (with_end ec) s.cores) service.dispatcher ≡ Some y
    server_there =
        ap (λ o. given o None (λ (z : Core). slice_get z.dispatchers ps)) (changed_other s.cores a b (seated pc ec) other ∙ lt) ∙ ss.there

    pub reached : binds_both (length s.bindings) m (with_new_binding m (over_ring (length s.rings)) 2 None with_ring) ≡ state
    reached = both_stage with_ring m (over_ring (length s.rings)) 2 None x y client_there server_there

    -- ---- the cores

    abbrev IsNewAt : ℕ → EndId → EndWiring → Type 0
    IsNewAt c e z = ((c ≡ a) × (e ≡ ec) × (z ≡ OverRing (2 * length w.rings))) ⊎ ((c ≡ b) × (e ≡ es) × (z ≡ OverRing (2 * length w.rings + 1)))

    second_there : slice_get near b ≡ Some second
    second_there = set_there w.cores a first_after b second second_is other

    cores : CoresGrow IsNewAt w.cores (slice_set near b second_after)
    cores = cores_set IsNewAt w.cores near b second second_after
        (cores_set IsNewAt w.cores w.cores a first first_after (cores_same IsNewAt w.cores) first_is first_is
        (grows_of (IsNewAt a) first first_after (sided_longer want (IsNewAt a) k first first_after pc port_c first_whole first_still (inl (refl, refl, refl)) sc)))
        second_is second_there
        (grows_of (IsNewAt b) second second_after (sided_longer want (IsNewAt b) l second second_after ps port_s second_whole second_still (inr (refl, refl, refl)) ss))

    l_now : slice_get nears b ≡ Some l
    l_now = changed_other s.cores a b change_c other ∙ lt

    show : AllShow (cores_joined with_ring m None x y) (slice_set near b second_after)
    show = subst (λ ks. AllShow ks (slice_set near b second_after)) (sym cores_are)
        (shows_set nears near b l change_s second_after (shows_set s.cores w.cores a k change_c first_after all kt sc.shows) l_now ss.shows)

    as_many : (z : Core) (place channel : ℕ) (e : EndId) → how_many (listed place channel Polled (seated place e z)) ≡ how_many z
    as_many z place channel e = length_changed (seated place e z).dispatchers place (registers channel Polled) ∙ length_changed z.dispatchers place (with_end e)

    count : count_dispatchers state ≡ count_dispatchers s
    count =
        let one = as_many k pc cx ec in
        let two = as_many l ps cy es in
        let near_count = count_more s.cores a change_c k 0 kt (omega (arith, one)) in
        let far_count = count_more nears b change_s l 0 l_now (omega (arith, two)) in
        let same = ap (λ ks. count_dispatchers (record s { cores = ks })) cores_are in
        omega (arith, near_count, far_count, same)

    links : (c d : ℕ) → ring_between state c d ≡ ring_between s c d
    links c d =
        ap (λ ks. ring_between (record s { cores = ks }) c d) cores_are
        ∙ same_rings b change_s (record s { cores = nears }) c d (λ z r. refl) ∙ same_rings a change_c s c d (λ z r. refl)

    rings : (c : ℕ) (r : Ring) (d : TheDuo) → slice_get state.rings c ≡ Some r → slice_get world.rings c ≡ Some d
        → ((slice_get s.rings c ≡ Some r) × (slice_get w.rings c ≡ Some d)) ⊎ IsNewRing r d
    rings c r d u v = both (push_cases s.rings (fresh_ring size) c r u) (push_cases w.rings (new_duo size) c d v)
      where
        both : (slice_get s.rings c ≡ Some r) ⊎ ((c ≡ length s.rings) × (r ≡ fresh_ring size))
            → (slice_get w.rings c ≡ Some d) ⊎ ((c ≡ length w.rings) × (d ≡ new_duo size))
            → ((slice_get s.rings c ≡ Some r) × (slice_get w.rings c ≡ Some d)) ⊎ IsNewRing r d
        both (inl e) (inl f) = inl (e, f)
        both (inr e) (inr f) = inr (size, e.1, f.1)
        both (inl e) (inr f) = absurd (let few = within s.rings c r e in let k9 = f.0 in let same = h.rings.count in omega (arith, few, k9, same))
        both (inr e) (inl f) = absurd (let few = within w.rings c d f in let k9 = e.0 in let same = h.rings.count in omega (arith, few, k9, same))

    -- ---- the ends

    first_there : slice_get world.cores a ≡ Some first_after
    first_there = set_there near b second_after a first_after (set_here w.cores a first first_after first_is) apart

    second_now : slice_get world.cores b ≡ Some second_after
    second_now = set_here near b second second_after second_there

    client_wired_end : slice_get first_after.wired_ends (length first.wired_ends) ≡ Some port_c
    client_wired_end = ap (λ xs. slice_get xs (length first.wired_ends)) sc.wired_ends ∙ get_last first.wired_ends port_c

    server_wired_end : slice_get second_after.wired_ends (length second.wired_ends) ≡ Some port_s
    server_wired_end = ap (λ xs. slice_get xs (length second.wired_ends)) ss.wired_ends ∙ get_last second.wired_ends port_s

    client_seat : slice_get first_after.board.seats (length first.wired_ends) ≡ Some (new_seat (fresh sc.program (Some 0)) pc cx RingKind)
    client_seat = ap (slice_get first_after.board.seats) (sym (is_even first first_whole.core)) ∙ ap (λ xs. slice_get xs (length first.board.seats)) sc.seats
        ∙ get_last first.board.seats (new_seat (fresh sc.program (Some 0)) pc cx RingKind)

    server_seat : slice_get second_after.board.seats (length second.wired_ends) ≡ Some (new_seat (fresh ss.program (Some 0)) ps cy RingKind)
    server_seat = ap (slice_get second_after.board.seats) (sym (is_even second second_whole.core)) ∙ ap (λ xs. slice_get xs (length second.board.seats)) ss.seats
        ∙ get_last second.board.seats (new_seat (fresh ss.program (Some 0)) ps cy RingKind)

    abbrev machine_seat : Side → Seat
    machine_seat Client = sits_at client x
    machine_seat Server = sits_at service.dispatcher y

    made_side : (side : Side) → IsMade world state (end_id (length s.bindings) side) binding planned (machine_seat side)
    made_side Client =
        made_at world state ec binding planned (sits_at client x) first_after (length first.wired_ends) (new_seat (fresh sc.program (Some 0)) pc cx RingKind) port_c
        first_still.core first_there client_seat refl refl
        (fresh_bound sc.program 2 None (Some (sits_at client x)) planned (copied sc.program p sc.copy ∙ program_is)) client_wired_end refl
        (record { ring = length s.rings; side = first_side }, refl, (let same = h.rings.count in omega (arith, same)))
    made_side Server =
        made_at world state es binding planned (sits_at service.dispatcher y) second_after (length second.wired_ends) (new_seat (fresh ss.program (Some 0)) ps cy RingKind) port_s
        second_still.core second_now server_seat refl refl
        (fresh_bound ss.program 2 None (Some (sits_at service.dispatcher y)) planned (copied ss.program p ss.copy ∙ program_is)) server_wired_end refl
        (record { ring = length s.rings; side = second_side }, refl, (let same = h.rings.count in omega (arith, same)))

    seat_is : (side : Side) (seat : Seat) → (end_in side binding).seat ≡ Some seat → machine_seat side ≡ seat
    seat_is Client seat r = some_is (sits_at client x) seat r
    seat_is Server seat r = some_is (sits_at service.dispatcher y) seat r

    made : (side : Side) (i2 : Planned) (seat : Seat) → slice_get s.interfaces i ≡ Some i2 → (end_in side binding).seat ≡ Some seat
        → IsMade world state (end_id (length s.bindings) side) binding i2 seat
    made side i2 seat r u =
        subst (λ z. IsMade world state (end_id (length s.bindings) side) binding z seat) (same_found (slice_get s.interfaces i) planned i2 interface_is r)
        (subst (IsMade world state (end_id (length s.bindings) side) binding planned) (seat_is side seat u) (made_side side))

    last_binding : slice_get state.bindings (length s.bindings) ≡ Some binding
    last_binding = get_last s.bindings binding

    sits : (c : ℕ) (e : EndId) (z : EndWiring) → IsNewAt c e z → SitsAt state e c
    sits c e z (inl r) =
        (binding.client, (sits_at client x, (ap (λ v. end_of state v) r.1 ∙ ap (λ o. given o None (λ (v : Binding). Some v.client)) last_binding), refl, sym r.0))
    sits c e z (inr r) =
        (binding.server, (sits_at service.dispatcher y, (ap (λ v. end_of state v) r.1 ∙ ap (λ o. given o None (λ (v : Binding). Some v.server)) last_binding), refl, sym r.0))

    no_queues : {X : Type 0} (c : ℕ) (e : EndId) (u v : ℕ) → IsNewAt c e (Queues u v) → X
    no_queues c e u v (inl r) = absurd (let k9 = r.2 in cc)
    no_queues c e u v (inr r) = absurd (let k9 = r.2 in cc)

    ring_of : (c d : ℕ) → over_ring c ≡ over_ring d → c ≡ d
    ring_of c d r = cc

    shows : BindingShows state (length s.bindings) binding there
    shows = record {
      interface = refl;
      seated = seated_at;
      routed = λ route r. absurd (cc);
      offered = λ route z r u. absurd (cc);
      unmade = λ i2 r u. absurd (cc);
    }
      where
        seated_at : (e : EndId) (seat : Seat) → e.binding ≡ length s.bindings → (end_in e.side binding).seat ≡ Some seat → core_in e.side there ≡ seat.dispatcher.core
        seated_at e seat r u = by e.side u
          where
            by : (side : Side) → (end_in side binding).seat ≡ Some seat → core_in side there ≡ seat.dispatcher.core
            by Client v = ap (λ (z : Seat). z.dispatcher.core) (some_is (sits_at client x) seat v)
            by Server v = ap (λ (z : Seat). z.dispatcher.core) (some_is (sits_at service.dispatcher y) seat v)

    silent : (side : Side) → IsSilent (end_in side binding).out
    silent Client = record { accepted = refl; waiting = refl }
    silent Server = record { accepted = refl; waiting = refl }

    joins : Joins IsNewAt w world s state binding there
    joins = record {
      may_set_cores = refl;
      may_set = refl;
      world_bindings = refl;
      bindings = refl;
      programs = refl;
      interfaces = refl;
      names = refl;
      services = refl;
      show = show;
      cores = cores;
      world_count = refl;
      count = count;
      queues = λ c z r. r;
      links = links;
      rings_count = length_push w.rings (new_duo size) ∙ ap (λ c. c + 1) h.rings.count ∙ sym (length_push s.rings (fresh_ring size));
      rings = rings;
      joined = λ c r. (let k9 = ring_of (length s.rings) c r in omega (arith, k9));
      made = made;
      sits = sits;
      fresh = λ c e u v r. no_queues c e u v r;
      one = λ c d e f u g v r o. no_queues c e u v r;
      shows = shows;
      silent = silent;
    }

    pub ring_shown : ShowsState world state
    ring_shown = joined_shown IsNewAt w world s state binding there sound h joins
