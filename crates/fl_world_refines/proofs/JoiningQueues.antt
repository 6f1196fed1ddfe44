-- A binding on one core: its two ends are joined by two queues.
use Rattle.std.proofs.Common.{◌≡◌, refl, sym, ◌∙◌, ap, subst, ℕ, suc, ◌+◌, ◌≤◌, ◌⊎◌, inl, inr, List, [], ◌∷◌, ◌++◌, length, slice_get, slice_set, Option, Some, None, arith}
use Rattle.fl_base.specs.declared.identity.EndId.{EndId}
use Rattle.fl_base.specs.declared.identity.Side.{Side}
use Rattle.fl_base.specs.declared.identity.Side.TheVariants.{Client, Server}
use Rattle.fl_base.specs.Given.{given}
use Rattle.fl_hop.proofs.Lists.{set_here, push_keeps, push_cases}
use Rattle.fl_lists.specs.declared.place.Place.TheVariants.{Idle}
use Rattle.fl_link.specs.Queue.{TheQueue, QueueTakes}
use Rattle.fl_compile.specs.declared.program.Program.{Program}
use Rattle.fl_endpoint.specs.View.{fresh}
use Rattle.fl_core.specs.BoardView.{TheEndAtChannel}
use Rattle.fl_core.specs.declared.kind.ChannelKind.TheVariants.{Queue as QueueKind}
use Rattle.fl_core.specs.View.{TheCore}
use Rattle.fl_core.specs.declared.wiring.EndWiring.{EndWiring}
use Rattle.fl_core.specs.declared.wiring.EndWiring.TheVariants.{Queues}
use Rattle.fl_core.specs.declared.wiring.WiredEnd.{WiredEnd}
use Rattle.fl_model.specs.Given.{changed_at}
use Rattle.fl_model.specs.Events.{DispatcherId}
use Rattle.fl_model.specs.Calls.{Planned}
use Rattle.fl_model.specs.Ends.{Queue, fresh_queue, Seat, End}
use Rattle.fl_model.specs.Waits.{Dispatcher, with_end, registers}
use Rattle.fl_model.specs.Monitors.{Core, Service}
use Rattle.fl_model.specs.State.{local, Binding, State, end_of, end_in}
use Rattle.fl_model.specs.Making.{count_dispatchers}
use Rattle.fl_model.specs.Binding.{BindByNames, end_id, with_new_binding, binds_both}
use Rattle.fl_model.specs.Sound.{Sound}
use Rattle.fl_world_refines.specs.Fragments.{calls_off_links}
use Rattle.fl_world_refines.specs.Ends.{planned_of}
use Rattle.fl_world_refines.proofs.Standing.{new_show}
use Rattle.fl_model_laws.proofs.OpeningsMoves.{changed_twice}
use Rattle.fl_model_laws.proofs.Ready.{get_last}
use Rattle.fl_model_laws.proofs.Replies.{length_changed}
use Rattle.fl_model_laws.proofs.Small.{changed_here}
use Rattle.fl_world_refines.specs.declared.binding.Binding.{Binding as TheBinding}
use Rattle.fl_world_refines.specs.View.{TheWorld, IsWhole, core_in, with_core}
use Rattle.fl_world_refines.specs.Binding.{BindingRequest, binding_for, new_queue, queue_pair, IsJoined}
use Rattle.fl_world_refines.specs.ShowsState.{wiring_of, TakesFrom, IsMade, SitsAt, BindingShows, IsSilent, ShowsState}
use Rattle.fl_world_refines.proofs.MakingBase.{some_is, same_found}
use Rattle.fl_world_refines.proofs.MakingGrows.{CoresGrow, cores_same, cores_set, ring_between}
use Rattle.fl_world_refines.proofs.MakingCores.{AllShow, all_of, core_there, shows_set, how_many, count_more}
use Rattle.fl_world_refines.proofs.MakingDispatchers.{same_rings}
use Rattle.fl_world_refines.proofs.JoiningCores.{seated, listed, new_seat, HasWiredEnd, has_wired_end, Listed, core_lists, Longer, grows_of}
use Rattle.fl_world_refines.proofs.JoiningEnds.{core_free, seated_free, free_at, free_seated, free_listed, channels_apart, queue_waits, is_even, made_at}
use Rattle.fl_world_refines.proofs.JoiningStages.{stage, at_dispatcher, dispatcher_in, sits_at, cores_joined, joined_binding, both_stage}
use Rattle.fl_world_refines.proofs.JoiningShowings.{Joins, joined_shown, fresh_bound, copied}

-- what is asked for, in the world and in the machine
abbrev pub request : DispatcherId → ℕ → Program → Service → ℕ → BindingRequest
request client i p service iref = record { client = client; interface = i; program = p; server = service.dispatcher; iref = iref }

abbrev pub wanted : DispatcherId → ℕ → Planned → Service → ℕ → BindByNames
wanted client i planned service iref =
    record { client = client; interface = i; messages = length planned.interface.messages; service = service; iref = iref }

module _ (client : DispatcherId) (i : ℕ) (p : Program) (planned : Planned) (service : Service) (iref slots : ℕ) (w : TheWorld) (s : State)
    (sound : Sound s) (h : ShowsState w s) (interface_is : slice_get s.interfaces i ≡ Some planned) (program_is : planned_of p ≡ planned)
    (same_core : client.core ≡ service.dispatcher.core) (core after : TheCore) (core_is : slice_get w.cores client.core ≡ Some core)
    (before_whole : IsWhole core) (after_whole : IsWhole after)
    (j : IsJoined (request client i p service iref) (length s.bindings) (queue_pair (length w.queues) (new_queue slots) (new_queue slots)) core after) where
  abbrev n : ℕ
  n = client.core

  abbrev pc : ℕ
  pc = client.place

  abbrev ps : ℕ
  ps = service.dispatcher.place

  abbrev q : ℕ
  q = length w.queues

  abbrev m : BindByNames
  m = wanted client i planned service iref

  abbrev ec : EndId
  ec = end_id (length s.bindings) Client

  abbrev es : EndId
  es = end_id (length s.bindings) Server

  abbrev port_c : WiredEnd
  port_c = record { name = ec; wiring = Queues q (q + 1) }

  abbrev port_s : WiredEnd
  port_s = record { name = es; wiring = Queues (q + 1) q }

  abbrev all : AllShow s.cores w.cores
  all = all_of w s h.cores

  abbrev k : Core
  k = (core_there s.cores w.cores n core all core_is).0

  kt : slice_get s.cores n ≡ Some k
  kt = (core_there s.cores w.cores n core all core_is).1

  pub first : (j.client ≡ length core.board.seats) × HasWiredEnd k core j.with_client pc (fresh j.client_program (Some 0)) port_c
  first = has_wired_end k core j.with_client pc (fresh j.client_program (Some 0)) port_c j.client (h.cores.each n k core kt core_is) (is_even core before_whole.core) j.adds_client

  abbrev k1 : Core
  k1 = seated pc ec k

  pub second : (j.server ≡ length j.with_client.board.seats) × HasWiredEnd k1 j.with_client j.with_both ps (fresh j.server_program (Some 0)) port_s
  second = has_wired_end k1 j.with_client j.with_both ps (fresh j.server_program (Some 0)) port_s j.server first.1.shows first.1.even j.adds_server

  abbrev k2 : Core
  k2 = seated ps es k1

  abbrev x : Dispatcher
  x = first.1.dispatcher

  abbrev y : Dispatcher
  y = second.1.dispatcher

  abbrev cx : ℕ
  cx = length x.ends

  abbrev cy : ℕ
  cy = length y.ends

  abbrev seat_c : TheEndAtChannel
  seat_c = new_seat (fresh j.client_program (Some 0)) pc cx QueueKind

  abbrev seat_s : TheEndAtChannel
  seat_s = new_seat (fresh j.server_program (Some 0)) ps cy QueueKind

  seats_are : j.with_both.board.seats ≡ (core.board.seats ++ seat_c ∷ []) ++ seat_s ∷ []
  seats_are = second.1.seats ∙ ap (λ ss. ss ++ seat_s ∷ []) first.1.seats

  client_at : slice_get j.with_both.board.seats (length core.board.seats) ≡ Some seat_c
  client_at = ap (λ ss. slice_get ss (length core.board.seats)) seats_are
      ∙ push_keeps (core.board.seats ++ seat_c ∷ []) (seat_s ∷ []) (length core.board.seats) seat_c (get_last core.board.seats seat_c)

  server_at : slice_get j.with_both.board.seats (length j.with_client.board.seats) ≡ Some seat_s
  server_at = ap (λ ss. slice_get ss (length j.with_client.board.seats)) second.1.seats ∙ get_last j.with_client.board.seats seat_s

  third : Listed k2 j.with_both j.client_listed pc cx Idle
  third = core_lists QueueTakes k2 j.with_both j.client_listed j.client seat_c Idle (new_queue slots) (new_queue slots) j.client_answer second.1.shows
      (ap (slice_get j.with_both.board.seats) first.0 ∙ client_at) (refl, refl)
      (free_seated ps pc es k1 cx (free_seated pc pc ec k cx (free_at k pc x (core_free s n k sound.waitsets kt) first.1.there)))
      (queue_waits slots) j.registers_client

  abbrev k3 : Core
  k3 = listed pc cx Idle k2

  fourth : Listed k3 j.client_listed after ps cy Idle
  fourth = core_lists QueueTakes k3 j.client_listed after j.server seat_s Idle (new_queue slots) (new_queue slots) j.server_answer third.shows
      (ap (λ ss. slice_get ss j.server) third.seats ∙ ap (slice_get j.with_both.board.seats) second.0 ∙ server_at) (refl, refl)
      (free_listed pc ps cx Idle k2 cy (λ e. channels_apart k pc ps ec x y first.1.there second.1.there e)
      (free_seated ps ps es k1 cy (free_at k1 ps y (seated_free pc ec k (core_free s n k sound.waitsets kt)) second.1.there)))
      (queue_waits slots) j.registers_server

  abbrev whole_change : Core → Core
  whole_change z = listed ps cy Idle (listed pc cx Idle (seated ps es (seated pc ec z)))

  -- ---- the world and the state

  abbrev there : TheBinding
  there = binding_for (request client i p service iref) None

  abbrev world : TheWorld
  world = record (with_core w n after) { queues = w.queues ++ new_queue slots ∷ new_queue slots ∷ []; bindings = w.bindings ++ there ∷ [] }

  abbrev queue : Option Queue
  queue = Some (fresh_queue slots)

  abbrev b : Binding
  b = joined_binding m local 2 queue x y

  abbrev state : State
  state = stage s (cores_joined s m queue x y) b

  cores_are : cores_joined s m queue x y ≡ changed_at n whole_change s.cores
  cores_are =
      ap (λ c. changed_at c (listed ps cy Idle) (changed_at n (listed pc cx Idle) (changed_at c (seated ps es) (changed_at n (seated pc ec) s.cores)))) (sym same_core)
      ∙ ap (λ ks. changed_at n (listed ps cy Idle) (changed_at n (listed pc cx Idle) ks)) (changed_twice (seated ps es) (seated pc ec) s.cores n)
      ∙ ap (changed_at n (listed ps cy Idle)) (changed_twice (listed pc cx Idle) (λ z. seated ps es (seated pc ec z)) s.cores n)
      ∙ changed_twice (listed ps cy Idle) (λ z. listed pc cx Idle (seated ps es (seated pc ec z))) s.cores n

  client_there : dispatcher_in s.cores client ≡ Some x
  client_there = ap (λ o. given o None (λ (z : Core). slice_get z.dispatchers pc)) kt ∙ first.1.there

  server_there : dispatcher_in (at_dispatcher client (with_end ec) s.cores) service.dispatcher ≡ Some y
  server_there =
      ap (λ c. given (slice_get (at_dispatcher client (with_end ec) s.cores) c) None (λ (z : Core). slice_get z.dispatchers ps)) (sym same_core)
      ∙ ap (λ o. given o None (λ (z : Core). slice_get z.dispatchers ps)) (changed_here s.cores n (seated pc ec) k kt) ∙ second.1.there

  pub reached : binds_both (length s.bindings) m (with_new_binding m local 2 queue s) ≡ state
  reached = both_stage s m local 2 queue x y client_there server_there

  -- ---- the core

  wired_ends_are : after.wired_ends ≡ (core.wired_ends ++ port_c ∷ []) ++ port_s ∷ []
  wired_ends_are = fourth.wired_ends ∙ third.wired_ends ∙ second.1.wired_ends ∙ ap (λ ps2. ps2 ++ port_s ∷ []) first.1.wired_ends

  after_seats : after.board.seats ≡ (core.board.seats ++ seat_c ∷ []) ++ seat_s ∷ []
  after_seats = fourth.seats ∙ third.seats ∙ seats_are

  abbrev IsNew : EndId → EndWiring → Type 0
  IsNew e z = ((e ≡ ec) × (z ≡ Queues q (q + 1))) ⊎ ((e ≡ es) × (z ≡ Queues (q + 1) q))

  abbrev New : ℕ → EndId → EndWiring → Type 0
  New c e z = (c ≡ n) × IsNew e z

  new_wired_end : (c : ℕ) (z : WiredEnd) → slice_get after.wired_ends c ≡ Some z → (slice_get core.wired_ends c ≡ Some z) ⊎ IsNew z.name z.wiring
  new_wired_end c z r = elim (push_cases (core.wired_ends ++ port_c ∷ []) port_s c z (ap (λ ps2. slice_get ps2 c) (sym wired_ends_are) ∙ r)) [
    | inr a ↦ inr (inr (ap (λ (v : WiredEnd). v.name) a.1, ap (λ (v : WiredEnd). v.wiring) a.1))
    | inl a ↦ elim (push_cases core.wired_ends port_c c z a) [
      | inl e ↦ inl e
      | inr e ↦ inr (inl (ap (λ (v : WiredEnd). v.name) e.1, ap (λ (v : WiredEnd). v.wiring) e.1))
    ]
  ]

  longer : Longer (New n) core after
  longer = record {
    before = before_whole.core;
    after = after_whole.core;
    wired_ends = λ c z r. ap (λ ps2. slice_get ps2 c) wired_ends_are ∙ push_keeps (core.wired_ends ++ port_c ∷ []) (port_s ∷ []) c z (push_keeps core.wired_ends (port_c ∷ []) c z r);
    seats = λ c z r. ap (λ ss. slice_get ss c) after_seats ∙ push_keeps (core.board.seats ++ seat_c ∷ []) (seat_s ∷ []) c z (push_keeps core.board.seats (seat_c ∷ []) c z r);
    link_sides = fourth.link_sides ∙ third.link_sides ∙ second.1.link_sides ∙ first.1.link_sides;
    arrivals = λ c z r. ap (λ qs. slice_get qs c) (fourth.arrivals ∙ third.arrivals ∙ second.1.arrivals ∙ first.1.arrivals) ∙ r;
    back = λ c z r. elim (new_wired_end c z r) [ inl a ↦ inl a | inr a ↦ inr (refl, a) ];
  }

  cores : CoresGrow New w.cores (slice_set w.cores n after)
  cores = cores_set New w.cores w.cores n core after (cores_same New w.cores) core_is core_is (grows_of (New n) core after longer)

  show : AllShow (cores_joined s m queue x y) (slice_set w.cores n after)
  show = subst (λ ks. AllShow ks (slice_set w.cores n after)) (sym cores_are) (shows_set s.cores w.cores n k whole_change after all kt fourth.shows)

  same_many : how_many (whole_change k) ≡ how_many k
  same_many =
      length_changed k3.dispatchers ps (registers cy Idle) ∙ length_changed k2.dispatchers pc (registers cx Idle)
      ∙ length_changed k1.dispatchers ps (with_end es) ∙ length_changed k.dispatchers pc (with_end ec)

  count : count_dispatchers state ≡ count_dispatchers s
  count =
      let one = same_many in
      let more = count_more s.cores n whole_change k 0 kt (omega (arith, one)) in
      let same = ap (λ ks. count_dispatchers (record s { cores = ks })) cores_are in
      omega (arith, more, same)

  links : (a c : ℕ) → ring_between state a c ≡ ring_between s a c
  links a c = ap (λ ks. ring_between (record s { cores = ks }) a c) cores_are ∙ same_rings n whole_change s a c (λ z r. refl)

  -- ---- the ends

  core_there_now : slice_get world.cores n ≡ Some after
  core_there_now = set_here w.cores n core after core_is

  client_wired_end : slice_get after.wired_ends (length core.wired_ends) ≡ Some port_c
  client_wired_end = ap (λ ps2. slice_get ps2 (length core.wired_ends)) wired_ends_are ∙ push_keeps (core.wired_ends ++ port_c ∷ []) (port_s ∷ []) (length core.wired_ends) port_c (get_last core.wired_ends port_c)

  server_wired_end : slice_get after.wired_ends (length j.with_client.wired_ends) ≡ Some port_s
  server_wired_end = ap (λ ps2. slice_get ps2 (length j.with_client.wired_ends)) (fourth.wired_ends ∙ third.wired_ends ∙ second.1.wired_ends) ∙ get_last j.with_client.wired_ends port_s

  client_seat : slice_get after.board.seats (length core.wired_ends) ≡ Some seat_c
  client_seat = ap (λ ss. slice_get ss (length core.wired_ends)) (fourth.seats ∙ third.seats)
      ∙ ap (slice_get j.with_both.board.seats) (sym (is_even core before_whole.core)) ∙ client_at

  server_seat : slice_get after.board.seats (length j.with_client.wired_ends) ≡ Some seat_s
  server_seat = ap (λ ss. slice_get ss (length j.with_client.wired_ends)) (fourth.seats ∙ third.seats)
      ∙ ap (slice_get j.with_both.board.seats) (sym first.1.even) ∙ server_at

  wiring_at : (place : ℕ) (z : WiredEnd) → slice_get after.wired_ends place ≡ Some z → wiring_of after z.name ≡ Some z.wiring
  wiring_at place z r =
      ap (λ o. given o None (λ c. given (slice_get after.wired_ends c) None (λ (v : WiredEnd). Some v.wiring))) (after_whole.core.named place z r)
      ∙ ap (λ o. given o None (λ (v : WiredEnd). Some v.wiring)) r

  first_queue : slice_get world.queues q ≡ Some (new_queue slots)
  first_queue = queue_at w.queues
    where
      queue_at : (qs : List TheQueue) → slice_get (qs ++ new_queue slots ∷ new_queue slots ∷ []) (length qs) ≡ Some (new_queue slots)
      queue_at [] = refl
      queue_at (z ∷ qs) = queue_at qs

  second_queue : slice_get world.queues (q + 1) ≡ Some (new_queue slots)
  second_queue = ap (slice_get world.queues) (omega arith) ∙ queue_at w.queues
    where
      queue_at : (qs : List TheQueue) → slice_get (qs ++ new_queue slots ∷ new_queue slots ∷ []) (suc (length qs)) ≡ Some (new_queue slots)
      queue_at [] = refl
      queue_at (z ∷ qs) = queue_at qs

  takes : (e : End) (place : ℕ) → e.queue ≡ queue → slice_get world.queues place ≡ Some (new_queue slots) → TakesFrom world.queues state e place
  takes e place r at = record { queue = fresh_queue slots; queue_is = r; there = new_queue slots; there_is = at; shows = new_show.queue (calls_off_links state) slots }

  abbrev machine_seat : Side → Seat
  machine_seat Client = sits_at client x
  machine_seat Server = sits_at service.dispatcher y

  made_side : (side : Side) → IsMade world state (end_id (length s.bindings) side) b planned (machine_seat side)
  made_side Client =
      made_at world state ec b planned (sits_at client x) after (length core.wired_ends) seat_c port_c after_whole.core core_there_now client_seat refl refl
      (fresh_bound j.client_program 2 queue (Some (sits_at client x)) planned (copied j.client_program p j.client_copy ∙ program_is)) client_wired_end refl
      (refl, takes b.client (q + 1) refl second_queue, wiring_at (length j.with_client.wired_ends) port_s server_wired_end)
  made_side Server =
      made_at world state es b planned (sits_at service.dispatcher y) after (length j.with_client.wired_ends) seat_s port_s after_whole.core
      (ap (slice_get world.cores) (sym same_core) ∙ core_there_now) server_seat refl refl
      (fresh_bound j.server_program 2 queue (Some (sits_at service.dispatcher y)) planned (copied j.server_program p j.server_copy ∙ program_is)) server_wired_end refl
      (refl, takes b.server q refl first_queue, wiring_at (length core.wired_ends) port_c client_wired_end)

  seat_is : (side : Side) (seat : Seat) → (end_in side b).seat ≡ Some seat → machine_seat side ≡ seat
  seat_is Client seat r = some_is (sits_at client x) seat r
  seat_is Server seat r = some_is (sits_at service.dispatcher y) seat r

  made : (side : Side) (i2 : Planned) (seat : Seat) → slice_get s.interfaces i ≡ Some i2 → (end_in side b).seat ≡ Some seat
      → IsMade world state (end_id (length s.bindings) side) b i2 seat
  made side i2 seat r u =
      subst (λ z. IsMade world state (end_id (length s.bindings) side) b z seat) (same_found (slice_get s.interfaces i) planned i2 interface_is r)
      (subst (IsMade world state (end_id (length s.bindings) side) b planned) (seat_is side seat u) (made_side side))

  last_binding : slice_get state.bindings (length s.bindings) ≡ Some b
  last_binding = get_last s.bindings b

  sits : (c : ℕ) (e : EndId) (z : EndWiring) → New c e z → SitsAt state e c
  sits c e z (at, inl a) =
      (b.client, (sits_at client x, (ap (λ v. end_of state v) a.0 ∙ ap (λ o. given o None (λ (v : Binding). Some v.client)) last_binding), refl, sym at))
  sits c e z (at, inr a) =
      (b.server, (sits_at service.dispatcher y, (ap (λ v. end_of state v) a.0 ∙ ap (λ o. given o None (λ (v : Binding). Some v.server)) last_binding), refl, sym same_core ∙ sym at))

  queues_of : (a c d e : ℕ) → Queues a c ≡ Queues d e → c ≡ e
  queues_of a c d e r = cc

  new_within : (c : ℕ) (e : EndId) (a v : ℕ) → New c e (Queues a v) → q ≤ v
  new_within c e a v (at, inl r) = let k9 : v ≡ q + 1 = queues_of a v q (q + 1) r.1 in omega (arith, k9)
  new_within c e a v (at, inr r) = let k9 : v ≡ q = queues_of a v (q + 1) q r.1 in omega (arith, k9)

  one_each : (c d : ℕ) (e f : EndId) (a g v : ℕ) → New c e (Queues a v) → New d f (Queues g v) → e ≡ f
  one_each c d e f a g v (at, inl r) (bt, inl u) = r.0 ∙ sym u.0
  one_each c d e f a g v (at, inr r) (bt, inr u) = r.0 ∙ sym u.0
  one_each c d e f a g v (at, inl r) (bt, inr u) =
      absurd (let k8 : v ≡ q + 1 = queues_of a v q (q + 1) r.1 in let k9 : v ≡ q = queues_of g v (q + 1) q u.1 in omega (arith, k8, k9))
  one_each c d e f a g v (at, inr r) (bt, inl u) =
      absurd (let k8 : v ≡ q = queues_of a v (q + 1) q r.1 in let k9 : v ≡ q + 1 = queues_of g v q (q + 1) u.1 in omega (arith, k8, k9))

  shows : BindingShows state (length s.bindings) b there
  shows = record {
    interface = refl;
    seated = seated_at;
    routed = λ route r. absurd (cc);
    offered = λ route z r u. absurd (cc);
    unmade = λ i2 r u. absurd (cc);
  }
    where
      seated_at : (e : EndId) (seat : Seat) → e.binding ≡ length s.bindings → (end_in e.side b).seat ≡ Some seat
          → core_in e.side there ≡ seat.dispatcher.core
      seated_at e seat r u = by e.side u
        where
          by : (side : Side) → (end_in side b).seat ≡ Some seat → core_in side there ≡ seat.dispatcher.core
          by Client v = ap (λ (z : Seat). z.dispatcher.core) (some_is (sits_at client x) seat v)
          by Server v = ap (λ (z : Seat). z.dispatcher.core) (some_is (sits_at service.dispatcher y) seat v)

  joins : Joins New w world s state b there
  joins = record {
    may_set_cores = refl;
    may_set = refl;
    world_bindings = refl;
    bindings = refl;
    programs = refl;
    interfaces = refl;
    names = refl;
    services = refl;
    show = show;
    cores = cores;
    world_count = refl;
    count = count;
    queues = λ c z r. push_keeps w.queues (new_queue slots ∷ new_queue slots ∷ []) c z r;
    links = links;
    rings_count = h.rings.count;
    rings = λ c r d u v. inl (u, v);
    joined = λ c r. absurd (cc);
    made = made;
    sits = sits;
    fresh = new_within;
    one = one_each;
    shows = shows;
    silent = λ side. silent side;
  }
    where
      silent : (side : Side) → IsSilent (end_in side b).out
      silent Client = record { accepted = refl; waiting = refl }
      silent Server = record { accepted = refl; waiting = refl }

  pub queues_shown : ShowsState world state
  queues_shown = joined_shown New w world s state b there sound h joins
