-- What an event makes of interfaces, bindings and dispatchers, told by its answer.
use Rattle.std.proofs.Common.{◌≡◌, ◌∙◌, ◌⊎◌, inl, inr, refl, ap, ℕ, ◌+◌, ◌||◌, ◌==◌, ◌<◌, nat_le, nat_lt, not, Bool, true, false, if◌then◌else◌, List, [], ◌∷◌, ◌++◌, length, map, slice_get, slice_index, Option, Some, None, length-append, arith}
use Rattle.std.specs.List.{range_with_len}
use Rattle.std.proofs.lemmas.List.{map-append}
use Rattle.std.proofs.lemmas.Bool.Decides.{nat_tests}
use Rattle.fl_base.specs.declared.identity.Side.TheVariants.{Client, Server}
use Rattle.fl_base.specs.Given.{given}
use Rattle.fl_base.specs.Numbered.{most_cores, most_bindings}
use Rattle.fl_interface.specs.Interface.{TheInterface}
use Rattle.fl_value_data.specs.declared.value.PlanNo.{PlanNo}
use Rattle.fl_hop.specs.Numbers.{next_own}
use Rattle.fl_model.specs.Given.{changed_at}
use Rattle.fl_model.specs.Events.{DispatcherId, Kind, by_queues, by_ring, by_route, Answer, done, refused}
use Rattle.fl_model.specs.Calls.{Planned}
use Rattle.fl_model.specs.Rings.{OpeningLabel, fresh_ring}
use Rattle.fl_model.specs.Ends.{Queue, fresh_queue}
use Rattle.fl_model.specs.Waits.{fresh_dispatcher}
use Rattle.fl_model.specs.Monitors.{fresh_core, link_to, can_say, opens, Core}
use Rattle.fl_model.specs.State.{Back, local, over_ring, over_route, undecided, Route, State, StepOutcome, answers, core_of, dispatcher_of, change_core, seats}
use Rattle.fl_model.specs.Making.{adds_interface, has_interface, most_interfaces, sets_cores, is_core, is_ring_size, adds_dispatcher, count_dispatchers, most_dispatchers, with_dispatcher}
use Rattle.fl_model.specs.Binding.{BindByNames, end_id, with_new_binding, binds_both, has_both_places, has_places_for, binds_by_queues, binds_by_ring, is_route, arrival_queue, with_circuit_begun, opens_on, binds_by_route, binds_by, binds, place_of_service}
use Rattle.fl_model.specs.Step.{settles_by}
use Rattle.fl_model_laws.proofs.Cases.{either, by_given}
use Rattle.fl_model_laws.proofs.Views.{map_changed}
use Rattle.fl_model.specs.Events.{is_done}
use Rattle.fl_script_exec.proofs.Views.{View, view, Same, interface_in, count_in, cores_same, binds_same, seats_same}

-- it was answered `ok`, and made this; or it wasn't, and made nothing
abbrev pub Makes : (View → View) → State → StepOutcome → Type 0
Makes f s o = ((is_done o.answer ≡ true) × (view o.state ≡ f (view s))) ⊎ ((is_done o.answer ≡ false) × Same s o.state)

abbrev pub one_interface : Planned → View → View
one_interface i v = record v { interfaces = v.interfaces ++ i ∷ [] }

abbrev pub one_dispatcher : ℕ → View → View
one_dispatcher core v = record v { counts = changed_at core (λ m. m + 1) v.counts }

abbrev pub one_binding : ℕ → View → View
one_binding i v = record v { spoken = v.spoken ++ i ∷ [] }

abbrev pub planned : TheInterface → PlanNo → Planned
planned i plan = record { interface = i; plan = plan }

pub interface_made : (i : TheInterface) (plan : PlanNo) (s : State) → Makes (one_interface (planned i plan)) s (adds_interface i plan s)
interface_made i plan s =
    either (Makes (one_interface (planned i plan)) s) (has_interface i.name s) _ _ (λ q. inr (refl, refl))
    (λ q. either (Makes (one_interface (planned i plan)) s) (nat_le most_interfaces (length s.interfaces)) _ _ (λ r. inr (refl, refl)) (λ r. inl (refl, refl)))

-- ---- cores and dispatchers

abbrev pub fresh_counts : ℕ → List ℕ
fresh_counts n = map count_in (map fresh_core (range_with_len 0 n))

is_true : (b : Bool) → not b ≡ false → b ≡ true
is_true true e = refl
is_true false e = cc

abbrev pub SetsCores : ℕ → State → StepOutcome → Type 0
SetsCores n s o =
    ((is_done o.answer ≡ true) × (s.may_set_cores ≡ true) × (view o.state ≡ record (view s) { counts = fresh_counts n }))
    ⊎ ((is_done o.answer ≡ false) × Same s o.state)

pub cores_made : (n : ℕ) (s : State) → SetsCores n s (sets_cores n s)
cores_made n s =
    either (SetsCores n s) (not s.may_set_cores) _ _ (λ q. inr (refl, refl))
    (λ q. either (SetsCores n s) (nat_lt n 1 || nat_lt most_cores n) _ _ (λ r. inr (refl, refl)) (λ r. inl (refl, is_true s.may_set_cores q, refl)))

counts_more : (core : ℕ) (s : State) → view (change_core core with_dispatcher s) ≡ one_dispatcher core (view s)
counts_more core s =
    ap (λ (x : List ℕ). record { may = s.may_set_cores; interfaces = s.interfaces; spoken = map interface_in s.bindings; counts = x })
    (map_changed count_in with_dispatcher (λ m. m + 1) s.cores core (λ k q. length-append k.dispatchers (fresh_dispatcher ∷ [])))

core_within : (core : ℕ) (s : State) → not (is_core core s) ≡ false → core < length s.cores
core_within core s e = let h : nat_lt core (length s.cores) ≡ true = is_true (is_core core s) e in grind (arith, nat_tests, h)

-- and the core is there
abbrev pub AddsDispatcher : ℕ → State → StepOutcome → Type 0
AddsDispatcher core s o =
    ((is_done o.answer ≡ true) × (core < length s.cores) × (view o.state ≡ one_dispatcher core (view s)))
    ⊎ ((is_done o.answer ≡ false) × Same s o.state)

pub dispatcher_made : (core : ℕ) (s : State) → AddsDispatcher core s (adds_dispatcher core s)
dispatcher_made core s =
    either (AddsDispatcher core s) (nat_le most_dispatchers (count_dispatchers s)) _ _ (λ q. inr (refl, refl))
    (λ q. either (AddsDispatcher core s) (not (is_core core s)) _ _ (λ r. inr (refl, refl)) (λ r. inl (refl, core_within core s r, counts_more core s)))

-- ---- bindings

fresh_binding : (w : BindByNames) (back : Back) (stations : ℕ) (queue : Option Queue) (s : State)
    → view (with_new_binding w back stations queue s) ≡ one_binding w.interface (view s)
fresh_binding w back stations queue s =
    ap (λ (x : List ℕ). record { may = s.may_set_cores; interfaces = s.interfaces; spoken = x; counts = map count_in s.cores })
    (map-append interface_in s.bindings _)

both_same : (n : ℕ) (w : BindByNames) (s : State) → Same s (binds_both n w s)
both_same n w s =
    binds_same (end_id n Server) 0 _
    ∙ (binds_same (end_id n Client) 0 _ ∙ (seats_same w.service.dispatcher (end_id n Server) _ ∙ seats_same w.client (end_id n Client) s))

queues_made : (w : BindByNames) (slots : ℕ) (s : State) → Makes (one_binding w.interface) s (binds_by_queues w slots s)
queues_made w slots s =
    either (Makes (one_binding w.interface) s) (not (w.client.core == w.service.dispatcher.core)) _ _ (λ q. inr (refl, refl))
    (λ q. either (Makes (one_binding w.interface) s) (nat_lt slots 1 || nat_lt 1024 slots) _ _ (λ r. inr (refl, refl))
    (λ r. either (Makes (one_binding w.interface) s) (not (has_both_places w s)) _ _ (λ t. inr (refl, refl))
    (λ t. inl (refl, both_same (length s.bindings) w _ ∙ fresh_binding w local 2 (Some (fresh_queue slots)) s))))

ring_made : (w : BindByNames) (size : ℕ) (s : State) → Makes (one_binding w.interface) s (binds_by_ring w size s)
ring_made w size s =
    either (Makes (one_binding w.interface) s) (w.client.core == w.service.dispatcher.core) _ _ (λ q. inr (refl, refl))
    (λ q. either (Makes (one_binding w.interface) s) (not (is_ring_size size)) _ _ (λ r. inr (refl, refl))
    (λ r. either (Makes (one_binding w.interface) s) (not (has_both_places w s)) _ _ (λ t. inr (refl, refl))
    (λ t. inl (
      refl,
      both_same (length s.bindings) w _
          ∙ fresh_binding w (over_ring (length s.rings)) 2 None (record s { rings = s.rings ++ fresh_ring size ∷ [] }),
    ))))

begun : (w : BindByNames) (cores : List ℕ) (n l c : ℕ) (s : State) → view (with_circuit_begun w cores n l c s) ≡ one_binding w.interface (view s)
begun w cores n l c s =
    let route : Route = record { service = w.iref; cores = cores; numbers = c ∷ []; verdict = undecided } in
    let opening : OpeningLabel = record { circuit = c; binding = n; service = w.iref; path = cores } in
    let fresh : State = with_new_binding w (over_route route) (length cores + 1) (Some arrival_queue) s in
    cores_same w.client.core (opens l c opening) (seats w.client (end_id n Client) fresh) (λ m. refl)
    ∙ (seats_same w.client (end_id n Client) fresh ∙ fresh_binding w (over_route route) (length cores + 1) (Some arrival_queue) s)

numbered : (w : BindByNames) (cores : List ℕ) (k : Core) (l : ℕ) (s : State) → Makes (one_binding w.interface) s
    (given (next_own k.circuits l) (answers s (refused 74)) λ c.
    if not (can_say l k) then answers s (refused 75)
    else answers (with_circuit_begun w cores (length s.bindings) l c s) done)
numbered w cores k l s =
    by_given (Makes (one_binding w.interface) s) (next_own k.circuits l) _ _ (inr (refl, refl))
    (λ c v. either (Makes (one_binding w.interface) s) (not (can_say l k)) (answers s (refused 75))
    (answers (with_circuit_begun w cores (length s.bindings) l c s) done) (λ x. inr (refl, refl))
    (λ x. inl (refl, begun w cores (length s.bindings) l c s)))

opens_made : (w : BindByNames) (cores : List ℕ) (k : Core) (s : State) → Makes (one_binding w.interface) s (opens_on w cores k s)
opens_made w cores k s =
    by_given (Makes (one_binding w.interface) s) (link_to (slice_index cores 1) k) _ _ (inr (refl, refl))
    (λ l t. either (Makes (one_binding w.interface) s) (not (has_places_for w.client 1 s)) _ _ (λ u. inr (refl, refl)) (λ u. numbered w cores k l s))

route_made : (w : BindByNames) (cores : List ℕ) (s : State) → Makes (one_binding w.interface) s (binds_by_route w cores s)
route_made w cores s =
    either (Makes (one_binding w.interface) s) (not (is_route cores w.client.core w.service.dispatcher.core s)) _ _ (λ q. inr (refl, refl))
    (λ q. by_given (Makes (one_binding w.interface) s) (core_of s w.client.core) _ _ (inr (refl, refl)) (λ k r. opens_made w cores k s))

kind_made : (w : BindByNames) (kind : Kind) (s : State) → Makes (one_binding w.interface) s (binds_by w kind s)
kind_made w (by_queues slots) s = queues_made w slots s
kind_made w (by_ring size) s = ring_made w size s
kind_made w (by_route cores) s = route_made w cores s

pub binding_made : (client : DispatcherId) (i : ℕ) (name : List ℕ) (kind : Kind) (s : State) → Makes (one_binding i) s (binds client i name kind s)
binding_made client i name kind s =
    by_given (Makes (one_binding i) s) (dispatcher_of s client) _ _ (inr (refl, refl))
    (λ d q. by_given (Makes (one_binding i) s) (slice_get s.interfaces i) _ _ (inr (refl, refl))
    (λ p r. either (Makes (one_binding i) s) (nat_le most_bindings (length s.bindings)) _ _ (λ t. inr (refl, refl))
    (λ t. by_given (Makes (one_binding i) s) (place_of_service name s.services) _ _ (inr (refl, refl))
    (λ place u. by_given (Makes (one_binding i) s) (slice_get s.services place) _ _ (inr (refl, refl))
    (λ service v. either (Makes (one_binding i) s) (not (service.interface == i)) _ _ (λ x. inr (refl, refl))
    (λ x. kind_made (record { client = client; interface = i; messages = length p.interface.messages; service = service; iref = place + 1 }) kind s))))))

-- ---- the number of cores stands after an event

abbrev pub settled : View → View
settled v = record v { may = false }

pub settled_done : (a : Answer) (s : State) → is_done a ≡ true → view (settles_by a s) ≡ settled (view s)
settled_done done s e = refl
settled_done (refused n) s e = cc
settled_done a s e = refl

pub settled_or : (a : Answer) (s : State) → Same s (settles_by a s) ⊎ (view (settles_by a s) ≡ settled (view s))
settled_or (refused n) s = inl refl
settled_or a s = inr refl
