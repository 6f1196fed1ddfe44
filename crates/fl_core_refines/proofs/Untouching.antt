-- Nothing is done by events that make things.
use Rattle.std.proofs.Common.{◌≡◌, refl, sym, ◌∙◌, ap, subst, ℕ, zero, suc, ◌==◌, ◌+◌, ◌||◌, ◌&&◌, nat_lt, nat_le, not, true, false, List, [], ◌∷◌, ◌++◌, length, map}
use Rattle.std.proofs.Common.{slice_get, Option, Some, None, IfSome}
use Rattle.std.specs.List.{range_with_len, list_all}
use Rattle.fl_base.specs.declared.identity.Side.TheVariants.{Client}
use Rattle.fl_base.specs.Given.{given}
use Rattle.fl_base.specs.Numbered.{most_cores, most_bindings}
use Rattle.fl_interface.specs.Interface.{TheInterface}
use Rattle.fl_value_data.specs.declared.value.PlanNo.{PlanNo}
use Rattle.fl_hop.specs.declared.links.LinkState.{LinkState}
use Rattle.fl_model.specs.Given.{changed_at}
use Rattle.fl_model.specs.Events.{DispatcherId, Kind, by_queues, by_ring, by_route, Event, add_interface, set_cores, add_link, add_dispatcher, export, bind, call, show, write}
use Rattle.fl_model.specs.Events.{turn, ack, register, deregister, reply, monitor_write, forward, monitor_ack, Answer}
use Rattle.fl_model.specs.Events.{refused}
use Rattle.fl_model.specs.Ends.{Queue, fresh_queue, unbound_end, has_rules}
use Rattle.fl_model.specs.Waits.{Dispatcher, with_end}
use Rattle.fl_model.specs.Rings.{RingSide, first_side, second_side, fresh_ring}
use Rattle.fl_model.specs.Monitors.{Core, fresh_core}
use Rattle.fl_model.specs.State.{Back, local, over_ring, State, StepOutcome, dispatcher_of, change_dispatcher, change_end}
use Rattle.fl_model.specs.Making.{most_interfaces, most_dispatchers, most_services, is_ring_size, has_interface, adds_interface, sets_cores, is_core, has_link, linked, adds_link}
use Rattle.fl_model.specs.Making.{count_dispatchers, adds_dispatcher, has_service, exports}
use Rattle.fl_model.specs.Binding.{BindByNames, with_new_binding, binds_both, has_both_places, binds_by_queues, binds_by_ring, binds_by, place_of_service, binds}
use Rattle.fl_model.specs.Step.{does, settles_by, settles, step}
use Rattle.fl_model.specs.Worlds.{start_with}
use Rattle.fl_model.specs.Runs.{reached}
use Rattle.fl_model_laws.proofs.Cases.{either, by_given, Each, none_at_end, each_push, each_changed}
use Rattle.fl_model_laws.proofs.Small.{both_are}
use Rattle.fl_model_laws.proofs.WaitsetsStep.{places, seated_there}
use Rattle.fl_world_refines.proofs.JoiningStages.{at_dispatcher, dispatcher_in, next_end, sat, bound_to, new_end, joined_binding, both_stage}
use Rattle.fl_world_refines.specs.Apart.{is_making}
use Rattle.fl_core_refines.specs.SetUpUntouched.{IsUntouched, IsOffLinks, IsNewBinding, SetUpsTouchNothing}

-- ---- a new binding

no_rule : (messages : ℕ) (queue : Option Queue) → has_rules (unbound_end messages 2 queue) ≡ false
no_rule zero queue = refl
no_rule (suc n) queue = no_rule n queue

end_untouched : (m : BindByNames) (queue : Option Queue) (d : DispatcherId) (x : Dispatcher) → IfSome queue (λ q. q.labels ≡ [])
    → IsUntouched (bound_to 0 (sat d x (new_end m 2 queue)))
end_untouched m queue d x empty = record { seat = refl; circuit = refl; rules = no_rule m.messages queue; out = refl; queue = empty }

-- the server's dispatcher is still there once the client's end has its seat
server_there : (s : State) (m : BindByNames) (x y : Dispatcher) → dispatcher_of s m.client ≡ Some x → dispatcher_of s m.service.dispatcher ≡ Some y
    → (z : Dispatcher) × (dispatcher_in (at_dispatcher m.client (with_end (next_end s Client)) s.cores) m.service.dispatcher ≡ Some z)
server_there s m x y p q =
    let e = next_end s Client in
    let there = seated_there m.client e s m.service.dispatcher y q in (
      there.0,
      sym (ap (λ (o : Option Dispatcher). dispatcher_of (given o s (λ z. change_dispatcher m.client (with_end e) (change_end e (sat m.client z) s))) m.service.dispatcher) p)
          ∙ there.1,
    )

-- ---- links

abbrev IsUnopened : LinkState → Type 0
IsUnopened link = (link.opened ≡ 0) × (link.taken ≡ 0)

abbrev HasUnopened : Core → Type 0
HasUnopened k = Each IsUnopened k.circuits.links

fresh_cores : (ns : List ℕ) → Each HasUnopened (map fresh_core ns)
fresh_cores [] m k q = absurd (cc)
fresh_cores (n ∷ ns) zero k q = subst HasUnopened (let e : fresh_core n ≡ k = cc in e) (none_at_end IsUnopened)
fresh_cores (n ∷ ns) (suc m) k q = fresh_cores ns m k q

-- what changes at dispatchers changes no link
dispatcher_changed : (d : DispatcherId) (f : Dispatcher → Dispatcher) (ks : List Core) → Each HasUnopened ks → Each HasUnopened (at_dispatcher d f ks)
dispatcher_changed d f ks h = each_changed HasUnopened ks d.core _ h (λ k q u. u)

linked_unopened : (neighbour ring : ℕ) (side : RingSide) (k : Core) → HasUnopened k → HasUnopened (linked neighbour ring side k)
linked_unopened neighbour ring side k h =
    each_push IsUnopened k.circuits.links (record { neighbour = record { 0 = neighbour }; opened = 0; taken = 0 }) h (refl, refl)

pair_unopened : (a b ring : ℕ) (ks : List Core) → Each HasUnopened ks
    → Each HasUnopened (changed_at b (linked a ring second_side) (changed_at a (linked b ring first_side) ks))
pair_unopened a b ring ks h =
    each_changed HasUnopened (changed_at a (linked b ring first_side) ks) b _
    (each_changed HasUnopened ks a _ h (λ k q u. linked_unopened b ring first_side k u))
    (λ k q u. linked_unopened a ring second_side k u)

-- ---- what is kept

abbrev Holds : State → Type 0
Holds s = Each IsNewBinding s.bindings × Each HasUnopened s.cores

joined_untouched : (s : State) (m : BindByNames) (back : Back) (queue : Option Queue) (x y : Dispatcher) → dispatcher_of s m.client ≡ Some x
    → dispatcher_of s m.service.dispatcher ≡ Some y → IsOffLinks back → IfSome queue (λ q. q.labels ≡ []) → Holds s
    → Holds (binds_both (length s.bindings) m (with_new_binding m back 2 queue s))
joined_untouched s m back queue x y p q off empty h =
    let (z, there) = server_there s m x y p q in
    subst Holds (sym (both_stage s m back 2 queue x z p there)) (
      each_push IsNewBinding s.bindings (joined_binding m back 2 queue x z) h.0
          (record { back = off; client = end_untouched m queue m.client x empty; server = end_untouched m queue m.service.dispatcher z empty }),
      dispatcher_changed m.service.dispatcher _ _ (dispatcher_changed m.client _ _
          (dispatcher_changed m.service.dispatcher _ _ (dispatcher_changed m.client _ s.cores h.1))),
    )

-- ---- each event

abbrev After : StepOutcome → Type 0
After o = Holds o.state

queues_after : (m : BindByNames) (slots : ℕ) (s : State) (d : Dispatcher) → dispatcher_of s m.client ≡ Some d → Holds s → After (binds_by_queues m slots s)
queues_after m slots s d there h =
    either After (not (m.client.core == m.service.dispatcher.core)) _ _ (λ q. h)
    (λ q. either After (nat_lt slots 1 || nat_lt 1024 slots) _ _ (λ r. h)
    (λ r. either After (not (has_both_places m s)) _ _ (λ t. h)
    (λ t. let both = places m s t in joined_untouched s m local (Some (fresh_queue slots)) d both.server there both.there tt refl h)))

ring_after : (m : BindByNames) (size : ℕ) (s : State) (d : Dispatcher) → dispatcher_of s m.client ≡ Some d → Holds s → After (binds_by_ring m size s)
ring_after m size s d there h =
    either After (m.client.core == m.service.dispatcher.core) _ _ (λ q. h)
    (λ q. either After (not (is_ring_size size)) _ _ (λ r. h)
    (λ r. either After (not (has_both_places m s)) _ _ (λ t. h)
    (λ t. let both = places m s t in
    joined_untouched (record s { rings = s.rings ++ fresh_ring size ∷ [] }) m (over_ring (length s.rings)) None d both.server there both.there tt tt h)))

kind_after : (m : BindByNames) (kind : Kind) (s : State) (d : Dispatcher) (client : DispatcherId) (i : ℕ) (name : List ℕ) → is_making (bind client i name kind) ≡ true
    → dispatcher_of s m.client ≡ Some d → Holds s → After (binds_by m kind s)
kind_after m (by_queues slots) s d client i name makes there h = queues_after m slots s d there h
kind_after m (by_ring size) s d client i name makes there h = ring_after m size s d there h
kind_after m (by_route cores) s d client i name makes there h = absurd (cc)

bind_after : (client : DispatcherId) (i : ℕ) (name : List ℕ) (kind : Kind) (s : State) → is_making (bind client i name kind) ≡ true
    → Holds s → After (binds client i name kind s)
bind_after client i name kind s makes h =
    by_given After (dispatcher_of s client) _ _ h
    (λ d q. by_given After (slice_get s.interfaces i) _ _ h
    (λ planned r. either After (nat_le most_bindings (length s.bindings)) _ _ (λ t. h)
    (λ t. by_given After (place_of_service name s.services) _ _ h
    (λ place u. by_given After (slice_get s.services place) _ _ h
    (λ service v. either After (not (service.interface == i)) _ _ (λ x. h)
    (λ x. kind_after (record { client = client; interface = i; messages = length planned.interface.messages; service = service; iref = place + 1 })
    kind s d client i name makes q h))))))

interface_after : (i : TheInterface) (plan : PlanNo) (s : State) → Holds s → After (adds_interface i plan s)
interface_after i plan s h =
    either After (has_interface i.name s) _ _ (λ q. h) (λ q. either After (nat_le most_interfaces (length s.interfaces)) _ _ (λ r. h) (λ r. h))

cores_after : (n : ℕ) (s : State) → Holds s → After (sets_cores n s)
cores_after n s h =
    either After (not s.may_set_cores) _ _ (λ q. h)
    (λ q. either After (nat_lt n 1 || nat_lt most_cores n) _ _ (λ r. h) (λ r. (h.0, fresh_cores (range_with_len 0 n))))

link_after : (a b size : ℕ) (s : State) → Holds s → After (adds_link a b size s)
link_after a b size s h =
    either After (not (is_core a s && is_core b s) || (a == b) || has_link a b s) _ _ (λ q. h)
    (λ q. either After (not (is_ring_size size)) _ _ (λ r. h) (λ r. (h.0, pair_unopened a b (length s.rings) s.cores h.1)))

dispatcher_after : (core : ℕ) (s : State) → Holds s → After (adds_dispatcher core s)
dispatcher_after core s h =
    either After (nat_le most_dispatchers (count_dispatchers s)) _ _ (λ q. h)
    (λ q. either After (not (is_core core s)) _ _ (λ r. h) (λ r. (h.0, each_changed HasUnopened s.cores core _ h.1 (λ k t u. u))))

export_after : (name : List ℕ) (d : DispatcherId) (i : ℕ) (s : State) → Holds s → After (exports name d i s)
export_after name d i s h =
    by_given After (dispatcher_of s d) _ _ h
    (λ x q. by_given After (slice_get s.interfaces i) _ _ h
    (λ y r. either After (has_service name s) _ _ (λ t. h)
    (λ t. either After (nat_le most_services (length s.services)) _ _ (λ u. h) (λ u. h))))

does_after : (v : Event) (s : State) → is_making v ≡ true → Holds s → After (does v s)
does_after (add_interface i plan) s makes h = interface_after i plan s h
does_after (set_cores n) s makes h = cores_after n s h
does_after (add_link a b size) s makes h = link_after a b size s h
does_after (add_dispatcher core) s makes h = dispatcher_after core s h
does_after (export name d i) s makes h = export_after name d i s h
does_after (bind client i name kind) s makes h = bind_after client i name kind s makes h
does_after (call e c) s makes h = absurd (cc)
does_after (show e) s makes h = absurd (cc)
does_after (write e) s makes h = absurd (cc)
does_after (turn d) s makes h = absurd (cc)
does_after (ack e) s makes h = absurd (cc)
does_after (register e) s makes h = absurd (cc)
does_after (deregister e) s makes h = absurd (cc)
does_after (reply e msg answer) s makes h = absurd (cc)
does_after (monitor_write core neighbour) s makes h = absurd (cc)
does_after (forward core neighbour) s makes h = absurd (cc)
does_after (monitor_ack core neighbour) s makes h = absurd (cc)

-- ---- one event, and many

settled_by : (a : Answer) (s : State) → Holds s → Holds (settles_by a s)
settled_by (refused n) s h = h
settled_by a s h = h

settled : (v : Event) (o : StepOutcome) → After o → After (settles v o)
settled (add_interface i plan) o h = h
settled v o h = settled_by o.answer o.state h

pub run_untouched : (vs : List Event) (s : State) → list_all is_making vs ≡ true → Holds s → Holds (reached s vs)
run_untouched [] s makes h = h
run_untouched (v ∷ vs) s makes h =
    let both = both_are (is_making v) (list_all is_making vs) makes in
    run_untouched vs (step s v).state both.1 (settled v (does v s) (does_after v s both.0 h))

pub set_ups_touch_nothing : SetUpsTouchNothing
set_ups_touch_nothing cores events makes =
    let h = run_untouched events (start_with cores) makes (none_at_end IsNewBinding, fresh_cores (range_with_len 0 cores)) in
    record { bindings = h.0; links = λ n l k link there. h.1 n k there l link }
