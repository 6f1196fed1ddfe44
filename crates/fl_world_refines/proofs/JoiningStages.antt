-- The machine's steps by which two ends are joined, in a state whose last binding is theirs.
use Rattle.std.proofs.Common.{◌≡◌, refl, ◌∙◌, ap, ℕ, List, [], ◌∷◌, ◌++◌, length, slice_get, Option, Some, None}
use Rattle.fl_base.specs.declared.identity.EndId.{EndId}
use Rattle.fl_base.specs.declared.identity.Side.{Side}
use Rattle.fl_base.specs.declared.identity.Side.TheVariants.{Client, Server}
use Rattle.fl_base.specs.Given.{given}
use Rattle.fl_model.specs.Given.{changed_at}
use Rattle.fl_model.specs.Events.{DispatcherId}
use Rattle.fl_model.specs.Ends.{Queue, Seat, End, unbound_end}
use Rattle.fl_model.specs.Waits.{Dispatcher, with_end, registers, waits_in}
use Rattle.fl_model.specs.Monitors.{Core}
use Rattle.fl_model.specs.State.{Back, Binding, State, end_in, with_end_in, change_dispatcher, change_end, seats, registers_end, binds_end}
use Rattle.fl_model.specs.Binding.{BindByNames, end_id, with_new_binding, binds_both}
use Rattle.fl_model_laws.proofs.Ready.{get_last}
use Rattle.fl_model_laws.proofs.Views.{changed_later}

-- the state with these cores and one binding more
abbrev pub stage : State → List Core → Binding → State
stage s cores b = record s { cores = cores; bindings = s.bindings ++ b ∷ [] }

abbrev pub at_dispatcher : DispatcherId → (Dispatcher → Dispatcher) → List Core → List Core
at_dispatcher d f ks = changed_at d.core (λ k. record k { dispatchers = changed_at d.place f k.dispatchers }) ks

abbrev pub dispatcher_in : List Core → DispatcherId → Option Dispatcher
dispatcher_in ks d = given (slice_get ks d.core) None (λ k. slice_get k.dispatchers d.place)

-- the end that this state's next binding will have on a side
abbrev pub next_end : State → Side → EndId
next_end s side = end_id (length s.bindings) side

abbrev pub sits_at : DispatcherId → Dispatcher → Seat
sits_at d x = record { dispatcher = d; channel = length x.ends }

abbrev pub sat : DispatcherId → Dispatcher → End → End
sat d x y = record y { seat = Some (sits_at d x) }

abbrev pub bound_to : ℕ → End → End
bound_to circuit x = record x { circuit = Some circuit }

changed_last : {X : Type 0} (xs : List X) (f : X → X) (x : X) → changed_at (length xs) f (xs ++ x ∷ []) ≡ xs ++ f x ∷ []
changed_last [] f x = refl
changed_last (y ∷ xs) f x = changed_later y (xs ++ x ∷ []) (length xs) f ∙ ap (λ ys. y ∷ ys) (changed_last xs f x)

pub seats_stage : (s : State) (ks : List Core) (b : Binding) (d : DispatcherId) (side : Side) (x : Dispatcher) → dispatcher_in ks d ≡ Some x
    → seats d (next_end s side) (stage s ks b) ≡ stage s (at_dispatcher d (with_end (next_end s side)) ks) (with_end_in side (sat d x) b)
seats_stage s ks b d side x at =
    ap (λ (o : Option Dispatcher). given o (stage s ks b) (λ y. change_dispatcher d (with_end (next_end s side)) (change_end (next_end s side) (sat d y) (stage s ks b)))) at
    ∙ ap (λ bs. record s { cores = at_dispatcher d (with_end (next_end s side)) ks; bindings = bs }) (changed_last s.bindings (with_end_in side (sat d x)) b)

registers_stage : (s : State) (ks : List Core) (b : Binding) (side : Side) (seat : Seat) → (end_in side b).seat ≡ Some seat
    → registers_end (next_end s side) (stage s ks b) ≡ stage s (at_dispatcher seat.dispatcher (registers seat.channel (waits_in (end_in side b).queue)) ks) b
registers_stage s ks b side seat at =
    ap (λ (o : Option End). given o (stage s ks b) (λ x. given x.seat (stage s ks b) (λ z. change_dispatcher z.dispatcher (registers z.channel (waits_in x.queue)) (stage s ks b))))
    (ap (λ (o : Option Binding). given o None (λ c. Some (end_in side c))) (get_last s.bindings b))
    ∙ ap (λ (o : Option Seat). given o (stage s ks b) (λ z. change_dispatcher z.dispatcher (registers z.channel (waits_in (end_in side b).queue)) (stage s ks b))) at

bound_seat : (b : Binding) (side : Side) (circuit : ℕ) → (end_in side (with_end_in side (bound_to circuit) b)).seat ≡ (end_in side b).seat
bound_seat b Client circuit = refl
bound_seat b Server circuit = refl

bound_queue : (b : Binding) (side : Side) (circuit : ℕ) → (end_in side (with_end_in side (bound_to circuit) b)).queue ≡ (end_in side b).queue
bound_queue b Client circuit = refl
bound_queue b Server circuit = refl

pub binds_stage : (s : State) (ks : List Core) (b : Binding) (side : Side) (circuit : ℕ) (seat : Seat) → (end_in side b).seat ≡ Some seat
    → binds_end (next_end s side) circuit (stage s ks b)
    ≡ stage s (at_dispatcher seat.dispatcher (registers seat.channel (waits_in (end_in side b).queue)) ks) (with_end_in side (bound_to circuit) b)
binds_stage s ks b side circuit seat at =
    ap (λ bs. registers_end (next_end s side) (record s { cores = ks; bindings = bs })) (changed_last s.bindings (with_end_in side (bound_to circuit)) b)
    ∙ registers_stage s ks (with_end_in side (bound_to circuit) b) side seat (bound_seat b side circuit ∙ at)
    ∙ ap (λ q. stage s (at_dispatcher seat.dispatcher (registers seat.channel (waits_in q)) ks) (with_end_in side (bound_to circuit) b)) (bound_queue b side circuit)

-- ---- both ends

abbrev pub new_end : BindByNames → ℕ → Option Queue → End
new_end m stations queue = unbound_end m.messages stations queue

-- a binding with these two ends
abbrev pub binding_with : BindByNames → Back → End → End → Binding
binding_with m back client server = record { interface = m.interface; back = back; client = client; server = server }

abbrev pub cores_joined : State → BindByNames → Option Queue → Dispatcher → Dispatcher → List Core
cores_joined s m queue x y =
    at_dispatcher m.service.dispatcher (registers (length y.ends) (waits_in queue))
    (at_dispatcher m.client (registers (length x.ends) (waits_in queue))
    (at_dispatcher m.service.dispatcher (with_end (next_end s Server))
    (at_dispatcher m.client (with_end (next_end s Client)) s.cores)))

abbrev pub joined_binding : BindByNames → Back → ℕ → Option Queue → Dispatcher → Dispatcher → Binding
joined_binding m back stations queue x y =
    binding_with m back (bound_to 0 (sat m.client x (new_end m stations queue))) (bound_to 0 (sat m.service.dispatcher y (new_end m stations queue)))

pub both_stage : (s : State) (m : BindByNames) (back : Back) (stations : ℕ) (queue : Option Queue) (x y : Dispatcher)
    → dispatcher_in s.cores m.client ≡ Some x → dispatcher_in (at_dispatcher m.client (with_end (next_end s Client)) s.cores) m.service.dispatcher ≡ Some y
    → binds_both (length s.bindings) m (with_new_binding m back stations queue s) ≡ stage s (cores_joined s m queue x y) (joined_binding m back stations queue x y)
both_stage s m back stations queue x y p q =
    let fresh = new_end m stations queue in
    let c = next_end s Client in
    let v = next_end s Server in
    let ks = at_dispatcher m.client (with_end c) s.cores in
    let ls = at_dispatcher m.service.dispatcher (with_end v) ks in
    ap (λ z. binds_end v 0 (binds_end c 0 (seats m.service.dispatcher v z))) (seats_stage s s.cores (binding_with m back fresh fresh) m.client Client x p)
    ∙ ap (λ z. binds_end v 0 (binds_end c 0 z)) (seats_stage s ks (binding_with m back (sat m.client x fresh) fresh) m.service.dispatcher Server y q)
    ∙ ap (λ z. binds_end v 0 z) (binds_stage s ls (binding_with m back (sat m.client x fresh) (sat m.service.dispatcher y fresh)) Client 0 (sits_at m.client x) refl)
    ∙ binds_stage s (at_dispatcher m.client (registers (length x.ends) (waits_in queue)) ls)
    (binding_with m back (bound_to 0 (sat m.client x fresh)) (sat m.service.dispatcher y fresh)) Server 0 (sits_at m.service.dispatcher y) refl
