-- What a set-up makes of the machine's bindings: each is of the interface that its event names, and none is joined by a circuit.
use Rattle.std.proofs.Common.{◌≡◌, refl, sym, ◌∙◌, ap, ℕ, ◌+◌, ◌||◌, ◌&&◌, ◌==◌, nat_lt, nat_le, not, Bool, true, false, List, [], ◌∷◌, ◌++◌, length, map, slice_get, Option, Some, None, append_assoc}
use Rattle.std.specs.List.{list_all}
use Rattle.std.proofs.lemmas.Bool.{not-true}
use Rattle.std.proofs.lemmas.List.{append-nil, map-append}
use Rattle.std.proofs.lemmas.List.Concat.{flat_map-cons}
use Rattle.fl_base.specs.declared.identity.EndId.{EndId}
use Rattle.fl_base.specs.declared.identity.Side.{Side}
use Rattle.fl_base.specs.declared.identity.Side.TheVariants.{Client, Server}
use Rattle.fl_base.specs.Numbered.{most_bindings}
use Rattle.fl_model.specs.Binding as machine
use Rattle.fl_model.specs.Binding.{BindByNames, end_id, with_new_binding, binds_both, place_of_service}
use Rattle.fl_model.specs.Ends.{Queue, End, fresh_queue, unbound_end}
use Rattle.fl_model.specs.Events.{DispatcherId, Kind, by_queues, by_ring, by_route, Event, add_interface, add_link, add_dispatcher, export, bind, Answer, refused}
use Rattle.fl_model.specs.Making as making
use Rattle.fl_model.specs.Making.{most_interfaces, most_dispatchers, most_services, is_ring_size}
use Rattle.fl_model.specs.Rings.{fresh_ring}
use Rattle.fl_model.specs.Runs.{answers_to, reached}
use Rattle.fl_model.specs.State.{Back, local, over_ring, over_route, Binding, State, StepOutcome, answers, dispatcher_of, end_of, change_end, with_end_in, seats, binds_end}
use Rattle.fl_model.specs.Step.{step, does, settles_by}
use Rattle.fl_model.specs.Waits.{Dispatcher}
use Rattle.fl_model.specs.Worlds.{start_with}
use Rattle.fl_model_laws.proofs.Cases.{either, by_given}
use Rattle.fl_model_laws.proofs.Small.{both_are}
use Rattle.fl_model_laws.proofs.Views.{map_kept}
use Rattle.fl_cores_file_laws.specs.SetUps.{sets_up, is_refusal, Passes}
use Rattle.fl_cores_file_laws.proofs.Binding.{is_at_once}
use Rattle.fl_cores_file_laws.proofs.Lines.{same_answer}
use Rattle.fl_cores_file_laws.proofs.Adding.{bound_by, bound_in}

-- ---- a binding

abbrev pub kind_by : Back → ℕ → Option ℕ
kind_by local i = Some i
kind_by (over_ring n) i = Some i
kind_by (over_route route) i = None

-- its interface, where it isn't joined by a circuit
abbrev pub kind_of : Binding → Option ℕ
kind_of b = kind_by b.back b.interface

abbrev pub kinds : State → List (Option ℕ)
kinds s = map kind_of s.bindings

abbrev pub known : List ℕ → List (Option ℕ)
known ns = map (λ (i : ℕ). Some i) ns

-- ---- what leaves them

side_kind : (side : Side) (f : End → End) (b : Binding) → kind_of (with_end_in side f b) ≡ kind_of b
side_kind Client f b = refl
side_kind Server f b = refl

end_kinds : (e : EndId) (f : End → End) (s : State) → kinds (change_end e f s) ≡ kinds s
end_kinds e f s = map_kept kind_of (with_end_in e.side f) s.bindings e.binding (λ b q. side_kind e.side f b)

abbrev seat_on : DispatcherId → Dispatcher → End → End
seat_on d x y = record y { seat = Some (record { dispatcher = d; channel = length x.ends }) }

seat_kinds : (d : DispatcherId) (e : EndId) (s : State) → kinds (seats d e s) ≡ kinds s
seat_kinds d e s = by_given (λ (t : State). kinds t ≡ kinds s) (dispatcher_of s d) s _ refl (λ x q. end_kinds e (seat_on d x) s)

bind_kinds : (e : EndId) (circuit : ℕ) (s : State) → kinds (binds_end e circuit s) ≡ kinds s
bind_kinds e circuit s =
    let f : End → End = λ x. record x { circuit = Some circuit } in
    let t = change_end e f s in
    by_given (λ (u : State). kinds u ≡ kinds s) (end_of t e) t _ (end_kinds e f s)
    (λ x q. by_given (λ (u : State). kinds u ≡ kinds s) x.seat t _ (end_kinds e f s) (λ seat r. end_kinds e f s))

both_kinds : (n : ℕ) (w : BindByNames) (s : State) → kinds (binds_both n w s) ≡ kinds s
both_kinds n w s =
    let one = seats w.client (end_id n Client) s in
    let two = seats w.service.dispatcher (end_id n Server) one in
    bind_kinds (end_id n Server) 0 (binds_end (end_id n Client) 0 two) ∙ bind_kinds (end_id n Client) 0 two
    ∙ seat_kinds w.service.dispatcher (end_id n Server) one ∙ seat_kinds w.client (end_id n Client) s

new_kind : (w : BindByNames) (back : Back) (n : ℕ) (queue : Option Queue) (s : State)
    → kinds (with_new_binding w back n queue s) ≡ kinds s ++ kind_by back w.interface ∷ []
new_kind w back n queue s =
    let b : Binding =
    record { interface = w.interface; back = back; client = unbound_end w.messages n queue; server = unbound_end w.messages n queue } in
    map-append kind_of s.bindings (b ∷ [])

-- ---- an event

-- where it isn't refused, bindings of these interfaces are more
abbrev Adds : State → List ℕ → StepOutcome → Type 0
Adds s ns o = is_refusal o.answer ≡ false → kinds o.state ≡ kinds s ++ known ns

refusing : (s : State) (ns : List ℕ) (n : ℕ) → Adds s ns (answers s (refused n))
refusing s ns n h = absurd (let no : true ≡ false = h in cc)

no_more : (s : State) → kinds s ≡ kinds s ++ known []
no_more s = sym (append-nil (kinds s))

queues_add : (w : BindByNames) (slots : ℕ) (s : State) → Adds s (w.interface ∷ []) (machine.binds_by_queues w slots s)
queues_add w slots s =
    let ns : List ℕ = w.interface ∷ [] in
    let fresh = with_new_binding w local 2 (Some (fresh_queue slots)) s in
    either (Adds s ns) (not (w.client.core == w.service.dispatcher.core)) _ _ (λ q. refusing s ns 73)
    (λ q. either (Adds s ns) (nat_lt slots 1 || nat_lt 1024 slots) _ _ (λ r. refusing s ns 32)
    (λ r. either (Adds s ns) (not (machine.has_both_places w s)) _ _ (λ t. refusing s ns 54)
    (λ t h. both_kinds (length s.bindings) w fresh ∙ new_kind w local 2 (Some (fresh_queue slots)) s)))

ring_adds : (w : BindByNames) (size : ℕ) (s : State) → Adds s (w.interface ∷ []) (machine.binds_by_ring w size s)
ring_adds w size s =
    let ns : List ℕ = w.interface ∷ [] in
    let ringed = record s { rings = s.rings ++ fresh_ring size ∷ [] } in
    let fresh = with_new_binding w (over_ring (length s.rings)) 2 None ringed in
    either (Adds s ns) (w.client.core == w.service.dispatcher.core) _ _ (λ q. refusing s ns 73)
    (λ q. either (Adds s ns) (not (is_ring_size size)) _ _ (λ r. refusing s ns 32)
    (λ r. either (Adds s ns) (not (machine.has_both_places w s)) _ _ (λ t. refusing s ns 54)
    (λ t h. both_kinds (length s.bindings) w fresh ∙ new_kind w (over_ring (length s.rings)) 2 None ringed)))

kind_adds : (kind : Kind) (w : BindByNames) (s : State) → is_at_once kind ≡ true → Adds s (w.interface ∷ []) (machine.binds_by w kind s)
kind_adds (by_queues slots) w s once = queues_add w slots s
kind_adds (by_ring size) w s once = ring_adds w size s
kind_adds (by_route route) w s once = absurd (cc)

bind_adds : (client : DispatcherId) (i : ℕ) (name : List ℕ) (kind : Kind) (s : State) → is_at_once kind ≡ true
    → Adds s (i ∷ []) (machine.binds client i name kind s)
bind_adds client i name kind s once =
    let ns : List ℕ = i ∷ [] in
    by_given (Adds s ns) (dispatcher_of s client) _ _ (refusing s ns 92)
    (λ x q. by_given (Adds s ns) (slice_get s.interfaces i) _ _ (refusing s ns 92)
    (λ planned r. either (Adds s ns) (nat_le most_bindings (length s.bindings)) _ _ (λ t. refusing s ns 94)
    (λ t. by_given (Adds s ns) (place_of_service name s.services) _ _ (refusing s ns 70)
    (λ place u. by_given (Adds s ns) (slice_get s.services place) _ _ (refusing s ns 70)
    (λ service z. either (Adds s ns) (not (service.interface == i)) _ _ (λ y. refusing s ns 72)
    (λ y.
    let w : BindByNames = record { client = client; interface = i; messages = length planned.interface.messages; service = service; iref = place + 1 } in
    kind_adds kind w s once))))))

does_adds : (v : Event) (s : State) → sets_up v ≡ true → Adds s (bound_by v) (does v s)
does_adds (add_interface i plan) s u =
    either (Adds s []) (making.has_interface i.name s) _ _ (λ q. refusing s [] 92)
    (λ q. either (Adds s []) (nat_le most_interfaces (length s.interfaces)) _ _ (λ r. refusing s [] 94) (λ r h. no_more s))
does_adds (add_link a b size) s u =
    either (Adds s []) (not (making.is_core a s && making.is_core b s) || (a == b) || making.has_link a b s) _ _ (λ q. refusing s [] 73)
    (λ q. either (Adds s []) (not (is_ring_size size)) _ _ (λ r. refusing s [] 32) (λ r h. no_more s))
does_adds (add_dispatcher core) s u =
    either (Adds s []) (nat_le most_dispatchers (making.count_dispatchers s)) _ _ (λ q. refusing s [] 94)
    (λ q. either (Adds s []) (not (making.is_core core s)) _ _ (λ r. refusing s [] 73) (λ r h. no_more s))
does_adds (export name d i) s u =
    by_given (Adds s []) (dispatcher_of s d) _ _ (refusing s [] 92)
    (λ x q. by_given (Adds s []) (slice_get s.interfaces i) _ _ (refusing s [] 92)
    (λ y r. either (Adds s []) (making.has_service name s) _ _ (λ t. refusing s [] 71)
    (λ t. either (Adds s []) (nat_le most_services (length s.services)) _ _ (λ z. refusing s [] 94) (λ z h. no_more s))))
does_adds (bind client i name (by_queues slots)) s u = bind_adds client i name (by_queues slots) s refl
does_adds (bind client i name (by_ring size)) s u = bind_adds client i name (by_ring size) s refl
does_adds (bind client i name (by_route route)) s u = absurd (cc)
does_adds v s u = absurd (cc)

same_kinds : (v : Event) (s : State) → kinds (step s v).state ≡ kinds (does v s).state
same_kinds (add_interface i plan) s = refl
same_kinds v s = by (does v s).answer
  where
    by : (a : Answer) → kinds (settles_by a (does v s).state) ≡ kinds (does v s).state
    by (refused fault) = refl
    by a = refl

step_adds : (v : Event) (s : State) → sets_up v ≡ true → is_refusal (step s v).answer ≡ false → kinds (step s v).state ≡ kinds s ++ known (bound_by v)
step_adds v s u h = same_kinds v s ∙ does_adds v s u (ap is_refusal (sym (same_answer v s)) ∙ h)

-- ---- events one after another

abbrev passes : Answer → Bool
passes a = not (is_refusal a)

all_add : (vs : List Event) (s : State) → list_all sets_up vs ≡ true → list_all passes (answers_to s vs) ≡ true
    → kinds (reached s vs) ≡ kinds s ++ known (bound_in vs)
all_add [] s u h = no_more s
all_add (v ∷ vs) s u h =
    let us = both_are (sets_up v) (list_all sets_up vs) u in
    let hs = both_are (passes (step s v).answer) (list_all passes (answers_to (step s v).state vs)) h in
    all_add vs (step s v).state us.1 hs.1
    ∙ ap (λ ks. ks ++ known (bound_in vs)) (step_adds v s us.0 (not-true (is_refusal (step s v).answer) hs.0))
    ∙ append_assoc (kinds s) (known (bound_by v)) (known (bound_in vs))
    ∙ ap (λ ks. kinds s ++ ks) (sym (map-append (λ (i : ℕ). Some i) (bound_by v) (bound_in vs)) ∙ ap known (sym (flat_map-cons bound_by v vs)))

pub set_up_kinds : (cores : ℕ) (setup : List Event) → list_all sets_up setup ≡ true → Passes cores setup
    → kinds (reached (start_with cores) setup) ≡ known (bound_in setup)
set_up_kinds cores setup u h = all_add setup (start_with cores) u h
