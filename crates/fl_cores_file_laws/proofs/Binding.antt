-- Lines that bind by queues or by a ring: each is refused as the machine refuses it, but where there are 1,024 bindings, and the draft goes on as the machine does.
use Rattle.std.proofs.Common.{◌≡◌, ◌≢◌, ◌⊎◌, inl, inr, refl, sym, ◌∙◌, ap, subst, ℕ, ◌+◌, ◌≤◌, ◌==◌, ◌||◌, ◌&&◌, nat_lt, nat_le, not, Bool, true, false, if◌then◌else◌, List, [], ◌∷◌, ◌++◌, length, length-append, slice_get, is_some, sum, cond, Option, Some, None, option_map, arith}
use Rattle.std.specs.List.{count_by}
use Rattle.std.proofs.lemmas.Bool.Decides.{nat_tests}
use Rattle.std.proofs.lemmas.List.Sums.{sum_by-append}
use Rattle.fl_base.specs.declared.identity.Side.TheVariants.{Client}
use Rattle.fl_base.specs.Given.{given}
use Rattle.fl_base.specs.Numbered.{most_bindings}
use Rattle.fl_model.specs.Binding as machine
use Rattle.fl_model.specs.Binding.{BindByNames, end_id, with_new_binding, same_dispatcher, has_places_for, place_of_service}
use Rattle.fl_model.specs.Calls.{Planned}
use Rattle.fl_model.specs.Ends.{Queue, fresh_queue}
use Rattle.fl_model.specs.Events.{DispatcherId, Kind, by_queues, by_ring, by_route, Event, bind, Answer, done, refused}
use Rattle.fl_model.specs.Making.{is_ring_size}
use Rattle.fl_model.specs.Monitors.{Service}
use Rattle.fl_model.specs.Rings.{fresh_ring}
use Rattle.fl_model.specs.State.{Back, local, over_ring, State, StepOutcome, answers, dispatcher_of, seats}
use Rattle.fl_model.specs.Waits.{Dispatcher}
use Rattle.fl_model_laws.proofs.Cases.{either, by_given}
use Rattle.fl_model_laws.proofs.Replies.{length_changed}
use Rattle.fl_cores_file.specs.Draft.{Draft, Offer, TheDraftRequest, has_places, is_dispatcher, is_interface, has_both_places, binds_by_queues, binds_by_ring, binds_by, binds, offer_of, with_set_up}
use Rattle.fl_cores_file.specs.Verdicts.{LineVerdict, stops, goes_on}
use Rattle.fl_cores_file_laws.specs.SetUps.{is_binding}
use Rattle.fl_cores_file_laws.proofs.Views.{View, view_of, ends_at, seated, seat_view, both_view}
use Rattle.fl_cores_file_laws.proofs.Counts.{one_longer, seat_more, seat_keeps, seat_sizes}
use Rattle.fl_cores_file_laws.proofs.Mirrors.{Mirrors, offer_by, there_same, interface_same, offer_same, places_same, found, present}
use Rattle.fl_cores_file_laws.proofs.Making.{Agrees, agree_if, agree_there}

-- ---- both ends find a place

same_if : (a p q r p2 q2 r2 : Bool) → p ≡ p2 → q ≡ q2 → r ≡ r2 → (if a then p else (q && r)) ≡ (if a then p2 else (q2 && r2))
same_if true p q r p2 q2 r2 e f g = e
same_if false p q r p2 q2 r2 e f g = ap (λ b. b && r) f ∙ ap (λ b. q2 && b) g

both_same : (d : Draft) (s : State) (h : Mirrors d (view_of s)) (m : BindByNames) (w : TheDraftRequest) → w.client ≡ m.client → w.server ≡ m.service.dispatcher
    → is_some (ends_at (view_of s).ends m.client) ≡ true → is_some (ends_at (view_of s).ends m.service.dispatcher) ≡ true
    → machine.has_both_places m s ≡ has_both_places w d
both_same d s h m w p q there here =
    let x = m.client in
    let y = m.service.dispatcher in
    same_if (same_dispatcher x y) (has_places_for x 2 s) (has_places_for x 1 s) (has_places_for y 1 s) (has_places 2 x d) (has_places 1 x d) (has_places 1 y d)
    (places_same d s h x 2 there) (places_same d s h x 1 there) (places_same d s h y 1 here)
    ∙ ap (λ z. has_both_places (record w { client = z; server = y }) d) (sym p)
    ∙ ap (λ z. has_both_places (record w { server = z }) d) (sym q)

-- ---- one binding more

bound_goes : (m : BindByNames) (w : TheDraftRequest) (kind : Kind) (d : Draft) (v : View) → Mirrors d v → w.client ≡ m.client → w.server ≡ m.service.dispatcher
    → is_some (ends_at v.ends m.client) ≡ true → is_some (ends_at v.ends m.service.dispatcher) ≡ true
    → Mirrors (with_set_up w kind d) (record v { ends = seated m.service.dispatcher (seated m.client v.ends); bindings = v.bindings + 1 })
bound_goes m w kind d v h p q there here =
    let x = m.client in
    let y = m.service.dispatcher in
    let one = seated x v.ends in
    record {
      interfaces = h.interfaces;
      cores = h.cores;
      even = length_changed one y.core _ ∙ length_changed v.ends x.core _ ∙ h.even;
      links = h.links;
      many = λ core. ap (λ ns. given (slice_get ns core) 0 λ n. n) (seat_sizes one y ∙ seat_sizes v.ends x) ∙ h.many core;
      total = ap (λ ns. sum ns) (seat_sizes one y ∙ seat_sizes v.ends x) ∙ h.total;
      seats = λ z.
          let first = seat_more v.ends x z there in
          let second = seat_more one y z (seat_keeps v.ends x y ∙ here) in
          let before = h.seats z in
          let both : count_by (same_dispatcher z) (d.seats ++ w.client ∷ w.server ∷ []) ≡ count_by (same_dispatcher z) (d.seats ++ x ∷ y ∷ [])
          = ap (λ a. count_by (same_dispatcher z) (d.seats ++ a ∷ w.server ∷ [])) p ∙ ap (λ a. count_by (same_dispatcher z) (d.seats ++ x ∷ a ∷ [])) q in
          let more = sum_by-append (λ a. cond (same_dispatcher z a) 1 0) d.seats (x ∷ y ∷ []) in
          omega (arith, first, second, before, both, more);
      names = h.names;
      offers = h.offers;
      offered = λ n a at. seat_keeps one y a.dispatcher ∙ seat_keeps v.ends x a.dispatcher ∙ h.offered n a at;
      few = one_longer v.bindings d.bindings _ h.few;
    }

-- the machine's binding, whatever it has beside its two ends
joined_view : (m : BindByNames) (back : Back) (stations : ℕ) (queue : Option Queue) (s t : State) → view_of t ≡ view_of s
    → is_some (ends_at (view_of s).ends m.client) ≡ true → is_some (ends_at (view_of s).ends m.service.dispatcher) ≡ true
    → view_of (machine.binds_both (length s.bindings) m (with_new_binding m back stations queue t))
    ≡ record (view_of s) { ends = seated m.service.dispatcher (seated m.client (view_of s).ends); bindings = (view_of s).bindings + 1 }
joined_view m back stations queue s t same there here =
    let fresh = with_new_binding m back stations queue t in
    let grown : view_of fresh ≡ record (view_of s) { bindings = (view_of s).bindings + 1 }
    = ap (λ n. record (view_of t) { bindings = n }) (length-append t.bindings (_ ∷ []))
    ∙ ap (λ (v : View). record v { bindings = v.bindings + 1 }) same in
    let (x, q) = found fresh m.client (ap (λ (v : View). is_some (ends_at v.ends m.client)) grown ∙ there) in
    let seen = seat_view m.client (end_id (length s.bindings) Client) fresh x q in
    let (y, r) = found (seats m.client (end_id (length s.bindings) Client) fresh) m.service.dispatcher
    (ap (λ (v : View). is_some (ends_at v.ends m.service.dispatcher)) seen
    ∙ seat_keeps (view_of fresh).ends m.client m.service.dispatcher
    ∙ ap (λ (v : View). is_some (ends_at v.ends m.service.dispatcher)) grown ∙ here) in
    both_view (length s.bindings) m fresh x y q r
    ∙ ap (λ (v : View). record v { ends = seated m.service.dispatcher (seated m.client v.ends) }) grown

-- ---- by queues, or by a ring

module _ (client : DispatcherId) (i : ℕ) (name : List ℕ) (d : Draft) (s : State) (h : Mirrors d (view_of s)) (service : Service) (iref messages : ℕ)
    (there : is_some (ends_at (view_of s).ends client) ≡ true) (here : is_some (ends_at (view_of s).ends service.dispatcher) ≡ true) where
  abbrev m : BindByNames
  m = record { client = client; interface = i; messages = messages; service = service; iref = iref }

  abbrev w : TheDraftRequest
  w = record { client = client; server = service.dispatcher; interface = i; service = name }

  queues_agree : (slots : ℕ) → Agrees (bind client i name (by_queues slots)) d (binds_by_queues w slots d) (machine.binds_by_queues m slots s)
  queues_agree slots =
      let v = bind client i name (by_queues slots) in
      agree_if (Agrees v d) (not (client.core == service.dispatcher.core)) _ _ _ _ _ refl (λ q. refl)
      (λ q. agree_if (Agrees v d) (nat_lt slots 1 || nat_lt 1024 slots) _ _ _ _ _ refl (λ r. refl)
      (λ r. agree_if (Agrees v d) (not (has_both_places w d)) (not (machine.has_both_places m s)) _ _ _ _ (ap not (both_same d s h m w refl refl there here)) (λ t. refl)
      (λ t. (
        refl,
        subst (Mirrors (with_set_up w (by_queues slots) d)) (sym (joined_view m local 2 (Some (fresh_queue slots)) s s refl there here))
            (bound_goes m w (by_queues slots) d (view_of s) h refl refl there here),
        record { setup = refl; cores = refl; settled = refl },
      ))))

  ring_agrees : (size : ℕ) → Agrees (bind client i name (by_ring size)) d (binds_by_ring w size d) (machine.binds_by_ring m size s)
  ring_agrees size =
      let v = bind client i name (by_ring size) in
      let ringed = record s { rings = s.rings ++ fresh_ring size ∷ [] } in
      agree_if (Agrees v d) (client.core == service.dispatcher.core) _ _ _ _ _ refl (λ q. refl)
      (λ q. agree_if (Agrees v d) (not (is_ring_size size)) _ _ _ _ _ refl (λ r. refl)
      (λ r. agree_if (Agrees v d) (not (has_both_places w d)) (not (machine.has_both_places m s)) _ _ _ _ (ap not (both_same d s h m w refl refl there here)) (λ t. refl)
      (λ t. (
        refl,
        subst (Mirrors (with_set_up w (by_ring size) d)) (sym (joined_view m (over_ring (length s.rings)) 2 None s ringed refl there here))
            (bound_goes m w (by_ring size) d (view_of s) h refl refl there here),
        record { setup = refl; cores = refl; settled = refl },
      ))))

-- ---- a line that binds

-- another binding is one too many for the draft; the machine's names are right
pub record IsOneMore (v : Event) (d : Draft) (fault : ℕ) (o : StepOutcome) : Type 0 where
  pub binding : is_binding v ≡ true
  pub fault_is : fault ≡ 94
  pub many : most_bindings ≤ length d.bindings
  pub named : o.answer ≢ refused 92

abbrev pub AgreesOr : Event → Draft → LineVerdict Draft → StepOutcome → Type 0
AgreesOr v d (stops fault) o = (o.answer ≡ refused fault) ⊎ IsOneMore v d fault o
AgreesOr v d (goes_on e) o = Agrees v d (goes_on e) o

pub or_else : (v : Event) (d : Draft) (y : LineVerdict Draft) (o : StepOutcome) → Agrees v d y o → AgreesOr v d y o
or_else v d (stops fault) o h = inl h
or_else v d (goes_on e) o h = h

-- where the names are right, the machine doesn't answer that they aren't
abbrev Named : StepOutcome → Type 0
Named o = o.answer ≢ refused 92

refused_as : (s : State) (fault : ℕ) → nat_lt fault 92 || nat_lt 92 fault ≡ true → Named (answers s (refused fault))
refused_as s fault h e = let same : fault ≡ 92 = same_fault (refused fault) (refused 92) e in grind (arith, nat_tests, h, same)
  where
    number : Answer → ℕ
    number (refused n) = n
    number a = 0

    same_fault : (a b : Answer) → a ≡ b → number a ≡ number b
    same_fault a b e = ap number e

is_done : (s : State) → Named (answers s done)
is_done s e = absurd (cc)

queues_named : (m : BindByNames) (slots : ℕ) (s : State) → Named (machine.binds_by_queues m slots s)
queues_named m slots s =
    let fresh = with_new_binding m local 2 (Some (fresh_queue slots)) s in
    either Named (not (m.client.core == m.service.dispatcher.core)) _ _ (λ q. refused_as s 73 refl)
    (λ q. either Named (nat_lt slots 1 || nat_lt 1024 slots) _ _ (λ r. refused_as s 32 refl)
    (λ r. either Named (not (machine.has_both_places m s)) _ _ (λ t. refused_as s 54 refl) (λ t. is_done (machine.binds_both (length s.bindings) m fresh))))

ring_named : (m : BindByNames) (size : ℕ) (s : State) → Named (machine.binds_by_ring m size s)
ring_named m size s =
    let ringed = record s { rings = s.rings ++ fresh_ring size ∷ [] } in
    let fresh = with_new_binding m (over_ring (length s.rings)) 2 None ringed in
    either Named (m.client.core == m.service.dispatcher.core) _ _ (λ q. refused_as s 73 refl)
    (λ q. either Named (not (is_ring_size size)) _ _ (λ r. refused_as s 32 refl)
    (λ r. either Named (not (machine.has_both_places m s)) _ _ (λ t. refused_as s 54 refl) (λ t. is_done (machine.binds_both (length s.bindings) m fresh))))

rest_named : (m : Service → ℕ → BindByNames) (i : ℕ) (name : List ℕ) (kind : Kind) (s : State) → ((x : BindByNames) → Named (machine.binds_by x kind s))
    → Named (given (place_of_service name s.services) (answers s (refused 70)) λ place.
    given (slice_get s.services place) (answers s (refused 70)) λ service.
    if not (service.interface == i) then answers s (refused 72) else machine.binds_by (m service place) kind s)
rest_named m i name kind s h =
    by_given Named (place_of_service name s.services) _ _ (refused_as s 70 refl)
    (λ place q. by_given Named (slice_get s.services place) _ _ (refused_as s 70 refl)
    (λ service r. either Named (not (service.interface == i)) _ _ (λ t. refused_as s 72 refl) (λ t. h (m service place))))

-- by queues or by a ring
abbrev pub is_at_once : Kind → Bool
is_at_once (by_queues slots) = true
is_at_once (by_ring size) = true
is_at_once kind = false

at_once_named : (kind : Kind) (s : State) → is_at_once kind ≡ true → (x : BindByNames) → Named (machine.binds_by x kind s)
at_once_named (by_queues slots) s e x = queues_named x slots s
at_once_named (by_ring size) s e x = ring_named x size s
at_once_named (by_route route) s e x = absurd (cc)

kind_agrees : (client : DispatcherId) (i : ℕ) (name : List ℕ) (kind : Kind) (d : Draft) (s : State) → Mirrors d (view_of s) → (service : Service) (iref messages : ℕ)
    → is_some (ends_at (view_of s).ends client) ≡ true → is_some (ends_at (view_of s).ends service.dispatcher) ≡ true → is_at_once kind ≡ true
    → Agrees (bind client i name kind) d (binds_by (record { client = client; server = service.dispatcher; interface = i; service = name }) kind d)
    (machine.binds_by (record { client = client; interface = i; messages = messages; service = service; iref = iref }) kind s)
kind_agrees client i name (by_queues slots) d s h service iref messages there here e = queues_agree client i name d s h service iref messages there here slots
kind_agrees client i name (by_ring size) d s h service iref messages there here e = ring_agrees client i name d s h service iref messages there here size
kind_agrees client i name (by_route route) d s h service iref messages there here e = absurd (cc)

module _ (client : DispatcherId) (i : ℕ) (name : List ℕ) (kind : Kind) (d : Draft) (s : State) (h : Mirrors d (view_of s)) (once : is_at_once kind ≡ true) where
  abbrev v : Event
  v = bind client i name kind

  abbrev by_offer : Option Offer → LineVerdict Draft
  by_offer o = given o (stops 70) λ offer.
      if not (offer.interface == i) then stops 72
      else binds_by (record { client = client; server = offer.dispatcher; interface = i; service = name }) kind d

  abbrev named : Planned → Service → ℕ → BindByNames
  named planned service place =
      record { client = client; interface = i; messages = length planned.interface.messages; service = service; iref = place + 1 }

  abbrev by_service : Planned → ℕ → Option Service → StepOutcome
  by_service planned place o = given o (answers s (refused 70)) λ service.
      if not (service.interface == i) then answers s (refused 72) else machine.binds_by (named planned service place) kind s

  abbrev by_place : Planned → Option ℕ → StepOutcome
  by_place planned o = given o (answers s (refused 70)) λ place. by_service planned place (slice_get s.services place)

  one_service : (x : Dispatcher) (planned : Planned) → dispatcher_of s client ≡ Some x → (place : ℕ) (z : Option Service) → slice_get s.services place ≡ z
      → Agrees v d (by_offer (option_map offer_by z)) (by_service planned place z)
  one_service x planned q place None at = refl
  one_service x planned q place (Some service) at =
      agree_if (Agrees v d) (not (service.interface == i)) (not (service.interface == i)) _ _ _ _ refl (λ t. refl)
      (λ t. kind_agrees client i name kind d s h service (place + 1) (length planned.interface.messages) (present s client x q) (h.offered place service at) once)

  one_place : (x : Dispatcher) (planned : Planned) → dispatcher_of s client ≡ Some x → (o : Option ℕ)
      → Agrees v d (by_offer (given o None λ place. option_map offer_by (slice_get s.services place))) (by_place planned o)
  one_place x planned q None = refl
  one_place x planned q (Some place) = one_service x planned q place (slice_get s.services place) refl

  rest : (x : Dispatcher) (planned : Planned) → dispatcher_of s client ≡ Some x
      → Agrees v d (by_offer (offer_of name d)) (by_place planned (place_of_service name s.services))
  rest x planned q =
      subst (λ o. Agrees v d (by_offer o) (by_place planned (place_of_service name s.services))) (sym (offer_same d s h name))
      (one_place x planned q (place_of_service name s.services))

  by_count : (x : Dispatcher) (planned : Planned) → dispatcher_of s client ≡ Some x → (a : Bool) → nat_le most_bindings (length d.bindings) ≡ a
      → (b : Bool) → nat_le most_bindings (length s.bindings) ≡ b
      → AgreesOr v d (if a then stops 94 else by_offer (offer_of name d)) (if b then answers s (refused 94) else by_place planned (place_of_service name s.services))
  by_count x planned q true e true f = inl refl
  by_count x planned q true e false f = inr (record {
    binding = refl;
    fault_is = refl;
    many = grind (arith, nat_tests, e);
    named = rest_named (named planned) i name kind s (at_once_named kind s once);
  })
  by_count x planned q false e true f = absurd (let few = h.few in grind (arith, nat_tests, e, f, few))
  by_count x planned q false e false f =
      or_else v d (by_offer (offer_of name d)) (by_place planned (place_of_service name s.services)) (rest x planned q)

  pub bind_agrees : AgreesOr v d (binds client i name kind d) (machine.binds client i name kind s)
  bind_agrees =
      agree_there (AgreesOr v d) s (is_dispatcher client d) (is_interface i d) (dispatcher_of s client) (slice_get s.interfaces i) _ _ (inl refl)
      (there_same d s h client) (interface_same d s h i)
      (λ x planned q r. by_count x planned q (nat_le most_bindings (length d.bindings)) refl (nat_le most_bindings (length s.bindings)) refl)
