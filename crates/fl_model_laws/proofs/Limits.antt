-- Each step keeps the limits of a world: each thing that is made within one is asked for room first, and nothing else makes one.
use Rattle.std.proofs.Common.{◌≡◌, refl, sym, ap, subst, ℕ, zero, suc, ◌+◌, ◌≤◌, ◌||◌, nat_le, nat_lt, false, Option}
use Rattle.std.proofs.Common.{List, [], ◌∷◌, ◌++◌, length, map, Some, None, arith}
use Rattle.std.specs.List.{range_with_len}
use Rattle.std.proofs.lemmas.List.{length-append}
use Rattle.std.proofs.lemmas.Bool.Decides.{nat_tests}
use Rattle.fl_base.specs.declared.identity.EndId.{EndId}
use Rattle.fl_base.specs.declared.identity.Side.TheVariants.{Client, Server}
use Rattle.fl_base.specs.Ends.{peer}
use Rattle.fl_base.specs.Numbered.{most_cores, most_bindings}
use Rattle.fl_lists.specs.declared.place.Place.TheVariants.{Polled}
use Rattle.fl_model.specs.Given.{changed_at}
use Rattle.fl_model.specs.Events.{DispatcherId, Event}
use Rattle.fl_model.specs.Calls.{Planned}
use Rattle.fl_model.specs.Rings.{Label, next_of, says, acknowledges, RingEnd, there_is_room, looks, takes, Ring}
use Rattle.fl_model.specs.Ends.{End, Direction, fresh_queue, without_first, Queue}
use Rattle.fl_model.specs.Waits.{Dispatcher, waits_in}
use Rattle.fl_model.specs.Monitors.{Core, fresh_core, Heard, Hearing, hears, no_outbox, misrouted, opening_went_on, server_made, opening_failed, answer_went_on, end_opened, end_refused}
use Rattle.fl_model.specs.State.{State, Binding, StepOutcome, local, over_ring, Outlet, peer_queue, ring_side, dispatcher_of, end_of, end_in, Back}
use Rattle.fl_model.specs.State.{change_core, change_ring, change_binding, change_end, change_channel, change_route, seats, binds_end, in_queue}
use Rattle.fl_model.specs.Making.{most_interfaces, most_services}
use Rattle.fl_model.specs.Binding.{BindByNames, end_id, with_new_binding, binds_both}
use Rattle.fl_model.specs.Sending.{writes_to}
use Rattle.fl_model.specs.Taking.{Chosen, takes_label, goes_back, finds}
use Rattle.fl_model.specs.Forwarding.{follows, takes_said, grants, passes_word}
use Rattle.fl_model.specs.Step.{step}
use Rattle.fl_model.specs.SoundLimits.{CoresAreFew, InterfacesAreFew, ServicesAreFew, BindingsAreFew}
use Rattle.fl_model_laws.proofs.Cases.{by_given}
use Rattle.fl_model_laws.proofs.Replies.{length_changed}
use Rattle.fl_model_laws.proofs.Walk.{CalledAt, RuledAt, PassedAt, Making, HasRoom, TurnAt, KeepsWithin, step_leads_within, with_ring}

pub record IsFew (s : State) : Type 0 where
  pub cores : CoresAreFew s
  pub interfaces : InterfacesAreFew s
  pub services : ServicesAreFew s
  pub bindings : BindingsAreFew s

-- ---- what leaves all counts

same_few : {X : Type 0} (xs ys : List X) (most : ℕ) → length ys ≡ length xs → length xs ≤ most → length ys ≤ most
same_few xs ys most e h = subst (λ (n : ℕ). n ≤ most) (sym e) h

core_kept : (n : ℕ) (f : Core → Core) (s : State) → IsFew s → IsFew (change_core n f s)
core_kept n f s h = record {
  cores = same_few s.cores (changed_at n f s.cores) most_cores (length_changed s.cores n f) h.cores;
  interfaces = h.interfaces;
  services = h.services;
  bindings = h.bindings;
}

binding_kept : (n : ℕ) (f : Binding → Binding) (s : State) → IsFew s → IsFew (change_binding n f s)
binding_kept n f s h = record {
  cores = h.cores;
  interfaces = h.interfaces;
  services = h.services;
  bindings = same_few s.bindings (changed_at n f s.bindings) most_bindings (length_changed s.bindings n f) h.bindings;
}

-- a state with the same lists but the rings
as_few : (s t : State) → t.cores ≡ s.cores → t.interfaces ≡ s.interfaces → t.services ≡ s.services → t.bindings ≡ s.bindings → IsFew s → IsFew t
as_few s t c i v b h = record {
  cores = same_few s.cores t.cores most_cores (ap (λ xs. length xs) c) h.cores;
  interfaces = same_few s.interfaces t.interfaces most_interfaces (ap (λ xs. length xs) i) h.interfaces;
  services = same_few s.services t.services most_services (ap (λ xs. length xs) v) h.services;
  bindings = same_few s.bindings t.bindings most_bindings (ap (λ xs. length xs) b) h.bindings;
}

ring_kept : (n : ℕ) (f : Ring → Ring) (s : State) → IsFew s → IsFew (change_ring n f s)
ring_kept n f s h = as_few s (change_ring n f s) refl refl refl refl h

end_kept : (e : EndId) (f : End → End) (s : State) → IsFew s → IsFew (change_end e f s)
end_kept e f s h = binding_kept e.binding _ s h

channel_kept : (e : EndId) (f : ℕ → End → Dispatcher → Dispatcher) (s : State) → IsFew s → IsFew (change_channel e f s)
channel_kept e f s h = by_given IsFew (end_of s e) _ _ h (λ x q. by_given IsFew x.seat _ _ h (λ seat r. core_kept seat.dispatcher.core _ s h))

seat_kept : (d : DispatcherId) (e : EndId) (s : State) → IsFew s → IsFew (seats d e s)
seat_kept d e s h =
    by_given IsFew (dispatcher_of s d) _ _ h
    (λ x q. core_kept d.core _ (change_end e (λ y. record y { seat = Some (record { dispatcher = d; channel = length x.ends }) }) s) (end_kept e _ s h))

bound_kept : (e : EndId) (circuit : ℕ) (s : State) → IsFew s → IsFew (binds_end e circuit s)
bound_kept e circuit s h = channel_kept e _ (change_end e (λ y. record y { circuit = Some circuit }) s) (end_kept e _ s h)

both_kept : (n : ℕ) (w : BindByNames) (s : State) → IsFew s → IsFew (binds_both n w s)
both_kept n w s h =
    let c : EndId = end_id n Client in
    let v : EndId = end_id n Server in
    let first : State = seats w.client c s in
    let second : State = seats w.service.dispatcher v first in
    bound_kept v 0 (binds_end c 0 second) (bound_kept c 0 second (seat_kept w.service.dispatcher v first (seat_kept w.client c s h)))

written_kept : (e : EndId) (i : Planned) (d : Direction) (o : Outlet) (s : State) → IsFew s → IsFew (writes_to e i d o there_is_room s).state
written_kept e i d peer_queue s h = channel_kept (peer e) _ _ (end_kept (peer e) _ _ (end_kept e _ s h))
written_kept e i d (ring_side on) s h = ring_kept on.ring _ _ (end_kept e _ s h)

label_taken : (e : EndId) (i : Planned) (l : Label) (s : State) → IsFew s → IsFew (takes_label e i l s).state
label_taken e i (next_of sender k) s h = by_given (λ (o : StepOutcome). IsFew o.state) (end_of s sender) _ _ h (λ y r. end_kept e _ _ (end_kept sender _ s h))
label_taken e i (says m) s h = h
label_taken e i acknowledges s h = h

found_kept : (t : Chosen) (at : RingEnd) (l : Label) (s : State) → IsFew s → IsFew (finds t at l s).state
found_kept t at (next_of e k) s h = core_kept t.dispatcher.core _ s h
found_kept t at (says m) s h = core_kept t.dispatcher.core _ s h
found_kept t at acknowledges s h = core_kept t.dispatcher.core _ (change_ring at.ring (takes at.side) s) (ring_kept at.ring _ s h)

follows_kept : (x : Heard) (s : State) → IsFew s → IsFew (follows x s).state
follows_kept no_outbox s h = h
follows_kept misrouted s h = h
follows_kept (opening_went_on n c) s h = binding_kept n _ s h
follows_kept (server_made n d c) s h =
    bound_kept (end_id n Server) c (seats d (end_id n Server) (change_route n grants s))
    (seat_kept d (end_id n Server) (change_route n grants s) (binding_kept n _ s h))
follows_kept (opening_failed n fault) s h = binding_kept n _ s h
follows_kept (answer_went_on n) s h = binding_kept n _ s h
follows_kept (end_opened e c) s h = bound_kept e c (change_route e.binding passes_word s) (binding_kept e.binding _ s h)
follows_kept (end_refused e fault) s h = binding_kept e.binding _ s h

said_kept : (at : RingEnd) (x : Heard) (s : State) → IsFew s → IsFew (takes_said at x s)
said_kept at no_outbox s h = h
said_kept at misrouted s h = h
said_kept at (opening_went_on n c) s h = ring_kept at.ring _ s h
said_kept at (server_made n d c) s h = ring_kept at.ring _ s h
said_kept at (opening_failed n fault) s h = ring_kept at.ring _ s h
said_kept at (answer_went_on n) s h = ring_kept at.ring _ s h
said_kept at (end_opened e c) s h = ring_kept at.ring _ s h
said_kept at (end_refused e fault) s h = ring_kept at.ring _ s h

-- ---- what makes one more, where there is room

abbrev IsMade : Making → State → Type 0
IsMade m s = HasRoom m s × IsFew s

not_full : (most n : ℕ) → nat_le most n ≡ false → n + 1 ≤ most
not_full most n h = grind (arith, nat_tests, h)

one_more : {X : Type 0} (xs : List X) (x : X) (most : ℕ) → nat_le most (length xs) ≡ false → length (xs ++ x ∷ []) ≤ most
one_more xs x most h =
    let longer : length (xs ++ x ∷ []) ≡ length xs + 1 = length-append xs (x ∷ []) in
    let room : length xs + 1 ≤ most = not_full most (length xs) h in
    omega arith

counted_cores : (a n : ℕ) → length (map fresh_core (range_with_len a n)) ≡ n
counted_cores a zero = refl
counted_cores a (suc n) = let later : length (map fresh_core (range_with_len (a + 1) n)) ≡ n = counted_cores (a + 1) n in omega arith

few_cores : (n : ℕ) → nat_lt n 1 || nat_lt most_cores n ≡ false → n ≤ most_cores
few_cores n h = grind (arith, nat_tests, h)

with_binding : (w : BindByNames) (back : Back) (stations : ℕ) (q : Option Queue) (s : State)
    → nat_le most_bindings (length s.bindings) ≡ false → IsFew s → IsFew (with_new_binding w back stations q s)
with_binding w back stations q s r h = record {
  cores = h.cores;
  interfaces = h.interfaces;
  services = h.services;
  bindings = one_more s.bindings _ most_bindings r;
}

few_kept : KeepsWithin CalledAt RuledAt PassedAt IsMade TurnAt IsFew IsFew
few_kept = record {
  settled = λ s h. as_few s (record s { may_set_cores = false }) refl refl refl refl h;
  interface = λ i s q h. record {
    cores = h.1.cores;
    interfaces = one_more s.interfaces i most_interfaces h.0;
    services = h.1.services;
    bindings = h.1.bindings;
  };
  cores = λ n s q h. record {
    cores = subst (λ (m : ℕ). m ≤ most_cores) (sym (counted_cores 0 n)) (few_cores n h.0);
    interfaces = h.1.interfaces;
    services = h.1.services;
    bindings = h.1.bindings;
  };
  link = λ a b size s q r h. core_kept b _ _ (core_kept a _ (with_ring size s) (as_few s (with_ring size s) refl refl refl refl h));
  dispatcher = λ core s h. core_kept core _ s h;
  service = λ x s d i q r t h. record {
    cores = h.1.cores;
    interfaces = h.1.interfaces;
    services = one_more s.services x most_services h.0;
    bindings = h.1.bindings;
  };
  queues = λ w i slots s k q h.
      both_kept (length s.bindings) w (with_new_binding w local 2 (Some (fresh_queue slots)) s) (with_binding w local 2 (Some (fresh_queue slots)) s h.0 h.1);
  ring = λ w i size s k q r h.
      both_kept (length s.bindings) w (with_new_binding w (over_ring (length s.rings)) 2 None (with_ring size s))
      (with_binding w (over_ring (length s.rings)) 2 None (with_ring size s) h.0 (as_few s (with_ring size s) refl refl refl refl h.1));
  route = λ w i cores k l c s want begins h.
      core_kept w.client.core _ _ (seat_kept w.client (end_id (length s.bindings) Client) _ (with_binding w _ _ _ s h.0 h.1));
  called = λ e c b i s at q h. end_kept e _ s h;
  sure = λ need at s h. ring_kept at.ring _ s h;
  looked = λ at s h. ring_kept at.ring _ s h;
  written = λ e b i o s at q r t u h. written_kept e i (end_in e.side b).out o s h;
  held = λ t b i s d at q h. core_kept t.dispatcher.core _ s h;
  no_label = λ t to s d h. core_kept t.dispatcher.core _ s h;
  from_queue = λ t b i q label s d at u v w h.
      label_taken t.end i label (goes_back t (waits_in (Some (without_first q))) (change_end t.end (in_queue without_first) s))
      (core_kept t.dispatcher.core _ _ (end_kept t.end (in_queue without_first) s h));
  from_ring = λ t b i at first s d k u v w h.
      label_taken t.end i first.label (goes_back t Polled (change_ring at.ring (takes at.side) s))
      (core_kept t.dispatcher.core _ _ (ring_kept at.ring (takes at.side) s h));
  found_none = λ t s d h. core_kept t.dispatcher.core _ s h;
  found = λ t b at first s d q r u h.
      found_kept t at first.label (change_ring at.ring (looks at.side) s) (ring_kept at.ring (looks at.side) s h);
  acknowledged = λ at s q h. ring_kept at.ring _ s h;
  registered = λ e x s q r t h. channel_kept e _ s h;
  deregistered = λ e x s q r h. channel_kept e _ s h;
  ruled = λ e msg answer b i s at h. end_kept e _ s h;
  monitor_written = λ here link m s k q r t h. core_kept here.core _ _ (ring_kept here.ring.ring _ s h);
  heard = λ here m first k s j q r t h.
      let x : Hearing = hears s.services here.link m k in
      let told : State = change_core here.core (λ y. x.core) s in
      follows_kept x.heard (takes_said here.ring x.heard told) (said_kept here.ring x.heard told (core_kept here.core (λ y. x.core) s h));
  passed = λ here p first route hop on s k q h. end_kept p.end _ _ (ring_kept here.ring.ring _ _ (ring_kept on.ring _ s h));
  arrived = λ here p first route hop to s k q h.
      end_kept p.end _ _ (ring_kept here.ring.ring _ _ (channel_kept to _ _ (end_kept to _ s h)));
  taken = λ here first s k q r h. ring_kept here.ring.ring _ s h;
}

pub step_keeps_few : (s : State) (v : Event) → IsFew s → IsFew (step s v).state
step_keeps_few s v h =
    step_leads_within CalledAt RuledAt PassedAt (λ e c b i t k. k.at) (λ e m n b i t k. k.at) (λ here p first route hop on t k. k.passing) IsMade TurnAt IsFew IsFew (λ m t r k. (r, k)) (λ t to u k. k.turn)
    (λ t k. k) few_kept s v h

pub step_keeps_limits : (s : State) (v : Event) → CoresAreFew s → InterfacesAreFew s → ServicesAreFew s → BindingsAreFew s
    → CoresAreFew (step s v).state × InterfacesAreFew (step s v).state × ServicesAreFew (step s v).state × BindingsAreFew (step s v).state
step_keeps_limits s v a b c d =
    let few : IsFew (step s v).state = step_keeps_few s v (record { cores = a; interfaces = b; services = c; bindings = d }) in
    (few.cores, few.interfaces, few.services, few.bindings)
