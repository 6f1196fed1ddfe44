-- A circuit's opening is denied for a fault that hearing it gives: in every state that a run reaches.
use Rattle.std.proofs.Common.{refl, ℕ, ◌+◌, List, [], ◌∷◌, length, slice_get, Option, Some, None, inl, inr}
use Rattle.fl_base.specs.declared.identity.EndId.{EndId}
use Rattle.fl_base.specs.declared.identity.Side.{Side}
use Rattle.fl_base.specs.declared.identity.Side.TheVariants.{Client, Server}
use Rattle.fl_base.specs.Ends.{peer}
use Rattle.fl_hop.specs.Table.{TheCircuits, hop_at}
use Rattle.fl_hop.specs.Numbers.{next_own}
use Rattle.fl_hop.specs.declared.entry.Hop.{Hop}
use Rattle.fl_hop.specs.declared.entry.HopTarget.{HopTarget}
use Rattle.fl_hop.specs.declared.entry.HopTarget.TheVariants.{Link as to_link, End as to_end}
use Rattle.fl_model.specs.Events.{DispatcherId}
use Rattle.fl_model.specs.Calls.{Planned}
use Rattle.fl_model.specs.Rings.{OpeningLabel, MonitorLabel, open_circuit, circuit_opened, circuit_refused, Label, next_of, says, acknowledges}
use Rattle.fl_model.specs.Rings.{RingEnd, there_is_room}
use Rattle.fl_model.specs.Ends.{Queue, fresh_queue, joined_by, without_first, Direction, End, accepts, writes, with_rule, passes, takes_one, comes_to, replies}
use Rattle.fl_model.specs.Waits.{Dispatcher, has_places}
use Rattle.fl_model.specs.Monitors.{Core, Service, service_of, can_say, link_to, next_on, Fate, goes_on, ends_at, fails, arrival, passage, fate}
use Rattle.fl_model.specs.Monitors.{Heard, no_outbox, misrouted, opening_went_on, server_made, opening_failed, answer_went_on, end_opened}
use Rattle.fl_model.specs.Monitors.{end_refused, Hearing, saying, hears_opening, hears_opened, hears_refused, hears}
use Rattle.fl_model.specs.State.{OpeningVerdict, undecided, granted, denied, Route, Back, local, over_ring, over_route, Binding, State}
use Rattle.fl_model.specs.State.{StepOutcome, Outlet, peer_queue, ring_side, dispatcher_of, end_of, end_in, with_end_in, in_route, in_queue}
use Rattle.fl_model.specs.State.{change_core, change_end, change_out, change_route, change_channel, seats, binds_end, delivers}
use Rattle.fl_model.specs.Binding.{BindByNames, end_id, arrival_queue, with_new_binding, binds_both}
use Rattle.fl_model.specs.Sending.{writes_to}
use Rattle.fl_model.specs.Taking.{Chosen, takes_label, finds}
use Rattle.fl_model.specs.Forwarding.{word_passes, with_number, grants, denies, passes_word, follows, takes_said, label_of}
use Rattle.fl_model_laws.proofs.Cases.{either, by_given, Each, each_push, each_changed}
use Rattle.fl_model_laws.proofs.Walk.{with_ring, Keeps}
use Rattle.fl_world_laws.specs.Refusing.{IsOpeningFault}

-- ---- verdicts

abbrev pub WellVerdict : OpeningVerdict → Type 0
WellVerdict (denied i fault) = IsOpeningFault fault
WellVerdict verdict = Unit {0}

abbrev pub WellBack : Back → Type 0
WellBack (over_route route) = WellVerdict route.verdict
WellBack back = Unit {0}

abbrev pub IsWell : Binding → Type 0
IsWell b = WellBack b.back

abbrev pub AllWell : State → Type 0
AllWell s = Each IsWell s.bindings

side_well : (side : Side) (f : End → End) (b : Binding) → IsWell b → IsWell (with_end_in side f b)
side_well Client f b h = h
side_well Server f b h = h

end_well : (e : EndId) (f : End → End) (s : State) → AllWell s → AllWell (change_end e f s)
end_well e f s h = each_changed IsWell s.bindings e.binding (with_end_in e.side f) h (λ b q ok. side_well e.side f b ok)

in_well : (f : Route → Route) (back : Back) → ((r : Route) → WellVerdict r.verdict → WellVerdict (f r).verdict) → WellBack back → WellBack (in_route f back)
in_well f local k h = tt
in_well f (over_ring n) k h = tt
in_well f (over_route route) k h = k route h

route_well : (n : ℕ) (f : Route → Route) (s : State) → ((r : Route) → WellVerdict r.verdict → WellVerdict (f r).verdict) → AllWell s
    → AllWell (change_route n f s)
route_well n f s k h = each_changed IsWell s.bindings n (λ b. record b { back = in_route f b.back }) h (λ b q ok. in_well f b.back k ok)

new_well : (w : BindByNames) (back : Back) (stations : ℕ) (q : Option Queue) (s : State) → WellBack back → AllWell s
    → AllWell (with_new_binding w back stations q s)
new_well w back stations q s k h = each_push IsWell s.bindings _ h k

word_well : (v : OpeningVerdict) → WellVerdict v → WellVerdict (word_passes v)
word_well undecided h = tt
word_well (granted i) h = tt
word_well (denied i fault) h = h

-- ---- ends and channels

channel_well : (e : EndId) (f : ℕ → End → Dispatcher → Dispatcher) (s : State) → AllWell s → AllWell (change_channel e f s)
channel_well e f s h = by_given AllWell (end_of s e) _ _ h (λ x q. by_given AllWell x.seat _ _ h (λ seat r. h))

seat_well : (d : DispatcherId) (e : EndId) (s : State) → AllWell s → AllWell (seats d e s)
seat_well d e s h =
    by_given AllWell (dispatcher_of s d) _ _ h
    (λ x q. end_well e (λ y. record y { seat = Some (record { dispatcher = d; channel = length x.ends }) }) s h)

bound_well : (e : EndId) (circuit : ℕ) (s : State) → AllWell s → AllWell (binds_end e circuit s)
bound_well e circuit s h =
    channel_well e _ (change_end e (λ x. record x { circuit = Some circuit }) s) (end_well e (λ x. record x { circuit = Some circuit }) s h)

both_well : (n : ℕ) (w : BindByNames) (s : State) → AllWell s → AllWell (binds_both n w s)
both_well n w s h =
    bound_well (end_id n Server) 0 _ (bound_well (end_id n Client) 0 _
    (seat_well w.service.dispatcher (end_id n Server) _ (seat_well w.client (end_id n Client) s h)))

delivered_well : (l : Label) (e : EndId) (s : State) → AllWell s → AllWell (delivers l e s)
delivered_well l e s h = channel_well e _ (change_end e (in_queue (joined_by l)) s) (end_well e (in_queue (joined_by l)) s h)

out_well : (e : EndId) (f : Direction → Direction) (s : State) → AllWell s → AllWell (change_out e f s)
out_well e f s h = end_well e (λ x. record x { out = f x.out }) s h

label_well : (e : EndId) (i : Planned) (l : Label) (s : State) → AllWell s → AllWell (takes_label e i l s).state
label_well e i (next_of sender k) s h =
    by_given (λ (o : StepOutcome). AllWell o.state) (end_of s sender) _ _ h
    (λ y r. end_well e (replies i (comes_to i y.out)) (change_out sender takes_one s) (out_well sender takes_one s h))
label_well e i (says m) s h = h
label_well e i acknowledges s h = h

found_well : (t : Chosen) (at : RingEnd) (l : Label) (s : State) → AllWell s → AllWell (finds t at l s).state
found_well t at (next_of e k) s h = h
found_well t at (says m) s h = h
found_well t at acknowledges s h = h

written_well : (e : EndId) (i : Planned) (d : Direction) (o : Outlet) (s : State) → AllWell s → AllWell (writes_to e i d o there_is_room s).state
written_well e i d peer_queue s h =
    delivered_well _ (peer e) _ (out_well e (λ x. (writes i x there_is_room).direction) s h)
written_well e i d (ring_side on) s h = out_well e (λ x. (writes i x there_is_room).direction) s h

-- ---- what a core hears

abbrev WellFate : Fate → Type 0
WellFate (fails fault) = IsOpeningFault fault
WellFate f = Unit {0}

arrival_well : (services : List Service) (iref : ℕ) (k : Core) → WellFate (arrival services iref k)
arrival_well services iref k =
    by_given WellFate (service_of services iref) _ _ (inl refl)
    (λ s q. by_given WellFate (slice_get k.dispatchers s.dispatcher.place) _ _ (inl refl)
    (λ d r. either WellFate (has_places 1 d) _ _ (λ t. tt) (λ t. inr (inl refl))))

passage_well : (next : ℕ) (k : Core) → WellFate (passage next k)
passage_well next k =
    by_given WellFate (link_to next k) _ _ (inr (inr (inl refl)))
    (λ l q. by_given WellFate (next_own k.circuits l) _ _ (inr (inr (inr refl))) (λ n r. tt))

fate_well : (services : List Service) (o : OpeningLabel) (k : Core) → WellFate (fate services o k)
fate_well services o k =
    by_given WellFate (next_on o.path k.circuits.core) _ _ (arrival_well services o.service k) (λ next q. passage_well next k)

abbrev WellHeard : Heard → Type 0
WellHeard (opening_failed n fault) = IsOpeningFault fault
WellHeard heard = Unit {0}

saying_well : (l : ℕ) (m : MonitorLabel) (t : TheCircuits) (heard : Heard) (k : Core) → WellHeard heard → WellHeard (saying l m t heard k).heard
saying_well l m t heard k h = either (λ (x : Hearing). WellHeard x.heard) (can_say l k) _ _ (λ q. h) (λ q. tt)

opening_well : (l : ℕ) (o : OpeningLabel) (f : Fate) (k : Core) → WellFate f → WellHeard (hears_opening l o f k).heard
opening_well l o (goes_on m n) k h = saying_well m _ _ (opening_went_on o.binding n) k tt
opening_well l o (ends_at d) k h = saying_well l _ _ (server_made o.binding d o.circuit) k tt
opening_well l o (fails fault) k h = saying_well l _ _ (opening_failed o.binding fault) k h

opened_well : (l c : ℕ) (hop : Hop) (way : HopTarget) (k : Core) → WellHeard (hears_opened l c hop way k).heard
opened_well l c hop (to_link m d) k = saying_well m.0 _ _ (answer_went_on hop.binding) k tt
opened_well l c hop (to_end e) k = tt

refused_well : (l c fault : ℕ) (hop : Hop) (way : HopTarget) (k : Core) → WellHeard (hears_refused l c fault hop way k).heard
refused_well l c fault hop (to_link m d) k = saying_well m.0 _ _ (answer_went_on hop.binding) k tt
refused_well l c fault hop (to_end e) k = tt

hears_well : (services : List Service) (l : ℕ) (m : MonitorLabel) (k : Core) → WellHeard (hears services l m k).heard
hears_well services l (open_circuit o) k = opening_well l o (fate services o k) k (fate_well services o k)
hears_well services l (circuit_opened c) k =
    by_given (λ (x : Hearing). WellHeard x.heard) (hop_at k.circuits l c) _ _ tt (λ hop q. opened_well l c hop hop.way k)
hears_well services l (circuit_refused c fault) k =
    by_given (λ (x : Hearing). WellHeard x.heard) (hop_at k.circuits l c) _ _ tt (λ hop q. refused_well l c fault hop hop.way k)

follows_well : (x : Heard) (s : State) → WellHeard x → AllWell s → AllWell (follows x s).state
follows_well no_outbox s k h = h
follows_well misrouted s k h = h
follows_well (opening_went_on n c) s k h = route_well n (with_number c) s (λ r ok. ok) h
follows_well (server_made n d c) s k h =
    bound_well (end_id n Server) c _ (seat_well d (end_id n Server) _ (route_well n grants s (λ r ok. tt) h))
follows_well (opening_failed n fault) s k h = route_well n (denies fault) s (λ r ok. k) h
follows_well (answer_went_on n) s k h = route_well n passes_word s (λ r ok. word_well r.verdict ok) h
follows_well (end_opened e c) s k h = bound_well e c _ (route_well e.binding passes_word s (λ r ok. word_well r.verdict ok) h)
follows_well (end_refused e fault) s k h = route_well e.binding passes_word s (λ r ok. word_well r.verdict ok) h

said_well : (at : RingEnd) (x : Heard) (s : State) → AllWell s → AllWell (takes_said at x s)
said_well at no_outbox s h = h
said_well at misrouted s h = h
said_well at (opening_went_on n c) s h = h
said_well at (server_made n d c) s h = h
said_well at (opening_failed n fault) s h = h
said_well at (answer_went_on n) s h = h
said_well at (end_opened e c) s h = h
said_well at (end_refused e fault) s h = h

-- ---- each event

pub denials : Keeps AllWell
denials = record {
  settled = λ s h. h;
  interface = λ i s q h. h;
  cores = λ n s q h. h;
  link = λ a b size s q r h. h;
  dispatcher = λ core s h. h;
  service = λ x s d i q r t h. h;
  queues = λ w i slots s k q h. both_well (length s.bindings) w _ (new_well w local 2 (Some (fresh_queue slots)) s tt h);
  ring = λ w i size s k q r h.
      both_well (length s.bindings) w _ (new_well w (over_ring (length s.rings)) 2 None (with_ring size s) tt h);
  route = λ w i cores k l c s want begins h.
      let back : Back = over_route (record { service = w.iref; cores = cores; numbers = c ∷ []; verdict = undecided }) in
      seat_well w.client (end_id (length s.bindings) Client) _ (new_well w back (length cores + 1) (Some arrival_queue) s tt h);
  called = λ e c b i s at q h. out_well e (accepts c) s h;
  sure = λ need at s h. h;
  looked = λ at s h. h;
  written = λ e b i o s at q r t u h. written_well e i (end_in e.side b).out o s h;
  held = λ t b i s d at q h. h;
  no_label = λ t to s d h. h;
  from_queue = λ t b i q label s d at u v w h. label_well t.end i label _ (end_well t.end (in_queue without_first) s h);
  from_ring = λ t b i at first s d k u v w h. label_well t.end i first.label _ h;
  found_none = λ t s d h. h;
  found = λ t b at first s d q r u h. found_well t at first.label _ h;
  acknowledged = λ at s q h. h;
  registered = λ e x s q r t h. channel_well e _ s h;
  deregistered = λ e x s q r h. channel_well e _ s h;
  ruled = λ e msg answer b i s at h. end_well e (with_rule msg answer) s h;
  monitor_written = λ here link m s k q r t h. h;
  heard = λ here m first k s j q r t h.
      let x : Hearing = hears s.services here.link m k in
      let told : State = change_core here.core (λ y. x.core) s in
      follows_well x.heard (takes_said here.ring x.heard told) (hears_well s.services here.link m k) (said_well here.ring x.heard told h);
  passed = λ here p first route hop on s k q h. out_well p.end (passes p.station) s h;
  arrived = λ here p first route hop to s k q h. out_well p.end (passes p.station) (delivers (label_of p) to s) (delivered_well (label_of p) to s h);
  taken = λ here first s k q r h. h;
}
