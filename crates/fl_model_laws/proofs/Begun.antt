-- Of a circuit that isn't open nothing was written: each step of a sound state keeps it, since an end writes only once it is bound, and
-- what is refused wasn't decided.
use Rattle.std.proofs.Common.{◌≡◌, ◌≢◌, refl, sym, ◌∙◌, ap, subst, ℕ, zero, suc, ◌+◌, ◌-◌, ◌≤◌, true, [], ◌∷◌, length, replicate, slice_get, Option, Some, None, arith}
use Rattle.std.specs.Prelude.{slice_index, is_some}
use Rattle.std.proofs.lemmas.Bool.{false≢true}
use Rattle.fl_base.specs.declared.identity.EndId.{EndId}
use Rattle.fl_base.specs.declared.identity.Side.{Side}
use Rattle.fl_base.specs.declared.identity.Side.TheVariants.{Client, Server}
use Rattle.fl_base.specs.Ends.{peer}
use Rattle.fl_hop.specs.declared.entry.HopTarget.{HopTarget}
use Rattle.fl_hop.specs.declared.entry.HopTarget.TheVariants.{Link as to_link, End as to_end}
use Rattle.fl_hop.specs.declared.entry.Hop.{Hop}
use Rattle.fl_hop.specs.Table.{hop_at}
use Rattle.fl_model.specs.Events.{DispatcherId, Event}
use Rattle.fl_model.specs.Calls.{Planned}
use Rattle.fl_model.specs.Rings.{OpeningLabel, MonitorLabel, open_circuit, circuit_opened, circuit_refused, Label, next_of, says, acknowledges, RingLabel, Ring, RingSide, RingEnd, first_for, looks, makes_sure, takes, there_is_room}
use Rattle.fl_model.specs.Ends.{Queue, Direction, End, fresh_queue, joined_by, without_first, accepts, writes, written_of, with_rule, passes, takes_one, last_station, comes_to, replies, is_bound, fresh_direction, Wrote, is_busy}
use Rattle.fl_model.specs.Waits.{Dispatcher}
use Rattle.fl_model.specs.Monitors.{Core, can_say, Fate, goes_on, ends_at, fails, fate, hears_opening, hears_opened, hears_refused, Hearing, hears, Heard, no_outbox, misrouted, opening_went_on, server_made, opening_failed, answer_went_on, end_opened, end_refused}
use Rattle.fl_model.specs.State.{OpeningVerdict, undecided, granted, denied, Route, Back, local, over_ring, over_route, Binding, State, StepOutcome, Outlet, peer_queue, ring_side, first_on, core_of, dispatcher_of, end_of, end_in, change_core, change_ring, change_end, change_out, change_channel, change_route, with_end_in, in_route, in_queue, seats, binds_end, delivers}
use Rattle.fl_model.specs.Binding.{BindByNames, end_id, with_new_binding, binds_both, arrival_queue}
use Rattle.fl_model.specs.Sending.{puts_to}
use Rattle.fl_model.specs.Taking.{Chosen, takes_label, finds}
use Rattle.fl_model.specs.Forwarding.{LinkEnd, label_of, follows, takes_said, with_number, grants, denies, passes_word, word_passes}
use Rattle.fl_model.specs.Step.{step}
use Rattle.fl_model.specs.SoundOpenings.{IsDue}
use Rattle.fl_model.specs.SoundRoutes.{BoundBy, BoundWhere, EndsAreBound}
use Rattle.fl_model.specs.SoundLabels.{OpensBefore, NothingBeforeTheOpening}
use Rattle.fl_model.specs.SoundPlaces.{stations}
use Rattle.fl_model.specs.Sound.{Sound}
use Rattle.fl_model_laws.proofs.Cases.{Each, each_changed, each_push, either, by_given}
use Rattle.fl_model_laws.proofs.BindingWalk.{new_binding}
use Rattle.fl_model_laws.proofs.EndsStep.{queue_out, station_some, long_route}
use Rattle.fl_model_laws.proofs.Flows.{index_else}
use Rattle.fl_model_laws.proofs.Hearing.{LinkThere, link_there, is_under_way}
use Rattle.fl_model_laws.proofs.LabelsMoved.{replies_passed, IsShaped, goes_on_passed}
use Rattle.fl_model_laws.proofs.LabelsQuiet.{channel_bindings}
use Rattle.fl_model_laws.proofs.LabelsSound.{shaped_of}
use Rattle.fl_model_laws.proofs.Replies.{length_changed}
use Rattle.fl_model_laws.proofs.Sitting.{OpensFor, opens_for}
use Rattle.fl_model_laws.proofs.Walk.{KeepsFrom, IsHere, with_ring, step_leads}
use Rattle.fl_model_laws.proofs.WaitsetsKept.{looks_same, sure_same, first_same}
use Rattle.fl_model_laws.proofs.Small.{is_not}

-- ---- one binding

abbrev pub Begins : Back → Binding → Type 0
Begins local b = Unit {0}
Begins (over_ring n) b = Unit {0}
Begins (over_route route) b = OpensBefore route.verdict b.client.out × OpensBefore route.verdict b.server.out

pub record BegunAt (b : Binding) : Type 0 where
  pub long : (side : Side) → 2 ≤ length (end_in side b).out.passed
  pub begins : Begins b.back b

abbrev pub AllBegun : State → Type 0
AllBegun s = Each BegunAt s.bindings

opens_same : (v : OpeningVerdict) (d e : Direction) → written_of e ≡ written_of d → OpensBefore v d → OpensBefore v e
opens_same (granted i) d e q h = tt
opens_same undecided d e q h = let k : written_of d ≡ 0 = h in q ∙ k
opens_same (denied i fault) d e q h = let k : written_of d ≡ 0 = h in q ∙ k

begins_same : (back : Back) (b c : Binding) → written_of c.client.out ≡ written_of b.client.out → written_of c.server.out ≡ written_of b.server.out → Begins back b → Begins back c
begins_same local b c p q h = tt
begins_same (over_ring n) b c p q h = tt
begins_same (over_route route) b c p q h = (opens_same route.verdict _ _ p h.0, opens_same route.verdict _ _ q h.1)

-- an end's calls grow, but nothing of them is written
abbrev Leaves : End → End → Type 0
Leaves x y = (length y.out.passed ≡ length x.out.passed) × (written_of y.out ≡ written_of x.out)

side_begun : (side : Side) (f : End → End) (b : Binding) → Leaves (end_in side b) (f (end_in side b)) → BegunAt b → BegunAt (with_end_in side f b)
side_begun Client f b k h = record {
  long = λ side. by side;
  begins = begins_same b.back b (with_end_in Client f b) k.1 refl h.begins;
}
  where
    by : (side : Side) → 2 ≤ length (end_in side (with_end_in Client f b)).out.passed
    by Client = let l : 2 ≤ length b.client.out.passed = h.long Client in let e : length (f b.client).out.passed ≡ length b.client.out.passed = k.0 in omega arith
    by Server = h.long Server
side_begun Server f b k h = record {
  long = λ side. by side;
  begins = begins_same b.back b (with_end_in Server f b) refl k.1 h.begins;
}
  where
    by : (side : Side) → 2 ≤ length (end_in side (with_end_in Server f b)).out.passed
    by Client = h.long Client
    by Server = let l : 2 ≤ length b.server.out.passed = h.long Server in let e : length (f b.server).out.passed ≡ length b.server.out.passed = k.0 in omega arith

-- ---- all bindings

end_begun : (e : EndId) (f : End → End) (s : State) → ((x : End) → 2 ≤ length x.out.passed → Leaves x (f x)) → AllBegun s → AllBegun (change_end e f s)
end_begun e f s k h =
    each_changed BegunAt s.bindings e.binding (with_end_in e.side f) h (λ b q c. side_begun e.side f b (k (end_in e.side b) (c.long e.side)) c)

same_begun : (e : EndId) (f : End → End) (s : State) → ((x : End) → (f x).out.passed ≡ x.out.passed) → AllBegun s → AllBegun (change_end e f s)
same_begun e f s k h = end_begun e f s (λ x a. (ap length (k x), ap (λ ns. slice_index ns 0) (k x))) h

channel_begun : (e : EndId) (f : ℕ → End → Dispatcher → Dispatcher) (s : State) → AllBegun s → AllBegun (change_channel e f s)
channel_begun e f s h = subst (Each BegunAt) (sym (channel_bindings e f s)) h

seat_begun : (d : DispatcherId) (e : EndId) (s : State) → AllBegun s → AllBegun (seats d e s)
seat_begun d e s h =
    by_given AllBegun (dispatcher_of s d) _ _ h
    (λ x q. same_begun e (λ y. record y { seat = Some (record { dispatcher = d; channel = length x.ends }) }) s (λ y. refl) h)

bound_begun : (e : EndId) (circuit : ℕ) (s : State) → AllBegun s → AllBegun (binds_end e circuit s)
bound_begun e circuit s h =
    channel_begun e _ (change_end e (λ x. record x { circuit = Some circuit }) s) (same_begun e (λ x. record x { circuit = Some circuit }) s (λ x. refl) h)

both_begun : (n : ℕ) (w : BindByNames) (s : State) → AllBegun s → AllBegun (binds_both n w s)
both_begun n w s h =
    let c : EndId = end_id n Client in
    let v : EndId = end_id n Server in
    let first : State = seats w.client c s in
    let second : State = seats w.service.dispatcher v first in
    bound_begun v 0 (binds_end c 0 second) (bound_begun c 0 second (seat_begun w.service.dispatcher v first (seat_begun w.client c s h)))

delivered_begun : (l : Label) (e : EndId) (s : State) → AllBegun s → AllBegun (delivers l e s)
delivered_begun l e s h =
    channel_begun e _ (change_end e (in_queue (joined_by l)) s) (same_begun e (in_queue (joined_by l)) s (λ x. ap (λ (d : Direction). d.passed) (queue_out x (joined_by l))) h)

zero_first : (n : ℕ) → slice_index (replicate n 0) 0 ≡ 0
zero_first zero = refl
zero_first (suc n) = refl

fresh_opens : (v : OpeningVerdict) (n : ℕ) → OpensBefore v (fresh_direction n)
fresh_opens (granted i) n = tt
fresh_opens undecided n = zero_first n
fresh_opens (denied i fault) n = zero_first n

replicated : (n : ℕ) → length {A = ℕ} (replicate n 0) ≡ n
replicated zero = refl
replicated (suc n) = ap suc (replicated n)

new_begun : (w : BindByNames) (back : Back) (n : ℕ) (o : Option Queue) (s : State) → 2 ≤ n → AllBegun s → AllBegun (with_new_binding w back n o s)
new_begun w back n o s a h = each_push BegunAt s.bindings (new_binding w back n o) h (record { long = long; begins = by back })
  where
    long : (side : Side) → 2 ≤ length (end_in side (new_binding w back n o)).out.passed
    long Client = subst (λ m. 2 ≤ m) (sym (replicated n)) a
    long Server = subst (λ m. 2 ≤ m) (sym (replicated n)) a

    by : (k : Back) → Begins k (new_binding w back n o)
    by local = tt
    by (over_ring m) = tt
    by (over_route route) = (fresh_opens route.verdict n, fresh_opens route.verdict n)

-- one more fragment has passed a station behind the first
passing_leaves : (station : ℕ) (x : End) → station ≢ 0 → Leaves x (record x { out = passes station x.out })
passing_leaves station x d = (length_changed x.out.passed station (λ n. n + 1), index_else x.out.passed station 0 (λ e. d (sym e)))

passing_begun : (e : EndId) (station : ℕ) (s : State) → station ≢ 0 → AllBegun s → AllBegun (change_out e (passes station) s)
passing_begun e station s d h = end_begun e (λ x. record x { out = passes station x.out }) s (λ x a. passing_leaves station x d) h

label_begun : (e : EndId) (i : Planned) (l : Label) (s : State) → AllBegun s → AllBegun (takes_label e i l s).state
label_begun e i (next_of sender k) s h =
    by_given (λ (o : StepOutcome). AllBegun o.state) (end_of s sender) _ _ h
    (λ y r. same_begun e (replies i (comes_to i y.out)) (change_out sender takes_one s) (λ x. replies_passed i (comes_to i y.out) x)
    (end_begun sender (λ x. record x { out = takes_one x.out }) s (λ x a. passing_leaves (last_station x.out) x (λ q. let u : length x.out.passed - 1 ≡ 0 = q in absurd (omega arith))) h))
label_begun e i (says m) s h = h
label_begun e i acknowledges s h = h

-- ---- verdicts

abbrev routed : (Route → Route) → Binding → Binding
routed f b = record b { back = in_route f b.back }

route_begun : (n : ℕ) (f : Route → Route) (s : State)
    → ((b : Binding) (route : Route) (d : Direction) → slice_get s.bindings n ≡ Some b → b.back ≡ over_route route → OpensBefore route.verdict d → OpensBefore (f route).verdict d)
    → AllBegun s → AllBegun (change_route n f s)
route_begun n f s k h =
    each_changed BegunAt s.bindings n (routed f) h (λ b q c. record { long = λ side. long side b c; begins = by b q b.back refl c.begins })
  where
    long : (side : Side) (b : Binding) → BegunAt b → 2 ≤ length (end_in side (routed f b)).out.passed
    long Client b c = c.long Client
    long Server b c = c.long Server

    by : (b : Binding) → slice_get s.bindings n ≡ Some b → (back : Back) → b.back ≡ back → Begins back b → Begins (in_route f back) (routed f b)
    by b q local r h = tt
    by b q (over_ring m) r h = tt
    by b q (over_route route) r h = (k b route b.client.out q r h.0, k b route b.server.out q r h.1)

word_opens : (v : OpeningVerdict) (d : Direction) → OpensBefore v d → OpensBefore (word_passes v) d
word_opens undecided d h = h
word_opens (granted i) d h = tt
word_opens (denied i fault) d h = h

word_begun : (n : ℕ) (s : State) → AllBegun s → AllBegun (change_route n passes_word s)
word_begun n s h = route_begun n passes_word s (λ b route d q r o. word_opens route.verdict d o) h

-- what is refused wasn't decided
abbrev pub Undecided : ℕ → State → Type 0
Undecided n s = (b : Binding) (route : Route) → slice_get s.bindings n ≡ Some b → b.back ≡ over_route route → route.verdict ≡ undecided

abbrev pub BeginFits : State → Heard → Type 0
BeginFits s (opening_failed n fault) = Undecided n s
BeginFits s heard = Unit {0}

fits_alike : (s t : State) (x : Heard) → ((n : ℕ) → Undecided n s → Undecided n t) → BeginFits s x → BeginFits t x
fits_alike s t no_outbox k h = tt
fits_alike s t misrouted k h = tt
fits_alike s t (opening_went_on b c) k h = tt
fits_alike s t (server_made b d c) k h = tt
fits_alike s t (opening_failed b fault) k h = k b h
fits_alike s t (answer_went_on b) k h = tt
fits_alike s t (end_opened e c) k h = tt
fits_alike s t (end_refused e fault) k h = tt

follows_begun : (x : Heard) (s : State) → BeginFits s x → AllBegun s → AllBegun (follows x s).state
follows_begun no_outbox s f h = h
follows_begun misrouted s f h = h
follows_begun (opening_went_on n c) s f h = route_begun n (with_number c) s (λ b route d q r o. o) h
follows_begun (server_made n d c) s f h =
    let t : State = change_route n grants s in
    bound_begun (end_id n Server) c (seats d (end_id n Server) t) (seat_begun d (end_id n Server) t (route_begun n grants s (λ b route e q r o. tt) h))
follows_begun (opening_failed n fault) s f h =
    route_begun n (denies fault) s (λ b route d q r o. subst (λ v. OpensBefore v d) (f b route q r) o) h
follows_begun (answer_went_on n) s f h = word_begun n s h
follows_begun (end_opened e c) s f h = bound_begun e c (change_route e.binding passes_word s) (word_begun e.binding s h)
follows_begun (end_refused e fault) s f h = word_begun e.binding s h

said_begun : (at : RingEnd) (x : Heard) (s : State) → BeginFits s x → AllBegun s → AllBegun (follows x (takes_said at x s)).state
said_begun at no_outbox s f h = h
said_begun at misrouted s f h = h
said_begun at (opening_went_on n c) s f h = follows_begun (opening_went_on n c) (change_ring at.ring (takes at.side) s) f h
said_begun at (server_made n d c) s f h = follows_begun (server_made n d c) (change_ring at.ring (takes at.side) s) f h
said_begun at (opening_failed n fault) s f h = follows_begun (opening_failed n fault) (change_ring at.ring (takes at.side) s) f h
said_begun at (answer_went_on n) s f h = follows_begun (answer_went_on n) (change_ring at.ring (takes at.side) s) f h
said_begun at (end_opened e c) s f h = follows_begun (end_opened e c) (change_ring at.ring (takes at.side) s) f h
said_begun at (end_refused e fault) s f h = follows_begun (end_refused e fault) (change_ring at.ring (takes at.side) s) f h

-- ---- a write

-- an end that is bound is of a circuit that is open
bound_opens : (b : Binding) (side : Side) (route : Route) (v : OpeningVerdict) → route.verdict ≡ v → BoundBy route v b → is_bound (end_in side b) ≡ true → (d : Direction) → OpensBefore route.verdict d
bound_opens b side route (granted i) q h k d = subst (λ v. OpensBefore v d) (sym q) tt
bound_opens b Client route undecided q h k d = absurd (false≢true (sym (ap is_some h.0) ∙ k))
bound_opens b Server route undecided q h k d = absurd (false≢true (sym (ap is_some h.1) ∙ k))
bound_opens b Client route (denied i fault) q h k d = absurd (false≢true (sym (ap is_some h.0) ∙ k))
bound_opens b Server route (denied i fault) q h k d = absurd (false≢true (sym (ap is_some h.1) ∙ k))

write_long : (i : Planned) (x : End) → length (writes i x.out there_is_room).direction.passed ≡ length x.out.passed
write_long i x =
    either (λ (w : Wrote). length w.direction.passed ≡ length x.out.passed) (is_busy i x.out) _ _
    (λ q. ap length (goes_on_passed i (passes 0 x.out)) ∙ length_changed x.out.passed 0 (λ n. n + 1)) (λ q. refl)

writing_begun : (e : EndId) (b : Binding) (i : Planned) (s : State) → slice_get s.bindings e.binding ≡ Some b → is_bound (end_in e.side b) ≡ true → BoundWhere b.back b → AllBegun s
    → AllBegun (change_out e (λ d. (writes i d there_is_room).direction) s)
writing_begun e b i s at bound where_bound h =
    each_changed BegunAt s.bindings e.binding (with_end_in e.side f) h
    (λ x q c. let same : b ≡ x = (let u : Some b ≡ Some x = sym at ∙ q in cc) in
    subst (λ (y : Binding). BegunAt (with_end_in e.side f y)) same (record { long = long (subst BegunAt (sym same) c); begins = by e.side }))
  where
    f : End → End
    f x = record x { out = (writes i x.out there_is_room).direction }

    long_by : (side by : Side) → BegunAt b → 2 ≤ length (end_in by (with_end_in side (λ x. record x { out = (writes i x.out there_is_room).direction }) b)).out.passed
    long_by Client Client c = let k = write_long i b.client in let l : 2 ≤ length b.client.out.passed = c.long Client in omega arith
    long_by Client Server c = c.long Server
    long_by Server Client c = c.long Client
    long_by Server Server c = let k = write_long i b.server in let l : 2 ≤ length b.server.out.passed = c.long Server in omega arith

    long : BegunAt b → (by : Side) → 2 ≤ length (end_in by (with_end_in e.side (λ x. record x { out = (writes i x.out there_is_room).direction }) b)).out.passed
    long c side = long_by e.side side c

    begins_by : (back : Back) → b.back ≡ back → (c : Binding) → Begins back c
    begins_by local q c = tt
    begins_by (over_ring n) q c = tt
    begins_by (over_route route) q c =
        let opens : (d : Direction) → OpensBefore route.verdict d =
        bound_opens b e.side route route.verdict refl (subst (λ (k : Back). BoundWhere k b) q where_bound) bound in
        (opens c.client.out, opens c.server.out)

    by : (side : Side) → Begins (with_end_in side (λ x. record x { out = (writes i x.out there_is_room).direction }) b).back (with_end_in side (λ x. record x { out = (writes i x.out there_is_room).direction }) b)
    by Client = begins_by b.back refl (with_end_in Client (λ x. record x { out = (writes i x.out there_is_room).direction }) b)
    by Server = begins_by b.back refl (with_end_in Server (λ x. record x { out = (writes i x.out there_is_room).direction }) b)

put_begun : (e : EndId) (o : Outlet) (l : Label) (s : State) → AllBegun s → AllBegun (puts_to e o l s)
put_begun e peer_queue l s h = delivered_begun l (peer e) s h
put_begun e (ring_side at) l s h = h

-- ---- the walk

abbrev pub AllBeginFits : State → Type 0
AllBeginFits s = (here : LinkEnd) (m : MonitorLabel) (first : RingLabel) (k : Core) → IsHere here s → first_on here.ring s ≡ Some first → first.label ≡ says m
    → core_of s here.core ≡ Some k → BeginFits s (hears s.services here.link m k).heard

pub record MayBegin (s : State) : Type 0 where
  pub begun : AllBegun s
  pub bound : EndsAreBound s
  pub heard : AllBeginFits s

may_begin_looked : (n : ℕ) (f : Ring → Ring) (s : State) → ((side : RingSide) (r : Ring) → first_for side (f r) ≡ first_for side r) → MayBegin s
    → MayBegin (change_ring n f s)
may_begin_looked n f s same h = record {
  begun = h.begun;
  bound = h.bound;
  heard = λ here m first k j q r t.
      fits_alike s (change_ring n f s) (hears s.services here.link m k).heard (λ b u. u)
      (h.heard here m first k (record { core = j.core; neighbour = j.neighbour; here_is = j.here_is })
      (sym (first_same s.rings n here.ring.ring here.ring.side f (same here.ring.side)) ∙ q) r t);
}

found_begun : (t : Chosen) (at : RingEnd) (l : Label) (s : State) → AllBegun s → AllBegun (finds t at l s).state
found_begun t at (next_of e k) s h = h
found_begun t at (says m) s h = h
found_begun t at acknowledges s h = h

begun_keep : KeepsFrom MayBegin AllBegun
begun_keep = record {
  settled = λ s h. h;
  interface = λ i s q h. h.begun;
  cores = λ n s q h. h.begun;
  link = λ a b size s q r h. h.begun;
  dispatcher = λ core s h. h.begun;
  service = λ x s d i q r t h. h.begun;
  queues = λ w i slots s k q h.
      both_begun (length s.bindings) w (with_new_binding w local 2 (Some (fresh_queue slots)) s) (new_begun w local 2 (Some (fresh_queue slots)) s (omega arith) h.begun);
  ring = λ w i size s k q r h.
      both_begun (length s.bindings) w (with_new_binding w (over_ring (length s.rings)) 2 None (with_ring size s))
      (new_begun w (over_ring (length s.rings)) 2 None (with_ring size s) (omega arith) h.begun);
  route = λ w i cores k l c s want begins h.
      let way : Route = record { service = w.iref; cores = cores; numbers = c ∷ []; verdict = undecided } in
      seat_begun w.client (end_id (length s.bindings) Client) (with_new_binding w (over_route way) (length cores + 1) (Some arrival_queue) s)
      (new_begun w (over_route way) (length cores + 1) (Some arrival_queue) s
      (long_route cores w.client.core w.service.dispatcher.core s (is_not _ begins.route)) h.begun);
  called = λ e c b i s at q h. same_begun e (λ x. record x { out = accepts c x.out }) s (λ x. refl) h.begun;
  sure = λ need at s h. may_begin_looked at.ring (makes_sure need at.side) s (λ side r. sure_same need side at.side r) h;
  looked = λ at s h. may_begin_looked at.ring (looks at.side) s (λ side r. looks_same side at.side r) h;
  written = λ e b i o s at q r t u h.
      put_begun e o (next_of e (written_of (end_in e.side b).out)) (change_out e (λ d. (writes i d there_is_room).direction) s)
      (writing_begun e b i s at.binding (is_not _ q) (h.bound e.binding b at.binding) h.begun);
  held = λ t b i s d at q h. h.begun;
  no_label = λ t to s d h. h.begun;
  from_queue = λ t b i q label s d at u v w h.
      label_begun t.end i label _ (same_begun t.end (in_queue without_first) s (λ x. ap (λ (d : Direction). d.passed) (queue_out x without_first)) h.begun);
  from_ring = λ t b i at first s d k u v w h. label_begun t.end i first.label _ h.begun;
  found_none = λ t s d h. h.begun;
  found = λ t b at first s d q r u h. found_begun t at first.label _ h.begun;
  acknowledged = λ at s q h. h.begun;
  registered = λ e x s q r t h. channel_begun e _ s h.begun;
  deregistered = λ e x s q r h. channel_begun e _ s h.begun;
  ruled = λ e msg answer b i s at h. same_begun e (with_rule msg answer) s (λ x. refl) h.begun;
  monitor_written = λ here link m s k q r t h. h.begun;
  heard = λ here m first k s j q r t h.
      let x : Hearing = hears s.services here.link m k in
      let told : State = change_core here.core (λ y. x.core) s in
      said_begun here.ring x.heard told (fits_alike s told x.heard (λ b u. u) (h.heard here m first k j q r t)) h.begun;
  passed = λ here p first route hop on s k q h.
      passing_begun p.end p.station s (λ e. let u : 1 ≤ p.station = station_some _ p.station k.station_is in absurd (omega arith)) h.begun;
  arrived = λ here p first route hop to s k q h.
      passing_begun p.end p.station (change_ring here.ring.ring (takes here.ring.side) (delivers (label_of p) to s))
      (λ e. let u : 1 ≤ p.station = station_some _ p.station k.station_is in absurd (omega arith)) (delivered_begun (label_of p) to s h.begun);
  taken = λ here first s k q r h. h.begun;
}

-- ---- of sound states

opening_fits : (s : State) (l : ℕ) (o : OpeningLabel) (f : Fate) (k : Core) → Undecided o.binding s → BeginFits s (hears_opening l o f k).heard
opening_fits s l o (goes_on m n) k h = either (λ (x : Hearing). BeginFits s x.heard) (can_say m k) _ _ (λ q. tt) (λ q. tt)
opening_fits s l o (ends_at d) k h = either (λ (x : Hearing). BeginFits s x.heard) (can_say l k) _ _ (λ q. tt) (λ q. tt)
opening_fits s l o (fails fault) k h = either (λ (x : Hearing). BeginFits s x.heard) (can_say l k) _ _ (λ q. h) (λ q. tt)

opened_fits : (s : State) (l c : ℕ) (hop : Hop) (way : HopTarget) (k : Core) → BeginFits s (hears_opened l c hop way k).heard
opened_fits s l c hop (to_link m d) k = either (λ (x : Hearing). BeginFits s x.heard) (can_say m.0 k) _ _ (λ q. tt) (λ q. tt)
opened_fits s l c hop (to_end e) k = tt

refused_fits : (s : State) (l c fault : ℕ) (hop : Hop) (way : HopTarget) (k : Core) → BeginFits s (hears_refused l c fault hop way k).heard
refused_fits s l c fault hop (to_link m d) k = either (λ (x : Hearing). BeginFits s x.heard) (can_say m.0 k) _ _ (λ q. tt) (λ q. tt)
refused_fits s l c fault hop (to_end e) k = tt

module _ (s : State) (sound : Sound s) where
  was_undecided : (here : LinkEnd) (o : OpeningLabel) (first : RingLabel) → IsHere here s → first_on here.ring s ≡ Some first
      → first.label ≡ says (open_circuit o) → Undecided o.binding s
  was_undecided here o first j q l b route at back =
      let t : LinkThere s here = link_there s here j in
      let due : IsDue s (record { from = here.neighbour; to = here.core; said = open_circuit o }) =
      sound.messages here.neighbour here.core (open_circuit o) (is_under_way s here (open_circuit o) first t q l) in
      let opens : OpensFor due.binding due.route o = opens_for due.binding due.route here.neighbour here.core o due.route.verdict refl due.due in
      let same : due.routed.binding ≡ b =
      (let u : Some due.routed.binding ≡ Some b = sym due.routed.there ∙ ap (slice_get s.bindings) opens.binding ∙ at in cc) in
      let routes : over_route due.route ≡ over_route route = sym due.routed.back ∙ ap (λ (c : Binding). c.back) same ∙ back in
      let is : due.route ≡ route = cc in
      ap (λ (r : Route). r.verdict) (sym is) ∙ opens.verdict

  begin_fits : AllBeginFits s
  begin_fits here (open_circuit o) first k j q l at = opening_fits s here.link o (fate s.services o k) k (was_undecided here o first j q l)
  begin_fits here (circuit_opened c) first k j q l at =
      by_given (λ (x : Hearing). BeginFits s x.heard) (hop_at k.circuits here.link c) _ _ tt (λ hop r. opened_fits s here.link c hop hop.way k)
  begin_fits here (circuit_refused c fault) first k j q l at =
      by_given (λ (x : Hearing). BeginFits s x.heard) (hop_at k.circuits here.link c) _ _ tt (λ hop r. refused_fits s here.link c fault hop hop.way k)

  begun_of : AllBegun s
  begun_of n b q = record { long = long; begins = by b.back refl }
    where
      shaped : IsShaped b
      shaped = shaped_of s sound n b q

      two : (back : Back) → b.back ≡ back → 2 ≤ stations back
      two local r = omega arith
      two (over_ring m) r = omega arith
      two (over_route route) r = let k = (shaped.way route r).1 in omega arith

      long : (side : Side) → 2 ≤ length (end_in side b).out.passed
      long side = let k = shaped.passed side in let l = two b.back refl in omega arith

      by : (back : Back) → b.back ≡ back → Begins back b
      by local r = tt
      by (over_ring m) r = tt
      by (over_route route) r = sound.begun n route (record { binding = b; there = q; back = r })

nothing_of : (s : State) → AllBegun s → NothingBeforeTheOpening s
nothing_of s h n route r = subst (λ (back : Back). Begins back r.binding) r.back (h n r.binding r.there).begins

pub sound_begun : (s : State) (v : Event) → Sound s → NothingBeforeTheOpening (step s v).state
sound_begun s v sound =
    nothing_of (step s v).state (step_leads MayBegin AllBegun (λ t x. x.begun) begun_keep s v (record { begun = begun_of s sound; bound = sound.bound; heard = begin_fits s sound }))
