-- The walk for what holds of each binding alone, with the interfaces and the number of rings: what changes a binding, each once.
use Rattle.std.proofs.Common.{◌≡◌, refl, sym, ◌∙◌, ap, subst, ℕ, zero, suc, ◌+◌, ◌≤◌, Bool, true, false, if◌then◌else◌}
use Rattle.std.proofs.Common.{List, [], ◌∷◌, ◌++◌, length, slice_get, Option, Some, None, arith}
use Rattle.std.proofs.lemmas.List.{length-append}
use Rattle.fl_base.specs.declared.identity.EndId.{EndId}
use Rattle.fl_base.specs.declared.identity.Side.{Side}
use Rattle.fl_base.specs.declared.identity.Side.TheVariants.{Client, Server}
use Rattle.fl_base.specs.Ends.{peer}
use Rattle.fl_base.specs.Given.{given}
use Rattle.fl_value_data.specs.Value.{TheCall}
use Rattle.fl_model.specs.Given.{changed_at}
use Rattle.fl_model.specs.Events.{DispatcherId, nothing}
use Rattle.fl_model.specs.Calls.{Planned}
use Rattle.fl_model.specs.Rings.{Label, next_of, says, acknowledges, Ring, RingEnd, there_is_room, no_room, looks, makes_sure, takes, puts, fresh_ring}
use Rattle.fl_model.specs.Ends.{Queue, fresh_queue, has_room, queue_room, joined_by, without_first, Direction, passes, is_busy, accepts, accepts_or_waits, accepts_waiting, goes_on}
use Rattle.fl_model.specs.Ends.{writes, writes_by, Wrote, End, with_rule, rule_at, takes_one, last_station, Taken, whole, a_part, comes_to, replies, unbound_end, written_of}
use Rattle.fl_model.specs.Waits.{Dispatcher, waits_in}
use Rattle.fl_model.specs.Monitors.{Heard, no_outbox, misrouted, opening_went_on, server_made, opening_failed, answer_went_on, end_opened, end_refused, Hearing, hears}
use Rattle.fl_model.specs.State.{Route, Back, local, over_ring, over_route, undecided, Binding, State, StepOutcome, Outlet, peer_queue, ring_side}
use Rattle.fl_model.specs.State.{dispatcher_of, binding_of, end_of, end_in, with_end_in, in_route, in_queue, change_core, change_ring, change_end, change_out, change_route}
use Rattle.fl_model.specs.State.{change_channel, seats, binds_end, delivers}
use Rattle.fl_model.specs.Binding.{BindByNames, end_id, with_new_binding, binds_both, arrival_queue}
use Rattle.fl_model.specs.Sending.{writes_to, outlet_room}
use Rattle.fl_model.specs.Taking.{Chosen, takes_label, goes_back, finds}
use Rattle.fl_model.specs.Forwarding.{follows, takes_said, grants, denies, passes_word, with_number, label_of}
use Rattle.fl_model_laws.proofs.Cases.{either, by_given}
use Rattle.fl_model_laws.proofs.Replies.{length_changed}
use Rattle.fl_model_laws.proofs.CoreWalk.{EachAt, each_at_changed}
use Rattle.fl_hop.specs.declared.entry.Hop.{Hop}
use Rattle.fl_lists.specs.declared.place.Place.TheVariants.{Polled}
use Rattle.fl_model_laws.proofs.Walk.{Keeps, IsArriving, with_ring}
use Rattle.fl_model_laws.proofs.Small.{length_set}

-- ---- changes of ends that leave queues, rules and stations as they are

pub record IsQuiet (f : End → End) : Type 0 where
  pub queue : (x : End) → (f x).queue ≡ x.queue
  pub rules : (x : End) → length (f x).rules ≡ length x.rules
  pub passed : (x : End) → length (f x).out.passed ≡ length x.out.passed

abbrev with_out : (Direction → Direction) → End → End
with_out f x = record x { out = f x.out }

out_quiet : (f : Direction → Direction) → ((d : Direction) → length (f d).passed ≡ length d.passed) → IsQuiet (with_out f)
out_quiet f same = record { queue = λ x. refl; rules = λ x. refl; passed = λ x. same x.out }

rule_quiet : (msg answer : ℕ) → IsQuiet (with_rule msg answer)
rule_quiet msg answer = record { queue = λ x. refl; rules = λ x. length_set x.rules msg (Some answer); passed = λ x. refl }

pub passes_quiet : (station : ℕ) → IsQuiet (with_out (passes station))
passes_quiet station = out_quiet (passes station) (λ d. length_changed d.passed station (λ n. n + 1))

takes_quiet : IsQuiet (with_out takes_one)
takes_quiet = out_quiet takes_one (λ d. length_changed d.passed (last_station d) (λ n. n + 1))

next_passed : (cs : List TheCall) (d : Direction) → length (accepts_waiting cs d).passed ≡ length d.passed
next_passed [] d = refl
next_passed (c ∷ cs) d = refl

writes_passed : (i : Planned) (d : Direction) → length (writes i d there_is_room).direction.passed ≡ length d.passed
writes_passed i d =
    let first : length (passes 0 d).passed ≡ length d.passed = length_changed d.passed 0 (λ n. n + 1) in
    let on : length (goes_on i (passes 0 d)).passed ≡ length (passes 0 d).passed =
    either (λ (e : Direction). length e.passed ≡ length (passes 0 d).passed) (is_busy i (passes 0 d)) _ _ (λ q. refl)
    (λ q. next_passed (passes 0 d).waiting (passes 0 d)) in
    either (λ (w : Wrote). length w.direction.passed ≡ length d.passed) (is_busy i d) (writes_by i d there_is_room)
    (record { direction = d; answer = nothing }) (λ q. on ∙ first) (λ q. refl)

writes_quiet : (i : Planned) → IsQuiet (with_out (λ d. (writes i d there_is_room).direction))
writes_quiet i = out_quiet (λ d. (writes i d there_is_room).direction) (writes_passed i)

waits_passed : (i : Planned) (c : TheCall) (d : Direction) → length (accepts_or_waits i c d).passed ≡ length d.passed
waits_passed i c d = either (λ (e : Direction). length e.passed ≡ length d.passed) (is_busy i d) _ _ (λ q. refl) (λ q. refl)

replied_whole : (i : Planned) (c : TheCall) → IsQuiet (replies i (whole c))
replied_whole i c = record {
  queue = λ x. by_given (λ (y : End). y.queue ≡ x.queue) (rule_at x.rules c.msg) x _ refl (λ m q. refl);
  rules = λ x. by_given (λ (y : End). length y.rules ≡ length x.rules) (rule_at x.rules c.msg) x _ refl (λ m q. refl);
  passed = λ x. by_given (λ (y : End). length y.out.passed ≡ length x.out.passed) (rule_at x.rules c.msg) x _ refl
      (λ m q. waits_passed i (record { msg = m; args = c.args }) x.out);
}

replies_quiet : (i : Planned) (t : Taken) → IsQuiet (replies i t)
replies_quiet i a_part = record { queue = λ x. refl; rules = λ x. refl; passed = λ x. refl }
replies_quiet i (whole c) = replied_whole i c

-- ---- what changes a binding

-- whatever queue the end has, it has room
abbrev pub HasRoomIn : End → Type 0
HasRoomIn x = (q : Queue) → x.queue ≡ Some q → has_room q ≡ true

pub record IsSameRoute (f : Route → Route) : Type 0 where
  pub cores : (r : Route) → (f r).cores ≡ r.cores

-- a binding of which nothing has come yet
abbrev pub new_binding : BindByNames → Back → ℕ → Option Queue → Binding
new_binding w back stations queue =
    record {
      interface = w.interface;
      back = back;
      client = unbound_end w.messages stations queue;
      server = unbound_end w.messages stations queue;
    }

pub data IsFresh : ℕ → Back → ℕ → Option Queue → Type 0 where
  by_queue : (rings slots : ℕ) → IsFresh rings local 2 (Some (fresh_queue slots))
  on_ring : (rings n : ℕ) → suc n ≤ rings → IsFresh rings (over_ring n) 2 None
  on_route : (rings : ℕ) (route : Route) → IsFresh rings (over_route route) (length route.cores + 1) (Some arrival_queue)

pub record KeepsBindings (B : List Planned → ℕ → Binding → Type 0) : Type 0 where
  pub quiet : (is : List Planned) (rs : ℕ) (side : Side) (f : End → End) (b : Binding) → IsQuiet f → B is rs b → B is rs (with_end_in side f b)
  pub joined : (is : List Planned) (rs : ℕ) (side : Side) (l : Label) (b : Binding) → HasRoomIn (end_in side b) → B is rs b
      → B is rs (with_end_in side (in_queue (joined_by l)) b)
  pub emptied : (is : List Planned) (rs : ℕ) (side : Side) (b : Binding) → B is rs b → B is rs (with_end_in side (in_queue without_first) b)
  pub route : (is : List Planned) (rs : ℕ) (f : Route → Route) (b : Binding) → IsSameRoute f → B is rs b
      → B is rs (record b { back = in_route f b.back })
  pub grown : (is : List Planned) (rs more : ℕ) (b : Binding) → rs ≤ more → B is rs b → B is more b
  pub interface : (is : List Planned) (rs : ℕ) (i : Planned) (b : Binding) → B is rs b → B (is ++ i ∷ []) rs b
  pub fresh : (is : List Planned) (rs : ℕ) (w : BindByNames) (i : Planned) (back : Back) (stations : ℕ) (q : Option Queue)
      → slice_get is w.interface ≡ Some i → w.messages ≡ length i.interface.messages → IsFresh rs back stations q
      → B is rs (new_binding w back stations q)

abbrev pub Bindings : (List Planned → ℕ → Binding → Type 0) → State → Type 0
Bindings B s = EachAt (λ n b. B s.interfaces (length s.rings) b) s.bindings

-- ---- where an end is

pub given_there : {X Y : Type 0} (o : Option X) (f : X → Option Y) (y : Y) → given o None f ≡ Some y → (x : X) × (o ≡ Some x) × (f x ≡ Some y)
given_there None f y h = absurd (cc)
given_there (Some x) f y h = (x, refl, h)

pub end_there : (s : State) (e : EndId) (x : End) → end_of s e ≡ Some x
    → (b : Binding) × (slice_get s.bindings e.binding ≡ Some b) × (end_in e.side b ≡ x)
end_there s e x h =
    let (b, at, is) = given_there (binding_of s e) (λ b. Some (end_in e.side b)) x h in
    (b, at, let j : Some (end_in e.side b) ≡ Some x = is in cc)

-- ---- room in an end's queue

abbrev pub RoomAt : EndId → State → Type 0
RoomAt p s = EachAt (λ n b. n ≡ p.binding → HasRoomIn (end_in p.side b)) s.bindings

pub room_at : (p : EndId) (s : State) → ((x : End) → end_of s p ≡ Some x → HasRoomIn x) → RoomAt p s
room_at p s h n b q e =
    let there : slice_get s.bindings p.binding ≡ Some b = ap (slice_get s.bindings) (sym e) ∙ q in
    h (end_in p.side b) (ap (λ (o : Option Binding). given o None (λ x. Some (end_in p.side x))) there)

room_same : (x y : End) → y.queue ≡ x.queue → HasRoomIn x → HasRoomIn y
room_same x y e h q r = h q (sym e ∙ r)

side_room : (side by : Side) (f : End → End) (b : Binding) → IsQuiet f → HasRoomIn (end_in side b) → HasRoomIn (end_in side (with_end_in by f b))
side_room Client Client f b k h = room_same b.client (f b.client) (k.queue b.client) h
side_room Client Server f b k h = h
side_room Server Client f b k h = h
side_room Server Server f b k h = room_same b.server (f b.server) (k.queue b.server) h

pub room_kept : (p e : EndId) (f : End → End) (s : State) → IsQuiet f → RoomAt p s → RoomAt p (change_end e f s)
room_kept p e f s k h =
    each_at_changed (λ n b. n ≡ p.binding → HasRoomIn (end_in p.side b)) s.bindings e.binding (with_end_in e.side f) h
    (λ b q c r. side_room p.side e.side f b k (c r))

room_true : (b : Bool) → (if b then there_is_room else no_room) ≡ there_is_room → b ≡ true
room_true true h = refl
room_true false h = absurd (cc)

queue_has_room : (x : End) (q : Queue) → x.queue ≡ Some q → given x.queue no_room queue_room ≡ there_is_room → has_room q ≡ true
queue_has_room x q e h = room_true (has_room q) (sym (ap (λ (o : Option Queue). given o no_room queue_room) e) ∙ h)

outlet_has_room : (p : EndId) (s : State) → given (end_of s p) no_room (λ x. given x.queue no_room queue_room) ≡ there_is_room → RoomAt p s
outlet_has_room p s h =
    room_at p s (λ x q r e. queue_has_room x r e (sym (ap (λ (o : Option End). given o no_room (λ y. given y.queue no_room queue_room)) q) ∙ h))

arriving_room : (hop : Hop) (to : EndId) (s : State) → IsArriving hop to s → RoomAt to s
arriving_room hop to s a =
    room_at to s (λ x q r e.
    let same : a.end ≡ x = let u : Some a.end ≡ Some x = sym a.end_is ∙ q in cc in
    queue_has_room x r e (subst (λ (y : End). given y.queue no_room queue_room ≡ there_is_room) same
    (ap (λ (o : Option Queue). given o no_room queue_room) a.queue_is ∙ a.room)))

-- ---- the walk

pub each_at_push : {X : Type 0} (C : ℕ → X → Type 0) (xs : List X) (y : X) → EachAt C xs → ((n : ℕ) → C n y) → EachAt C (xs ++ y ∷ [])
each_at_push C [] y h k zero x q = subst (C 0) (let e : y ≡ x = cc in e) (k 0)
each_at_push C [] y h k (suc n) x q = absurd (cc)
each_at_push C (z ∷ xs) y h k zero x q = h zero x q
each_at_push C (z ∷ xs) y h k (suc n) x q = each_at_push (λ i. C (suc i)) xs y (λ i w r. h (suc i) w r) (λ i. k (suc i)) n x q

module _ (B : List Planned → ℕ → Binding → Type 0) (K : KeepsBindings B) where
  ring_changed : (n : ℕ) (f : Ring → Ring) (s : State) → Bindings B s → Bindings B (change_ring n f s)
  ring_changed n f s h m b q =
      let same : length (changed_at n f s.rings) ≡ length s.rings = length_changed s.rings n f in
      K.grown s.interfaces (length s.rings) (length (changed_at n f s.rings)) b (omega arith) (h m b q)

  ring_added : (size : ℕ) (s : State) → Bindings B s → Bindings B (with_ring size s)
  ring_added size s h m b q =
      let longer : length (s.rings ++ fresh_ring size ∷ []) ≡ length s.rings + 1 = length-append s.rings (fresh_ring size ∷ []) in
      K.grown s.interfaces (length s.rings) (length (s.rings ++ fresh_ring size ∷ [])) b (omega arith) (h m b q)

  end_kept : (e : EndId) (f : End → End) (s : State) → IsQuiet f → Bindings B s → Bindings B (change_end e f s)
  end_kept e f s k h =
      each_at_changed (λ n b. B s.interfaces (length s.rings) b) s.bindings e.binding (with_end_in e.side f) h
      (λ b q c. K.quiet s.interfaces (length s.rings) e.side f b k c)

  emptied_kept : (e : EndId) (s : State) → Bindings B s → Bindings B (change_end e (in_queue without_first) s)
  emptied_kept e s h =
      each_at_changed (λ n b. B s.interfaces (length s.rings) b) s.bindings e.binding (with_end_in e.side (in_queue without_first)) h
      (λ b q c. K.emptied s.interfaces (length s.rings) e.side b c)

  route_kept : (n : ℕ) (f : Route → Route) (s : State) → IsSameRoute f → Bindings B s → Bindings B (change_route n f s)
  route_kept n f s k h =
      each_at_changed (λ n b. B s.interfaces (length s.rings) b) s.bindings n (λ b. record b { back = in_route f b.back }) h
      (λ b q c. K.route s.interfaces (length s.rings) f b k c)

  channel_kept : (e : EndId) (f : ℕ → End → Dispatcher → Dispatcher) (s : State) → Bindings B s → Bindings B (change_channel e f s)
  channel_kept e f s h = by_given (Bindings B) (end_of s e) _ _ h (λ x q. by_given (Bindings B) x.seat _ _ h (λ seat r. h))

  seat_kept : (d : DispatcherId) (e : EndId) (s : State) → Bindings B s → Bindings B (seats d e s)
  seat_kept d e s h =
      by_given (Bindings B) (dispatcher_of s d) _ _ h
      (λ x q. end_kept e (λ y. record y { seat = Some (record { dispatcher = d; channel = length x.ends }) }) s
      (record { queue = λ y. refl; rules = λ y. refl; passed = λ y. refl }) h)

  bound_kept : (e : EndId) (circuit : ℕ) (s : State) → Bindings B s → Bindings B (binds_end e circuit s)
  bound_kept e circuit s h =
      channel_kept e _ (change_end e (λ y. record y { circuit = Some circuit }) s)
      (end_kept e (λ y. record y { circuit = Some circuit }) s (record { queue = λ y. refl; rules = λ y. refl; passed = λ y. refl }) h)

  both_kept : (n : ℕ) (w : BindByNames) (s : State) → Bindings B s → Bindings B (binds_both n w s)
  both_kept n w s h =
      let c : EndId = end_id n Client in
      let v : EndId = end_id n Server in
      let first : State = seats w.client c s in
      let second : State = seats w.service.dispatcher v first in
      bound_kept v 0 (binds_end c 0 second) (bound_kept c 0 second (seat_kept w.service.dispatcher v first (seat_kept w.client c s h)))

  delivered_kept : (l : Label) (e : EndId) (s : State) → RoomAt e s → Bindings B s → Bindings B (delivers l e s)
  delivered_kept l e s room h =
      channel_kept e _ (change_end e (in_queue (joined_by l)) s)
      (each_at_changed (λ n b. B s.interfaces (length s.rings) b) s.bindings e.binding (with_end_in e.side (in_queue (joined_by l))) h
      (λ b q c. K.joined s.interfaces (length s.rings) e.side l b (room e.binding b q refl) c))

  new_kept : (w : BindByNames) (i : Planned) (back : Back) (stations : ℕ) (q : Option Queue) (s : State) → IsFresh (length s.rings) back stations q
      → slice_get s.interfaces w.interface ≡ Some i → w.messages ≡ length i.interface.messages → Bindings B s
      → Bindings B (with_new_binding w back stations q s)
  new_kept w i back stations q s f there messages h =
      each_at_push (λ n b. B s.interfaces (length s.rings) b) s.bindings (new_binding w back stations q) h
      (λ n. K.fresh s.interfaces (length s.rings) w i back stations q there messages f)

  written_kept : (e : EndId) (i : Planned) (d : Direction) (o : Outlet) (s : State) → outlet_room e o s ≡ there_is_room → Bindings B s
      → Bindings B (writes_to e i d o there_is_room s).state
  written_kept e i d peer_queue s q h =
      let f : End → End = λ x. record x { out = (writes i x.out there_is_room).direction } in
      delivered_kept (next_of e (written_of d)) (peer e) (change_end e f s)
      (room_kept (peer e) e f s (writes_quiet i) (outlet_has_room (peer e) s q)) (end_kept e f s (writes_quiet i) h)
  written_kept e i d (ring_side on) s q h =
      let f : End → End = λ x. record x { out = (writes i x.out there_is_room).direction } in
      ring_changed on.ring (puts on.side (next_of e (written_of d))) (change_end e f s) (end_kept e f s (writes_quiet i) h)

  label_taken : (e : EndId) (i : Planned) (l : Label) (s : State) → Bindings B s → Bindings B (takes_label e i l s).state
  label_taken e i (next_of sender k) s h =
      by_given (λ (o : StepOutcome). Bindings B o.state) (end_of s sender) _ _ h
      (λ y r. end_kept e (replies i (comes_to i y.out)) (change_out sender takes_one s) (replies_quiet i (comes_to i y.out))
      (end_kept sender (λ x. record x { out = takes_one x.out }) s takes_quiet h))
  label_taken e i (says m) s h = h
  label_taken e i acknowledges s h = h

  found_kept : (t : Chosen) (at : RingEnd) (l : Label) (s : State) → Bindings B s → Bindings B (finds t at l s).state
  found_kept t at (next_of e k) s h = h
  found_kept t at (says m) s h = h
  found_kept t at acknowledges s h = ring_changed at.ring (takes at.side) s h

  follows_kept : (x : Heard) (s : State) → Bindings B s → Bindings B (follows x s).state
  follows_kept no_outbox s h = h
  follows_kept misrouted s h = h
  follows_kept (opening_went_on n c) s h = route_kept n (with_number c) s (record { cores = λ r. refl }) h
  follows_kept (server_made n d c) s h =
      let granted : State = change_route n grants s in
      bound_kept (end_id n Server) c (seats d (end_id n Server) granted)
      (seat_kept d (end_id n Server) granted (route_kept n grants s (record { cores = λ r. refl }) h))
  follows_kept (opening_failed n fault) s h = route_kept n (denies fault) s (record { cores = λ r. refl }) h
  follows_kept (answer_went_on n) s h = route_kept n passes_word s (record { cores = λ r. refl }) h
  follows_kept (end_opened e c) s h =
      bound_kept e c (change_route e.binding passes_word s) (route_kept e.binding passes_word s (record { cores = λ r. refl }) h)
  follows_kept (end_refused e fault) s h = route_kept e.binding passes_word s (record { cores = λ r. refl }) h

  said_kept : (at : RingEnd) (x : Heard) (s : State) → Bindings B s → Bindings B (takes_said at x s)
  said_kept at no_outbox s h = h
  said_kept at misrouted s h = h
  said_kept at (opening_went_on n c) s h = ring_changed at.ring (takes at.side) s h
  said_kept at (server_made n d c) s h = ring_changed at.ring (takes at.side) s h
  said_kept at (opening_failed n fault) s h = ring_changed at.ring (takes at.side) s h
  said_kept at (answer_went_on n) s h = ring_changed at.ring (takes at.side) s h
  said_kept at (end_opened e c) s h = ring_changed at.ring (takes at.side) s h
  said_kept at (end_refused e fault) s h = ring_changed at.ring (takes at.side) s h

  pub bindings_keep : Keeps (Bindings B)
  bindings_keep = record {
    settled = λ s h. h;
    interface = λ i s q h n b r. K.interface s.interfaces (length s.rings) i b (h n b r);
    cores = λ n s q h. h;
    link = λ a b size s q r h. ring_added size s h;
    dispatcher = λ core s h. h;
    service = λ x s d i q r t h. h;
    queues = λ w i slots s k q h.
        both_kept (length s.bindings) w (with_new_binding w local 2 (Some (fresh_queue slots)) s)
        (new_kept w i local 2 (Some (fresh_queue slots)) s (by_queue (length s.rings) slots) k.interface k.messages h);
    ring = λ w i size s k q r h.
        let longer : length (s.rings ++ fresh_ring size ∷ []) ≡ length s.rings + 1 = length-append s.rings (fresh_ring size ∷ []) in
        both_kept (length s.bindings) w (with_new_binding w (over_ring (length s.rings)) 2 None (with_ring size s))
        (new_kept w i (over_ring (length s.rings)) 2 None (with_ring size s)
        (on_ring (length (s.rings ++ fresh_ring size ∷ [])) (length s.rings) (omega arith)) k.interface k.messages (ring_added size s h));
    route = λ w i cores k l c s want begins h.
        let way : Route = record { service = w.iref; cores = cores; numbers = c ∷ []; verdict = undecided } in
        seat_kept w.client (end_id (length s.bindings) Client) (with_new_binding w (over_route way) (length cores + 1) (Some arrival_queue) s)
        (new_kept w i (over_route way) (length cores + 1) (Some arrival_queue) s (on_route (length s.rings) way) want.interface want.messages h);
    called = λ e c b i s at q h. end_kept e (λ x. record x { out = accepts c x.out }) s (out_quiet (accepts c) (λ d. refl)) h;
    sure = λ need at s h. ring_changed at.ring (makes_sure need at.side) s h;
    looked = λ at s h. ring_changed at.ring (looks at.side) s h;
    written = λ e b i o s at q r t u h. written_kept e i (end_in e.side b).out o s u h;
    held = λ t b i s d at q h. h;
    no_label = λ t to s d h. h;
    from_queue = λ t b i q label s d at u v w h.
        label_taken t.end i label (goes_back t (waits_in (Some (without_first q))) (change_end t.end (in_queue without_first) s)) (emptied_kept t.end s h);
    from_ring = λ t b i at first s d k u v w h.
        label_taken t.end i first.label (goes_back t Polled (change_ring at.ring (takes at.side) s)) (ring_changed at.ring (takes at.side) s h);
    found_none = λ t s d h. h;
    found = λ t b at first s d q r u h.
        found_kept t at first.label (change_ring at.ring (looks at.side) s) (ring_changed at.ring (looks at.side) s h);
    acknowledged = λ at s q h. ring_changed at.ring (puts at.side acknowledges) s h;
    registered = λ e x s q r t h. channel_kept e _ s h;
    deregistered = λ e x s q r h. channel_kept e _ s h;
    ruled = λ e msg answer b i s at h. end_kept e (with_rule msg answer) s (rule_quiet msg answer) h;
    monitor_written = λ here link m s k q r t h. ring_changed here.ring.ring (puts here.ring.side (says m)) s h;
    heard = λ here m first k s j q r t h.
        let x : Hearing = hears s.services here.link m k in
        let told : State = change_core here.core (λ y. x.core) s in
        follows_kept x.heard (takes_said here.ring x.heard told) (said_kept here.ring x.heard told h);
    passed = λ here p first route hop on s k q h.
        let put : State = change_ring on.ring (puts on.side (label_of p)) s in
        end_kept p.end (λ x. record x { out = passes p.station x.out }) (change_ring here.ring.ring (takes here.ring.side) put) (passes_quiet p.station)
        (ring_changed here.ring.ring (takes here.ring.side) put (ring_changed on.ring (puts on.side (label_of p)) s h));
    arrived = λ here p first route hop to s k q h.
        let put : State = delivers (label_of p) to s in
        end_kept p.end (λ x. record x { out = passes p.station x.out }) (change_ring here.ring.ring (takes here.ring.side) put) (passes_quiet p.station)
        (ring_changed here.ring.ring (takes here.ring.side) put (delivered_kept (label_of p) to s (arriving_room hop to s q) h));
    taken = λ here first s k q r h. ring_changed here.ring.ring (takes here.ring.side) s h;
  }
