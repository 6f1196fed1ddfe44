-- What is said of each end of a binding, whatever it is: each event keeps it where the few changes of an end's calls do.
use Rattle.std.proofs.Common.{◌≡◌, refl, sym, ◌∙◌, subst, ℕ, ◌+◌, ◌≤◌, ◌&&◌, nat_le, not}
use Rattle.std.proofs.Common.{Bool, true, false, List, [], ◌∷◌, length, slice_get}
use Rattle.std.proofs.Common.{Option, Some, None, arith}
use Rattle.fl_base.specs.declared.identity.EndId.{EndId}
use Rattle.fl_base.specs.declared.identity.Side.TheVariants.{Client, Server}
use Rattle.fl_base.specs.Ends.{peer}
use Rattle.fl_value_data.specs.Value.{TheCall}
use Rattle.fl_model.specs.Events.{DispatcherId, Event}
use Rattle.fl_model.specs.Calls.{Planned}
use Rattle.fl_model.specs.Rings.{Label, next_of, says, acknowledges, RingEnd, there_is_room}
use Rattle.fl_model.specs.Rings.{puts, takes}
use Rattle.fl_model.specs.Ends.{Queue, fresh_queue, without_first, End, Taken, comes_to, is_busy, holds_back}
use Rattle.fl_model.specs.Waits.{Dispatcher}
use Rattle.fl_model.specs.Monitors.{Heard, no_outbox, misrouted, opening_went_on, server_made, opening_failed}
use Rattle.fl_model.specs.Monitors.{answer_went_on, end_opened, end_refused, hears}
use Rattle.fl_model.specs.State.{Back, local, over_ring, State, start, StepOutcome, Outlet, peer_queue, ring_side}
use Rattle.fl_model.specs.State.{change_core, change_ring, change_end, change_route, seats}
use Rattle.fl_model.specs.State.{delivers, dispatcher_of, binding_of, interface_of, end_of, end_in, in_queue}
use Rattle.fl_model.specs.Making.{with_interface}
use Rattle.fl_model.specs.Binding.{BindByNames, end_id, with_new_binding, binds_both, is_route}
use Rattle.fl_model.specs.Sending.{writes_to}
use Rattle.fl_model.specs.Taking.{Chosen, takes_label, finds}
use Rattle.fl_model.specs.Forwarding.{follows, takes_said, label_of}
use Rattle.fl_model_laws.proofs.Cases.{by_given, each_push, none_at_end}
use Rattle.fl_model.specs.Runs.{reached}
use Rattle.std.proofs.Common.{slice_set, zero, drop}
use Rattle.std.proofs.lemmas.Bool.Decides.{nat_tests}
use Rattle.fl_base.specs.declared.identity.Side.{Side}
use Rattle.fl_model.specs.Given.{changed_at}
use Rattle.fl_model.specs.Monitors.{Hearing}
use Rattle.fl_model.specs.Binding.{arrival_queue}
use Rattle.std.proofs.Common.{suc}
use Rattle.fl_base.specs.Given.{given, given}
use Rattle.fl_model.specs.State.{binds_end}
use Rattle.fl_model.specs.State.{Binding, Route, change_out, change_channel, with_end_in, place_in, way_of}
use Rattle.fl_model.specs.Ends.{accepts, writes, with_rule, passes, takes_one, replies, unbound_end}
use Rattle.fl_model_laws.proofs.Cases.{Each, each_changed}
use Rattle.fl_model_laws.proofs.Walk.{At, with_ring, Keeps, run_keeps}
use Rattle.fl_model_laws.proofs.Small.{get_push, is_not, same_interface, interface_side, changed_here}

-- ---- what is to be shown

-- what the changes of an end's calls keep, under the binding's interface
pub record EndKeeps (Q : Planned → End → Type 0) : Type 0 where
  -- it is said of the calls alone
  pub by_out : (i : Planned) (x y : End) → y.out ≡ x.out → Q i x → Q i y
  pub fresh : (i : Planned) (messages stations : ℕ) (q : Option Queue) → 2 ≤ stations → Q i (unbound_end messages stations q)
  pub called : (i : Planned) (c : TheCall) (x : End) → is_busy i x.out ≡ false → Q i x → Q i (record x { out = accepts c x.out })
  pub written : (i : Planned) (x : End) → is_busy i x.out ≡ true → Q i x → Q i (record x { out = (writes i x.out there_is_room).direction })
  pub passed : (station : ℕ) (i : Planned) (x : End) → 1 ≤ station → Q i x → Q i (record x { out = passes station x.out })
  pub taken : (i : Planned) (x : End) → Q i x → Q i (record x { out = takes_one x.out })
  pub replied : (i : Planned) (t : Taken) (x : End) → holds_back x ≡ false → Q i x → Q i (replies i t x)

-- a binding has an interface, and of both ends it holds
pub record BindingOk (Q : Planned → End → Type 0) (interfaces : List Planned) (b : Binding) : Type 0 where
  pub interface : Planned
  pub there : slice_get interfaces b.interface ≡ Some interface
  pub client : Q interface b.client
  pub server : Q interface b.server

abbrev pub AllOk : (Planned → End → Type 0) → State → Type 0
AllOk Q s = Each (BindingOk Q s.interfaces) s.bindings

-- ---- lists, and sides of a binding

pub queue_out : (x : End) (f : Queue → Queue) → (in_queue f x).out ≡ x.out
queue_out x f = by_given (λ (y : End). y.out ≡ x.out) x.queue x _ refl (λ q r. refl)

-- ---- fields

and_left : (a b : Bool) → (a && b) ≡ true → a ≡ true
and_left true b h = refl
and_left false b h = absurd (cc)

at_least : (n : ℕ) → nat_le 2 n ≡ true → 2 ≤ n + 1
at_least n h = grind (arith, nat_tests, h)

pub long_route : (cores : List ℕ) (client service : ℕ) (s : State) → is_route cores client service s ≡ true → 2 ≤ length cores + 1
long_route cores client service s h =
    at_least (length cores) (and_left _ _ (and_left _ _ (and_left _ _ (and_left _ _ (and_left _ _ h)))))

queue_open : (f : Queue → Queue) (x : End) → holds_back x ≡ false → holds_back (in_queue f x) ≡ false
queue_open f x h = by_given (λ (y : End). holds_back y ≡ false) x.queue x _ h (λ q r. h)

side_open : (side : Side) (f : Queue → Queue) (b : Binding) → holds_back (end_in side b) ≡ false
    → holds_back (end_in side (with_end_in side (in_queue f) b)) ≡ false
side_open Client f b h = queue_open f b.client h
side_open Server f b h = queue_open f b.server h

at_set : {X : Type 0} (P : X → Type 0) (xs : List X) (m n : ℕ) (x y : X) → slice_get xs n ≡ Some x
    → ((w : X) → slice_get xs m ≡ Some w → P w) → (P x → P y) → (z : X) → slice_get (slice_set xs n y) m ≡ Some z → P z
at_set P [] m n x y q h k z r = absurd (cc)
at_set P (w ∷ xs) zero zero x y q h k z r = subst P (let e : y ≡ z = cc in e) (k (h x q))
at_set P (w ∷ xs) (suc m) zero x y q h k z r = h z r
at_set P (w ∷ xs) zero (suc n) x y q h k z r = h z r
at_set P (w ∷ xs) (suc m) (suc n) x y q h k z r = at_set P xs m n x y q h k z r

at_changed : {X : Type 0} (P : X → Type 0) (xs : List X) (m n : ℕ) (f : X → X) → ((w : X) → slice_get xs m ≡ Some w → P w)
    → ((x : X) → P x → P (f x)) → (z : X) → slice_get (changed_at n f xs) m ≡ Some z → P z
at_changed {X} P xs m n f h k =
    by_given (λ (ys : List X). (z : X) → slice_get ys m ≡ Some z → P z) (slice_get xs n) xs (λ x. slice_set xs n (f x)) h
    (λ x q. at_set P xs m n x (f x) q h (k x))

-- an end that takes a fragment itself holds back as much as before
open_side : (side by : Side) (b : Binding) → holds_back (end_in side b) ≡ false
    → holds_back (end_in side (with_end_in by (λ x. record x { out = takes_one x.out }) b)) ≡ false
open_side Client Client b h = h
open_side Client Server b h = h
open_side Server Client b h = h
open_side Server Server b h = h

pub record OpenAt (interfaces : List Planned) (i : Planned) (side : Side) (b : Binding) : Type 0 where
  pub open_is : holds_back (end_in side b) ≡ false
  pub there : slice_get interfaces b.interface ≡ Some i

open_kept : (interfaces : List Planned) (i : Planned) (side by : Side) (b : Binding) → OpenAt interfaces i side b
    → OpenAt interfaces i side (with_end_in by (λ x. record x { out = takes_one x.out }) b)
open_kept interfaces i side by b h = record {
  open_is = open_side side by b h.open_is;
  there = subst (λ (n : ℕ). slice_get interfaces n ≡ Some i) (sym (interface_side by (λ x. record x { out = takes_one x.out }) b)) h.there;
}

open_at : (s : State) (e : EndId) (i : Planned) (b : Binding) → At s e b i → holds_back (end_in e.side b) ≡ false → (w : Binding)
    → slice_get s.bindings e.binding ≡ Some w → OpenAt s.interfaces i e.side w
open_at s e i b at q w r =
    let same : b ≡ w = let u : Some b ≡ Some w = sym at.binding ∙ r in cc in
    subst (OpenAt s.interfaces i e.side) same (record { open_is = q; there = at.interface })

pub station_some : (o : Option ℕ) (n : ℕ) → given o None (λ j. Some (j + 1)) ≡ Some n → 1 ≤ n
station_some None n h = absurd (cc)
station_some (Some j) n h = let e : j + 1 ≡ n = cc in omega arith

-- ---- each event

module _ (Q : Planned → End → Type 0) (K : EndKeeps Q) where
  side_changed : (interfaces : List Planned) (side : Side) (f : End → End) (b : Binding)
      → ((i : Planned) → slice_get interfaces b.interface ≡ Some i → Q i (end_in side b) → Q i (f (end_in side b)))
      → BindingOk Q interfaces b → BindingOk Q interfaces (with_end_in side f b)
  side_changed interfaces Client f b k h = record { interface = h.interface; there = h.there; client = k h.interface h.there h.client; server = h.server }
  side_changed interfaces Server f b k h = record { interface = h.interface; there = h.there; client = h.client; server = k h.interface h.there h.server }

  pub end_changed : (e : EndId) (f : End → End) (s : State) → AllOk Q s
      → ((b : Binding) (i : Planned) → binding_of s e ≡ Some b → interface_of s b ≡ Some i → Q i (end_in e.side b) → Q i (f (end_in e.side b)))
      → AllOk Q (change_end e f s)
  end_changed e f s h k =
      each_changed (BindingOk Q s.interfaces) s.bindings e.binding (with_end_in e.side f) h
      (λ b q ok. side_changed s.interfaces e.side f b (λ i r x. k b i q r x) ok)

  -- whatever leaves an end's calls as they are
  pub end_kept : (e : EndId) (f : End → End) (s : State) → ((x : End) → (f x).out ≡ x.out) → AllOk Q s → AllOk Q (change_end e f s)
  end_kept e f s same h =
      end_changed e f s h
      (λ b i q r ok. K.by_out i (end_in e.side b) (f (end_in e.side b)) (same (end_in e.side b)) ok)

  -- ---- composites

  channel_kept : (e : EndId) (f : ℕ → End → Dispatcher → Dispatcher) (s : State) → AllOk Q s → AllOk Q (change_channel e f s)
  channel_kept e f s h = by_given (AllOk Q) (end_of s e) _ _ h (λ x q. by_given (AllOk Q) x.seat _ _ h (λ seat r. h))

  seat_kept : (d : DispatcherId) (e : EndId) (s : State) → AllOk Q s → AllOk Q (seats d e s)
  seat_kept d e s h = by_given (AllOk Q) (dispatcher_of s d) _ _ h (λ x q. end_kept e _ s (λ y. refl) h)

  bound_kept : (e : EndId) (circuit : ℕ) (s : State) → AllOk Q s → AllOk Q (binds_end e circuit s)
  bound_kept e circuit s h = channel_kept e _ _ (end_kept e _ s (λ y. refl) h)

  both_kept : (n : ℕ) (w : BindByNames) (s : State) → AllOk Q s → AllOk Q (binds_both n w s)
  both_kept n w s h =
      bound_kept (end_id n Server) 0 _ (bound_kept (end_id n Client) 0 _
      (seat_kept w.service.dispatcher (end_id n Server) _ (seat_kept w.client (end_id n Client) s h)))

  delivered_kept : (l : Label) (e : EndId) (s : State) → AllOk Q s → AllOk Q (delivers l e s)
  delivered_kept l e s h = channel_kept e _ _ (end_kept e _ s (λ x. queue_out x _) h)

  new_kept : (w : BindByNames) (i : Planned) (back : Back) (stations : ℕ) (q : Option Queue) (s : State) → slice_get s.interfaces w.interface ≡ Some i
      → 2 ≤ stations → AllOk Q s → AllOk Q (with_new_binding w back stations q s)
  new_kept w i back stations q s there a h =
      each_push (BindingOk Q s.interfaces) s.bindings _ h
      (record { interface = i; there = there; client = K.fresh i w.messages stations q a; server = K.fresh i w.messages stations q a })

  route_changed : (n : ℕ) (f : Route → Route) (s : State) → AllOk Q s → AllOk Q (change_route n f s)
  route_changed n f s h =
      each_changed (BindingOk Q s.interfaces) s.bindings n _ h
      (λ b q ok. record { interface = ok.interface; there = ok.there; client = ok.client; server = ok.server })

  taken_next : (e sender : EndId) (t : Taken) (b : Binding) (i : Planned) (s : State) → At s e b i → holds_back (end_in e.side b) ≡ false → AllOk Q s
      → AllOk Q (change_end e (replies i t) (change_out sender takes_one s))
  taken_next e sender t b i s at q h =
      let first : AllOk Q (change_out sender takes_one s) = end_changed sender (λ x. record x { out = takes_one x.out }) s h (λ w j r u ok. K.taken j (end_in sender.side w) ok) in
      end_changed e (replies i t) (change_out sender takes_one s) first
      (λ w j r u ok.
      let at2 : OpenAt s.interfaces i e.side w = at_changed (OpenAt s.interfaces i e.side) s.bindings e.binding sender.binding
      (with_end_in sender.side (λ x. record x { out = takes_one x.out })) (open_at s e i b at q) (open_kept s.interfaces i e.side sender.side) w r in
      let same : j ≡ i = same_interface s.interfaces w.interface j i u at2.there in
      subst (λ (p : Planned). Q p (replies i t (end_in e.side w))) (sym same)
      (K.replied i t (end_in e.side w) at2.open_is (subst (λ (p : Planned). Q p (end_in e.side w)) same ok)))

  label_taken : (e : EndId) (i : Planned) (l : Label) (b : Binding) (s : State) → At s e b i → holds_back (end_in e.side b) ≡ false → AllOk Q s
      → AllOk Q (takes_label e i l s).state
  label_taken e i (next_of sender k) b s at q h =
      by_given (λ (o : StepOutcome). AllOk Q o.state) (end_of s sender) _ _ h (λ y r. taken_next e sender (comes_to i y.out) b i s at q h)
  label_taken e i (says m) b s at q h = h
  label_taken e i acknowledges b s at q h = h

  follows_kept : (x : Heard) (s : State) → AllOk Q s → AllOk Q (follows x s).state
  follows_kept no_outbox s h = h
  follows_kept misrouted s h = h
  follows_kept (opening_went_on n c) s h = route_changed n _ s h
  follows_kept (server_made n d c) s h = bound_kept (end_id n Server) c _ (seat_kept d (end_id n Server) _ (route_changed n _ s h))
  follows_kept (opening_failed n fault) s h = route_changed n _ s h
  follows_kept (answer_went_on n) s h = route_changed n _ s h
  follows_kept (end_opened e c) s h = bound_kept e c _ (route_changed e.binding _ s h)
  follows_kept (end_refused e fault) s h = route_changed e.binding _ s h

  said_kept : (at : RingEnd) (x : Heard) (s : State) → AllOk Q s → AllOk Q (takes_said at x s)
  said_kept at no_outbox s h = h
  said_kept at misrouted s h = h
  said_kept at (opening_went_on n c) s h = h
  said_kept at (server_made n d c) s h = h
  said_kept at (opening_failed n fault) s h = h
  said_kept at (answer_went_on n) s h = h
  said_kept at (end_opened e c) s h = h
  said_kept at (end_refused e fault) s h = h

  called_kept : (e : EndId) (c : TheCall) (b : Binding) (i : Planned) (s : State) → At s e b i → is_busy i (end_in e.side b).out ≡ false → AllOk Q s
      → AllOk Q (change_out e (accepts c) s)
  called_kept e c b i s at q h =
      end_changed e (λ x. record x { out = accepts c x.out }) s h
      (λ w j r u ok.
      let one : b ≡ w = let v : Some b ≡ Some w = sym at.binding ∙ r in cc in
      let same : i ≡ j = same_interface s.interfaces w.interface i j (subst (λ (x : Binding). slice_get s.interfaces x.interface ≡ Some i) one at.interface) u in
      K.called j c (end_in e.side w) (subst (λ (x : Binding). is_busy j (end_in e.side x).out ≡ false) one
      (subst (λ (p : Planned). is_busy p (end_in e.side b).out ≡ false) same q)) ok)

  writing_kept : (e : EndId) (b : Binding) (i : Planned) (s : State) → At s e b i → is_busy i (end_in e.side b).out ≡ true → AllOk Q s
      → AllOk Q (change_out e (λ d. (writes i d there_is_room).direction) s)
  writing_kept e b i s at q h =
      end_changed e (λ x. record x { out = (writes i x.out there_is_room).direction }) s h
      (λ w j r u ok.
      let one : b ≡ w = let v : Some b ≡ Some w = sym at.binding ∙ r in cc in
      let same : j ≡ i = same_interface s.interfaces w.interface j i u (subst (λ (x : Binding). slice_get s.interfaces x.interface ≡ Some i) one at.interface) in
      subst (λ (p : Planned). Q p (record (end_in e.side w) { out = (writes i (end_in e.side w).out there_is_room).direction })) (sym same)
      (K.written i (end_in e.side w) (subst (λ (x : Binding). is_busy i (end_in e.side x).out ≡ true) one q) (subst (λ (p : Planned). Q p (end_in e.side w)) same ok)))

  written_kept : (e : EndId) (b : Binding) (i : Planned) (o : Outlet) (s : State) → At s e b i → not (is_busy i (end_in e.side b).out) ≡ false → AllOk Q s
      → AllOk Q (writes_to e i (end_in e.side b).out o there_is_room s).state
  written_kept e b i peer_queue s at q h = delivered_kept _ (peer e) _ (writing_kept e b i s at (is_not _ q) h)
  written_kept e b i (ring_side on) s at q h = writing_kept e b i s at (is_not _ q) h

  passing_kept : (e : EndId) (station : ℕ) (s : State) → 1 ≤ station → AllOk Q s → AllOk Q (change_out e (passes station) s)
  passing_kept e station s a h = end_changed e (λ x. record x { out = passes station x.out }) s h (λ w j r u ok. K.passed station j (end_in e.side w) a ok)

  found_kept : (t : Chosen) (at : RingEnd) (l : Label) (s : State) → AllOk Q s → AllOk Q (finds t at l s).state
  found_kept t at (next_of e k) s h = h
  found_kept t at (says m) s h = h
  found_kept t at acknowledges s h = h

  interface_kept : (i : Planned) (s : State) → AllOk Q s → AllOk Q (with_interface i s)
  interface_kept i s h n b q =
      let ok = h n b q in
      record { interface = ok.interface; there = get_push s.interfaces b.interface ok.interface i ok.there; client = ok.client; server = ok.server }

  pub all_keep : Keeps (AllOk Q)
  all_keep = record {
    settled = λ s h. h;
    interface = λ i s q h. interface_kept i s h;
    cores = λ n s q h. h;
    link = λ a b size s q r h. h;
    dispatcher = λ core s h. h;
    service = λ x s d i q r t h. h;
    queues = λ w i slots s k q h. both_kept (length s.bindings) w _ (new_kept w i local 2 (Some (fresh_queue slots)) s k.interface (omega arith) h);
    ring = λ w i size s k q r h. both_kept (length s.bindings) w _ (new_kept w i (over_ring (length s.rings)) 2 None (with_ring size s) k.interface (omega arith) h);
    route = λ w i cores k l c s want begins h.
        seat_kept w.client (end_id (length s.bindings) Client) _
        (new_kept w i _ (length cores + 1) (Some arrival_queue) s want.interface (long_route cores _ _ s (is_not _ begins.route)) h);
    called = λ e c b i s at q h. called_kept e c b i s at q h;
    sure = λ need at s h. h;
    looked = λ at s h. h;
    written = λ e b i o s at q r t u h. written_kept e b i o s at r h;
    held = λ t b i s d at q h. h;
    no_label = λ t to s d h. h;
    from_queue = λ t b i q label s d at u v w h.
        let emptied : AllOk Q (change_end t.end (in_queue without_first) s) = end_kept t.end _ s (λ x. queue_out x _) h in
        label_taken t.end i label (with_end_in t.end.side (in_queue without_first) b) _ (record {
          binding = changed_here s.bindings t.end.binding (with_end_in t.end.side (in_queue without_first)) b at.binding;
          interface = subst (λ (n : ℕ). slice_get s.interfaces n ≡ Some i) (sym (interface_side t.end.side (in_queue without_first) b)) at.interface;
        }) (side_open t.end.side without_first b u) emptied;
    from_ring = λ t b i at first s d k u v w h. label_taken t.end i first.label b _ (record { binding = k.binding; interface = k.interface }) u h;
    found_none = λ t s d h. h;
    found = λ t b at first s d q r u h. found_kept t at first.label _ h;
    acknowledged = λ at s q h. h;
    registered = λ e x s q r t h. channel_kept e _ s h;
    deregistered = λ e x s q r h. channel_kept e _ s h;
    ruled = λ e msg answer b i s at h. end_kept e (with_rule msg answer) s (λ x. refl) h;
    monitor_written = λ here link m s k q r t h. h;
    heard = λ here m first k s j q r t h.
        let x : Hearing = hears s.services here.link m k in
        let told : State = change_core here.core (λ y. x.core) s in
        follows_kept x.heard (takes_said here.ring x.heard told) (said_kept here.ring x.heard told h);
    passed = λ here p first route hop on s k q h.
        passing_kept p.end p.station (change_ring here.ring.ring (takes here.ring.side) (change_ring on.ring (puts on.side (label_of p)) s))
        (station_some (place_in (drop 1 (way_of p.end.side route)) here.core) p.station k.station_is) h;
    arrived = λ here p first route hop to s k q h.
        passing_kept p.end p.station (change_ring here.ring.ring (takes here.ring.side) (delivers (label_of p) to s))
        (station_some (place_in (drop 1 (way_of p.end.side route)) here.core) p.station k.station_is) (delivered_kept (label_of p) to s h);
    taken = λ here first s k q r h. h;
  }

-- ---- both ends

pub end_ok : (Q : Planned → End → Type 0) (interfaces : List Planned) (side : Side) (b : Binding) (i : Planned) → slice_get interfaces b.interface ≡ Some i
    → BindingOk Q interfaces b → Q i (end_in side b)
end_ok Q interfaces Client b i q h = subst (λ (p : Planned). Q p b.client) (same_interface interfaces b.interface h.interface i h.there q) h.client
end_ok Q interfaces Server b i q h = subst (λ (p : Planned). Q p b.server) (same_interface interfaces b.interface h.interface i h.there q) h.server

-- in every state that a run reaches
pub ends_reached : (Q : Planned → End → Type 0) → EndKeeps Q → (vs : List Event) (e : EndId) (b : Binding) (i : Planned)
    → slice_get (reached start vs).bindings e.binding ≡ Some b → interface_of (reached start vs) b ≡ Some i → Q i (end_in e.side b)
ends_reached Q K vs e b i q r =
    let s : State = reached start vs in
    end_ok Q s.interfaces e.side b i r
    (run_keeps (AllOk Q) (all_keep Q K) vs start (none_at_end (BindingOk Q start.interfaces)) e.binding b q)
