-- Each step keeps, of each binding, its interface, the numbers of its circuit, and the calls accepted.
use Rattle.std.proofs.Common.{◌≡◌, refl, sym, ◌∙◌, ap, subst, ℕ, zero, suc, ◌+◌, List, [], ◌∷◌, ◌++◌, length, slice_get, slice_set, Option, Some, None, append_assoc, min}
use Rattle.std.specs.List.{push}
use Rattle.std.proofs.lemmas.List.{append-nil}
use Rattle.std.proofs.lemmas.Option.{same_Some}
use Rattle.fl_base.specs.declared.identity.EndId.{EndId}
use Rattle.fl_base.specs.declared.identity.Side.{Side}
use Rattle.fl_base.specs.declared.identity.Side.TheVariants.{Client, Server}
use Rattle.fl_base.specs.Ends.{peer}
use Rattle.fl_base.specs.Prefix.{IsPrefix}
use Rattle.fl_base.specs.Given.{given}
use Rattle.fl_value_data.specs.Value.{TheCall}
use Rattle.fl_model.specs.Given.{changed_at}
use Rattle.fl_model.specs.Events.{DispatcherId, Event, nothing}
use Rattle.fl_model.specs.Calls.{Planned}
use Rattle.fl_model.specs.Rings.{Label, next_of, says, acknowledges, RingEnd, Room, there_is_room, no_room, spent}
use Rattle.fl_model.specs.Ends.{Queue, fresh_queue, Direction, is_busy, accepts, accepts_waiting, passes, takes_one, Wrote, writes, writes_by, End, Taken, whole, a_part, comes_to, replies, rule_at, with_rule, without_first, joined_by}
use Rattle.fl_model.specs.Waits.{Dispatcher}
use Rattle.fl_model.specs.Monitors.{Heard, no_outbox, misrouted, opening_went_on, server_made, opening_failed, answer_went_on, end_opened, end_refused, Hearing, hears}
use Rattle.fl_model.specs.State.{undecided, Route, Back, local, over_ring, over_route, Binding, State, StepOutcome, Outlet, peer_queue, ring_side, end_of, dispatcher_of, end_in, with_end_in, change_core, in_route, in_queue, place_in, number_between, change_channel, change_end, change_out, change_route, seats, binds_end, delivers}
use Rattle.fl_model.specs.Binding.{BindByNames, end_id, with_new_binding, binds_both, arrival_queue, with_circuit_begun}
use Rattle.fl_model.specs.Sending.{puts_to}
use Rattle.fl_model.specs.Taking.{takes_label, finds, Chosen}
use Rattle.fl_model.specs.Forwarding.{route_of, follows, takes_said, after_hearing, LinkEnd, with_number, grants, denies, passes_word}
use Rattle.fl_model.specs.Step.{step}
use Rattle.fl_model.specs.Keeping.{KeepsNumbers, KeepsCalls}
use Rattle.fl_model_laws.proofs.Cases.{either, by_given}
use Rattle.fl_model_laws.proofs.Walk.{Keeps, step_keeps, with_ring}

-- ---- one binding

abbrev Grows : List TheCall → List TheCall → Type 0
Grows xs ys = IsPrefix xs ys

grows_same : (xs : List TheCall) → Grows xs xs
grows_same xs = ([], sym (append-nil xs))

grows_on : (xs ys zs : List TheCall) → Grows xs ys → Grows ys zs → Grows xs zs
grows_on xs ys zs h k = (h.0 ++ k.0, k.1 ∙ ap (λ (ws : List TheCall). ws ++ k.0) h.1 ∙ append_assoc xs h.0 k.0)

numbers_same : (r : Option Route) → KeepsNumbers r r
numbers_same r route h = (route, h, λ a b n q. q)

numbers_on : (p q r : Option Route) → KeepsNumbers p q → KeepsNumbers q r → KeepsNumbers p r
numbers_on p q r h k route e =
    let x = h route e in
    let y = k x.0 x.1 in
    (y.0, y.1, λ a b n w. y.2 a b n (x.2 a b n w))

record Goes (b c : Binding) : Type 0 where
  pub interface : c.interface ≡ b.interface
  pub numbers : KeepsNumbers (route_of b.back) (route_of c.back)
  pub client : Grows b.client.out.accepted c.client.out.accepted
  pub server : Grows b.server.out.accepted c.server.out.accepted

goes_same : (b : Binding) → Goes b b
goes_same b = record {
  interface = refl;
  numbers = numbers_same (route_of b.back);
  client = grows_same b.client.out.accepted;
  server = grows_same b.server.out.accepted;
}

goes_twice : (b c d : Binding) → Goes b c → Goes c d → Goes b d
goes_twice b c d h k = record {
  interface = k.interface ∙ h.interface;
  numbers = numbers_on (route_of b.back) (route_of c.back) (route_of d.back) h.numbers k.numbers;
  client = grows_on b.client.out.accepted c.client.out.accepted d.client.out.accepted h.client k.client;
  server = grows_on b.server.out.accepted c.server.out.accepted d.server.out.accepted h.server k.server;
}

-- an end of it changed, whose calls grow
abbrev EndGrows : (End → End) → Type 0
EndGrows f = (x : End) → Grows x.out.accepted (f x).out.accepted

goes_end : (side : Side) (f : End → End) (b : Binding) → EndGrows f → Goes b (with_end_in side f b)
goes_end Client f b h = record { interface = refl; numbers = numbers_same (route_of b.back); client = h b.client; server = grows_same b.server.out.accepted }
goes_end Server f b h = record { interface = refl; numbers = numbers_same (route_of b.back); client = grows_same b.client.out.accepted; server = h b.server }

abbrev RouteGrows : (Route → Route) → Type 0
RouteGrows f = (r : Route) (a b n : ℕ) → number_between a b r ≡ Some n → number_between a b (f r) ≡ Some n

goes_route : (f : Route → Route) (b : Binding) → RouteGrows f → Goes b (record b { back = in_route f b.back })
goes_route f b h = record {
  interface = refl;
  numbers = by_back b.back;
  client = grows_same b.client.out.accepted;
  server = grows_same b.server.out.accepted;
} where
  by_back : (back : Back) → KeepsNumbers (route_of back) (route_of (in_route f back))
  by_back local route e = absurd (cc)
  by_back (over_ring n) route e = absurd (cc)
  by_back (over_route r) route e =
      let same : r ≡ route = same_Some r route e in
      (f route, ap (λ (x : Route). Some (f x)) same, λ a b n q. h route a b n q)

-- ---- lists

abbrev AllGo : List Binding → List Binding → Type 0
AllGo bs cs = (n : ℕ) (b : Binding) → slice_get bs n ≡ Some b → (c : Binding) × (slice_get cs n ≡ Some c) × Goes b c

all_same : (bs : List Binding) → AllGo bs bs
all_same bs n b q = (b, q, goes_same b)

all_set : (bs : List Binding) (m : ℕ) (x y : Binding) → slice_get bs m ≡ Some x → Goes x y → AllGo bs (slice_set bs m y)
all_set [] m x y p g n b q = absurd (cc)
all_set (z ∷ bs) zero x y p g zero b q =
    let same : x ≡ b = same_Some x b (sym p ∙ q) in
    (y, refl, subst (λ (w : Binding). Goes w y) same g)
all_set (z ∷ bs) zero x y p g (suc n) b q = (b, q, goes_same b)
all_set (z ∷ bs) (suc m) x y p g zero b q = (b, q, goes_same b)
all_set (z ∷ bs) (suc m) x y p g (suc n) b q = all_set bs m x y p g n b q

all_changed : (bs : List Binding) (m : ℕ) (f : Binding → Binding) → ((b : Binding) → Goes b (f b)) → AllGo bs (changed_at m f bs)
all_changed bs m f h = by_given (AllGo bs) (slice_get bs m) bs (λ x. slice_set bs m (f x)) (all_same bs) (λ x q. all_set bs m x (f x) q (h x))

all_push : (bs : List Binding) (x : Binding) → AllGo bs (bs ++ x ∷ [])
all_push [] x n b q = absurd (cc)
all_push (z ∷ bs) x zero b q = (b, q, goes_same b)
all_push (z ∷ bs) x (suc n) b q = all_push bs x n b q

interfaces_push : (is : List Planned) (x : Planned) (n : ℕ) (i : Planned) → slice_get is n ≡ Some i → slice_get (is ++ x ∷ []) n ≡ Some i
interfaces_push [] x n i q = absurd (cc)
interfaces_push (z ∷ is) x zero i q = q
interfaces_push (z ∷ is) x (suc n) i q = interfaces_push is x n i q

-- ---- states

record On (s t : State) : Type 0 where
  pub interfaces : (n : ℕ) (i : Planned) → slice_get s.interfaces n ≡ Some i → slice_get t.interfaces n ≡ Some i
  pub bindings : AllGo s.bindings t.bindings

stay : (s : State) → On s s
stay s = record { interfaces = λ n i q. q; bindings = all_same s.bindings }

-- nothing of bindings and interfaces is changed
same_on : (s t : State) → t.bindings ≡ s.bindings → t.interfaces ≡ s.interfaces → On s t
same_on s t p q = record {
  interfaces = λ n i h. ap (λ (is : List Planned). slice_get is n) q ∙ h;
  bindings = subst (AllGo s.bindings) (sym p) (all_same s.bindings);
}

then_on : (s t u : State) → On s t → On t u → On s u
then_on s t u h k = record {
  interfaces = λ n i q. k.interfaces n i (h.interfaces n i q);
  bindings = λ n b q.
      let x = h.bindings n b q in
      let y = k.bindings n x.0 x.1 in
      (y.0, y.1, goes_twice b x.0 y.0 x.2 y.2);
}

end_on : (e : EndId) (f : End → End) (s : State) → EndGrows f → On s (change_end e f s)
end_on e f s h = record { interfaces = λ n i q. q; bindings = all_changed s.bindings e.binding (with_end_in e.side f) (λ b. goes_end e.side f b h) }

route_on : (n : ℕ) (f : Route → Route) (s : State) → RouteGrows f → On s (change_route n f s)
route_on n f s h = record { interfaces = λ m i q. q; bindings = all_changed s.bindings n (λ b. record b { back = in_route f b.back }) (λ b. goes_route f b h) }

channel_on : (e : EndId) (f : ℕ → End → Dispatcher → Dispatcher) (s : State) → On s (change_channel e f s)
channel_on e f s =
    by_given (On s) (end_of s e) s _ (stay s) (λ x q. by_given (On s) x.seat s _ (stay s) (λ seat r. same_on s _ refl refl))

quiet : (f : End → End) → ((x : End) → (f x).out.accepted ≡ x.out.accepted) → EndGrows f
quiet f h x = subst (Grows x.out.accepted) (sym (h x)) (grows_same x.out.accepted)

seats_on : (d : DispatcherId) (e : EndId) (s : State) → On s (seats d e s)
seats_on d e s =
    by_given (On s) (dispatcher_of s d) s _ (stay s)
    (λ x q. let k = end_on e (λ y. record y { seat = Some (record { dispatcher = d; channel = length x.ends }) }) s (λ y. grows_same y.out.accepted) in
    record { interfaces = k.interfaces; bindings = k.bindings })

binds_on : (e : EndId) (c : ℕ) (s : State) → On s (binds_end e c s)
binds_on e c s =
    then_on s (change_end e (λ x. record x { circuit = Some c }) s) (binds_end e c s)
    (end_on e (λ x. record x { circuit = Some c }) s (λ x. grows_same x.out.accepted))
    (channel_on e _ (change_end e (λ x. record x { circuit = Some c }) s))

in_queue_quiet : (f : Queue → Queue) (x : End) → (in_queue f x).out.accepted ≡ x.out.accepted
in_queue_quiet f x = by_given (λ (y : End). y.out.accepted ≡ x.out.accepted) x.queue x _ refl (λ q r. refl)

delivers_on : (l : Label) (e : EndId) (s : State) → On s (delivers l e s)
delivers_on l e s =
    then_on s (change_end e (in_queue (joined_by l)) s) (delivers l e s)
    (end_on e (in_queue (joined_by l)) s (quiet (in_queue (joined_by l)) (in_queue_quiet (joined_by l))))
    (channel_on e _ (change_end e (in_queue (joined_by l)) s))

both_on : (n : ℕ) (w : BindByNames) (s : State) → On s (binds_both n w s)
both_on n w s =
    let a = seats w.client (end_id n Client) s in
    let b = seats w.service.dispatcher (end_id n Server) a in
    let c = binds_end (end_id n Client) 0 b in
    then_on s a _ (seats_on w.client (end_id n Client) s)
    (then_on a b _ (seats_on w.service.dispatcher (end_id n Server) a)
    (then_on b c _ (binds_on (end_id n Client) 0 b) (binds_on (end_id n Server) 0 c)))

new_on : (w : BindByNames) (back : Back) (stations : ℕ) (q : Option Queue) (s : State) → On s (with_new_binding w back stations q s)
new_on w back stations q s = record { interfaces = λ n i h. h; bindings = all_push s.bindings _ }

-- ---- directions

abbrev Later : Direction → Direction → Type 0
Later d e = Grows d.accepted e.accepted

one_more : (c : TheCall) (d : Direction) → Grows d.accepted (d.accepted ++ c ∷ [])
one_more c d = (c ∷ [], refl)

waiting_later : (ws : List TheCall) (d : Direction) → Later d (accepts_waiting ws d)
waiting_later [] d = grows_same d.accepted
waiting_later (c ∷ ws) d = one_more c d

by_room : (i : Planned) (d : Direction) (r : Room) → Later d (writes_by i d r).direction
by_room i d there_is_room =
    either (Later d) (is_busy i (passes 0 d)) (passes 0 d) (accepts_waiting d.waiting (passes 0 d)) (λ q. grows_same d.accepted) (λ q. waiting_later d.waiting (passes 0 d))
by_room i d no_room = grows_same d.accepted
by_room i d spent = grows_same d.accepted

writes_later : (i : Planned) (d : Direction) (r : Room) → Later d (writes i d r).direction
writes_later i d r =
    either (λ (w : Wrote). Later d w.direction) (is_busy i d) (writes_by i d r) (record { direction = d; answer = nothing }) (λ q. by_room i d r) (λ q. grows_same d.accepted)

replies_later : (i : Planned) (t : Taken) → EndGrows (replies i t)
replies_later i a_part x = grows_same x.out.accepted
replies_later i (whole c) x =
    by_given (λ (y : End). Grows x.out.accepted y.out.accepted) (rule_at x.rules c.msg) x _ (grows_same x.out.accepted)
    (λ m q. either (Later x.out) (is_busy i x.out) _ _ (λ r. grows_same x.out.accepted) (λ r. one_more (record { msg = m; args = c.args }) x.out))

-- ---- events

takes_on : (e : EndId) (i : Planned) (l : Label) (s : State) → On s (takes_label e i l s).state
takes_on e i (next_of sender k) s =
    by_given (λ (o : StepOutcome). On s o.state) (end_of s sender) _ _ (stay s)
    (λ y q.
    let t = change_out sender takes_one s in
    then_on s t _ (end_on sender (λ x. record x { out = takes_one x.out }) s (λ x. grows_same x.out.accepted))
    (end_on e (replies i (comes_to i y.out)) t (replies_later i (comes_to i y.out))))
takes_on e i (says m) s = stay s
takes_on e i acknowledges s = stay s

puts_on : (e : EndId) (o : Outlet) (l : Label) (s : State) → On s (puts_to e o l s)
puts_on e peer_queue l s = delivers_on l (peer e) s
puts_on e (ring_side at) l s = same_on s _ refl refl

number_more : (c : ℕ) → RouteGrows (with_number c)
number_more c r a b n q = cases (place_in r.cores a) q where
  left : (xs : List ℕ) (k m y : ℕ) → slice_get xs k ≡ Some m → slice_get (xs ++ y ∷ []) k ≡ Some m
  left [] k m y h = absurd (cc)
  left (x ∷ xs) zero m y h = h
  left (x ∷ xs) (suc k) m y h = left xs k m y h

  second : (i : ℕ) (o : Option ℕ) → given o None (λ j. slice_get r.numbers (min i j)) ≡ Some n → given o None (λ j. slice_get (push r.numbers c) (min i j)) ≡ Some n
  second i None h = absurd (cc)
  second i (Some j) h = left r.numbers (min i j) n c h

  cases : (o : Option ℕ) → given o None (λ i. given (place_in r.cores b) None λ j. slice_get r.numbers (min i j)) ≡ Some n
      → given o None (λ i. given (place_in r.cores b) None λ j. slice_get (push r.numbers c) (min i j)) ≡ Some n
  cases None h = absurd (cc)
  cases (Some i) h = second i (place_in r.cores b) h

follows_on : (h : Heard) (s : State) → On s (follows h s).state
follows_on no_outbox s = stay s
follows_on misrouted s = stay s
follows_on (opening_went_on n c) s = route_on n (with_number c) s (number_more c)
follows_on (server_made n d c) s =
    let a = change_route n grants s in
    let b = seats d (end_id n Server) a in
    then_on s a _ (route_on n grants s (λ r x y m q. q)) (then_on a b _ (seats_on d (end_id n Server) a) (binds_on (end_id n Server) c b))
follows_on (opening_failed n fault) s = route_on n (denies fault) s (λ r x y m q. q)
follows_on (answer_went_on n) s = route_on n passes_word s (λ r x y m q. q)
follows_on (end_opened e c) s =
    let a = change_route e.binding passes_word s in
    then_on s a _ (route_on e.binding passes_word s (λ r x y m q. q)) (binds_on e c a)
follows_on (end_refused e fault) s = route_on e.binding passes_word s (λ r x y m q. q)

said_on : (at : RingEnd) (h : Heard) (s : State) → On s (takes_said at h s)
said_on at no_outbox s = stay s
said_on at misrouted s = stay s
said_on at (opening_went_on n c) s = same_on s _ refl refl
said_on at (server_made n d c) s = same_on s _ refl refl
said_on at (opening_failed n fault) s = same_on s _ refl refl
said_on at (answer_went_on n) s = same_on s _ refl refl
said_on at (end_opened e c) s = same_on s _ refl refl
said_on at (end_refused e fault) s = same_on s _ refl refl

heard_on : (here : LinkEnd) (h : Hearing) (s : State) → On s (after_hearing here h s).state
heard_on here h s =
    let a = change_core here.core (λ k. h.core) s in
    let b = takes_said here.ring h.heard a in
    then_on s a _ (same_on s a refl refl) (then_on a b _ (said_on here.ring h.heard a) (follows_on h.heard b))

finds_on : (t : Chosen) (at : RingEnd) (l : Label) (s : State) → On s (finds t at l s).state
finds_on t at (next_of e k) s = same_on s _ refl refl
finds_on t at (says m) s = same_on s _ refl refl
finds_on t at acknowledges s = same_on s _ refl refl

-- ---- the walk

calls_keep : (z : State) → Keeps (On z)
calls_keep z = record {
  settled = λ s h. then_on z s _ h (same_on s _ refl refl);
  interface = λ i s q h. then_on z s _ h (record { interfaces = λ n x r. interfaces_push s.interfaces i n x r; bindings = all_same s.bindings });
  cores = λ n s q h. then_on z s _ h (same_on s _ refl refl);
  link = λ a b size s q r h. then_on z s _ h (same_on s _ refl refl);
  dispatcher = λ core s h. then_on z s _ h (same_on s _ refl refl);
  service = λ x s d i q r t h. then_on z s _ h (same_on s _ refl refl);
  queues = λ w i slots s q r h.
      let a = with_new_binding w local 2 (Some (fresh_queue slots)) s in
      then_on z s _ h (then_on s a _ (new_on w local 2 _ s) (both_on _ w a));
  ring = λ w i size s q r t h.
      let y = with_ring size s in
      let a = with_new_binding w (over_ring (length s.rings)) 2 None y in
      then_on z s _ h (then_on s y _ (same_on s y refl refl) (then_on y a _ (new_on w _ 2 None y) (both_on _ w a)));
  route = λ w i cores k l c s q r h. then_on z s _ h (begun_on w cores _ l c s);
  called = λ e c b i s q r h. then_on z s _ h (end_on e (λ x. record x { out = accepts c x.out }) s (λ x. one_more c x.out));
  sure = λ need at s h. then_on z s _ h (same_on s _ refl refl);
  looked = λ at s h. then_on z s _ h (same_on s _ refl refl);
  written = λ e b i o s q r t u v h.
      let a = change_out e (λ x. (writes i x there_is_room).direction) s in
      then_on z s _ h (then_on s a _ (end_on e (λ x. record x { out = (writes i x.out there_is_room).direction }) s (λ x. writes_later i x.out there_is_room)) (puts_on e o _ a));
  held = λ t b i s q r u h. then_on z s _ h (same_on s _ refl refl);
  no_label = λ t to s q h. then_on z s _ h (same_on s _ refl refl);
  from_queue = λ t b i q label s u v x y w h.
      let a = change_end t.end (in_queue without_first) s in
      then_on z s _ h (then_on s a _ (end_on t.end (in_queue without_first) s (quiet (in_queue without_first) (in_queue_quiet without_first)))
      (then_on a _ _ (same_on a _ refl refl) (takes_on t.end i label _)));
  from_ring = λ t b i at first s u v x y w h.
      then_on z s _ h (then_on s _ _ (same_on s _ refl refl) (takes_on t.end i first.label _));
  found_none = λ t s q h. then_on z s _ h (same_on s _ refl refl);
  found = λ t b at first s q r u v h. then_on z s _ h (then_on s _ _ (same_on s _ refl refl) (finds_on t at first.label _));
  acknowledged = λ at s q h. then_on z s _ h (same_on s _ refl refl);
  registered = λ e x s q r t h. then_on z s _ h (channel_on e _ s);
  deregistered = λ e x s q r h. then_on z s _ h (channel_on e _ s);
  ruled = λ e msg answer b i s q h. then_on z s _ h (end_on e (with_rule msg answer) s (λ x. grows_same x.out.accepted));
  monitor_written = λ here link m s k q r t h. then_on z s _ h (same_on s _ refl refl);
  heard = λ here m first k s q r t u h.
      then_on z s _ h (heard_on here (hears s.services here.link m k) s);
  passed = λ here p first route hop on s q r h.
      then_on z s _ h (then_on s _ _ (same_on s _ refl refl) (end_on p.end (λ x. record x { out = passes p.station x.out }) _ (λ x. grows_same x.out.accepted)));
  arrived = λ here p first route hop to s q r h.
      then_on z s _ h (then_on s _ _ (delivers_on _ to s) (then_on _ _ _ (same_on _ _ refl refl)
      (end_on p.end (λ x. record x { out = passes p.station x.out }) _ (λ x. grows_same x.out.accepted))));
  taken = λ here first s q r t h. then_on z s _ h (same_on s _ refl refl);
} where
  begun_on : (w : BindByNames) (cores : List ℕ) (n l c : ℕ) (s : State) → On s (with_circuit_begun w cores n l c s)
  begun_on w cores n l c s =
      let route : Route = record { service = w.iref; cores = cores; numbers = c ∷ []; verdict = undecided } in
      let a = with_new_binding w (over_route route) (length cores + 1) (Some arrival_queue) s in
      let b = seats w.client (end_id n Client) a in
      then_on s a _ (new_on w (over_route route) (length cores + 1) (Some arrival_queue) s)
      (then_on a b _ (seats_on w.client (end_id n Client) a) (same_on b _ refl refl))

keeps_of : (s t : State) → On s t → KeepsCalls s t
keeps_of s t h = record {
  interfaces = h.interfaces;
  bindings = λ e b q.
      let x = h.bindings e.binding b q in
      record { now = x.0; there = x.1; interface = x.2.interface; numbers = x.2.numbers; accepted = by_side e.side b x.0 x.2 };
} where
  by_side : (side : Side) (b c : Binding) → Goes b c → Grows (end_in side b).out.accepted (end_in side c).out.accepted
  by_side Client b c g = g.client
  by_side Server b c g = g.server

pub step_keeps_calls : (s : State) (v : Event) → KeepsCalls s (step s v).state
step_keeps_calls s v = keeps_of s (step s v).state (step_keeps (On s) (calls_keep s) s v (stay s))
