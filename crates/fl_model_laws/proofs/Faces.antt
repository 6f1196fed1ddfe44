-- What routes and numbers stand on: each core's links and counts, how each binding is joined, where its ends are and on which
-- circuits, and the services. What most events do leaves bindings so, and takes nothing from cores and services.
use Rattle.std.proofs.Common.{◌≡◌, refl, sym, ◌∙◌, ap, subst, ℕ, suc, ◌+◌, ◌<◌, ◌≤◌, ◌==◌, not, Bool, true, false, inl, inr}
use Rattle.std.proofs.Common.{List, [], ◌∷◌, length, slice_get, Option, Some, None, option_map, nat_lt, arith}
use Rattle.std.specs.Prelude.{IsSome, is_some, cond}
use Rattle.std.specs.List.{position_or_len}
use Rattle.std.proofs.lemmas.Bool.{cond-true}
use Rattle.std.proofs.lemmas.Bool.Decides.{nat_tests}
use Rattle.fl_base.specs.declared.identity.CoreId.{CoreId}
use Rattle.fl_base.specs.declared.identity.EndId.{EndId}
use Rattle.fl_base.specs.declared.identity.Side.{Side}
use Rattle.fl_base.specs.declared.identity.Side.TheVariants.{Client, Server}
use Rattle.fl_base.specs.Ends.{peer}
use Rattle.fl_base.specs.Given.{given}
use Rattle.fl_hop.specs.declared.links.LinkState.{LinkState}
use Rattle.fl_hop.proofs.Counting.{Grown, grown_on}
use Rattle.fl_hop.proofs.Entering.{same_or}
use Rattle.fl_hop.proofs.Lists.{within, at_within}
use Rattle.fl_model.specs.Given.{changed_at}
use Rattle.fl_model.specs.Events.{DispatcherId}
use Rattle.fl_model.specs.Rings.{Label, next_of, says, acknowledges, RingEnd, there_is_room, takes}
use Rattle.fl_model.specs.Calls.{Planned}
use Rattle.fl_model.specs.Ends.{Queue, joined_by, Direction, End, Taken, whole, a_part, replies, rule_at, comes_to, takes_one, writes, written_of}
use Rattle.fl_model.specs.Waits.{Dispatcher}
use Rattle.fl_model.specs.Monitors.{Core, Link, Service, link_to}
use Rattle.fl_model.specs.State.{Binding, State, StepOutcome, Outlet, peer_queue, ring_side, end_of, with_end_in}
use Rattle.fl_model.specs.State.{change_core, change_dispatcher, change_ring, change_end, change_out, change_channel, in_queue, delivers}
use Rattle.fl_model.specs.Sending.{writes_to}
use Rattle.fl_model.specs.Taking.{Chosen, takes_label, finds}
use Rattle.fl_model_laws.proofs.Cases.{by_given}
use Rattle.fl_model_laws.proofs.BindingWalk.{given_there}
use Rattle.fl_model_laws.proofs.EndsStanding.{in_range, there_is}
use Rattle.fl_model_laws.proofs.Places.{changed_other, changed_same}
use Rattle.fl_model_laws.proofs.Seating.{changed_was}

-- ---- the view

pub record Look : Type 0 where
  pub cores : List Core
  pub bindings : List Binding
  pub services : List Service

abbrev pub look : State → Look
look s = record { cores = s.cores; bindings = s.bindings; services = s.services }

-- the counts of a core's link to another, and the link itself
abbrev pub counts_at : List Core → ℕ → ℕ → Option LinkState
counts_at ks a b = given (slice_get ks a) None λ k. given (link_to b k) None λ l. slice_get k.circuits.links l

abbrev pub linked_at : List Core → ℕ → ℕ → Option Link
linked_at ks a b = given (slice_get ks a) None λ k. given (link_to b k) None λ l. slice_get k.links l

-- ---- how they change

-- both ends have the seats and the circuits that they had
pub record SameEnds (b c : Binding) : Type 0 where
  pub client_seat : c.client.seat ≡ b.client.seat
  pub client_circuit : c.client.circuit ≡ b.client.circuit
  pub server_seat : c.server.seat ≡ b.server.seat
  pub server_circuit : c.server.circuit ≡ b.server.circuit

pub record SameFace (b c : Binding) : Type 0 where
  pub back : c.back ≡ b.back
  pub ends : SameEnds b c

-- a core has the links that it had, and has opened and taken no less on each
pub record CoreGrows (k m : Core) : Type 0 where
  pub links : Grown k.circuits.links m.circuits.links
  pub places : length k.links ≤ length m.links

abbrev pub CoresGrow : List Core → List Core → Type 0
CoresGrow ks ms = (n : ℕ) (k : Core) → slice_get ks n ≡ Some k → (m : Core) × (slice_get ms n ≡ Some m) × CoreGrows k m

abbrev pub FacesStay : List Binding → List Binding → Type 0
FacesStay bs cs = (n : ℕ) (c : Binding) → slice_get cs n ≡ Some c → (b : Binding) × (slice_get bs n ≡ Some b) × SameFace b c

abbrev pub ServicesStay : List Service → List Service → Type 0
ServicesStay xs ys = (n : ℕ) (x : Service) → slice_get xs n ≡ Some x → slice_get ys n ≡ Some x

pub record Stays (x y : Look) : Type 0 where
  pub cores : CoresGrow x.cores y.cores
  pub bindings : FacesStay x.bindings y.bindings
  pub services : ServicesStay x.services y.services

-- ---- they can be joined

pub same_ends : (b : Binding) → SameEnds b b
same_ends b = record { client_seat = refl; client_circuit = refl; server_seat = refl; server_circuit = refl }

pub ends_on : (a b c : Binding) → SameEnds a b → SameEnds b c → SameEnds a c
ends_on a b c h k = record {
  client_seat = k.client_seat ∙ h.client_seat;
  client_circuit = k.client_circuit ∙ h.client_circuit;
  server_seat = k.server_seat ∙ h.server_seat;
  server_circuit = k.server_circuit ∙ h.server_circuit;
}

pub same_face : (b : Binding) → SameFace b b
same_face b = record { back = refl; ends = same_ends b }

pub grown_same : (ls : List LinkState) → Grown ls ls
grown_same ls = record { link = λ l a q. (a, q, refl, omega arith, omega arith) }

pub core_same : (k : Core) → CoreGrows k k
core_same k = record { links = grown_same k.circuits.links; places = omega arith }

pub core_on : (a b c : Core) → CoreGrows a b → CoreGrows b c → CoreGrows a c
core_on a b c h k =
    let p : length a.links ≤ length b.links = h.places in
    let q : length b.links ≤ length c.links = k.places in
    record { links = grown_on a.circuits.links b.circuits.links c.circuits.links h.links k.links; places = omega arith }

pub cores_on : (a b c : List Core) → CoresGrow a b → CoresGrow b c → CoresGrow a c
cores_on a b c h k n x q =
    let (y, there, g) = h n x q in
    let (z, then, i) = k n y there in
    (z, then, core_on x y z g i)

pub stays_same : (x : Look) → Stays x x
stays_same x = record {
  cores = λ n k q. (k, q, core_same k);
  bindings = λ n c q. (c, q, same_face c);
  services = λ n c q. q;
}

pub stays_on : (x y z : Look) → Stays x y → Stays y z → Stays x z
stays_on x y z h k = record {
  cores = cores_on x.cores y.cores z.cores h.cores k.cores;
  bindings = λ n c q.
      let (b, there, f) = k.bindings n c q in
      let (a, was, g) = h.bindings n b there in
      (a, was, record { back = f.back ∙ g.back; ends = ends_on a b c g.ends f.ends });
  services = λ n c q. k.services n c (h.services n c q);
}

-- ---- one core, or one binding, changed

pub cores_changed : (ks : List Core) (n : ℕ) (f : Core → Core) → ((k : Core) → slice_get ks n ≡ Some k → CoreGrows k (f k)) → CoresGrow ks (changed_at n f ks)
cores_changed ks n f h m k q = elim (same_or m n) [
  | inr d ↦ (k, changed_other ks n m f d ∙ q, core_same k)
  | inl e ↦ (
    f k,
    ap (slice_get (changed_at n f ks)) e ∙ changed_same ks n f ∙ ap (option_map f) (ap (slice_get ks) (sym e) ∙ q),
    h k (ap (slice_get ks) (sym e) ∙ q),
  )
]

pub faces_changed : (bs : List Binding) (n : ℕ) (f : Binding → Binding) → ((b : Binding) → SameFace b (f b)) → FacesStay bs (changed_at n f bs)
faces_changed bs n f h m c q = elim (changed_was bs n f m c q) [
  | inl a ↦ (c, a, same_face c)
  | inr b ↦ (b.1.0, ap (slice_get bs) b.0 ∙ b.1.1, subst (SameFace b.1.0) (sym b.1.2) (h b.1.0))
]

pub stays_core : (n : ℕ) (f : Core → Core) (s : State) → ((k : Core) → slice_get s.cores n ≡ Some k → CoreGrows k (f k)) → Stays (look s) (look (change_core n f s))
stays_core n f s h = record {
  cores = cores_changed s.cores n f h;
  bindings = λ m c q. (c, q, same_face c);
  services = λ m c q. q;
}

-- a change of an end that leaves where it is, and on which circuit
abbrev pub IsCalm : (End → End) → Type 0
IsCalm f = (x : End) → ((f x).seat ≡ x.seat) × ((f x).circuit ≡ x.circuit)

pub side_face : (side : Side) (f : End → End) (b : Binding) → IsCalm f → SameFace b (with_end_in side f b)
side_face Client f b h = record {
  back = refl;
  ends = record { client_seat = (h b.client).0; client_circuit = (h b.client).1; server_seat = refl; server_circuit = refl };
}
side_face Server f b h = record {
  back = refl;
  ends = record { client_seat = refl; client_circuit = refl; server_seat = (h b.server).0; server_circuit = (h b.server).1 };
}

pub stays_end : (e : EndId) (f : End → End) (s : State) → IsCalm f → Stays (look s) (look (change_end e f s))
stays_end e f s h = record {
  cores = λ n k q. (k, q, core_same k);
  bindings = faces_changed s.bindings e.binding (with_end_in e.side f) (λ b. side_face e.side f b h);
  services = λ m c q. q;
}

-- ---- composites

pub stays_dispatcher : (d : DispatcherId) (f : Dispatcher → Dispatcher) (s : State) → Stays (look s) (look (change_dispatcher d f s))
stays_dispatcher d f s =
    stays_core d.core (λ k. record k { dispatchers = changed_at d.place f k.dispatchers }) s
    (λ k q. record { links = grown_same k.circuits.links; places = omega arith })

abbrev StaysFrom : State → State → Type 0
StaysFrom s t = Stays (look s) (look t)

pub stays_channel : (e : EndId) (f : ℕ → End → Dispatcher → Dispatcher) (s : State) → Stays (look s) (look (change_channel e f s))
stays_channel e f s =
    by_given (StaysFrom s) (end_of s e) _ _ (stays_same (look s))
    (λ x q. by_given (StaysFrom s) x.seat _ _ (stays_same (look s)) (λ seat r. stays_dispatcher seat.dispatcher (f seat.channel x) s))

pub queue_calm : (f : Queue → Queue) → IsCalm (in_queue f)
queue_calm f x = (by_given (λ (y : End). y.seat ≡ x.seat) x.queue x _ refl (λ q r. refl), by_given (λ (y : End). y.circuit ≡ x.circuit) x.queue x _ refl (λ q r. refl))

pub stays_delivered : (l : Label) (e : EndId) (s : State) → Stays (look s) (look (delivers l e s))
stays_delivered l e s =
    let joined : State = change_end e (in_queue (joined_by l)) s in
    stays_on (look s) (look joined) (look (delivers l e s)) (stays_end e (in_queue (joined_by l)) s (queue_calm (joined_by l))) (stays_channel e _ joined)

pub stays_out : (e : EndId) (f : Direction → Direction) (s : State) → Stays (look s) (look (change_out e f s))
stays_out e f s = stays_end e (λ x. record x { out = f x.out }) s (λ x. (refl, refl))

pub stays_written : (e : EndId) (i : Planned) (d : Direction) (o : Outlet) (s : State) → Stays (look s) (look (writes_to e i d o there_is_room s).state)
stays_written e i d peer_queue s =
    let out : State = change_out e (λ x. (writes i x there_is_room).direction) s in
    stays_on (look s) (look out) _ (stays_out e (λ x. (writes i x there_is_room).direction) s) (stays_delivered (next_of e (written_of d)) (peer e) out)
stays_written e i d (ring_side on) s = stays_out e (λ x. (writes i x there_is_room).direction) s

replies_calm : (i : Planned) (t : Taken) → IsCalm (replies i t)
replies_calm i a_part x = (refl, refl)
replies_calm i (whole c) x = (by_given (λ (y : End). y.seat ≡ x.seat) (rule_at x.rules c.msg) x _ refl (λ m q. refl), by_given (λ (y : End). y.circuit ≡ x.circuit) (rule_at x.rules c.msg) x _ refl (λ m q. refl))

pub stays_taken : (e : EndId) (i : Planned) (l : Label) (s : State) → Stays (look s) (look (takes_label e i l s).state)
stays_taken e i (next_of sender k) s =
    by_given (λ (o : StepOutcome). Stays (look s) (look o.state)) (end_of s sender) _ _ (stays_same (look s))
    (λ y r. stays_on (look s) (look (change_out sender takes_one s)) _ (stays_out sender takes_one s)
    (stays_end e (replies i (comes_to i y.out)) (change_out sender takes_one s) (replies_calm i (comes_to i y.out))))
stays_taken e i (says m) s = stays_same (look s)
stays_taken e i acknowledges s = stays_same (look s)

pub stays_found : (t : Chosen) (at : RingEnd) (l : Label) (s : State) → Stays (look s) (look (finds t at l s).state)
stays_found t at (next_of e k) s = stays_dispatcher t.dispatcher _ s
stays_found t at (says m) s = stays_dispatcher t.dispatcher _ s
stays_found t at acknowledges s = stays_dispatcher t.dispatcher _ (change_ring at.ring (takes at.side) s)

-- ---- what grown cores have

place_grown : (b : ℕ) (xs ys : List LinkState) → Grown xs ys → position_or_len (λ (a : LinkState). a.neighbour.0 == b) xs < length xs
    → position_or_len (λ (a : LinkState). a.neighbour.0 == b) ys ≡ position_or_len (λ (a : LinkState). a.neighbour.0 == b) xs
place_grown b [] ys g h = absurd (omega arith)
place_grown b (x ∷ xs) [] g h = let first = g.link 0 x refl in absurd (none first.0 first.1)
  where
    none : (y : LinkState) → None ≡ Some y → ⊥
    none y q = absurd (cc)
place_grown b (x ∷ xs) (y ∷ ys) g h =
    let first = g.link 0 x refl in
    let head : y ≡ first.0 = some_is y first.0 first.1 in
    let same : (y.neighbour.0 == b) ≡ (x.neighbour.0 == b) =
    ap (λ (a : LinkState). a.neighbour.0 == b) head ∙ ap (λ (c : CoreId). c.0 == b) first.2 in
    ap (λ (t : Bool). cond (not t) (1 + position_or_len (λ (a : LinkState). a.neighbour.0 == b) ys) 0) same
    ∙ by (x.neighbour.0 == b) (λ k. place_grown b xs ys later k) h
  where
    some_is : (a c : LinkState) → Some a ≡ Some c → a ≡ c
    some_is a c q = cc

    later : Grown xs ys
    later = record { link = λ l a q. g.link (suc l) a q }

    by : (t : Bool) → (position_or_len (λ (a : LinkState). a.neighbour.0 == b) xs < length xs
        → position_or_len (λ (a : LinkState). a.neighbour.0 == b) ys ≡ position_or_len (λ (a : LinkState). a.neighbour.0 == b) xs)
        → cond (not t) (1 + position_or_len (λ (a : LinkState). a.neighbour.0 == b) xs) 0 < length (x ∷ xs)
        → cond (not t) (1 + position_or_len (λ (a : LinkState). a.neighbour.0 == b) ys) 0
        ≡ cond (not t) (1 + position_or_len (λ (a : LinkState). a.neighbour.0 == b) xs) 0
    by true ih k = refl
    by false ih k =
        let less : 1 + position_or_len (λ (a : LinkState). a.neighbour.0 == b) xs < length (x ∷ xs) = k in
        ap (λ (n : ℕ). 1 + n) (ih (omega arith))

some_place : (n : ℕ) (m l : ℕ) → cond (nat_lt n m) (Some n) None ≡ Some l → (n ≡ l) × (n < m)
some_place n m l h = by (nat_lt n m) refl h
  where
    less : nat_lt n m ≡ true → n < m
    less e = grind (arith, nat_tests, e)

    by : (t : Bool) → nat_lt n m ≡ t → cond t (Some n) None ≡ Some l → (n ≡ l) × (n < m)
    by true e k = ((let i : n ≡ l = cc in i), less e)
    by false e k = absurd (cc)

less_is : (n m : ℕ) → n < m → nat_lt n m ≡ true
less_is n m h = grind (arith, nat_tests, h)

grown_length : (xs ys : List LinkState) (l : ℕ) → Grown xs ys → l < length xs → l < length ys
grown_length xs ys l g h =
    let (a, at) = at_within xs l h in
    let now = g.link l a at in
    within ys l now.0 now.1

-- a link has the place that it had
pub link_grown : (b : ℕ) (k m : Core) (l : ℕ) → CoreGrows k m → link_to b k ≡ Some l → link_to b m ≡ Some l
link_grown b k m l g h =
    let (is, less) = some_place (position_or_len (λ (a : LinkState). a.neighbour.0 == b) k.circuits.links) (length k.circuits.links) l h in
    let same : position_or_len (λ (a : LinkState). a.neighbour.0 == b) m.circuits.links ≡ l =
    place_grown b k.circuits.links m.circuits.links g.links less ∙ is in
    let inside : l < length m.circuits.links = grown_length k.circuits.links m.circuits.links l g.links (omega arith) in
    ap (λ (n : ℕ). cond (nat_lt n (length m.circuits.links)) (Some n) None) same ∙ cond-true _ _ _ (less_is l (length m.circuits.links) inside)

pub counts_grown : (ks ms : List Core) (a b : ℕ) (was : LinkState) → CoresGrow ks ms → counts_at ks a b ≡ Some was
    → (now : LinkState) × (counts_at ms a b ≡ Some now) × (was.opened ≤ now.opened)
counts_grown ks ms a b was g h =
    let (k, at, is) = given_there (slice_get ks a) (λ k. given (link_to b k) None (λ l. slice_get k.circuits.links l)) was h in
    let (l, to, there) = given_there (link_to b k) (λ n. slice_get k.circuits.links n) was is in
    let (m, then, grows) = g a k at in
    let now = grows.links.link l was there in (
      now.0,
      ap (λ (o : Option Core). given o None (λ j. given (link_to b j) None (λ n. slice_get j.circuits.links n))) then
          ∙ ap (λ (o : Option ℕ). given o None (λ n. slice_get m.circuits.links n)) (link_grown b k m l grows to) ∙ now.1,
      now.3,
    )

pub some_there : {X : Type 0} (o : Option X) → IsSome o → (x : X) × (o ≡ Some x)
some_there None h = absurd (let e : false ≡ true = h in cc)
some_there (Some x) h = (x, refl)

pub linked_grown : (ks ms : List Core) (a b : ℕ) → CoresGrow ks ms → IsSome (linked_at ks a b) → IsSome (linked_at ms a b)
linked_grown ks ms a b g h =
    let (x, has) = some_there (linked_at ks a b) h in
    let (k, at, is) = given_there (slice_get ks a) (λ k. given (link_to b k) None (λ l. slice_get k.links l)) x has in
    let (l, to, there) = given_there (link_to b k) (λ n. slice_get k.links n) x is in
    let (m, then, grows) = g a k at in
    let inside : suc l ≤ length k.links = in_range k.links l (ap is_some there) in
    let more : length k.links ≤ length m.links = grows.places in
    ap is_some (ap (λ (o : Option Core). given o None (λ j. given (link_to b j) None (λ n. slice_get j.links n))) then
    ∙ ap (λ (o : Option ℕ). given o None (λ n. slice_get m.links n)) (link_grown b k m l grows to))
    ∙ there_is m.links l (omega arith)

-- a link that is there has counts
pub counted_at : (ks : List Core) (a b : ℕ) → IsSome (linked_at ks a b) → (x : LinkState) × (counts_at ks a b ≡ Some x)
counted_at ks a b h =
    let (x, has) = some_there (linked_at ks a b) h in
    let (k, at, is) = given_there (slice_get ks a) (λ k. given (link_to b k) None (λ l. slice_get k.links l)) x has in
    let (l, to, there) = given_there (link_to b k) (λ n. slice_get k.links n) x is in
    let (same, less) = some_place (position_or_len (λ (a : LinkState). a.neighbour.0 == b) k.circuits.links) (length k.circuits.links) l to in
    let (y, got) = at_within k.circuits.links l (omega arith) in (
      y,
      ap (λ (o : Option Core). given o None (λ j. given (link_to b j) None (λ n. slice_get j.circuits.links n))) at
          ∙ ap (λ (o : Option ℕ). given o None (λ n. slice_get k.circuits.links n)) to ∙ got,
    )

pub more_cores : (ks ms : List Core) (n : ℕ) → CoresGrow ks ms → n < length ks → n < length ms
more_cores ks ms n g h =
    let (k, at) = at_within ks n h in
    let (m, there, grows) = g n k at in
    within ms n m there
