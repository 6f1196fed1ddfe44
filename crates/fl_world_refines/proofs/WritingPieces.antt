-- What the laws of writes and of turns both need: one thing changed in a list, a world, a board or a state; and an end found again.
use Rattle.std.proofs.Common.{◌≡◌, ◌≢◌, ◌⊎◌, inl, inr, refl, sym, ◌∙◌, ap, subst, ℕ, zero, suc, true, false, not, Bool, if◌then◌else◌, List, [], ◌∷◌, slice_get, slice_set, Option, Some, None}
use Rattle.fl_base.specs.declared.identity.Side.{Side}
use Rattle.fl_base.specs.declared.identity.Side.TheVariants.{Client, Server}
use Rattle.fl_base.specs.declared.identity.EndId.{EndId}
use Rattle.fl_base.specs.Prefix.{IsPrefix}
use Rattle.fl_base.specs.Given.{given}
use Rattle.fl_hop.proofs.Entering.{same_or}
use Rattle.fl_hop.proofs.Lists.{set_cases, set_here, set_there, set_same}
use Rattle.fl_link.specs.Queue.{TheQueue}
use Rattle.fl_ring.specs.Duo.{TheDuo}
use Rattle.fl_endpoint.specs.View.{TheEnd}
use Rattle.fl_core.specs.BoardView.{TheDispatcher, TheEndAtChannel, TheBoard, with_end}
use Rattle.fl_core.specs.View.{TheCore, place_of}
use Rattle.fl_model.specs.Given.{changed_at}
use Rattle.fl_model.specs.Calls.{Planned}
use Rattle.fl_model.specs.Ends.{Queue, Seat, End}
use Rattle.fl_model.specs.Waits.{Dispatcher}
use Rattle.fl_model.specs.Events.{Answer, DispatcherId}
use Rattle.fl_model.specs.State.{Back, Route, Binding, State, StepOutcome, answers, binding_of, interface_of, end_in, end_of, with_end_in, in_queue, dispatcher_of, change_end, change_dispatcher, change_channel}
use Rattle.fl_model.specs.Forwarding.{route_of}
use Rattle.fl_model.specs.Keeping.{KeepsNumbers, KeepsBinding, KeepsCalls}
use Rattle.fl_world_refines.specs.Fragments.{Streams, calls_off_links, calls_between}
use Rattle.fl_world_refines.specs.FragmentLaws.{SameFragments}
use Rattle.fl_world_refines.specs.RingLaws.{GoOn}
use Rattle.fl_world_refines.specs.View.{TheWorld, with_core, with_ring, with_queue}
use Rattle.fl_world_refines.specs.ShowsState.{IsMade, DispatcherShows, Carries, ShowsState, Shows}
use Rattle.fl_world_refines.specs.Laws.{Agrees}
use Rattle.fl_world_refines.proofs.Frames.{Stands}
use Rattle.fl_world_refines.proofs.FramesBase.{gets, same_some, binding_of_end}
use Rattle.fl_world_refines.proofs.FramesWhole.{prefix_same}
use Rattle.fl_world_refines.proofs.FramesEnds.{same_interface, same_join}

-- ---- lists

pub set_twice : {X : Type 0} (xs : List X) (n : ℕ) (x y : X) → slice_set (slice_set xs n x) n y ≡ slice_set xs n y
set_twice [] n x y = refl
set_twice (z ∷ xs) zero x y = refl
set_twice (z ∷ xs) (suc n) x y = ap (λ ys. z ∷ ys) (set_twice xs n x y)

pub changed_is : {X : Type 0} (xs : List X) (n : ℕ) (f : X → X) (x : X) → slice_get xs n ≡ Some x → changed_at n f xs ≡ slice_set xs n (f x)
changed_is {X} xs n f x q = ap (λ (o : Option X). given o xs λ y. slice_set xs n (f y)) q

pub changed_here : {X : Type 0} (xs : List X) (n : ℕ) (f : X → X) (x : X) → slice_get xs n ≡ Some x → slice_get (changed_at n f xs) n ≡ Some (f x)
changed_here xs n f x q = ap (λ ys. slice_get ys n) (changed_is xs n f x q) ∙ set_here xs n x (f x) q

pub changed_twice : {X : Type 0} (xs : List X) (n : ℕ) (f g : X → X) (x : X) → slice_get xs n ≡ Some x
    → changed_at n g (changed_at n f xs) ≡ changed_at n (λ y. g (f y)) xs
changed_twice xs n f g x q =
    changed_is (changed_at n f xs) n g (f x) (changed_here xs n f x q)
    ∙ ap (λ ys. slice_set ys n (g (f x))) (changed_is xs n f x q)
    ∙ set_twice xs n (f x) (g (f x))
    ∙ sym (changed_is xs n (λ y. g (f y)) x q)

-- ---- tests

pub when_true : {A : Type 0} (b : Bool) (x y : A) → b ≡ true → (if b then x else y) ≡ x
when_true b x y h = ap (λ (t : Bool). if t then x else y) h

pub when_false : {A : Type 0} (b : Bool) (x y : A) → b ≡ false → (if b then x else y) ≡ y
when_false b x y h = ap (λ (t : Bool). if t then x else y) h

pub unless_true : {A : Type 0} (b : Bool) (x y : A) → b ≡ true → (if not b then x else y) ≡ y
unless_true b x y h = ap (λ (t : Bool). if not t then x else y) h

pub unless_false : {A : Type 0} (b : Bool) (x y : A) → b ≡ false → (if not b then x else y) ≡ x
unless_false b x y h = ap (λ (t : Bool). if not t then x else y) h

-- ---- worlds

-- an end in the place of itself
pub same_end_there : (b : TheBoard) (place : ℕ) (at : TheEndAtChannel) (t : TheEnd) → slice_get b.seats place ≡ Some at → t ≡ at.end → with_end b place at t ≡ b
same_end_there b place at t q e =
    ap (with_end b place at) e
    ∙ ap (λ (seats : List TheEndAtChannel). record { dispatchers = b.dispatchers; seats = seats }) (set_same b.seats place at q)

pub same_core_there : (w : TheWorld) (n : ℕ) (k : TheCore) → slice_get w.cores n ≡ Some k → with_core w n k ≡ w
same_core_there w n k q = ap (λ (cores : List TheCore). record w { cores = cores }) (set_same w.cores n k q)

pub same_ring_there : (w : TheWorld) (n : ℕ) (r : TheDuo) → slice_get w.rings n ≡ Some r → with_ring w n r ≡ w
same_ring_there w n r q = ap (λ (rings : List TheDuo). record w { rings = rings }) (set_same w.rings n r q)

pub same_queue_there : (w : TheWorld) (n : ℕ) (q : TheQueue) → slice_get w.queues n ≡ Some q → with_queue w n q ≡ w
same_queue_there w n q e = ap (λ (queues : List TheQueue). record w { queues = queues }) (set_same w.queues n q e)

pub core_twice : (w : TheWorld) (n : ℕ) (k l : TheCore) → with_core (with_core w n k) n l ≡ with_core w n l
core_twice w n k l = ap (λ (cores : List TheCore). record w { cores = cores }) (set_twice w.cores n k l)

-- ---- outcomes

-- the event comes to this state and this answer
pub agreed : (o : StepOutcome) (z : State) (r a : Answer) (w w2 : TheWorld) → o ≡ answers z r → a ≡ r → w2 ≡ w → ShowsState w z → Agrees o a w2
agreed o z r a w w2 p q e h = record {
  answer = ap (λ (x : StepOutcome). x.answer) p ∙ sym q;
  showing = subst (λ (v : TheWorld). ShowsState v o.state) (sym e) (subst (ShowsState w) (sym (ap (λ (x : StepOutcome). x.state) p)) h);
}

-- ---- bindings

pub end_changed : (s : State) (e : EndId) (f : End → End) (b : Binding) → binding_of s e ≡ Some b
    → binding_of (change_end e f s) e ≡ Some (with_end_in e.side f b)
end_changed s e f b q = changed_here s.bindings e.binding (with_end_in e.side f) b q

pub interface_changed : (s : State) (e : EndId) (f : End → End) (b : Binding) (i : Planned) → interface_of s b ≡ Some i
    → interface_of (change_end e f s) (with_end_in e.side f b) ≡ Some i
interface_changed s e f b i q = ap (λ (n : ℕ). slice_get s.interfaces n) (same_interface e.side f b) ∙ q

-- ---- calls are kept where an end is changed that accepts what it accepted, and more

numbers_same : (r : Option Route) → KeepsNumbers r r
numbers_same r route h = (route, h, λ a b n q. q)

abbrev Accepts : Side → Binding → Binding → Type 0
Accepts side b c = IsPrefix (end_in side b).out.accepted (end_in side c).out.accepted

accepted_by : (side here : Side) (f : End → End) (b : Binding) → IsPrefix (end_in here b).out.accepted (f (end_in here b)).out.accepted
    → Accepts side b (with_end_in here f b)
accepted_by Client Client f b h = h
accepted_by Client Server f b h = prefix_same b.client.out.accepted
accepted_by Server Client f b h = prefix_same b.server.out.accepted
accepted_by Server Server f b h = h

keeps_set : (s : State) (n : ℕ) (b c : Binding) → slice_get s.bindings n ≡ Some b → c.interface ≡ b.interface → c.back ≡ b.back
    → ((side : Side) → Accepts side b c) → KeepsCalls s (record s { bindings = slice_set s.bindings n c })
keeps_set s n b c q same back more = record { interfaces = λ m i r. r; bindings = λ e x r. by e x r (same_or e.binding n) }
  where
    by : (e : EndId) (x : Binding) → binding_of s e ≡ Some x → (e.binding ≡ n) ⊎ (e.binding ≢ n)
        → KeepsBinding (record s { bindings = slice_set s.bindings n c }) e x
    by e x r (inl k) =
        let is : b ≡ x = same_some (slice_get s.bindings n) b x q (ap (λ m. slice_get s.bindings m) (sym k) ∙ r) in
        subst (KeepsBinding (record s { bindings = slice_set s.bindings n c }) e) is (record {
          now = c;
          there = ap (λ m. slice_get (slice_set s.bindings n c) m) k ∙ set_here s.bindings n b c q;
          interface = same;
          numbers = subst (λ (y : Back). KeepsNumbers (route_of b.back) (route_of y)) (sym back) (numbers_same (route_of b.back));
          accepted = more e.side;
        })
    by e x r (inr k) = record {
      now = x;
      there = set_there s.bindings n c e.binding x r k;
      interface = refl;
      numbers = numbers_same (route_of x.back);
      accepted = prefix_same (end_in e.side x).out.accepted;
    }

pub end_keeps : (s : State) (e : EndId) (f : End → End) (b : Binding) → binding_of s e ≡ Some b
    → IsPrefix (end_in e.side b).out.accepted (f (end_in e.side b)).out.accepted → KeepsCalls s (change_end e f s)
end_keeps s e f b q h =
    subst (λ (bs : List Binding). KeepsCalls s (record s { bindings = bs })) (sym (changed_is s.bindings e.binding (with_end_in e.side f) b q))
    (keeps_set s e.binding b (with_end_in e.side f b) q (same_interface e.side f b) (same_join e.side f b) (λ side. accepted_by side e.side f b h))

-- ---- what a ring carries once an end was changed, it carried before

pub record Carried (s : State) (n : ℕ) (more : Streams) : Type 0 where
  pub streams : Streams
  pub carries : Carries s n streams
  pub go_on : GoOn streams more

changed_back : (s : State) (e : EndId) (f : End → End) (b : Binding) (m : ℕ) (c : Binding) → binding_of s e ≡ Some b
    → slice_get (change_end e f s).bindings m ≡ Some c → (x : Binding) × (slice_get s.bindings m ≡ Some x) × (c.back ≡ x.back)
changed_back s e f b m c q r =
    elim (set_cases s.bindings e.binding (with_end_in e.side f b) m c
    (ap (λ bs. slice_get bs m) (sym (changed_is s.bindings e.binding (with_end_in e.side f) b q)) ∙ r)) [
      | inl (k, l) ↦ (b, ap (λ j. slice_get s.bindings j) k ∙ q, ap (λ (y : Binding). y.back) l ∙ same_join e.side f b)
      | inr (k, l) ↦ (c, l, refl)
    ]

pub carried_before : (s : State) (e : EndId) (f : End → End) (b : Binding) (n : ℕ) (more : Streams) → binding_of s e ≡ Some b
    → SameFragments s (change_end e f s) → Carries (change_end e f s) n more → Carried s n more
carried_before s e f b n more q same c = elim c [
  | inl (a, d, link, p, r, t) ↦ record {
    streams = calls_between a d s;
    carries = inl (a, d, link, p, r, refl);
    go_on = subst (GoOn (calls_between a d s)) (sym t) (same.between a d);
  }
  | inr (m, x, p, r, t) ↦
      let k = changed_back s e f b m x q p in
      record {
        streams = calls_off_links s;
        carries = inr (m, k.0, k.1, sym k.2 ∙ r, refl);
        go_on = subst (GoOn (calls_off_links s)) (sym t) same.off_links;
      }
]

-- ---- an end that is made, by its place at a core

pub stands_made : (w : TheWorld) (s : State) (e : EndId) (n place : ℕ) (b : Binding) (i : Planned) (seat : Seat) (c : TheCore)
    → binding_of s e ≡ Some b → interface_of s b ≡ Some i → (end_in e.side b).seat ≡ Some seat → seat.dispatcher.core ≡ n
    → slice_get w.cores n ≡ Some c → place_of c e ≡ Some place → IsMade w s e b i seat → Stands w s e n place
stands_made w s e n place b i seat c p q r t u v m =
    let here : slice_get w.cores n ≡ Some m.core = ap (λ (k : ℕ). slice_get w.cores k) (sym t) ∙ m.core_is in
    let core : c ≡ m.core = same_some (slice_get w.cores n) c m.core u here in
    let there : place_of m.core e ≡ Some place = ap (λ (k : TheCore). place_of k e) (sym core) ∙ v in
    let same : m.place ≡ place = same_some (place_of m.core e) m.place place m.place_is there in
    record {
      binding = b;
      binding_is = p;
      interface = i;
      interface_is = q;
      seat = seat;
      seat_is = r;
      core_at = t;
      core = m.core;
      core_is = here;
      place_is = there;
      at = m.at;
      at_is = ap (λ (k : ℕ). slice_get m.core.board.seats k) (sym same) ∙ m.at_is;
      dispatcher = m.dispatcher;
      channel = m.channel;
      shows = m.shows;
      wired_end = m.wired_end;
      wired_end_is = ap (λ (k : ℕ). slice_get m.core.wired_ends k) (sym same) ∙ m.wired_end_is;
      name_is = m.name_is;
      wiring = m.wiring;
    }

-- the end whose place that is
pub stands_there : (w : TheWorld) (s : State) (e : EndId) (n place : ℕ) (c : TheCore) → Shows w s → slice_get w.cores n ≡ Some c → place_of c e ≡ Some place
    → Stands w s e n place
stands_there w s e n place c shown p q =
    let sits = shown.showing.ends.only n c e place p q in
    let b = binding_of_end s e sits.0 sits.1.1 in
    let k = shown.sound.ends e sits.0 sits.1.1 in
    let same : k.binding ≡ b.0 = same_some (slice_get s.bindings e.binding) k.binding b.0 k.there b.1 in
    let interface : interface_of s b.0 ≡ Some k.interface = ap (λ (x : Binding). interface_of s x) (sym same) ∙ k.interface_is in
    let seat : (end_in e.side b.0).seat ≡ Some sits.1.0 = ap (λ (x : End). x.seat) b.2 ∙ sits.1.2 in
    stands_made w s e n place b.0 k.interface sits.1.0 c b.1 interface seat sits.1.3 p q
    (shown.showing.ends.made e b.0 k.interface sits.1.0 b.1 interface seat)

-- ---- dispatchers and channels

pub by_given : {X Y : Type 0} (P : Y → Type 0) (o : Option X) (y : Y) (f : X → Y) → P y → ((x : X) → o ≡ Some x → P (f x)) → P (given o y f)
by_given P None y f h g = h
by_given P (Some x) y f h g = g x refl

-- the machine's dispatcher that this one shows
pub dispatcher_shown : (w : TheWorld) (s : State) (d : DispatcherId) (c : TheCore) (there : TheDispatcher) → ShowsState w s → slice_get w.cores d.core ≡ Some c
    → slice_get c.board.dispatchers d.place ≡ Some there → (x : Dispatcher) × (dispatcher_of s d ≡ Some x) × DispatcherShows c x there
dispatcher_shown w s d c there h p q =
    let k = gets w.cores s.cores d.core c (sym h.cores.count) p in
    let shows = h.cores.each d.core k.0 c k.1 p in
    let x = gets c.board.dispatchers k.0.dispatchers d.place there (sym shows.count) q in
    let is : dispatcher_of s d ≡ Some x.0 = ap (λ o. given o None λ core. slice_get core.dispatchers d.place) k.1 ∙ x.1 in
    (x.0, is, shows.dispatchers d.place x.0 there x.1 q)

pub channel_is : (s : State) (e : EndId) (f : ℕ → End → Dispatcher → Dispatcher) (x : End) (seat : Seat) → end_of s e ≡ Some x → x.seat ≡ Some seat
    → change_channel e f s ≡ change_dispatcher seat.dispatcher (f seat.channel x) s
channel_is s e f x seat p q =
    ap (λ (o : Option End). given o s λ y. given y.seat s λ z. change_dispatcher z.dispatcher (f z.channel y) s) p
    ∙ ap (λ (o : Option Seat). given o s λ z. change_dispatcher z.dispatcher (f z.channel x) s) q

pub queued_seat : (f : Queue → Queue) (x : End) → (in_queue f x).seat ≡ x.seat
queued_seat f x = by_given (λ (y : End). y.seat ≡ x.seat) x.queue x (λ q. record x { queue = Some (f q) }) refl (λ q r. refl)
