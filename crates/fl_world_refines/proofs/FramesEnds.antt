-- Where an end of a world is changed, or its direction, or its route, all other parts of what is shown stay.
use Rattle.std.proofs.Common.{◌≡◌, ◌≢◌, refl, sym, ◌∙◌, ap, subst, ℕ, List, length, slice_get, slice_set, Some, None, ◌⊎◌, inl, inr}
use Rattle.fl_base.specs.declared.identity.Side.{Side}
use Rattle.fl_base.specs.declared.identity.Side.TheVariants.{Client, Server}
use Rattle.fl_base.specs.declared.identity.EndId.{EndId}
use Rattle.fl_base.specs.Ends.{other, peer}
use Rattle.fl_base.specs.Prefix.{IsPrefix}
use Rattle.fl_base.specs.Given.{given}
use Rattle.fl_hop.proofs.Lists.{set_cases, set_here, set_there}
use Rattle.fl_link.specs.Queue.{TheQueue}
use Rattle.fl_endpoint.specs.View.{TheEnd, number_or_0}
use Rattle.fl_core.specs.BoardView.{TheEndAtChannel, with_end}
use Rattle.fl_core.specs.declared.wiring.EndWiring.{EndWiring}
use Rattle.fl_core.specs.declared.wiring.EndWiring.TheVariants.{Queues, Ring as OverSide, Circuit}
use Rattle.fl_core.specs.declared.wiring.WiredEnd.{WiredEnd}
use Rattle.fl_core.specs.View.{TheCore, place_of, with_board}
use Rattle.fl_model.specs.Given.{changed_at}
use Rattle.fl_model.specs.Calls.{Planned}
use Rattle.fl_model.specs.Ends.{Seat, End, Direction}
use Rattle.fl_model.specs.State.{Back, Binding, State, interface_of, end_in, with_end_in, own_ring, outlet_by}
use Rattle.fl_model.specs.Forwarding.{route_of}
use Rattle.fl_model.specs.Keeping.{KeepsNumbers, KeepsCalls}
use Rattle.fl_model_laws.proofs.Small.{length_set}
use Rattle.fl_world_refines.specs.Ends.{outgoing_of, parts_of, circuit_of, EndShows}
use Rattle.fl_world_refines.specs.declared.binding.Binding.{Binding as TheBinding}
use Rattle.fl_world_refines.specs.View.{TheWorld, with_core}
use Rattle.fl_world_refines.specs.ShowsState.{wiring_of, IsMade, IsUnmade, IsSilent, ShowsState}
use Rattle.fl_world_refines.proofs.Frames.{Stands, EndStays, EndFrame}
use Rattle.fl_world_refines.proofs.FramesBase.{same_some, not_both, SameWirings, wirings_same, SameBack, SameLocations, TakesOn, takes_still, SitsStill}
use Rattle.fl_world_refines.proofs.FramesWhole.{SameInside, inside_same, StillWorld, set_related, same_related, with_binding_at, prefix_same, numbers_same, Turns, turned_keeps, Content, binding_frame}

-- ---- ends

-- an end of this name is this one, or the other of its binding
pub same_end : (f : EndId) (n : ℕ) (side : Side) → f.binding ≡ n → f.side ≡ side → f ≡ record { binding = n; side = side }
same_end f n side q r =
    ap (λ (m : ℕ). let g : EndId = record { binding = m; side = f.side } in g) q ∙ ap (λ (by : Side). let g : EndId = record { binding = n; side = by } in g) r

pub which_end : (f e : EndId) → f.binding ≡ e.binding → (f ≡ e) ⊎ (f ≡ peer e)
which_end f e q = by f.side e.side refl refl
  where
    by : (a b : Side) → f.side ≡ a → e.side ≡ b → (f ≡ e) ⊎ (f ≡ peer e)
    by Client Client p r = inl (same_end f e.binding e.side q (p ∙ sym r))
    by Client Server p r = inr (same_end f e.binding (other e.side) q (p ∙ sym (ap other r)))
    by Server Client p r = inr (same_end f e.binding (other e.side) q (p ∙ sym (ap other r)))
    by Server Server p r = inl (same_end f e.binding e.side q (p ∙ sym r))

pub not_peer : (e : EndId) → peer e ≢ e
not_peer e q = by e.side refl
  where
    by : (a : Side) → e.side ≡ a → ⊥
    by Client p = absurd (let k : Server ≡ Client = sym (ap other p) ∙ ap (λ (f : EndId). f.side) q ∙ p in cc)
    by Server p = absurd (let k : Client ≡ Server = sym (ap other p) ∙ ap (λ (f : EndId). f.side) q ∙ p in cc)

pub other_twice : (side : Side) → other (other side) ≡ side
other_twice Client = refl
other_twice Server = refl

pub changed_end : (side : Side) (f : End → End) (b : Binding) → end_in side (with_end_in side f b) ≡ f (end_in side b)
changed_end Client f b = refl
changed_end Server f b = refl

pub other_end : (side : Side) (f : End → End) (b : Binding) → end_in (other side) (with_end_in side f b) ≡ end_in (other side) b
other_end Client f b = refl
other_end Server f b = refl

pub other_changed : (side : Side) (f : End → End) (b : Binding) → end_in side (with_end_in (other side) f b) ≡ end_in side b
other_changed Client f b = refl
other_changed Server f b = refl

pub same_interface : (side : Side) (f : End → End) (b : Binding) → (with_end_in side f b).interface ≡ b.interface
same_interface Client f b = refl
same_interface Server f b = refl

pub same_join : (side : Side) (f : End → End) (b : Binding) → (with_end_in side f b).back ≡ b.back
same_join Client f b = refl
same_join Server f b = refl

-- all but its queue and what it accepted is as it was, as far as it shows
pub record ShowsSame (i : Planned) (x y : End) : Type 0 where
  pub seat : y.seat ≡ x.seat
  pub circuit : y.circuit ≡ x.circuit
  pub rules : y.rules ≡ x.rules
  pub accepted : IsPrefix x.out.accepted y.out.accepted
  pub outgoing : (circuit : ℕ) → outgoing_of circuit i y.out ≡ outgoing_of circuit i x.out
  pub silent : IsSilent x.out → IsSilent y.out

pub shows_same : (i : Planned) (x : End) → ShowsSame i x x
shows_same i x = record { seat = refl; circuit = refl; rules = refl; accepted = prefix_same x.out.accepted; outgoing = λ circuit. refl; silent = λ q. q }

pub shows_still : (i : Planned) (x y : End) (out out2 : Direction) (t : TheEnd) → ShowsSame i x y → parts_of i out2 ≡ parts_of i out
    → EndShows i x out t → EndShows i y out2 t
shows_still i x y out out2 t h p s = record {
  program = s.program;
  circuit = s.circuit ∙ sym h.circuit;
  rules = s.rules ∙ sym h.rules;
  outgoing = s.outgoing ∙ ap (λ c. outgoing_of (number_or_0 c) i x.out) (sym h.circuit) ∙ sym (h.outgoing (circuit_of y));
  parts = s.parts ∙ sym p;
  failed = s.failed;
}

-- ---- worlds with one thing changed

pub locations_same : (x : TheBinding) → SameLocations x x
locations_same x = record { interface = refl; client = refl; server = refl }

pub still_core : (w : TheWorld) (n : ℕ) (c d : TheCore) → slice_get w.cores n ≡ Some c → SameWirings c d → SameInside c d → StillWorld w (with_core w n d)
still_core w n c d q h k = record {
  world = record {
    core_count = length_set w.cores n d;
    cores = λ m a b p r. set_related SameWirings w.cores n c d wirings_same q h m a b p r;
    count = refl;
    bindings = λ m x y p r. same_related SameLocations w.bindings locations_same m x y p r;
  };
  inside = λ m a b p r. set_related SameInside w.cores n c d inside_same q k m a b p r;
  may_set_cores = refl;
  dispatchers = refl;
  programs = refl;
  names = refl;
  rings = refl;
}

-- other queues, and other ends kept for servers
pub still_rest : (w v : TheWorld) → v.cores ≡ w.cores → (length v.bindings ≡ length w.bindings)
    → ((n : ℕ) (x y : TheBinding) → slice_get w.bindings n ≡ Some x → slice_get v.bindings n ≡ Some y → SameLocations x y)
    → v.may_set_cores ≡ w.may_set_cores → v.dispatchers ≡ w.dispatchers → v.programs ≡ w.programs → v.names ≡ w.names → v.rings ≡ w.rings → StillWorld w v
still_rest w v cores count locations may dispatchers programs names rings = record {
  world = record {
    core_count = ap length cores;
    cores = λ m a b p r. same_related SameWirings w.cores wirings_same m a b p (ap (λ (cs : List TheCore). slice_get cs m) (sym cores) ∙ r);
    count = count;
    bindings = locations;
  };
  inside = λ m a b p r. same_related SameInside w.cores inside_same m a b p (ap (λ (cs : List TheCore). slice_get cs m) (sym cores) ∙ r);
  may_set_cores = may;
  dispatchers = dispatchers;
  programs = programs;
  names = names;
  rings = rings;
}

pub still_same : (w : TheWorld) → StillWorld w w
still_same w = still_rest w w refl refl (λ n x y p q. same_related SameLocations w.bindings locations_same n x y p q) refl refl refl refl refl

-- ---- where ends stand

pub wiring_is : (c : TheCore) (e : EndId) (place : ℕ) (p : WiredEnd) → place_of c e ≡ Some place → slice_get c.wired_ends place ≡ Some p → wiring_of c e ≡ Some p.wiring
wiring_is c e place p q r =
    ap (λ o. given o None (λ n. given (slice_get c.wired_ends n) None (λ (x : WiredEnd). Some x.wiring))) q
    ∙ ap (λ o. given o None (λ (x : WiredEnd). Some x.wiring)) r

-- what is known of where an end of this name is made: it stands there
pub record IsAt (w : TheWorld) (s : State) (e : EndId) (n place : ℕ) (h : Stands w s e n place) (seat : Seat) (core : TheCore) (at : TheEndAtChannel) (p : ℕ) (wired_end : WiredEnd) : Type 0 where
  pub core_at : seat.dispatcher.core ≡ n
  pub core_is : core ≡ h.core
  pub place_is : p ≡ place
  pub at_is : at ≡ h.at
  pub wired_end_is : wired_end ≡ h.wired_end

pub stands_at : (w : TheWorld) (s : State) (e : EndId) (n place : ℕ) (h : Stands w s e n place) (f : EndId) (x : Binding) (i : Planned) (seat : Seat)
    (m : IsMade w s f x i seat) → f ≡ e → x ≡ h.binding → (end_in f.side x).seat ≡ Some seat → IsAt w s e n place h seat m.core m.at m.place m.wired_end
stands_at w s e n place h f x i seat m q r t =
    let u : (end_in e.side h.binding).seat ≡ Some seat = ap (λ (b : Binding). (end_in e.side b).seat) (sym r) ∙ ap (λ (g : EndId). (end_in g.side x).seat) (sym q) ∙ t in
    let seat_is : seat ≡ h.seat = same_some _ seat h.seat u h.seat_is in
    let at : seat.dispatcher.core ≡ n = ap (λ (z : Seat). z.dispatcher.core) seat_is ∙ h.core_at in
    let core : m.core ≡ h.core = same_some (slice_get w.cores n) m.core h.core (ap (λ k. slice_get w.cores k) (sym at) ∙ m.core_is) h.core_is in
    let place_is : m.place ≡ place
    = same_some (place_of h.core e) m.place place (ap (λ (c : TheCore). place_of c e) (sym core) ∙ ap (place_of m.core) (sym q) ∙ m.place_is) h.place_is in
    record {
      core_at = at;
      core_is = core;
      place_is = place_is;
      at_is = same_some (slice_get h.core.board.seats place) m.at h.at
          (ap (λ (c : TheCore). slice_get c.board.seats place) (sym core) ∙ ap (slice_get m.core.board.seats) (sym place_is) ∙ m.at_is) h.at_is;
      wired_end_is = same_some (slice_get h.core.wired_ends place) m.wired_end h.wired_end
          (ap (λ (c : TheCore). slice_get c.wired_ends place) (sym core) ∙ ap (slice_get m.core.wired_ends) (sym place_is) ∙ m.wired_end_is) h.wired_end_is;
    }

-- another end stands elsewhere
pub apart_at : (w : TheWorld) (s : State) (e : EndId) (n place : ℕ) (h : Stands w s e n place) (f : EndId) (x : Binding) (i : Planned) (seat : Seat)
    (m : IsMade w s f x i seat) → f ≢ e → m.core ≡ h.core → m.place ≢ place
apart_at w s e n place h f x i seat m q r t =
    let wired_end : m.wired_end ≡ h.wired_end = same_some (slice_get h.core.wired_ends place) m.wired_end h.wired_end
    (ap (λ (c : TheCore). slice_get c.wired_ends place) (sym r) ∙ ap (slice_get m.core.wired_ends) (sym t) ∙ m.wired_end_is) h.wired_end_is in
    q (sym m.name_is ∙ ap (λ (p : WiredEnd). p.name) wired_end ∙ h.name_is)

-- the core with another end where one stands
abbrev pub with_end_at : TheCore → ℕ → TheEndAtChannel → TheEnd → TheCore
with_end_at c place at t = with_board c (with_end c.board place at t)

pub seat_elsewhere : (w : TheWorld) (s : State) (e : EndId) (n place : ℕ) (h : Stands w s e n place) (t : TheEnd) (f : EndId) (x : Binding) (i : Planned) (seat : Seat)
    (m : IsMade w s f x i seat) (d : TheCore) → f ≢ e
    → slice_get (slice_set w.cores n (with_end_at h.core place h.at t)) seat.dispatcher.core ≡ Some d → slice_get d.board.seats m.place ≡ Some m.at
seat_elsewhere w s e n place h t f x i seat m d apart q = elim (set_cases w.cores n (with_end_at h.core place h.at t) seat.dispatcher.core d q) [
  | inl (a, b) ↦
      let core : m.core ≡ h.core = same_some (slice_get w.cores n) m.core h.core (ap (λ k. slice_get w.cores k) (sym a) ∙ m.core_is) h.core_is in
      ap (λ (c : TheCore). slice_get c.board.seats m.place) b
      ∙ set_there h.core.board.seats place _ m.place m.at (ap (λ (c : TheCore). slice_get c.board.seats m.place) (sym core) ∙ m.at_is)
      (apart_at w s e n place h f x i seat m apart core)
  | inr (a, b) ↦
      ap (λ (c : TheCore). slice_get c.board.seats m.place) (same_some (slice_get w.cores seat.dispatcher.core) d m.core b m.core_is) ∙ m.at_is
]

-- ---- an end, and what the other has still to send, changed at once

-- what a changed binding has
pub record Both (w : TheWorld) (s : State) (e : EndId) (n place : ℕ) (h : Stands w s e n place) (c : Binding) (t : TheEnd) : Type 0 where
  pub interface : c.interface ≡ h.binding.interface
  pub back : c.back ≡ h.binding.back
  pub own : EndStays h.interface (end_in e.side h.binding) (end_in e.side c)
  pub others : ShowsSame h.interface (end_in (other e.side) h.binding) (end_in (other e.side) c)
  pub queue : (end_in (other e.side) c).queue ≡ (end_in (other e.side) h.binding).queue
  pub shows : EndShows h.interface (end_in e.side c) (end_in (other e.side) c).out t

back_is : (s z : State) (b c : Back) → ((side : Side) (x : Back) → outlet_by z side x ≡ outlet_by s side x) → c ≡ b → SameBack s z b c
back_is s z b c h q = record {
  queues = λ r. q ∙ r;
  ring = λ n r. sym q ∙ r;
  own = λ side. ap (own_ring side) q;
  outlet = λ side. ap (outlet_by z side) q ∙ h side b;
  route = λ r p. (r, sym q ∙ p, refl, refl);
}

-- what holds of one end and of the other holds of both sides
pub each_side : (P : Side → Type 0) (side : Side) → P side → P (other side) → (by : Side) → P by
each_side P Client a b Client = a
each_side P Client a b Server = b
each_side P Server a b Client = b
each_side P Server a b Server = a

pub turns_by : (s : State) (n : ℕ) (side : Side) (b c : Binding) → slice_get s.bindings n ≡ Some b → c.interface ≡ b.interface → c.back ≡ b.back
    → (end_in side c).seat ≡ (end_in side b).seat → (end_in (other side) c).seat ≡ (end_in (other side) b).seat
    → IsPrefix (end_in side b).out.accepted (end_in side c).out.accepted
    → IsPrefix (end_in (other side) b).out.accepted (end_in (other side) c).out.accepted → Turns s n b c
turns_by s n side b c there interface back seat other_seat accepted other_accepted = record {
  there = there;
  same = record {
    interface = interface;
    back = back_is s (with_binding_at n c s) b.back c.back (λ by x. refl) back;
    seats = each_side (λ by. (end_in by c).seat ≡ (end_in by b).seat) side seat other_seat;
  };
  numbers = subst (λ x. KeepsNumbers (route_of b.back) (route_of x)) (sym back) (numbers_same (route_of b.back));
  accepted = each_side (λ by. IsPrefix (end_in by b).out.accepted (end_in by c).out.accepted) side accepted other_accepted;
}

-- an end takes from where it took, where neither its queue nor where queues stand is changed
pub takes_on : (w v : TheWorld) (s z : State) (c d : TheCore) (x y : End) (wiring : EndWiring) → KeepsCalls s z → y.queue ≡ x.queue → v.queues ≡ w.queues
    → d.arrivals ≡ c.arrivals → TakesOn w v s z c d x y wiring
takes_on w v s z c d x y (Queues out from) k q a b = takes_still w.queues v.queues s z x y from k q (ap (λ (qs : List TheQueue). slice_get qs from) a)
takes_on w v s z c d x y (OverSide side) k q a b = tt
takes_on w v s z c d x y (Circuit l n) k q a b = takes_still c.arrivals d.arrivals s z x y n k q (ap (λ (qs : List TheQueue). slice_get qs n) b)

abbrev SameArrivals : TheCore → TheCore → Type 0
SameArrivals c d = d.arrivals ≡ c.arrivals

-- the end of the other side, where it shows what it showed
pub silent_still : (w : TheWorld) (s : State) (e : EndId) (i : Planned) (b c : Binding) (side : Side) → ShowsState w s → slice_get s.bindings e.binding ≡ Some b
    → ShowsSame i (end_in side b) (end_in side c) → (end_in side c).circuit ≡ None → IsSilent (end_in side c).out
silent_still w s e i b c side p q h r =
    h.silent (p.bindings.silent (record { binding = e.binding; side = side }) (end_in side b)
    (ap (λ o. given o None (λ (y : Binding). Some (end_in side y))) q) (sym h.circuit ∙ r))

unmade_still : (side : Side) (b c : Binding) (i : Planned) (y : TheBinding) (seat : Seat) → (end_in side b).seat ≡ Some seat
    → (end_in side c).seat ≡ (end_in side b).seat → parts_of i (end_in side c).out ≡ parts_of i (end_in side b).out
    → ShowsSame i (end_in (other side) b) (end_in (other side) c) → (end_in (other side) c).queue ≡ (end_in (other side) b).queue → c.server.seat ≡ None
    → IsUnmade i b y → IsUnmade i c y
unmade_still Client b c i y seat q same parts others queue none u =
    record { end = u.end; end_is = u.end_is; shows = shows_still i b.server c.server b.client.out c.client.out u.end others parts u.shows; queue = queue ∙ u.queue }
unmade_still Server b c i y seat q same parts others queue none u = not_both c.server.seat seat none (same ∙ q)

both_turn : (w : TheWorld) (s : State) (e : EndId) (n place : ℕ) (h : Stands w s e n place) (c : Binding) (t : TheEnd) → Both w s e n place h c t
    → Turns s e.binding h.binding c
both_turn w s e n place h c t k =
    turns_by s e.binding e.side h.binding c h.binding_is k.interface k.back k.own.seat k.others.seat k.own.accepted k.others.accepted

interface_at : (w : TheWorld) (s : State) (e : EndId) (n place : ℕ) (h : Stands w s e n place) (x : Binding) (i : Planned) → x ≡ h.binding
    → interface_of s x ≡ Some i → h.interface ≡ i
interface_at w s e n place h x i q r = same_some (interface_of s h.binding) h.interface i h.interface_is (ap (interface_of s) (sym q) ∙ r)

both_sit : (w : TheWorld) (s : State) (e : EndId) (n place : ℕ) (h : Stands w s e n place) (c : Binding) (t : TheEnd) → Both w s e n place h c t
    → (f : EndId) (x : Binding) (i : Planned) (seat : Seat) (m : IsMade w s f x i seat) (d : TheCore) → f.binding ≡ e.binding → x ≡ h.binding
    → interface_of s x ≡ Some i → (end_in f.side x).seat ≡ Some seat
    → slice_get (slice_set w.cores n (with_end_at h.core place h.at t)) seat.dispatcher.core ≡ Some d
    → SitsStill m.at i (end_in f.side c) (end_in (other f.side) c).out d m.place
both_sit w s e n place h c t k f x i seat m d same q r u v = elim (which_end f e same) [
  | inl a ↦ here a
  | inr a ↦ there a
]
  where
    new : TheEndAtChannel
    new = record { end = t; dispatcher = h.at.dispatcher; channel = h.at.channel; kind = h.at.kind }

    here : f ≡ e → SitsStill m.at i (end_in f.side c) (end_in (other f.side) c).out d m.place
    here a =
        let at = stands_at w s e n place h f x i seat m a q u in
        let core : d ≡ with_end_at h.core place h.at t
        = same_some _ d (with_end_at h.core place h.at t) (ap (slice_get (slice_set w.cores n (with_end_at h.core place h.at t))) (sym at.core_at) ∙ v)
        (set_here w.cores n h.core (with_end_at h.core place h.at t) h.core_is) in
        record {
          at = new;
          at_is = ap (λ (z : TheCore). slice_get z.board.seats m.place) core ∙ ap (slice_get (slice_set h.core.board.seats place new)) at.place_is
              ∙ set_here h.core.board.seats place h.at new h.at_is;
          dispatcher = ap (λ (z : TheEndAtChannel). z.dispatcher) (sym at.at_is);
          channel = ap (λ (z : TheEndAtChannel). z.channel) (sym at.at_is);
          shows = subst (λ (g : EndId). EndShows i (end_in g.side c) (end_in (other g.side) c).out t) (sym a)
              (subst (λ (j : Planned). EndShows j (end_in e.side c) (end_in (other e.side) c).out t) (interface_at w s e n place h x i q r) k.shows);
        }

    there : f ≡ peer e → SitsStill m.at i (end_in f.side c) (end_in (other f.side) c).out d m.place
    there a = record {
      at = m.at;
      at_is = seat_elsewhere w s e n place h t f x i seat m d (λ b. not_peer e (sym a ∙ b)) v;
      dispatcher = refl;
      channel = refl;
      shows =
          let old : EndShows i (end_in (other e.side) h.binding) (end_in (other (other e.side)) h.binding).out m.at.end
          = subst (λ (b : Binding). EndShows i (end_in (other e.side) b) (end_in (other (other e.side)) b).out m.at.end) q
          (subst (λ (g : EndId). EndShows i (end_in g.side x) (end_in (other g.side) x).out m.at.end) a m.shows) in
          let ends = interface_at w s e n place h x i q r in
          let others = subst (λ (j : Planned). ShowsSame j (end_in (other e.side) h.binding) (end_in (other e.side) c)) ends k.others in
          let parts = subst (λ (j : Planned). parts_of j (end_in e.side c).out ≡ parts_of j (end_in e.side h.binding).out) ends k.own.parts in
          let back = subst (λ side. parts_of i (end_in side c).out ≡ parts_of i (end_in side h.binding).out) (sym (other_twice e.side)) parts in
          subst (λ (g : EndId). EndShows i (end_in g.side c) (end_in (other g.side) c).out m.at.end) (sym a)
          (shows_still i (end_in (other e.side) h.binding) (end_in (other e.side) c) (end_in (other (other e.side)) h.binding).out
          (end_in (other (other e.side)) c).out m.at.end others back old);
    }

queue_by : (c x : Binding) (f e : EndId) → f.binding ≡ e.binding → (end_in e.side c).queue ≡ (end_in e.side x).queue
    → (end_in (other e.side) c).queue ≡ (end_in (other e.side) x).queue → (end_in f.side c).queue ≡ (end_in f.side x).queue
queue_by c x f e q a b = each_side (λ by. (end_in by c).queue ≡ (end_in by x).queue) e.side a b f.side

both_content : (w : TheWorld) (s : State) (e : EndId) (n place : ℕ) (h : Stands w s e n place) (c : Binding) (t : TheEnd) → ShowsState w s
    → Both w s e n place h c t → Content w (with_core w n (with_end_at h.core place h.at t)) s e.binding h.binding c
both_content w s e n place h c t p k =
    let v = with_core w n (with_end_at h.core place h.at t) in
    let keeps = turned_keeps s e.binding h.binding c (both_turn w s e n place h c t k) in
    let arrivals : (m : ℕ) (a d : TheCore) → slice_get w.cores m ≡ Some a → slice_get v.cores m ≡ Some d → d.arrivals ≡ a.arrivals
    = λ m a d. set_related SameArrivals w.cores n h.core (with_end_at h.core place h.at t) (λ z. refl) h.core_is refl m a d in
    record {
      sits = λ f x i seat m d q r u y z. both_sit w s e n place h c t k f x i seat m d q r u y z;
      others_sit = λ f x i seat m d q z. seat_elsewhere w s e n place h t f x i seat m d (λ a. q (ap (λ (g : EndId). g.binding) a)) z;
      takes = λ f x i seat m d q r u z.
          takes_on w v s (with_binding_at e.binding c s) m.core d (end_in f.side x) (end_in f.side c) m.wired_end.wiring keeps
          (queue_by c x f e q (k.own.queue ∙ ap (λ (b : Binding). (end_in e.side b).queue) (sym r))
          (k.queue ∙ ap (λ (b : Binding). (end_in (other e.side) b).queue) (sym r))) refl (arrivals seat.dispatcher.core m.core d m.core_is z);
      others_take = λ f x i seat m d q z.
          takes_on w v s (with_binding_at e.binding c s) m.core d (end_in f.side x) (end_in f.side x) m.wired_end.wiring keeps refl refl
          (arrivals seat.dispatcher.core m.core d m.core_is z);
      waits = λ y i q r u.
          let ends = same_some (interface_of s h.binding) h.interface i h.interface_is r in
          unmade_still e.side h.binding c i y h.seat h.seat_is k.own.seat
          (subst (λ (j : Planned). parts_of j (end_in e.side c).out ≡ parts_of j (end_in e.side h.binding).out) ends k.own.parts)
          (subst (λ (j : Planned). ShowsSame j (end_in (other e.side) h.binding) (end_in (other e.side) c)) ends k.others) k.queue u
          ((p.bindings.each e.binding h.binding y h.binding_is q).unmade i r (server_none u));
      others_wait = λ m y q z. z;
      silent = λ by q. each_side (λ side. (end_in side c).circuit ≡ None → IsSilent (end_in side c).out) e.side k.own.silent
          (silent_still w s e h.interface h.binding c (other e.side) p h.binding_is k.others) by q;
    }
  where
    seats : (side : Side) → (end_in side c).seat ≡ (end_in side h.binding).seat
    seats = each_side (λ by. (end_in by c).seat ≡ (end_in by h.binding).seat) e.side k.own.seat k.others.seat

    server_none : c.server.seat ≡ None → h.binding.server.seat ≡ None
    server_none u = sym (seats Server) ∙ u

pub both_frame : (w : TheWorld) (s : State) (e : EndId) (n place : ℕ) (h : Stands w s e n place) (c : Binding) (t : TheEnd) → ShowsState w s
    → Both w s e n place h c t → ShowsState (with_core w n (with_end_at h.core place h.at t)) (with_binding_at e.binding c s)
both_frame w s e n place h c t p k =
    binding_frame w (with_core w n (with_end_at h.core place h.at t)) s e.binding h.binding c p
    (still_core w n h.core (with_end_at h.core place h.at t) h.core_is (record { places = refl; wired_ends = refl; link_sides = refl })
    (record { monitor = refl; link_sides = refl; wired_ends = refl; dispatchers = refl }))
    (both_turn w s e n place h c t k) (both_content w s e n place h c t p k)

-- ---- one end changed

pub changed_is : {X : Type 0} (xs : List X) (n : ℕ) (f : X → X) (x : X) → slice_get xs n ≡ Some x → changed_at n f xs ≡ slice_set xs n (f x)
changed_is xs n f x q = ap (λ o. given o xs (λ y. slice_set xs n (f y))) q

pub end_frame : EndFrame
end_frame w s e n place h f t p stays shows =
    let b = h.binding in
    let c = with_end_in e.side f b in
    let own : end_in e.side c ≡ f (end_in e.side b) = changed_end e.side f b in
    let others : end_in (other e.side) c ≡ end_in (other e.side) b = other_end e.side f b in
    subst (λ bs. ShowsState (with_core w n (with_end_at h.core place h.at t)) (record s { bindings = bs })) (sym (changed_is s.bindings e.binding (with_end_in e.side f) b h.binding_is))
    (both_frame w s e n place h c t p (record {
      interface = same_interface e.side f b;
      back = same_join e.side f b;
      own = subst (EndStays h.interface (end_in e.side b)) (sym own) stays;
      others = subst (ShowsSame h.interface (end_in (other e.side) b)) (sym others) (shows_same h.interface (end_in (other e.side) b));
      queue = ap (λ (x : End). x.queue) others;
      shows = subst (λ (x : End). EndShows h.interface x (end_in (other e.side) c).out t) (sym own)
          (subst (λ (x : End). EndShows h.interface (f (end_in e.side b)) x.out t) (sym others) shows);
    }))
