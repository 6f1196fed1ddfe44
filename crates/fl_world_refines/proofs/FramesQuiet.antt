-- Where an end takes a fragment, where a fragment passes a station, and where a queue, a route or an end that isn't made is changed.
use Rattle.std.proofs.Common.{◌≡◌, ◌≢◌, refl, sym, ◌∙◌, ap, subst, ℕ, zero, suc, List, [], ◌∷◌, map, slice_get, slice_set, Option, Some, None, inl, inr}
use Rattle.std.specs.Prelude.{reverse}
use Rattle.std.proofs.lemmas.List.{append-nil}
use Rattle.fl_wire.specs.Payload.{frags_on}
use Rattle.fl_endpoint.specs.View.{TheOutgoing}
use Rattle.fl_base.specs.declared.identity.Side.{Side}
use Rattle.fl_base.specs.declared.identity.Side.TheVariants.{Client, Server}
use Rattle.fl_base.specs.declared.identity.EndId.{EndId}
use Rattle.fl_base.specs.Ends.{other}
use Rattle.fl_base.specs.Prefix.{IsPrefix}
use Rattle.fl_base.specs.Given.{given}
use Rattle.fl_hop.proofs.Lists.{set_cases, set_here}
use Rattle.fl_endpoint.specs.View.{TheEnd}
use Rattle.fl_core.specs.BoardView.{TheEndAtChannel}
use Rattle.fl_core.specs.View.{TheCore}
use Rattle.fl_model.specs.Given.{changed_at}
use Rattle.fl_model.specs.Calls.{Planned}
use Rattle.fl_model.specs.Ends.{Seat, End, Direction}
use Rattle.fl_model.specs.State.{Route, Back, local, over_ring, over_route, Binding, State, interface_of, end_in, with_end_in, in_route, number_between, outlet_by, way_of, ring_side, first_link}
use Rattle.fl_model.specs.Monitors.{Link}
use Rattle.fl_model.specs.Forwarding.{route_of}
use Rattle.fl_model.specs.Keeping.{KeepsNumbers}
use Rattle.fl_model_laws.proofs.Small.{length_set}
use Rattle.fl_world_refines.specs.Ends.{parts_of, EndShows}
use Rattle.fl_world_refines.specs.declared.binding.Binding.{Binding as TheBinding}
use Rattle.fl_world_refines.specs.View.{TheWorld, with_core, with_binding, keeping}
use Rattle.fl_world_refines.specs.ShowsState.{IsMade, IsSilent, ShowsState}
use Rattle.fl_world_refines.proofs.Frames.{Awaits, EndStays, OutStays, UnmadeFrame, TakeFrame, PassFrame, RouteStays, RouteFrame}
use Rattle.fl_world_refines.proofs.FramesBase.{same_some, not_both, SameBack, SameLocations, TakesOn, SitsStill}
use Rattle.fl_world_refines.proofs.FramesWhole.{StillWorld, set_related, with_binding_at, prefix_same, Turns, turned_keeps, binding_frame}
use Rattle.fl_world_refines.proofs.FramesEnds.{changed_end, other_end, other_changed, same_interface, same_join, ShowsSame, shows_same, shows_still, locations_same, still_rest, still_same, with_end_at, both_frame, each_side, turns_by, takes_on, changed_is}

-- ---- an end takes a fragment

pub set_twice : {X : Type 0} (xs : List X) (n : ℕ) (x y : X) → slice_set (slice_set xs n x) n y ≡ slice_set xs n y
set_twice [] n x y = refl
set_twice (z ∷ xs) zero x y = refl
set_twice (z ∷ xs) (suc n) x y = ap (λ ys. z ∷ ys) (set_twice xs n x y)

abbrev pub with_out_by : (Direction → Direction) → End → End
with_out_by g x = record x { out = g x.out }

pub out_same : (i : Planned) (g : Direction → Direction) (x : End) → OutStays i x.out (g x.out) → ShowsSame i x (with_out_by g x)
out_same i g x h = record { seat = refl; circuit = refl; rules = refl; accepted = ([], h.accepted ∙ sym (append-nil x.out.accepted)); outgoing = h.outgoing; silent = silent }
  where
    waiting : {A B : Type 0} (f : A → B) (xs ys : List A) → map f ys ≡ map f xs → xs ≡ [] → ys ≡ []
    waiting f xs [] q r = refl
    waiting f xs (y ∷ ys) q r = absurd (let k : f y ∷ map f ys ≡ [] = q ∙ ap (map f) r in cc)

    silent : IsSilent x.out → IsSilent (g x.out)
    silent s = record {
      accepted = h.accepted ∙ s.accepted;
      waiting = waiting (frags_on 0 i.plan i.interface) x.out.waiting (g x.out).waiting (ap (λ (o : TheOutgoing). o.waiting) (h.outgoing 0)) s.waiting;
    }

pub take_frame : TakeFrame
take_frame w s e n place h f g t p stays out shows =
    let b = h.binding in
    let m = with_end_in (other e.side) (with_out_by g) b in
    let c = with_end_in e.side f m in
    let own : end_in e.side c ≡ f (end_in e.side b) = changed_end e.side f m ∙ ap f (other_changed e.side (with_out_by g) b) in
    let others : end_in (other e.side) c ≡ with_out_by g (end_in (other e.side) b) = other_end e.side f m ∙ changed_end (other e.side) (with_out_by g) b in
    let there = set_here s.bindings e.binding b m h.binding_is in
    let bindings : changed_at e.binding (with_end_in e.side f) (changed_at e.binding (with_end_in (other e.side) (with_out_by g)) s.bindings)
    ≡ slice_set s.bindings e.binding c
    = ap (changed_at e.binding (with_end_in e.side f)) (changed_is s.bindings e.binding (with_end_in (other e.side) (with_out_by g)) b h.binding_is)
    ∙ changed_is (slice_set s.bindings e.binding m) e.binding (with_end_in e.side f) m there ∙ set_twice s.bindings e.binding m c in
    subst (λ bs. ShowsState (with_core w n (with_end_at h.core place h.at t)) (record s { bindings = bs })) (sym bindings)
    (both_frame w s e n place h c t p (record {
      interface = same_interface e.side f m ∙ same_interface (other e.side) (with_out_by g) b;
      back = same_join e.side f m ∙ same_join (other e.side) (with_out_by g) b;
      own = subst (EndStays h.interface (end_in e.side b)) (sym own) stays;
      others = subst (ShowsSame h.interface (end_in (other e.side) b)) (sym others) (out_same h.interface g (end_in (other e.side) b) out);
      queue = ap (λ (x : End). x.queue) others;
      shows = subst (λ (x : End). EndShows h.interface x (end_in (other e.side) c).out t) (sym own)
          (subst (λ (x : End). EndShows h.interface (f (end_in e.side b)) x.out t) (sym others) shows);
    }))

-- ---- no end changes what it shows

pub record Quiet (i : Planned) (b c : Binding) : Type 0 where
  pub ends : (side : Side) → ShowsSame i (end_in side b) (end_in side c)
  pub parts : (side : Side) → parts_of i (end_in side c).out ≡ parts_of i (end_in side b).out

-- an end that isn't bound is as silent, and one that isn't made has the same queue
pub record Hushed (b c : Binding) : Type 0 where
  pub circuit : (side : Side) → (end_in side c).circuit ≡ (end_in side b).circuit
  pub silent : (side : Side) → IsSilent (end_in side b).out → IsSilent (end_in side c).out
  pub queue : c.server.seat ≡ None → c.server.queue ≡ b.server.queue

-- where the world's ends, and those kept for servers, are the same
pub record QuietWorld (w v : TheWorld) : Type 0 where
  pub still : StillWorld w v
  pub seats : (n : ℕ) (c d : TheCore) → slice_get w.cores n ≡ Some c → slice_get v.cores n ≡ Some d → d.board.seats ≡ c.board.seats
  pub kept : v.bindings ≡ w.bindings

-- where each end takes from
pub record QuietTakes (w v : TheWorld) (s : State) (n : ℕ) (b c : Binding) : Type 0 where
  pub here : (e : EndId) (x : Binding) (i : Planned) (seat : Seat) (m : IsMade w s e x i seat) (d : TheCore) → e.binding ≡ n → x ≡ b
      → (end_in e.side x).seat ≡ Some seat → slice_get v.cores seat.dispatcher.core ≡ Some d
      → TakesOn w v s (with_binding_at n c s) m.core d (end_in e.side x) (end_in e.side c) m.wired_end.wiring
  pub others : (e : EndId) (x : Binding) (i : Planned) (seat : Seat) (m : IsMade w s e x i seat) (d : TheCore) → e.binding ≢ n
      → slice_get v.cores seat.dispatcher.core ≡ Some d
      → TakesOn w v s (with_binding_at n c s) m.core d (end_in e.side x) (end_in e.side x) m.wired_end.wiring

quiet_seat : (w v : TheWorld) (s : State) (e : EndId) (x : Binding) (i : Planned) (seat : Seat) (m : IsMade w s e x i seat) (d : TheCore) → QuietWorld w v
    → slice_get v.cores seat.dispatcher.core ≡ Some d → slice_get d.board.seats m.place ≡ Some m.at
quiet_seat w v s e x i seat m d h q = ap (λ (ss : List TheEndAtChannel). slice_get ss m.place) (h.seats seat.dispatcher.core m.core d m.core_is q) ∙ m.at_is

pub quiet_frame : (w v : TheWorld) (s : State) (n : ℕ) (b c : Binding) → ShowsState w s → QuietWorld w v → Turns s n b c
    → Hushed b c → ((i : Planned) → interface_of s b ≡ Some i → Quiet i b c) → QuietTakes w v s n b c → ShowsState v (with_binding_at n c s)
quiet_frame w v s n b c p h k hush quiet takes = binding_frame w v s n b c p h.still k (record {
  sits = λ e x i seat m d q r t u y.
      let g = quiet i (ap (interface_of s) (sym r) ∙ t) in
      record {
        at = m.at;
        at_is = quiet_seat w v s e x i seat m d h y;
        dispatcher = refl;
        channel = refl;
        shows = shows_still i (end_in e.side x) (end_in e.side c) (end_in (other e.side) x).out (end_in (other e.side) c).out m.at.end
            (subst (λ (z : Binding). ShowsSame i (end_in e.side z) (end_in e.side c)) (sym r) (g.ends e.side))
            (g.parts (other e.side) ∙ ap (λ (z : Binding). parts_of i (end_in (other e.side) z).out) (sym r)) m.shows;
      };
  others_sit = λ e x i seat m d q y. quiet_seat w v s e x i seat m d h y;
  takes = takes.here;
  others_take = takes.others;
  waits = λ y i q r t.
      let g = quiet i r in
      let u = (p.bindings.each n b y k.there (ap (λ (ys : List TheBinding). slice_get ys n) (sym h.kept) ∙ q)).unmade i r (sym (k.same.seats Server) ∙ t) in
      record {
        end = u.end;
        end_is = u.end_is;
        shows = shows_still i b.server c.server b.client.out c.client.out u.end (g.ends Server) (g.parts Client) u.shows;
        queue = hush.queue t ∙ u.queue;
      };
  others_wait = λ m y q r. ap (λ (ys : List TheBinding). slice_get ys m) (sym h.kept) ∙ r;
  silent = λ side q. hush.silent side (p.bindings.silent (record { binding = n; side = side }) (end_in side b)
      (ap (λ o. given o None (λ (y : Binding). Some (end_in side y))) k.there) (sym (hush.circuit side) ∙ q));
})

pub quiet_same : (w : TheWorld) → QuietWorld w w
quiet_same w = record {
  still = still_same w;
  seats = λ n c d q r. ap (λ (z : TheCore). z.board.seats) (same_some (slice_get w.cores n) d c r q);
  kept = refl;
}

-- where queues stand as they stood, and are the same ends'
takes_quiet : (w : TheWorld) (s : State) (n : ℕ) (b c : Binding) → Turns s n b c → ((side : Side) → (end_in side c).queue ≡ (end_in side b).queue)
    → QuietTakes w w s n b c
takes_quiet w s n b c k same = record {
  here = λ e x i seat m d q r a y.
      takes_on w w s (with_binding_at n c s) m.core d (end_in e.side x) (end_in e.side c) m.wired_end.wiring (turned_keeps s n b c k)
      (same e.side ∙ ap (λ (z : Binding). (end_in e.side z).queue) (sym r)) refl (arrivals m.core d seat m.core_is y);
  others = λ e x i seat m d q y.
      takes_on w w s (with_binding_at n c s) m.core d (end_in e.side x) (end_in e.side x) m.wired_end.wiring (turned_keeps s n b c k) refl refl
      (arrivals m.core d seat m.core_is y);
}
  where
    arrivals : (a d : TheCore) (seat : Seat) → slice_get w.cores seat.dispatcher.core ≡ Some a → slice_get w.cores seat.dispatcher.core ≡ Some d → d.arrivals ≡ a.arrivals
    arrivals a d seat q r = ap (λ (z : TheCore). z.arrivals) (same_some (slice_get w.cores seat.dispatcher.core) d a r q)

-- one end of a binding changed, which shows what it showed
pub quiet_end : (i : Planned) (side : Side) (f : End → End) (b : Binding) → ShowsSame i (end_in side b) (f (end_in side b))
    → parts_of i (f (end_in side b)).out ≡ parts_of i (end_in side b).out → Quiet i b (with_end_in side f b)
quiet_end i side f b h q =
    let own : end_in side (with_end_in side f b) ≡ f (end_in side b) = changed_end side f b in
    let others : end_in (other side) (with_end_in side f b) ≡ end_in (other side) b = other_end side f b in
    record {
      ends = each_side (λ by. ShowsSame i (end_in by b) (end_in by (with_end_in side f b))) side (subst (ShowsSame i (end_in side b)) (sym own) h)
          (subst (ShowsSame i (end_in (other side) b)) (sym others) (shows_same i (end_in (other side) b)));
      parts = each_side (λ by. parts_of i (end_in by (with_end_in side f b)).out ≡ parts_of i (end_in by b).out) side
          (ap (λ (x : End). parts_of i x.out) own ∙ q) (ap (λ (x : End). parts_of i x.out) others);
    }

pub end_turns : (s : State) (n : ℕ) (side : Side) (f : End → End) (b : Binding) → slice_get s.bindings n ≡ Some b
    → (f (end_in side b)).seat ≡ (end_in side b).seat → IsPrefix (end_in side b).out.accepted (f (end_in side b)).out.accepted
    → Turns s n b (with_end_in side f b)
end_turns s n side f b q seat accepted =
    let own : end_in side (with_end_in side f b) ≡ f (end_in side b) = changed_end side f b in
    let others : end_in (other side) (with_end_in side f b) ≡ end_in (other side) b = other_end side f b in
    turns_by s n side b (with_end_in side f b) q (same_interface side f b) (same_join side f b) (ap (λ (x : End). x.seat) own ∙ seat)
    (ap (λ (x : End). x.seat) others)
    (subst (λ (x : End). IsPrefix (end_in side b).out.accepted x.out.accepted) (sym own) accepted)
    (subst (λ (x : End). IsPrefix (end_in (other side) b).out.accepted x.out.accepted) (sym others) (prefix_same (end_in (other side) b).out.accepted))

pub pass_frame : PassFrame
pass_frame w s e b i g p there interface out parts =
    let turns = end_turns s e.binding e.side (with_out_by g) b there refl (out_same i g (end_in e.side b) out).accepted in
    let c = with_end_in e.side (with_out_by g) b in
    let own : end_in e.side c ≡ with_out_by g (end_in e.side b) = changed_end e.side (with_out_by g) b in
    let others : end_in (other e.side) c ≡ end_in (other e.side) b = other_end e.side (with_out_by g) b in
    let queues = each_side (λ by. (end_in by c).queue ≡ (end_in by b).queue) e.side (ap (λ (x : End). x.queue) own) (ap (λ (x : End). x.queue) others) in
    subst (λ bs. ShowsState w (record s { bindings = bs })) (sym (changed_is s.bindings e.binding (with_end_in e.side (with_out_by g)) b there))
    (quiet_frame w w s e.binding b c p (quiet_same w) turns
    (record {
      circuit = each_side (λ by. (end_in by c).circuit ≡ (end_in by b).circuit) e.side (ap (λ (x : End). x.circuit) own) (ap (λ (x : End). x.circuit) others);
      silent = each_side (λ by. IsSilent (end_in by b).out → IsSilent (end_in by c).out) e.side
          (λ q. subst (λ (x : End). IsSilent x.out) (sym own) ((out_same i g (end_in e.side b) out).silent q))
          (λ q. subst (λ (x : End). IsSilent x.out) (sym others) q);
      queue = λ q. queues Server;
    })
    (λ j q. subst (λ k. Quiet k b c) (same_some (interface_of s b) i j interface q)
    (quiet_end i e.side (with_out_by g) b (out_same i g (end_in e.side b) out) parts))
    (takes_quiet w s e.binding b c turns queues))

-- ---- a route

route_back : (s : State) (z : State) (f : Route → Route) (b : Back) → RouteStays f → ((side : Side) (x : Back) → outlet_by z side x ≡ outlet_by s side x)
    → SameBack s z b (in_route f b)
route_back s z f local h same = record {
  queues = λ q. q;
  ring = λ n q. q;
  own = λ side. refl;
  outlet = λ side. refl;
  route = λ r q. absurd (cc);
}
route_back s z f (over_ring m) h same = record {
  queues = λ q. q;
  ring = λ n q. q;
  own = λ side. refl;
  outlet = λ side. refl;
  route = λ r q. absurd (cc);
}
route_back s z f (over_route r) h same = record {
  queues = λ q. absurd (cc);
  ring = λ n q. absurd (cc);
  own = λ side. refl;
  outlet = λ side. same side (over_route (f r)) ∙ way side;
  route = λ q k. let e : f r ≡ q = cc in (r, refl, ap (λ (x : Route). x.cores) (sym e) ∙ h.cores r, ap (λ (x : Route). x.service) (sym e) ∙ h.service r);
}
  where
    way_is : (side : Side) → way_of side (f r) ≡ way_of side r
    way_is Client = h.cores r
    way_is Server = ap (λ cs. reverse cs) (h.cores r)

    way : (side : Side) → outlet_by s side (over_route (f r)) ≡ outlet_by s side (over_route r)
    way side = ap (λ cs. given (first_link s cs) None (λ (link : Link). Some (ring_side link.ring))) (way_is side)

route_numbers : (f : Route → Route) (b : Back) → RouteStays f → KeepsNumbers (route_of b) (route_of (in_route f b))
route_numbers f local h route q = absurd (cc)
route_numbers f (over_ring m) h route q = absurd (cc)
route_numbers f (over_route r) h route q =
    let e : r ≡ route = cc in
    (f r, refl, λ a b n k. h.numbers r a b n (ap (number_between a b) e ∙ k))

abbrev route_in : (Route → Route) → Binding → Binding
route_in f b = record b { back = in_route f b.back }

route_turns : (s : State) (n : ℕ) (f : Route → Route) (b : Binding) → RouteStays f → slice_get s.bindings n ≡ Some b → Turns s n b (route_in f b)
route_turns s n f b h q = record {
  there = q;
  same = record {
    interface = refl;
    back = route_back s (with_binding_at n (route_in f b) s) f b.back h (λ side x. refl);
    seats = sides_same (λ x. x.seat);
  };
  numbers = route_numbers f b.back h;
  accepted = λ side. accepted side;
}
  where
    sides_same : (g : End → Option Seat) (side : Side) → g (end_in side (route_in f b)) ≡ g (end_in side b)
    sides_same g Client = refl
    sides_same g Server = refl

    accepted : (side : Side) → IsPrefix (end_in side b).out.accepted (end_in side (route_in f b)).out.accepted
    accepted Client = prefix_same b.client.out.accepted
    accepted Server = prefix_same b.server.out.accepted

route_quiet : (i : Planned) (f : Route → Route) (b : Binding) → Quiet i b (route_in f b)
route_quiet i f b = record { ends = ends; parts = parts }
  where
    ends : (side : Side) → ShowsSame i (end_in side b) (end_in side (route_in f b))
    ends Client = shows_same i b.client
    ends Server = shows_same i b.server

    parts : (side : Side) → parts_of i (end_in side (route_in f b)).out ≡ parts_of i (end_in side b).out
    parts Client = refl
    parts Server = refl

route_hushed : (f : Route → Route) (b : Binding) → Hushed b (route_in f b)
route_hushed f b = record { circuit = circuit; silent = silent; queue = λ q. refl }
  where
    circuit : (side : Side) → (end_in side (route_in f b)).circuit ≡ (end_in side b).circuit
    circuit Client = refl
    circuit Server = refl

    silent : (side : Side) → IsSilent (end_in side b).out → IsSilent (end_in side (route_in f b)).out
    silent Client q = q
    silent Server q = q

route_queue : (f : Route → Route) (b : Binding) (side : Side) → (end_in side (route_in f b)).queue ≡ (end_in side b).queue
route_queue f b Client = refl
route_queue f b Server = refl

pub route_frame : RouteFrame
route_frame w s n f p h = by (slice_get s.bindings n) refl
  where
    by : (o : Option Binding) → slice_get s.bindings n ≡ o → ShowsState w (record s { bindings = given o s.bindings (λ b. slice_set s.bindings n (route_in f b)) })
    by None q = p
    by (Some b) q =
        let turns = route_turns s n f b h q in
        quiet_frame w w s n b (route_in f b) p (quiet_same w) turns (route_hushed f b) (λ i k. route_quiet i f b)
        (takes_quiet w s n b (route_in f b) turns (route_queue f b))

-- ---- a server's end that isn't made

unmade_turns : (w : TheWorld) (s : State) (e : EndId) (h : Awaits w s e) (f : End → End) → EndStays h.interface h.binding.server (f h.binding.server)
    → Turns s e.binding h.binding (record h.binding { server = f h.binding.server })
unmade_turns w s e h f stays = end_turns s e.binding Server f h.binding h.binding_is stays.seat stays.accepted

unmade_sits : (w : TheWorld) (s : State) (e : EndId) (h : Awaits w s e) (f : End → End) → EndStays h.interface h.binding.server (f h.binding.server)
    → (g : EndId) (x : Binding) (i : Planned) (seat : Seat) (m : IsMade w s g x i seat) (d : TheCore) → x ≡ h.binding → interface_of s x ≡ Some i
    → (end_in g.side x).seat ≡ Some seat → slice_get w.cores seat.dispatcher.core ≡ Some d
    → SitsStill m.at i (end_in g.side (record h.binding { server = f h.binding.server })) (end_in (other g.side) (record h.binding { server = f h.binding.server })).out d m.place
unmade_sits w s e h f stays g x i seat m d q r t u = by g.side refl
  where
    c : Binding
    c = record h.binding { server = f h.binding.server }

    by : (side : Side) → g.side ≡ side → SitsStill m.at i (end_in g.side c) (end_in (other g.side) c).out d m.place
    by Server k = not_both h.binding.server.seat seat h.seat
        (ap (λ (z : Binding). z.server.seat) (sym q) ∙ ap (λ (by : Side). (end_in by x).seat) (sym k) ∙ t)
    by Client k = record {
      at = m.at;
      at_is = ap (λ (z : TheCore). slice_get z.board.seats m.place) (same_some (slice_get w.cores seat.dispatcher.core) d m.core u m.core_is) ∙ m.at_is;
      dispatcher = refl;
      channel = refl;
      shows =
          let old : EndShows i h.binding.client h.binding.server.out m.at.end
          = subst (λ (z : Binding). EndShows i z.client z.server.out m.at.end) q
          (subst (λ (by : Side). EndShows i (end_in by x) (end_in (other by) x).out m.at.end) k m.shows) in
          let ends : h.interface ≡ i = same_some (interface_of s h.binding) h.interface i h.interface_is (ap (interface_of s) (sym q) ∙ r) in
          let parts = subst (λ (j : Planned). parts_of j (f h.binding.server).out ≡ parts_of j h.binding.server.out) ends stays.parts in
          subst (λ (by : Side). EndShows i (end_in by c) (end_in (other by) c).out m.at.end) (sym k)
          (shows_still i h.binding.client h.binding.client h.binding.server.out (f h.binding.server).out m.at.end (shows_same i h.binding.client) parts old);
    }

unmade_frame_by : (w : TheWorld) (s : State) (e : EndId) (h : Awaits w s e) (f : End → End) (t : TheEnd) → ShowsState w s
    → EndStays h.interface h.binding.server (f h.binding.server) → EndShows h.interface (f h.binding.server) h.binding.client.out t
    → ShowsState (with_binding w e.binding (keeping h.there t)) (with_binding_at e.binding (record h.binding { server = f h.binding.server }) s)
unmade_frame_by w s e h f t p stays shows =
    let b = h.binding in
    let c : Binding = record b { server = f b.server } in
    let v = with_binding w e.binding (keeping h.there t) in
    let turns = unmade_turns w s e h f stays in
    let keeps = turned_keeps s e.binding b c turns in
    binding_frame w v s e.binding b c p
    (still_rest w v refl (length_set w.bindings e.binding (keeping h.there t))
    (λ n x y q r. set_related SameLocations w.bindings e.binding h.there (keeping h.there t) locations_same h.there_is
    (record { interface = refl; client = refl; server = refl }) n x y q r) refl refl refl refl refl) turns
    (record {
      sits = λ g x i seat m d q r k l u. unmade_sits w s e h f stays g x i seat m d r k l u;
      others_sit = λ g x i seat m d q u.
          ap (λ (z : TheCore). slice_get z.board.seats m.place) (same_some (slice_get w.cores seat.dispatcher.core) d m.core u m.core_is) ∙ m.at_is;
      takes = λ g x i seat m d q r a u.
          takes_on w v s (with_binding_at e.binding c s) m.core d (end_in g.side x) (end_in g.side c) m.wired_end.wiring keeps
          (each_side (λ by. (end_in by c).queue ≡ (end_in by b).queue) Server stays.queue refl g.side
          ∙ ap (λ (z : Binding). (end_in g.side z).queue) (sym r)) refl
          (ap (λ (z : TheCore). z.arrivals) (same_some (slice_get w.cores seat.dispatcher.core) d m.core u m.core_is));
      others_take = λ g x i seat m d q u.
          takes_on w v s (with_binding_at e.binding c s) m.core d (end_in g.side x) (end_in g.side x) m.wired_end.wiring keeps refl refl
          (ap (λ (z : TheCore). z.arrivals) (same_some (slice_get w.cores seat.dispatcher.core) d m.core u m.core_is));
      waits = λ y i q r u.
          let y_is : keeping h.there t ≡ y
          = same_some _ (keeping h.there t) y (set_here w.bindings e.binding h.there (keeping h.there t) h.there_is) q in
          let ends : h.interface ≡ i = same_some (interface_of s b) h.interface i h.interface_is r in
          record {
            end = t;
            end_is = ap (λ (z : TheBinding). z.unmade) (sym y_is);
            shows = subst (λ (j : Planned). EndShows j (f b.server) b.client.out t) ends shows;
            queue = stays.queue ∙ h.kept.queue;
          };
      others_wait = λ m y q r. elim (set_cases w.bindings e.binding (keeping h.there t) m y r) [ inl (a, k) ↦ absurd (q a) | inr (a, k) ↦ k ];
      silent = λ by q. each_side (λ side. (end_in side c).circuit ≡ None → IsSilent (end_in side c).out) Server stays.silent
          (λ r. p.bindings.silent (record { binding = e.binding; side = Client }) b.client
          (ap (λ o. given o None (λ (y : Binding). Some (end_in Client y))) h.binding_is) r) by q;
    })

pub unmade_frame : UnmadeFrame
unmade_frame w s e h f t p stays shows =
    let b = h.binding in
    subst (λ bs. ShowsState (with_binding w e.binding (keeping h.there t)) (record s { bindings = bs }))
    (sym (changed_is s.bindings e.binding (with_end_in e.side f) b h.binding_is
    ∙ ap (λ side. slice_set s.bindings e.binding (with_end_in side f b)) h.server))
    (unmade_frame_by w s e h f t p stays shows)
