-- Where the queue of one end is changed, all others stay: no two ends take from one queue.
use Rattle.std.proofs.Common.{◌≡◌, ◌≢◌, refl, sym, ◌∙◌, ap, subst, ℕ, zero, suc, List, [], ◌∷◌, slice_get, slice_set, Some, None, inl, inr}
use Rattle.fl_base.specs.declared.identity.Side.{Side}
use Rattle.fl_base.specs.declared.identity.Side.TheVariants.{Client, Server}
use Rattle.fl_base.specs.declared.identity.EndId.{EndId}
use Rattle.fl_base.specs.declared.identity.LinkId.{LinkId}
use Rattle.fl_base.specs.Ends.{other}
use Rattle.fl_base.specs.Given.{given}
use Rattle.fl_hop.proofs.Lists.{set_cases, set_here}
use Rattle.fl_link.specs.Queue.{TheQueue}
use Rattle.fl_core.specs.declared.wiring.EndWiring.{EndWiring}
use Rattle.fl_core.specs.declared.wiring.EndWiring.TheVariants.{Queues, Ring as OverSide, Circuit}
use Rattle.fl_core.specs.declared.wiring.WiredEnd.{WiredEnd}
use Rattle.fl_core.specs.View.{TheCore, with_arrivals, arrivals_by}
use Rattle.fl_core.specs.Sound.{IsCore}
use Rattle.fl_model.specs.Given.{changed_at}
use Rattle.fl_model.specs.Calls.{Planned}
use Rattle.fl_model.specs.Ends.{Queue, Seat, End}
use Rattle.fl_model.specs.State.{Binding, State, end_in, with_end_in, in_queue}
use Rattle.fl_model.specs.Keeping.{KeepsCalls}
use Rattle.fl_world_refines.specs.Fragments.{calls_off_links}
use Rattle.fl_world_refines.specs.Queues.{QueueShows}
use Rattle.fl_world_refines.proofs.Carried.{labels_stay}
use Rattle.fl_world_refines.proofs.Standing.{queue_still}
use Rattle.fl_world_refines.specs.View.{TheWorld, with_core, with_queue}
use Rattle.fl_world_refines.specs.ShowsState.{IsMade, IsSilent, ShowsState}
use Rattle.fl_world_refines.proofs.Frames.{Stands, QueueFrame, ArrivalsFrame}
use Rattle.fl_world_refines.proofs.FramesBase.{same_some, not_both, SameLocations, TakesOn, takes_still}
use Rattle.fl_world_refines.proofs.FramesWhole.{set_related, same_related, with_binding_at, prefix_same, Turns, turned_keeps}
use Rattle.fl_world_refines.proofs.FramesEnds.{which_end, not_peer, changed_end, other_end, ShowsSame, locations_same, still_core, still_rest, wiring_is, IsAt, stands_at, apart_at, each_side, changed_is}
use Rattle.fl_world_refines.proofs.FramesQuiet.{Hushed, QuietWorld, quiet_frame, quiet_end, end_turns}

pub set_other : {X : Type 0} (xs : List X) (n m : ℕ) (y : X) → m ≢ n → slice_get (slice_set xs n y) m ≡ slice_get xs m
set_other [] n m y h = refl
set_other (x ∷ xs) zero zero y h = absurd (h refl)
set_other (x ∷ xs) zero (suc m) y h = refl
set_other (x ∷ xs) (suc n) zero y h = refl
set_other (x ∷ xs) (suc n) (suc m) y h = set_other xs n m y (λ e. h (ap (λ k. suc k) e))

pub end_same : (side : Side) (f g : End → End) (b : Binding) → f (end_in side b) ≡ g (end_in side b) → with_end_in side f b ≡ with_end_in side g b
end_same Client f g b q = ap (λ (x : End). let c : Binding = record b { client = x } in c) q
end_same Server f g b q = ap (λ (x : End). let c : Binding = record b { server = x } in c) q

-- an end that takes from this queue
abbrev pub taking : Queue → End → End
taking q x = record x { queue = Some q }

taking_same : (i : Planned) (q : Queue) (x : End) → ShowsSame i x (taking q x)
taking_same i q x = record { seat = refl; circuit = refl; rules = refl; accepted = prefix_same x.out.accepted; outgoing = λ circuit. refl; silent = λ q. q }

in_queue_is : (f : Queue → Queue) (x : End) (q : Queue) → x.queue ≡ Some q → in_queue f x ≡ taking (f q) x
in_queue_is f x q h = ap (λ o. given o x (λ (z : Queue). let y : End = record x { queue = Some (f z) } in y)) h

-- of the other end the queue is as it was
others_queue : (side : Side) (q : Queue) (b : Binding) → (end_in (other side) (with_end_in side (taking q) b)).queue ≡ (end_in (other side) b).queue
others_queue side q b = ap (λ (x : End). x.queue) (other_end side (taking q) b)

own_queue : (side : Side) (q : Queue) (b : Binding) → (end_in side (with_end_in side (taking q) b)).queue ≡ Some q
own_queue side q b = ap (λ (x : End). x.queue) (changed_end side (taking q) b)

-- what has to be shown of where ends take from: of this end, and of others, whose queues are the same
record QueuesKeep (w v : TheWorld) (s : State) (e : EndId) (n place : ℕ) (h : Stands w s e n place) (q : Queue) : Type 0 where
  pub here : (z : State) → KeepsCalls s z → (f : EndId) (x : Binding) (i : Planned) (seat : Seat) (m : IsMade w s f x i seat) (d : TheCore) → f ≡ e
      → IsAt w s e n place h seat m.core m.at m.place m.wired_end
      → slice_get v.cores seat.dispatcher.core ≡ Some d → (y : End) → y.queue ≡ Some q → TakesOn w v s z m.core d (end_in f.side x) y m.wired_end.wiring
  pub away : (z : State) → KeepsCalls s z → (f : EndId) (x : Binding) (i : Planned) (seat : Seat) (m : IsMade w s f x i seat) (d : TheCore) → f ≢ e
      → slice_get v.cores seat.dispatcher.core ≡ Some d → (y : End) → y.queue ≡ (end_in f.side x).queue
      → TakesOn w v s z m.core d (end_in f.side x) y m.wired_end.wiring

queue_turns : (w : TheWorld) (s : State) (e : EndId) (n place : ℕ) (h : Stands w s e n place) (q : Queue)
    → Turns s e.binding h.binding (with_end_in e.side (taking q) h.binding)
queue_turns w s e n place h q = end_turns s e.binding e.side (taking q) h.binding h.binding_is refl (prefix_same (end_in e.side h.binding).out.accepted)

taking_hushed : (w : TheWorld) (s : State) (e : EndId) (n place : ℕ) (h : Stands w s e n place) (q : Queue)
    → Hushed h.binding (with_end_in e.side (taking q) h.binding)
taking_hushed w s e n place h q =
    let b = h.binding in
    let c = with_end_in e.side (taking q) b in
    let own : end_in e.side c ≡ taking q (end_in e.side b) = changed_end e.side (taking q) b in
    let others : end_in (other e.side) c ≡ end_in (other e.side) b = other_end e.side (taking q) b in
    record {
      circuit = each_side (λ by. (end_in by c).circuit ≡ (end_in by b).circuit) e.side (ap (λ (x : End). x.circuit) own) (ap (λ (x : End). x.circuit) others);
      silent = each_side (λ by. IsSilent (end_in by b).out → IsSilent (end_in by c).out) e.side
          (λ k. subst (λ (x : End). IsSilent x.out) (sym own) k) (λ k. subst (λ (x : End). IsSilent x.out) (sym others) k);
      queue = each_side (λ by. (end_in by c).seat ≡ None → (end_in by c).queue ≡ (end_in by b).queue) e.side
          (λ k. not_both (end_in e.side c).seat h.seat k (ap (λ (x : End). x.seat) own ∙ h.seat_is)) (λ k. ap (λ (x : End). x.queue) others) Server;
    }

queues_frame : (w v : TheWorld) (s : State) (e : EndId) (n place : ℕ) (h : Stands w s e n place) (q : Queue) → ShowsState w s → QuietWorld w v
    → QueuesKeep w v s e n place h q → ShowsState v (with_binding_at e.binding (with_end_in e.side (taking q) h.binding) s)
queues_frame w v s e n place h q p quiet k =
    let b = h.binding in
    let c = with_end_in e.side (taking q) b in
    let turns = queue_turns w s e n place h q in
    quiet_frame w v s e.binding b c p quiet turns (taking_hushed w s e n place h q) (λ i r. quiet_end i e.side (taking q) b (taking_same i q (end_in e.side b)) refl)
    (record {
      here = λ f x i seat m d r t l y. elim (which_end f e r) [
        | inl a ↦ k.here (with_binding_at e.binding c s) (turned_keeps s e.binding b c turns) f x i seat m d a (stands_at w s e n place h f x i seat m a t l) y
            (end_in f.side c) (ap (λ (g : EndId). (end_in g.side c).queue) a ∙ own_queue e.side q b)
        | inr a ↦ k.away (with_binding_at e.binding c s) (turned_keeps s e.binding b c turns) f x i seat m d (λ u. not_peer e (sym a ∙ u)) y (end_in f.side c)
            (ap (λ (g : EndId). (end_in g.side c).queue) a ∙ others_queue e.side q b
            ∙ ap (λ (z : Binding). (end_in (other e.side) z).queue) (sym t) ∙ ap (λ (g : EndId). (end_in g.side x).queue) (sym a))
      ];
      others = λ f x i seat m d r y.
          k.away (with_binding_at e.binding c s) (turned_keeps s e.binding b c turns) f x i seat m d (λ a. r (ap (λ (g : EndId). g.binding) a)) y (end_in f.side x) refl;
    })

-- the state's own change of an end's queue is this one
taken_is : (w : TheWorld) (s : State) (e : EndId) (n place : ℕ) (h : Stands w s e n place) (q : Queue) (f : Queue → Queue)
    → (end_in e.side h.binding).queue ≡ Some q
    → changed_at e.binding (with_end_in e.side (in_queue f)) s.bindings ≡ slice_set s.bindings e.binding (with_end_in e.side (taking (f q)) h.binding)
taken_is w s e n place h q f k =
    changed_is s.bindings e.binding (with_end_in e.side (in_queue f)) h.binding h.binding_is
    ∙ ap (slice_set s.bindings e.binding) (end_same e.side (in_queue f) (taking (f q)) h.binding (in_queue_is f (end_in e.side h.binding) q k))

shows_on : (s z : State) (q : Queue) (t : TheQueue) → KeepsCalls s z → QueueShows (calls_off_links s) q t → QueueShows (calls_off_links z) q t
shows_on s z q t k h = queue_still (calls_off_links s) (calls_off_links z) (labels_stay s z k).off_links q t h

-- ---- a queue within a core

queue_quiet : (w : TheWorld) (from : ℕ) (t : TheQueue) → QuietWorld w (with_queue w from t)
queue_quiet w from t = record {
  still = still_rest w (with_queue w from t) refl refl (λ n x y p q. same_related SameLocations w.bindings locations_same n x y p q) refl refl refl refl refl;
  seats = λ n c d q r. ap (λ (z : TheCore). z.board.seats) (same_some (slice_get w.cores n) d c r q);
  kept = refl;
}

queue_keep : (w : TheWorld) (s : State) (e : EndId) (n place out from : ℕ) (h : Stands w s e n place) (q : Queue) (t : TheQueue) → ShowsState w s
    → h.wired_end.wiring ≡ Queues out from → QueueShows (calls_off_links s) q t → QueuesKeep w (with_queue w from t) s e n place h q
queue_keep w s e n place out from h q t p wired shows = record {
  here = λ z k f x i seat m d a at u y r.
      let wiring : m.wired_end.wiring ≡ Queues out from = ap (λ (g : WiredEnd). g.wiring) at.wired_end_is ∙ wired in
      subst (TakesOn w v s z m.core d (end_in f.side x) y) (sym wiring)
      (λ l. record {
        queue = q;
        queue_is = r;
        there = t;
        there_is = set_here w.queues from l.there t l.there_is;
        shows = shows_on s z q t k shows;
      });
  away = λ z k f x i seat m d a u y r. by z k f x i seat m d a u y r m.wired_end.wiring refl;
}
  where
    v : TheWorld
    v = with_queue w from t

    by : (z : State) → KeepsCalls s z → (f : EndId) (x : Binding) (i : Planned) (seat : Seat) (m : IsMade w s f x i seat) (d : TheCore) → f ≢ e
        → slice_get w.cores seat.dispatcher.core ≡ Some d → (y : End) → y.queue ≡ (end_in f.side x).queue
        → (wiring : EndWiring) → m.wired_end.wiring ≡ wiring → TakesOn w v s z m.core d (end_in f.side x) y wiring
    by z k f x i seat m d a u y r (Queues o g) l =
        let here = wiring_is h.core e place h.wired_end h.place_is h.wired_end_is ∙ ap (λ j. Some j) wired in
        let there = wiring_is m.core f m.place m.wired_end m.place_is m.wired_end_is ∙ ap (λ j. Some j) l in
        takes_still w.queues v.queues s z (end_in f.side x) y g k r
        (set_other w.queues from g t (λ j. a (p.ends.apart seat.dispatcher.core n m.core h.core f e o out g m.core_is h.core_is there
        (here ∙ ap (λ (c : ℕ). Some (Queues out c)) (sym j)))))
    by z k f x i seat m d a u y r (OverSide side) l = tt
    by z k f x i seat m d a u y r (Circuit b c) l =
        takes_still m.core.arrivals d.arrivals s z (end_in f.side x) y c k r
        (ap (λ (g : TheCore). slice_get g.arrivals c) (same_some (slice_get w.cores seat.dispatcher.core) d m.core u m.core_is))

pub queue_frame : QueueFrame
queue_frame w s e n place out from h q f t p wired k shows =
    subst (λ bs. ShowsState (with_queue w from t) (record s { bindings = bs })) (sym (taken_is w s e n place h q f k))
    (queues_frame w (with_queue w from t) s e n place h (f q) p (queue_quiet w from t) (queue_keep w s e n place out from h (f q) t p wired shows))

-- ---- an arrival queue

abbrev SameSeats : TheCore → TheCore → Type 0
SameSeats c d = d.board.seats ≡ c.board.seats

arrivals_quiet : (w : TheWorld) (n : ℕ) (c : TheCore) (a : ℕ) (t : TheQueue) → slice_get w.cores n ≡ Some c → QuietWorld w (with_core w n (with_arrivals c a t))
arrivals_quiet w n c a t q = record {
  still = still_core w n c (with_arrivals c a t) q (record { places = refl; wired_ends = refl; link_sides = refl })
      (record { monitor = refl; link_sides = refl; wired_ends = refl; dispatchers = refl });
  seats = λ m x y r u. set_related SameSeats w.cores n c (with_arrivals c a t) (λ z. refl) q refl m x y r u;
  kept = refl;
}

arrivals_keep : (w : TheWorld) (s : State) (e : EndId) (n place : ℕ) (link : LinkId) (a : ℕ) (h : Stands w s e n place) (q : Queue) (t : TheQueue) → IsCore h.core
    → h.wired_end.wiring ≡ Circuit link a → QueueShows (calls_off_links s) q t → QueuesKeep w (with_core w n (with_arrivals h.core a t)) s e n place h q
arrivals_keep w s e n place link a h q t core wired shows = record {
  here = λ z k f x i seat m d b at u y r. here z k f x i seat m d b at u y r;
  away = λ z k f x i seat m d b u y r. by z k f x i seat m d b u y r m.wired_end.wiring refl;
}
  where
    new : TheCore
    new = with_arrivals h.core a t

    v : TheWorld
    v = with_core w n new

    here : (z : State) → KeepsCalls s z → (f : EndId) (x : Binding) (i : Planned) (seat : Seat) (m : IsMade w s f x i seat) (d : TheCore) → f ≡ e
        → IsAt w s e n place h seat m.core m.at m.place m.wired_end
        → slice_get (slice_set w.cores n new) seat.dispatcher.core ≡ Some d → (y : End) → y.queue ≡ Some q → TakesOn w v s z m.core d (end_in f.side x) y m.wired_end.wiring
    here z k f x i seat m d b at u y r =
        let wiring : m.wired_end.wiring ≡ Circuit link a = ap (λ (g : WiredEnd). g.wiring) at.wired_end_is ∙ wired in
        let d_is : d ≡ new
        = same_some _ d new (ap (slice_get (slice_set w.cores n new)) (sym at.core_at) ∙ u) (set_here w.cores n h.core new h.core_is) in
        subst (TakesOn w v s z m.core d (end_in f.side x) y) (sym wiring)
        (λ l. record {
          queue = q;
          queue_is = r;
          there = t;
          there_is = ap (λ (g : TheCore). slice_get g.arrivals a) d_is
              ∙ set_here h.core.arrivals a l.there t (ap (λ (g : TheCore). slice_get g.arrivals a) (sym at.core_is) ∙ l.there_is);
          shows = shows_on s z q t k shows;
        })

    apart : (f : EndId) (x : Binding) (i : Planned) (seat : Seat) (m : IsMade w s f x i seat) (b : LinkId) (c : ℕ) → f ≢ e → m.core ≡ h.core
        → m.wired_end.wiring ≡ Circuit b c → c ≢ a
    apart f x i seat m b c r g l j =
        let wired_end = ap (λ (y : TheCore). slice_get y.wired_ends m.place) (sym g) ∙ m.wired_end_is in
        let one = ap arrivals_by l ∙ ap (λ o. Some o) j in
        apart_at w s e n place h f x i seat m r g (core.apart m.place place a m.wired_end h.wired_end wired_end h.wired_end_is one (ap arrivals_by wired))

    by : (z : State) → KeepsCalls s z → (f : EndId) (x : Binding) (i : Planned) (seat : Seat) (m : IsMade w s f x i seat) (d : TheCore) → f ≢ e
        → slice_get (slice_set w.cores n new) seat.dispatcher.core ≡ Some d → (y : End) → y.queue ≡ (end_in f.side x).queue
        → (wiring : EndWiring) → m.wired_end.wiring ≡ wiring → TakesOn w v s z m.core d (end_in f.side x) y wiring
    by z k f x i seat m d b u y r (Queues o g) l = takes_still w.queues w.queues s z (end_in f.side x) y g k r refl
    by z k f x i seat m d b u y r (OverSide side) l = tt
    by z k f x i seat m d b u y r (Circuit g c) l =
        takes_still m.core.arrivals d.arrivals s z (end_in f.side x) y c k r (elim (set_cases w.cores n new seat.dispatcher.core d u) [
          | inl (j, o) ↦
              let core_is : m.core ≡ h.core = same_some (slice_get w.cores n) m.core h.core (ap (λ k. slice_get w.cores k) (sym j) ∙ m.core_is) h.core_is in
              ap (λ (y : TheCore). slice_get y.arrivals c) o ∙ set_other h.core.arrivals a c t (apart f x i seat m g c b core_is l)
              ∙ ap (λ (y : TheCore). slice_get y.arrivals c) (sym core_is)
          | inr (j, o) ↦ ap (λ (y : TheCore). slice_get y.arrivals c) (same_some (slice_get w.cores seat.dispatcher.core) d m.core o m.core_is)
        ])

pub arrivals_frame : ArrivalsFrame
arrivals_frame w s e n place link a h q f t p core wired k shows =
    subst (λ bs. ShowsState (with_core w n (with_arrivals h.core a t)) (record s { bindings = bs })) (sym (taken_is w s e n place h q f k))
    (queues_frame w (with_core w n (with_arrivals h.core a t)) s e n place h (f q) p (arrivals_quiet w n h.core a t h.core_is)
    (arrivals_keep w s e n place link a h (f q) t core wired shows))
