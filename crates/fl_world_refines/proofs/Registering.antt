-- An end's channel is registered in a world as in the machine, wherever the end takes from.
use Rattle.std.proofs.Common.{◌≡◌, ◌≢◌, refl, sym, ◌∙◌, ap, subst, ℕ, zero, suc, ◌<◌, nat_lt, not, true, false, if◌then◌else◌, List, [], ◌∷◌, length, map, slice_get, slice_set, Option, Some, None, Result, Ok, Err, arith, inl, inr}
use Rattle.std.proofs.lemmas.List.{length-map}
use Rattle.fl_base.specs.declared.fragment.Frag.{Frag}
use Rattle.fl_base.specs.declared.identity.EndId.{EndId}
use Rattle.fl_base.specs.Given.{given}
use Rattle.fl_lists.specs.declared.place.Place.{Place}
use Rattle.fl_lists.specs.declared.place.Place.TheVariants.{Idle, Polled, Pending}
use Rattle.fl_lists.specs.ThreeLists.{ThreeLists, pushed}
use Rattle.fl_waitset.specs.Waiting.{is_registered}
use Rattle.fl_link.specs.Looks.{Look, saw, saw_ack, missed}
use Rattle.fl_link.specs.Queue.{TheQueue, QueueTakes, front_of}
use Rattle.fl_ring.specs.Side.{SideTakes}
use Rattle.fl_ring.specs.declared.duo_side.DuoSide.{DuoSide}
use Rattle.fl_endpoint.specs.Events.{IsReady, IsUnbound, HasFailed}
use Rattle.fl_core.specs.declared.kind.ChannelKind.{ChannelKind}
use Rattle.fl_core.specs.declared.kind.ChannelKind.TheVariants as kind
use Rattle.fl_core.specs.declared.board_fault.BoardFault.{BoardFault}
use Rattle.fl_core.specs.declared.board_fault.BoardFault.TheVariants.{NotBound, Registered, NotRegistered, TooManyEnds, Failed, Memory}
use Rattle.fl_core.specs.BoardView.{TheEndAtChannel}
use Rattle.fl_core.specs.BoardEvents.{Registers}
use Rattle.fl_core.specs.BoardTurns.{WaitsIn, lent, over}
use Rattle.fl_core.specs.declared.wiring.EndWiring.{EndWiring}
use Rattle.fl_core.specs.declared.wiring.EndWiring.TheVariants.{Queues, Ring as OverRing, Circuit}
use Rattle.fl_core.specs.declared.wiring.Inlet.{Inlet}
use Rattle.fl_core.specs.declared.wiring.WiredEnd.{WiredEnd}
use Rattle.fl_core.specs.View.{TheCore, with_board, kind_of, inlet_of, inlet_by, arrivals_of, arrivals_by}
use Rattle.fl_core.specs.Ends.{OnBoard, RegistersAt}
use Rattle.fl_core.specs.Sound.{IsCore}
use Rattle.fl_model.specs.Events.{Answer, done, refused}
use Rattle.fl_model.specs.Ends.{Queue, End, is_bound}
use Rattle.fl_model.specs.Waits.{waits_in, registers}
use Rattle.fl_model.specs.State.{State, StepOutcome, answers, end_of, end_in, registers_end, change_dispatcher}
use Rattle.fl_model.specs.Taking.{has_channel_listed, registers_channel}
use Rattle.fl_world_refines.specs.Fragments.{Streams, frag_of, standing, calls_off_links}
use Rattle.fl_world_refines.specs.Queues.{QueueShows}
use Rattle.fl_world_refines.proofs.Tests.{unless_is, past_not, then_is, else_is, lt_true, lt_false}
use Rattle.fl_world_refines.specs.View.{TheWorld, WhereEnd, nowhere, unmade, made, location_of, with_core, with_queue, with_ring, ring_at}
use Rattle.fl_world_refines.specs.ShowsState.{IsWiring, ShowsState, Shows}
use Rattle.fl_world_refines.specs.Taking.{HasInlet, IsRegistered, RegistersOver, RegistersBy}
use Rattle.fl_world_refines.specs.Laws.{Agrees, RegistersAgree}
use Rattle.fl_world_refines.proofs.Frames.{Stands}
use Rattle.fl_world_refines.proofs.FramesBase.{same_some, not_both, end_of_binding}
use Rattle.fl_world_refines.proofs.FramesFind.{find_none, find_unmade, find_made}
use Rattle.fl_world_refines.proofs.Holding.{agrees_by, in_world, same_answer, refuses, set_same}
use Rattle.fl_world_refines.proofs.Owning.{owns_ring}
use Rattle.fl_world_refines.proofs.Listing.{Channel, channel_of, with_lists_at, lists_at, lists_same, lists_become, listed_is, channel_changed, bound_is, some_is, none_is, end_none, unbound}

-- ---- how fragments come to an end

map_get : {X Y : Type 0} (f : X → Y) (xs : List X) (n : ℕ) (x : X) → slice_get xs n ≡ Some x → slice_get (map f xs) n ≡ Some (f x)
map_get f [] n x q = absurd (cc)
map_get f (y ∷ ys) zero x q = let e : y ≡ x = cc in ap (λ z. Some (f z)) e
map_get f (y ∷ ys) (suc n) x q = map_get f ys n x q

-- the board knows it by the end's wiring
pub kind_is : (w : TheWorld) (s : State) (e : EndId) (n place : ℕ) (h : Stands w s e n place) → IsCore h.core → h.at.kind ≡ kind_of h.wired_end.wiring
kind_is w s e n place h core =
    same_some (slice_get (map (λ (p : WiredEnd). kind_of p.wiring) h.core.wired_ends) place) h.at.kind (kind_of h.wired_end.wiring)
    (ap (λ ks. slice_get ks place) (sym core.kinds) ∙ map_get (λ (x : TheEndAtChannel). x.kind) h.core.board.seats place h.at h.at_is)
    (map_get (λ (p : WiredEnd). kind_of p.wiring) h.core.wired_ends place h.wired_end h.wired_end_is)

-- an inlet is that of the end's wiring
pub inlet_is : (w : TheWorld) (s : State) (e : EndId) (n place : ℕ) (h : Stands w s e n place) (i : Inlet) → HasInlet w n place i → i ≡ inlet_by h.wired_end.wiring
inlet_is w s e n place h i u =
    let core : u.core ≡ h.core = same_some (slice_get w.cores n) u.core h.core u.core_is h.core_is in
    same_some (inlet_of h.core place) i (inlet_by h.wired_end.wiring) (ap (λ (c : TheCore). inlet_of c place) (sym core) ∙ u.inlet_is)
    (ap (λ o. given o None (λ (p : WiredEnd). Some (inlet_by p.wiring))) h.wired_end_is)

-- ---- where a channel waits

are_as_many : (streams : Streams) (q : Queue) (t : TheQueue) → QueueShows streams q t → length t.items ≡ length q.labels
are_as_many streams q t h = sym (length-map t.items standing) ∙ ap length h.frags ∙ length-map q.labels (frag_of streams)

some_stand : (fs : List Frag) (look : Look) → look ≢ missed → front_of fs ≡ look → 0 < length fs
some_stand [] look h q = absurd (h (sym q))
some_stand (f ∷ fs) look h q = omega arith

not_missed : (f : Frag) → saw f ≢ missed
not_missed f q = absurd (cc)

ack_not_missed : saw_ack ≢ missed
ack_not_missed q = absurd (cc)

waits_pending : (streams : Streams) (q : Queue) (t : TheQueue) → QueueShows streams q t → 0 < length t.items → Pending ≡ waits_in (Some q)
waits_pending streams q t h some =
    let many = are_as_many streams q t h in
    sym (then_is (nat_lt 0 (length q.labels)) Pending Idle (lt_true 0 (length q.labels) (omega (arith, some, many))))

-- a queue's channel waits where the machine's does, and a look at it changes nothing
pub queue_waits : (streams : Streams) (q : Queue) (t u : TheQueue) (k : ChannelKind) (to : Place) → QueueShows streams q t → k ≡ kind.Queue
    → WaitsIn QueueTakes k t to u → (to ≡ waits_in (Some q)) × (u ≡ t)
queue_waits streams q t u k to h kind_is waits = by to (subst (λ x. WaitsIn QueueTakes x t to u) kind_is waits)
  where
    by : (to : Place) → WaitsIn QueueTakes kind.Queue t to u → (to ≡ waits_in (Some q)) × (u ≡ t)
    by Pending (inl (f, x)) = (waits_pending streams q t h (some_stand t.items (saw f) (not_missed f) x.0), x.1)
    by Pending (inr x) = (waits_pending streams q t h (some_stand t.items saw_ack ack_not_missed x.0), x.1)
    by Idle x =
        let many = are_as_many streams q t h in
        let none : length t.items ≡ 0 = ap length x.0 in
        (sym (else_is (nat_lt 0 (length q.labels)) Pending Idle (lt_false 0 (length q.labels) (omega (arith, none, many)))), x.1)
    by Polled x = absurd x

-- and a ring's is polled, and not looked at
pub ring_waits : {T : Type 0} (takes : T → Look → T → Type 0) (t u : T) (k : ChannelKind) (to : Place) → k ≡ kind.Ring → WaitsIn takes k t to u → (to ≡ Polled) × (u ≡ t)
ring_waits {T} takes t u k to kind_is waits = by to (subst (λ x. WaitsIn takes x t to u) kind_is waits)
  where
    by : (to : Place) → WaitsIn takes kind.Ring t to u → (to ≡ Polled) × (u ≡ t)
    by Polled x = (refl, x)
    by Pending x = absurd x
    by Idle x = absurd x

-- ---- a registration, without the side that was lent

-- the channel waits in this list then
abbrev pub JoinsIn : Place → TheEndAtChannel → ThreeLists → Result (Unit {0}) BoardFault → ThreeLists → Type 0
JoinsIn to s w (Ok unit) v = IsReady s.end × (is_registered w s.channel ≡ false) × (v ≡ pushed w s.channel to)
JoinsIn to s w (Err Registered) v = IsReady s.end × (is_registered w s.channel ≡ true) × (v ≡ w)
JoinsIn to s w (Err NotBound) v = IsUnbound s.end × (v ≡ w)
JoinsIn to s w (Err Failed) v = HasFailed s.end × (v ≡ w)
JoinsIn to s w (Err fault) v = ⊥

pub joins_in : {T : Type 0} (takes : T → Look → T → Type 0) (to : Place) (s : TheEndAtChannel) (w v : ThreeLists) (p q : T) (r : Result (Unit {0}) BoardFault)
    → ((x : Place) → WaitsIn takes s.kind p x q → (x ≡ to) × (q ≡ p)) → Registers takes s (lent w p) r (lent v q) → JoinsIn to s w r v × (q ≡ p)
joins_in takes to s w v p q (Ok unit) h u =
    let x = h u.1.1.0 u.1.1.1 in
    ((u.0, u.1.0, u.1.1.2 ∙ ap (pushed w s.channel) x.0), x.1)
joins_in takes to s w v p q (Err Registered) h u = ((u.0, u.1.0, u.1.2), u.1.1)
joins_in takes to s w v p q (Err NotBound) h u = ((u.0, u.2), u.1)
joins_in takes to s w v p q (Err Failed) h u = ((u.0, u.2), u.1)
joins_in takes to s w v p q (Err NotRegistered) h u = absurd u
joins_in takes to s w v p q (Err TooManyEnds) h u = absurd u
joins_in takes to s w v p q (Err Memory) h u = absurd u

-- ---- in the machine

abbrev joins_by : EndId → End → State → StepOutcome
joins_by e x s =
    if not (is_bound x) then answers s (refused 43)
    else if has_channel_listed x s then answers s (refused 50)
    else answers (registers_end e s) done

joins_at : (e : EndId) (s : State) (o : Option End) → end_of s e ≡ o → registers_channel e s ≡ given o (answers s (refused 92)) (λ x. joins_by e x s)
joins_at e s o q = ap (λ p. given p (answers s (refused 92)) (λ x. joins_by e x s)) q

join_made : (w : TheWorld) (s : State) (e : EndId) (n place : ℕ) (h : Stands w s e n place) (c : Channel w s e n place h) (a : Answer)
    (r : Result (Unit {0}) BoardFault) (lists : ThreeLists) → ShowsState w s
    → JoinsIn (waits_in (end_in e.side h.binding).queue) h.at c.there.lists r lists → IsRegistered r a
    → Agrees (joins_by e (end_in e.side h.binding) s) a (with_lists_at w s e n place h c lists)
join_made w s e n place h c a (Ok unit) lists p u is =
    let x = end_in e.side h.binding in
    let bound : is_bound x ≡ true = bound_is w s e n place h ∙ some_is h.at.end.circuit u.0.0 in
    let listed : has_channel_listed x s ≡ false = listed_is w s e n place h c ∙ u.1 in
    agrees_by (joins_by e x s) (answers (change_dispatcher h.seat.dispatcher (registers h.seat.channel (waits_in x.queue)) s) done) a
    (with_lists_at w s e n place h c lists)
    (past_not (is_bound x) _ _ bound ∙ else_is (has_channel_listed x s) _ _ listed
    ∙ ap (λ z. answers z done) (channel_changed w s e n place h (λ m y. registers m (waits_in y.queue))))
    (record {
      answer = sym is;
      showing = lists_at w s e n place h c (registers h.seat.channel (waits_in x.queue)) lists p refl
          (u.2 ∙ ap (λ m. pushed c.there.lists m (waits_in x.queue)) h.channel ∙ ap (λ l. pushed l h.seat.channel (waits_in x.queue)) c.lists);
    })
join_made w s e n place h c a (Err Registered) lists p u is =
    let x = end_in e.side h.binding in
    agrees_by (joins_by e x s) (answers s (refused 50)) a (with_lists_at w s e n place h c lists)
    (past_not (is_bound x) _ _ (bound_is w s e n place h ∙ some_is h.at.end.circuit u.0.0)
    ∙ then_is (has_channel_listed x s) _ _ (listed_is w s e n place h c ∙ u.1))
    (same_answer w (with_lists_at w s e n place h c lists) s a (refused 50) p is (lists_same w s e n place h c lists u.2))
join_made w s e n place h c a (Err NotBound) lists p u is =
    let x = end_in e.side h.binding in
    agrees_by (joins_by e x s) (answers s (refused 43)) a (with_lists_at w s e n place h c lists)
    (unless_is (is_bound x) _ _ (bound_is w s e n place h ∙ none_is h.at.end.circuit u.0))
    (same_answer w (with_lists_at w s e n place h c lists) s a (refused 43) p is (lists_same w s e n place h c lists u.1))
join_made w s e n place h c a (Err Failed) lists p u is = absurd (let k : true ≡ false = sym u.0.1 ∙ h.shows.failed in cc)
join_made w s e n place h c a (Err NotRegistered) lists p u is = absurd u
join_made w s e n place h c a (Err TooManyEnds) lists p u is = absurd u
join_made w s e n place h c a (Err Memory) lists p u is = absurd u

-- ---- by where the end takes from

-- the channel has joined the list where it waits, and nothing else has changed
record Joined (w v : TheWorld) (s : State) (e : EndId) (n place : ℕ) (h : Stands w s e n place) (c : Channel w s e n place h) (a : Answer) : Type 0 where
  pub answer : Result (Unit {0}) BoardFault
  pub lists : ThreeLists
  pub event : JoinsIn (waits_in (end_in e.side h.binding).queue) h.at c.there.lists answer lists
  pub is : IsRegistered answer a
  pub world : v ≡ with_lists_at w s e n place h c lists

-- over a side that is lent, of which nothing is changed
joined : {T : Type 0} (takes : T → Look → T → Type 0) (w : TheWorld) (s : State) (e : EndId) (n place : ℕ) (h : Stands w s e n place)
    (c : Channel w s e n place h) (a : Answer) (before after : TheCore) (p q : T) → before ≡ h.core
    → ((x : Place) → WaitsIn takes h.at.kind p x q → (x ≡ waits_in (end_in e.side h.binding).queue) × (q ≡ p))
    → (r : Result (Unit {0}) BoardFault) → OnBoard before (λ b d. RegistersAt takes place (over b p) r (over d q)) after → IsRegistered r a
    → Joined w (with_core w n after) s e n place h c a × (q ≡ p)
joined takes w s e n place h c a before after p q core waits r board is =
    let m = lists_become w s e n place h c (λ t l k. Registers takes t (lent l p) r (lent k q)) before after core board in
    let j = joins_in takes (waits_in (end_in e.side h.binding).queue) h.at c.there.lists m.lists p q r waits m.event in
    (record { answer = r; lists = m.lists; event = j.0; is = is; world = m.world }, j.1)

joined_in : (w v u : TheWorld) (s : State) (e : EndId) (n place : ℕ) (h : Stands w s e n place) (c : Channel w s e n place h) (a : Answer) → u ≡ v
    → Joined w v s e n place h c a → Joined w u s e n place h c a
joined_in w v u s e n place h c a q j = record { answer = j.answer; lists = j.lists; event = j.event; is = j.is; world = q ∙ j.world }

core_is : (w : TheWorld) (s : State) (e : EndId) (n place : ℕ) (h : Stands w s e n place) (c : TheCore) → slice_get w.cores n ≡ Some c → c ≡ h.core
core_is w s e n place h c q = same_some (slice_get w.cores n) c h.core q h.core_is

join_over : (w v : TheWorld) (s : State) (e : EndId) (n place : ℕ) (h : Stands w s e n place) (c : Channel w s e n place h) (a : Answer) → Shows w s
    → (wiring : EndWiring) → h.wired_end.wiring ≡ wiring → RegistersOver (inlet_by wiring) n place w a v → Joined w v s e n place h c a
join_over w v s e n place h c a shown (Queues out from) q (inl u) =
    let k = subst (IsWiring w h.core s e h.binding) q h.wiring in
    let core = core_is w s e n place h u.before u.before_is in
    let kinds : h.at.kind ≡ kind.Queue = kind_is w s e n place h (subst (λ (x : TheCore). IsCore x) core u.whole.core) ∙ ap kind_of q in
    let t : u.queue ≡ k.1.there = same_some (slice_get w.queues from) u.queue k.1.there u.queue_is k.1.there_is in
    let shows = subst (QueueShows (calls_off_links s) k.1.queue) (sym t) k.1.shows in
    let j = joined QueueTakes w s e n place h c a u.before u.after u.queue u.left core
    (λ x y. let z = queue_waits (calls_off_links s) k.1.queue u.queue u.left h.at.kind x shows kinds y in (z.0 ∙ ap waits_in (sym k.1.queue_is), z.1))
    u.event.0 u.event.1 u.event.2 in
    joined_in w (with_core w n u.after) v s e n place h c a
    (u.rest ∙ ap (with_queue (with_core w n u.after) from) j.1
    ∙ ap (λ qs. let x : TheWorld = record (with_core w n u.after) { queues = qs } in x) (set_same w.queues from u.queue u.queue_is)) j.0
join_over w v s e n place h c a shown (Queues out from) q (inr u) =
    let k = subst (IsWiring w h.core s e h.binding) q h.wiring in
    not_both (slice_get w.queues from) k.1.there u.0 k.1.there_is
join_over w v s e n place h c a shown (OverRing m) q (inl u) =
    let k = subst (IsWiring w h.core s e h.binding) q h.wiring in
    let core = core_is w s e n place h u.before u.before_is in
    let kinds : h.at.kind ≡ kind.Ring = kind_is w s e n place h (subst (λ (x : TheCore). IsCore x) core u.whole.core) ∙ ap kind_of q in
    let none = (owns_ring w s e n place h m shown k).queue in
    let j = joined SideTakes w s e n place h c a u.before u.after u.side u.left core
    (λ x y. let z = ring_waits SideTakes u.side u.left h.at.kind x kinds y in (z.0 ∙ ap waits_in (sym none), z.1))
    u.event.0 u.event.1 u.event.2 in
    joined_in w (with_core w n u.after) v s e n place h c a
    (u.rest ∙ ap (with_ring (with_core w n u.after) (ring_at m)) (ap (λ (x : DuoSide). x.duo.now) j.1 ∙ u.lent.ring)
    ∙ ap (λ rs. let x : TheWorld = record (with_core w n u.after) { rings = rs } in x) (set_same w.rings (ring_at m) u.ring u.ring_is)) j.0
join_over w v s e n place h c a shown (OverRing m) q (inr u) =
    let o = owns_ring w s e n place h m shown (subst (IsWiring w h.core s e h.binding) q h.wiring) in
    not_both (slice_get w.rings o.at.ring) o.duo (ap (slice_get w.rings) (sym o.ring_is) ∙ u.0) o.duo_is
join_over w v s e n place h c a shown (Circuit l b) q u =
    let k = subst (IsWiring w h.core s e h.binding) q h.wiring in
    let core = core_is w s e n place h u.before u.before_is in
    let kinds : h.at.kind ≡ kind.Queue = kind_is w s e n place h (subst (λ (x : TheCore). IsCore x) core u.whole.core) ∙ ap kind_of q in
    let o = u.event.1 in
    let at : o.place ≡ b = same_some (arrivals_of h.core place) o.place b (ap (λ (x : TheCore). arrivals_of x place) (sym core) ∙ o.place_is)
    (ap (λ y. given y None (λ (p : WiredEnd). arrivals_by p.wiring)) h.wired_end_is ∙ ap arrivals_by q) in
    let t : o.before ≡ k.1.there = same_some (slice_get h.core.arrivals b) o.before k.1.there
    (ap (slice_get h.core.arrivals) (sym at) ∙ ap (λ (x : TheCore). slice_get x.arrivals o.place) (sym core) ∙ o.before_is) k.1.there_is in
    let shows = subst (QueueShows (calls_off_links s) k.1.queue) (sym t) k.1.shows in
    let waits : (x : Place) → WaitsIn QueueTakes h.at.kind o.before x o.after → (x ≡ waits_in (end_in e.side h.binding).queue) × (o.after ≡ o.before)
    = λ x y. let z = queue_waits (calls_off_links s) k.1.queue o.before o.after h.at.kind x shows kinds y in (z.0 ∙ ap waits_in (sym k.1.queue_is), z.1) in
    let seat : o.event.seat ≡ h.at
    = same_some (slice_get h.core.board.seats place) o.event.seat h.at
    (ap (λ (x : TheCore). slice_get x.board.seats place) (sym core) ∙ o.event.seat_is) h.at_is in
    let same : o.after ≡ o.before
    = (joins_in QueueTakes (waits_in (end_in e.side h.binding).queue) o.event.seat o.event.dispatcher.lists o.event.lists o.before o.after u.event.0
    (λ x y. waits x (subst (λ (z : TheEndAtChannel). WaitsIn QueueTakes z.kind o.before x o.after) seat y)) o.event.event).1 in
    let arrivals : slice_set u.before.arrivals o.place o.after ≡ u.before.arrivals
    = ap (slice_set u.before.arrivals o.place) same ∙ set_same u.before.arrivals o.place o.before o.before_is in
    let rest : u.after ≡ with_board u.before u.after.board
    = o.rest ∙ ap (λ qs. let x : TheCore = record u.before { board = u.after.board; arrivals = qs } in x) arrivals in
    let j = joined QueueTakes w s e n place h c a u.before u.after o.before o.after core waits u.event.0
    (record { event = o.event; rest = rest }) u.event.2 in
    joined_in w (with_core w n u.after) v s e n place h c a u.rest j.0

pub registers_agree : RegistersAgree
registers_agree e w v s a shown event = by (location_of w e) refl event
  where
    by : (location : WhereEnd) → location_of w e ≡ location → RegistersBy location w a v → Agrees (registers_channel e s) a v
    by nowhere q u =
        agrees_by (registers_channel e s) (answers s (refused 92)) a v (joins_at e s None (end_none s e (find_none w s e shown.showing q)))
        (refuses w v s a 92 shown.showing u)
    by unmade q u =
        let h = find_unmade w s e shown q in
        let x = end_in e.side h.binding in
        agrees_by (registers_channel e s) (answers s (refused 43)) a v
        (joins_at e s (Some x) (end_of_binding s e h.binding h.binding_is) ∙ unless_is (is_bound x) _ _ (unbound w s e h))
        (refuses w v s a 43 shown.showing u)
    by (made n place) q u =
        let h = find_made w s e n place shown q in
        let x = end_in e.side h.binding in
        let c = channel_of w s e n place h shown in
        let i = inlet_is w s e n place h u.0 u.1 in
        let j = join_over w v s e n place h c a shown h.wired_end.wiring refl (subst (λ y. RegistersOver y n place w a v) i u.2) in
        agrees_by (registers_channel e s) (joins_by e x s) a v (joins_at e s (Some x) (end_of_binding s e h.binding h.binding_is))
        (in_world (joins_by e x s) a v (with_lists_at w s e n place h c j.lists) j.world
        (join_made w s e n place h c a j.answer j.lists shown.showing j.event j.is))
