-- Events that leave what circuits stand on as it is, and so every predicate of that.
use Rattle.std.proofs.Common.{◌≡◌, refl, sym, ◌∙◌, ap, subst, ℕ, ◌==◌, ◌||◌, ◌&&◌, nat_le, not, false, List, [], ◌∷◌, ◌++◌, length, map, drop, slice_get, Option, Some, None}
use Rattle.std.specs.Prelude.{filter_map}
use Rattle.std.specs.List.{cons_option, range_with_len}
use Rattle.std.proofs.lemmas.List.Elements.{filter_map-append}
use Rattle.std.proofs.lemmas.List.{map-append, append-nil}
use Rattle.fl_base.specs.declared.identity.EndId.{EndId}
use Rattle.fl_base.specs.declared.identity.Side.{Side}
use Rattle.fl_base.specs.declared.identity.Side.TheVariants.{Client, Server}
use Rattle.fl_base.specs.Ends.{peer}
use Rattle.fl_base.specs.Given.{given}
use Rattle.fl_lists.specs.declared.place.Place.TheVariants.{Polled}
use Rattle.fl_model.specs.Given.{changed_at}
use Rattle.fl_model.specs.Events.{DispatcherId}
use Rattle.fl_model.specs.Calls.{Planned}
use Rattle.fl_model.specs.Rings.{MonitorLabel, Label, next_of, says, acknowledges, RingLabel, Ring, RingSide, first_side, second_side, RingEnd, puts, takes, looks, makes_sure, first_for, is_spent, free, there_is_room}
use Rattle.fl_model.specs.Ends.{takes_one, written_of, Queue, fresh_queue, without_first, End, Direction, writes}
use Rattle.fl_model.specs.Waits.{with_end, Dispatcher, waits_in}
use Rattle.fl_model.specs.Monitors.{Core, Link, fresh_core, hears}
use Rattle.fl_model.specs.State.{local, over_ring, State, Binding, StepOutcome, link_between, change_core, change_ring, change_binding, change_end, change_out, change_channel, with_end_in, seats, binds_end, delivers, dispatcher_of, end_of, end_in, binding_of, core_of, in_queue, own_ring, first_on, Outlet, peer_queue, ring_side}
use Rattle.fl_model.specs.Standing.{labels_of, said_by}
use Rattle.fl_model.specs.Making.{with_new_link, is_core, has_link}
use Rattle.fl_model.specs.Binding.{BindByNames, end_id, with_new_binding, binds_both, with_circuit_begun}
use Rattle.fl_model.specs.Sending.{writes_to}
use Rattle.fl_model.specs.Taking.{Chosen, takes_label, goes_back, finds}
use Rattle.fl_model.specs.Forwarding.{LinkEnd, FragAtHop, label_of, monitor_writes_by, after_hearing}
use Rattle.fl_model_laws.proofs.Cases.{by_given, either}
use Rattle.fl_model_laws.proofs.RingsKept.{first_put, first_looked, channel_rings}
use Rattle.fl_model_laws.proofs.Views.{View, made, two, view, part_of, sides_of, back_of, messages, map_kept}
use Rattle.fl_model_laws.proofs.Walk.{IsWanted, BeginsRoute, IsHere, with_ring, Keeps}

-- ---- messages on rings

pub messages_push : (ls : List RingLabel) (x : RingLabel) → messages (ls ++ x ∷ []) ≡ messages ls ++ cons_option (said_by x.label) []
messages_push ls x = ap (filter_map said_by) (map-append (λ (l : RingLabel). l.label) ls (x ∷ [])) ∙ filter_map-append said_by (labels_of ls) (labels_of (x ∷ []))

quiet_push : (ls : List RingLabel) (x : RingLabel) → said_by x.label ≡ None → messages (ls ++ x ∷ []) ≡ messages ls
quiet_push ls x q = messages_push ls x ∙ ap (λ o. messages ls ++ cons_option o []) q ∙ append-nil (messages ls)

pub drop_said : (ls : List RingLabel) (x : RingLabel) → slice_get ls 0 ≡ Some x → messages ls ≡ cons_option (said_by x.label) (messages (drop 1 ls))
drop_said [] x h = absurd (cc)
drop_said (y ∷ ls) x h = let e : y ≡ x = cc in ap (λ (z : RingLabel). cons_option (said_by z.label) (messages ls)) e

quiet_drop : (ls : List RingLabel) (x : RingLabel) → slice_get ls 0 ≡ Some x → said_by x.label ≡ None → messages (drop 1 ls) ≡ messages ls
quiet_drop ls x h q = sym (drop_said ls x h ∙ ap (λ o. cons_option o (messages (drop 1 ls))) q)

pub put_sides : (side : RingSide) (label : Label) (r : Ring) → said_by label ≡ None → sides_of (puts side label r) ≡ sides_of r
put_sides first_side label r q = ap (λ a. two a (messages r.by_second.waiting)) (quiet_push r.by_first.waiting _ q)
put_sides second_side label r q = ap (λ a. two (messages r.by_first.waiting) a) (quiet_push r.by_second.waiting _ q)

pub take_sides : (side : RingSide) (r : Ring) (x : RingLabel) → first_for side r ≡ Some x → said_by x.label ≡ None → sides_of (takes side r) ≡ sides_of r
take_sides first_side r x h q = ap (λ a. two (messages r.by_first.waiting) a) (quiet_drop r.by_second.waiting x h q)
take_sides second_side r x h q = ap (λ a. two a (messages r.by_second.waiting)) (quiet_drop r.by_first.waiting x h q)

pub look_sides : (side : RingSide) (r : Ring) → sides_of (looks side r) ≡ sides_of r
look_sides first_side r = by_given (λ (t : Ring). sides_of t ≡ sides_of r) (first_for first_side r) _ _ refl (λ x q. refl)
look_sides second_side r = by_given (λ (t : Ring). sides_of t ≡ sides_of r) (first_for second_side r) _ _ refl (λ x q. refl)

pub sure_sides : (need : ℕ) (side : RingSide) (r : Ring) → sides_of (makes_sure need side r) ≡ sides_of r
sure_sides need side r =
    either (λ (t : Ring). sides_of t ≡ sides_of r) (is_spent side r || nat_le need (free side r)) r (looks side r) (λ q. refl) (λ q. look_sides side r)

pub first_is : (o : Option Ring) (f : Ring → Option RingLabel) (r : Ring) (x : RingLabel) → o ≡ Some r → given o None f ≡ Some x → f r ≡ Some x
first_is o f r x q h = sym (ap (λ (p : Option Ring). given p None f) q) ∙ h

-- ---- single updates

pub quiet_ring : (n : ℕ) (f : Ring → Ring) (s : State) → ((r : Ring) → slice_get s.rings n ≡ Some r → sides_of (f r) ≡ sides_of r) → view (change_ring n f s) ≡ view s
quiet_ring n f s h = ap (λ rs. made (map part_of s.cores) rs (map back_of s.bindings)) (map_kept sides_of f s.rings n h)

pub quiet_core : (n : ℕ) (f : Core → Core) (s : State) → ((k : Core) → part_of (f k) ≡ part_of k) → view (change_core n f s) ≡ view s
quiet_core n f s h = ap (λ ps. made ps (map sides_of s.rings) (map back_of s.bindings)) (map_kept part_of f s.cores n (λ k q. h k))

pub quiet_binding : (n : ℕ) (f : Binding → Binding) (s : State) → ((b : Binding) → (f b).back ≡ b.back) → view (change_binding n f s) ≡ view s
quiet_binding n f s h = ap (λ bs. made (map part_of s.cores) (map sides_of s.rings) bs) (map_kept back_of f s.bindings n (λ b q. h b))

same_back : (side : Side) (f : End → End) (b : Binding) → (with_end_in side f b).back ≡ b.back
same_back Client f b = refl
same_back Server f b = refl

pub quiet_end : (e : EndId) (f : End → End) (s : State) → view (change_end e f s) ≡ view s
quiet_end e f s = quiet_binding e.binding (with_end_in e.side f) s (same_back e.side f)

pub quiet_channel : (e : EndId) (f : ℕ → End → Dispatcher → Dispatcher) (s : State) → view (change_channel e f s) ≡ view s
quiet_channel e f s =
    by_given (λ (t : State). view t ≡ view s) (end_of s e) _ _ refl
    (λ x q. by_given (λ (t : State). view t ≡ view s) x.seat _ _ refl (λ seat r. quiet_core seat.dispatcher.core _ s (λ k. refl)))

pub quiet_seats : (d : DispatcherId) (e : EndId) (s : State) → view (seats d e s) ≡ view s
quiet_seats d e s =
    by_given (λ (t : State). view t ≡ view s) (dispatcher_of s d) _ _ refl
    (λ x q.
    let sat : State = change_end e (λ y. record y { seat = Some (record { dispatcher = d; channel = length x.ends }) }) s in
    quiet_core d.core (λ k. record k { dispatchers = changed_at d.place (with_end e) k.dispatchers }) sat (λ k. refl) ∙ quiet_end e _ s)

pub quiet_binds : (e : EndId) (circuit : ℕ) (s : State) → view (binds_end e circuit s) ≡ view s
quiet_binds e circuit s = quiet_channel e _ _ ∙ quiet_end e _ s

pub quiet_delivers : (label : Label) (e : EndId) (s : State) → view (delivers label e s) ≡ view s
quiet_delivers label e s = quiet_channel e _ _ ∙ quiet_end e _ s

pub quiet_both : (n : ℕ) (w : BindByNames) (s : State) → view (binds_both n w s) ≡ view s
quiet_both n w s =
    quiet_binds (end_id n Server) 0 _ ∙ quiet_binds (end_id n Client) 0 _
    ∙ quiet_seats w.service.dispatcher (end_id n Server) _ ∙ quiet_seats w.client (end_id n Client) s

pub quiet_taken : (at : RingEnd) (first : RingLabel) (s : State) → first_on at s ≡ Some first → said_by first.label ≡ None → view (change_ring at.ring (takes at.side) s) ≡ view s
quiet_taken at first s h q = quiet_ring at.ring (takes at.side) s (λ r t. take_sides at.side r first (first_is (slice_get s.rings at.ring) (first_for at.side) r first t h) q)

pub quiet_put : (at : RingEnd) (label : Label) (s : State) → said_by label ≡ None → view (change_ring at.ring (puts at.side label) s) ≡ view s
quiet_put at label s q = quiet_ring at.ring (puts at.side label) s (λ r t. put_sides at.side label r q)

pub quiet_looked : (at : RingEnd) (s : State) → view (change_ring at.ring (looks at.side) s) ≡ view s
quiet_looked at s = quiet_ring at.ring (looks at.side) s (λ r t. look_sides at.side r)

-- ---- events

pub quiet_label : (e : EndId) (i : Planned) (l : Label) (s : State) → view (takes_label e i l s).state ≡ view s
quiet_label e i (next_of sender k) s = by_given (λ (o : StepOutcome). view o.state ≡ view s) (end_of s sender) _ _ refl (λ y q. quiet_end e _ (change_out sender takes_one s) ∙ quiet_end sender _ s)
quiet_label e i (says m) s = refl
quiet_label e i acknowledges s = refl

pub quiet_written : (e : EndId) (i : Planned) (d : Direction) (o : Outlet) (s : State) → view (writes_to e i d o there_is_room s).state ≡ view s
quiet_written e i d peer_queue s = quiet_delivers _ (peer e) _ ∙ quiet_end e _ s
quiet_written e i d (ring_side at) s = quiet_put at (next_of e (written_of d)) (change_out e (λ x. (writes i x there_is_room).direction) s) refl ∙ quiet_end e _ s

pub first_delivered : (at : RingEnd) (first : RingLabel) (label : Label) (to : EndId) (s : State) → first_on at s ≡ Some first → first_on at (delivers label to s) ≡ Some first
first_delivered at first label to s f =
    let same : (delivers label to s).rings ≡ s.rings = channel_rings to _ _ in
    subst (λ (rs : List Ring). given (slice_get rs at.ring) None (first_for at.side) ≡ Some first) (sym same) f

pub quiet_found : (t : Chosen) (at : RingEnd) (l : Label) (first : RingLabel) (s : State) → first_on at s ≡ Some first → first.label ≡ l → view (finds t at l s).state ≡ view s
quiet_found t at (next_of e k) first s h q = quiet_core t.dispatcher.core _ s (λ k. refl)
quiet_found t at (says m) first s h q = quiet_core t.dispatcher.core _ s (λ k. refl)
quiet_found t at acknowledges first s h q = quiet_core t.dispatcher.core _ (change_ring at.ring (takes at.side) s) (λ k. refl) ∙ quiet_taken at first s h (ap said_by q)

-- what is to be shown of a predicate of what circuits stand on
pub record Moves (Q : View → Type 0) : Type 0 where
  pub cores : (n : ℕ) (s : State) → Q (view s) → Q (view (record s { cores = map fresh_core (range_with_len 0 n) }))
  pub link : (a b size : ℕ) (s : State) → not (is_core a s && is_core b s) || (a == b) || has_link a b s ≡ false
      → Q (view s) → Q (view (with_new_link a b size s))
  pub bound : (w : BindByNames) (stations : ℕ) (q : Option Queue) (s : State) → Q (view s) → Q (view (with_new_binding w local stations q s))
  pub ring : (w : BindByNames) (size : ℕ) (s : State) → Q (view s)
      → Q (view (with_new_binding w (over_ring (length s.rings)) 2 None (with_ring size s)))
  pub route : (w : BindByNames) (i : Planned) (cores : List ℕ) (k : Core) (l c : ℕ) (s : State) → IsWanted w i s
      → BeginsRoute w cores k l c s → Q (view s) → Q (view (with_circuit_begun w cores (length s.bindings) l c s))
  pub from_ring : (e : EndId) (b : Binding) (at : RingEnd) (s : State) → binding_of s e ≡ Some b → own_ring e.side b.back ≡ Some at
      → Q (view s) → Q (view (change_ring at.ring (takes at.side) s))
  pub monitor_written : (here : LinkEnd) (link : Link) (m : MonitorLabel) (s : State) (k : IsHere here s)
      → link_between s k.core k.neighbour ≡ Some link → slice_get link.outbox 0 ≡ Some m
      → Q (view s) → Q (view (monitor_writes_by here m there_is_room s).state)
  pub heard : (here : LinkEnd) (m : MonitorLabel) (first : RingLabel) (k : Core) (s : State) → IsHere here s → first_on here.ring s ≡ Some first
      → first.label ≡ says m → core_of s here.core ≡ Some k → Q (view s) → Q (view (after_hearing here (hears s.services here.link m k) s).state)

module _ (Q : View → Type 0) (M : Moves Q) where
  abbrev P : State → Type 0
  P s = Q (view s)

  by_view : (v w : View) → w ≡ v → Q v → Q w
  by_view v w e h = subst Q (sym e) h

  passed_view : (here : LinkEnd) (p : FragAtHop) (first : RingLabel) (on : RingEnd) (s : State) → first_on here.ring s ≡ Some first → first.label ≡ label_of p
      → view (change_ring here.ring.ring (takes here.ring.side) (change_ring on.ring (puts on.side (label_of p)) s)) ≡ view s
  passed_view here p first on s f l =
      quiet_taken here.ring first (change_ring on.ring (puts on.side (label_of p)) s) (first_put (label_of p) here.ring on first s.rings f) (ap said_by l) ∙ quiet_put on (label_of p) s refl

  pub view_keeps : Keeps P
  view_keeps = record {
    settled = λ s h. h;
    interface = λ i s q h. h;
    cores = λ n s q h. M.cores n s h;
    link = λ a b size s q e h. M.link a b size s q h;
    dispatcher = λ core s h. by_view _ _ (quiet_core core _ s (λ k. refl)) h;
    service = λ x s d i q r t h. h;
    queues = λ w i slots s k q h. by_view _ _ (quiet_both (length s.bindings) w (with_new_binding w local 2 (Some (fresh_queue slots)) s)) (M.bound w 2 (Some (fresh_queue slots)) s h);
    ring = λ w i size s k e q h. by_view _ _ (quiet_both (length s.bindings) w (with_new_binding w (over_ring (length s.rings)) 2 None (with_ring size s))) (M.ring w size s h);
    route = λ w i cores k l c s want begins h. M.route w i cores k l c s want begins h;
    called = λ e c b i s at q h. by_view _ _ (quiet_end e _ s) h;
    sure = λ need at s h. by_view _ _ (quiet_ring at.ring _ s (λ r q. sure_sides need at.side r)) h;
    looked = λ at s h. by_view _ _ (quiet_looked at s) h;
    written = λ e b i o s at q r t u h. by_view _ _ (quiet_written e i (end_in e.side b).out o s) h;
    held = λ t b i s d at q h. by_view _ _ (quiet_core t.dispatcher.core _ s (λ k. refl)) h;
    no_label = λ t to s d h. by_view _ _ (quiet_core t.dispatcher.core _ s (λ k. refl)) h;
    from_queue = λ t b i q label s d at u v w h.
        by_view _ _ (quiet_label t.end i label (goes_back t (waits_in (Some (without_first q))) (change_end t.end (in_queue without_first) s)) ∙ quiet_core t.dispatcher.core _ (change_end t.end (in_queue without_first) s) (λ k. refl) ∙ quiet_end t.end _ s) h;
    from_ring = λ t b i at first s d k u v w h.
        by_view _ _ (quiet_label t.end i first.label (goes_back t Polled (change_ring at.ring (takes at.side) s)) ∙ quiet_core t.dispatcher.core _ (change_ring at.ring (takes at.side) s) (λ k. refl)) (M.from_ring t.end b at s k.binding v h);
    found_none = λ t s d h. by_view _ _ (quiet_core t.dispatcher.core _ s (λ k. refl)) h;
    found = λ t b at first s d q r u h.
        by_view _ _ (quiet_found t at first.label first (change_ring at.ring (looks at.side) s) (first_looked at at first s.rings u) refl ∙ quiet_looked at s) h;
    acknowledged = λ at s q h. by_view _ _ (quiet_put at acknowledges s refl) h;
    registered = λ e x s q r t h. by_view _ _ (quiet_channel e _ s) h;
    deregistered = λ e x s q r h. by_view _ _ (quiet_channel e _ s) h;
    ruled = λ e msg answer b i s at h. by_view _ _ (quiet_end e _ s) h;
    monitor_written = λ here link m s k q r t h. M.monitor_written here link m s k q r h;
    heard = λ here m first k s j q r t h. M.heard here m first k s j q r t h;
    passed = λ here p first route hop on s k q h.
        by_view _ _ (quiet_end p.end _ (change_ring here.ring.ring (takes here.ring.side) (change_ring on.ring (puts on.side (label_of p)) s)) ∙ passed_view here p first on s k.first_is k.label_is) h;
    arrived = λ here p first route hop to s k q h.
        by_view _ _ (quiet_end p.end _ (change_ring here.ring.ring (takes here.ring.side) (delivers (label_of p) to s))
        ∙ quiet_taken here.ring first (delivers (label_of p) to s) (first_delivered here.ring first (label_of p) to s k.first_is) (ap said_by k.label_is)
        ∙ quiet_delivers (label_of p) to s) h;
    taken = λ here first s k q r h. by_view _ _ (quiet_taken here.ring first s q (ap said_by r)) h;
  }
