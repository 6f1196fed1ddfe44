-- Events that leave labels where they stand, put or take one of no call, or make a binding.
use Rattle.std.proofs.Common.{◌≡◌, ◌≢◌, refl, sym, ◌∙◌, ap, subst, ℕ, zero, suc, List, [], ◌∷◌, ◌++◌, length, replicate, slice_get, Option, Some, None, ◌⊎◌, inl, inr}
use Rattle.std.specs.Prelude.{slice_index}
use Rattle.fl_base.specs.declared.identity.EndId.{EndId}
use Rattle.fl_base.specs.declared.identity.Side.{Side}
use Rattle.fl_base.specs.declared.identity.Side.TheVariants.{Client, Server}
use Rattle.fl_base.specs.Given.{given}
use Rattle.fl_model.specs.Given.{changed_at}
use Rattle.fl_model.specs.Events.{DispatcherId}
use Rattle.fl_model.specs.Rings.{Label, says, acknowledges, RingLabel, Ring, RingEnd, fresh_ring, MonitorLabel}
use Rattle.fl_model.specs.Ends.{Queue, End}
use Rattle.fl_model.specs.Waits.{Dispatcher}
use Rattle.fl_model.specs.Monitors.{Core, Heard, no_outbox, misrouted, opening_went_on, server_made, opening_failed, answer_went_on, end_opened, end_refused}
use Rattle.fl_model.specs.State.{Back, local, over_ring, over_route, Route, Binding, State, first_on, dispatcher_of, end_of, end_in, change_core, change_ring, change_end, change_channel, change_route, with_end_in, in_route, seats, binds_end, change_dispatcher, own_ring}
use Rattle.fl_model.specs.Binding.{BindByNames, end_id, with_new_binding, binds_both}
use Rattle.fl_model.specs.Forwarding.{follows, with_number, grants, denies, passes_word}
use Rattle.fl_model.specs.Standing.{picked, number_of}
use Rattle.fl_model.specs.SoundPlaces.{Owner, core_to, this_end}
use Rattle.fl_model_laws.proofs.Cases.{by_given, Each, each_push}
use Rattle.fl_model_laws.proofs.BindingWalk.{new_binding}
use Rattle.fl_model_laws.proofs.Ends.{changed_alike}
use Rattle.fl_model_laws.proofs.Places.{Linked, ring_of, turned, none_same, with_none, with_joined, joined_stays, joined_comes}
use Rattle.fl_model_laws.proofs.PlacesStep.{plan_of, plan_route, plan_quiet, end_planned, joined_push, three, length_push}
use Rattle.fl_model_laws.proofs.Quiet.{quiet_core, quiet_end, quiet_channel, quiet_seats}
use Rattle.fl_model_laws.proofs.Ready.{get_last}
use Rattle.fl_model_laws.proofs.RingsKept.{channel_rings, seats_rings}
use Rattle.fl_model_laws.proofs.Scenes.{joint_of, flow_of, Flow, Sight, sight_of, flow_in, seen, sights, labels_at, reads, Suits, Good, Joint, over}
use Rattle.fl_model_laws.proofs.ScenesKept.{quiet_good, NewOne, new_good, picked_same, picked_without}
use Rattle.fl_model_laws.proofs.ReadsKept.{PutOn, TakenOff, put_cases, take_cases, first_read, OneMore}
use Rattle.fl_model_laws.proofs.Walk.{with_ring}
use Rattle.fl_model_laws.proofs.Small.{each_drop}

abbrev pub GoodIn : State → Type 0
GoodIn s = Good (reads s) (sights s)

-- ---- nothing of labels changes

pub record Quietly (s t : State) : Type 0 where
  pub plan : plan_of t ≡ plan_of s
  pub rings : t.rings ≡ s.rings
  pub sights : (n : ℕ) → sights t n ≡ sights s n

pub quiet : (s t : State) → Quietly s t → GoodIn s → GoodIn t
quiet s t k h =
    quiet_good (reads s) (reads t) (sights s) (sights t) k.sights (λ o. subst (Each (Suits (sights s) o)) (sym (same o)) (h.reads o)) (λ o e. ap (picked e) (same o)) h
  where
    same : (o : Owner) → reads t o ≡ reads s o
    same o = ap (λ p. given (ring_of p o) [] (labels_at t.rings)) k.plan ∙ ap (λ rs. given (ring_of (plan_of s) o) [] (labels_at rs)) k.rings

pub as_it_was : (s : State) → Quietly s s
as_it_was s = record { plan = refl; rings = refl; sights = λ n. refl }

pub and_then : (s t u : State) → Quietly s t → Quietly t u → Quietly s u
and_then s t u a b = record { plan = b.plan ∙ a.plan; rings = b.rings ∙ a.rings; sights = λ n. b.sights n ∙ a.sights n }

two_flows : (j : Joint) (a b c d : Flow) → a ≡ c → b ≡ d
    → record { joint = j; client = a; server = b } ≡ (let x : Sight = record { joint = j; client = c; server = d } in x)
two_flows j a b c d p q = cc

pub end_sight : (side : Side) (f : End → End) (b : Binding) → flow_of (f (end_in side b)) ≡ flow_of (end_in side b) → sight_of (with_end_in side f b) ≡ sight_of b
end_sight Client f b h = two_flows (joint_of b.back) _ _ _ _ h refl
end_sight Server f b h = two_flows (joint_of b.back) _ _ _ _ refl h

pub quiet_at_end : (e : EndId) (f : End → End) (s : State) → ((x : End) → flow_of (f x) ≡ flow_of x) → Quietly s (change_end e f s)
quiet_at_end e f s h = record {
  plan = plan_quiet s (change_end e f s) (quiet_end e f s);
  rings = refl;
  sights = λ n. changed_alike seen s.bindings n e.binding (with_end_in e.side f) (λ b. ap (λ x. Some x) (end_sight e.side f b (h (end_in e.side b))));
}

pub quiet_at_core : (n : ℕ) (f : Core → Core) (s : State) → plan_of (change_core n f s) ≡ plan_of s → Quietly s (change_core n f s)
quiet_at_core n f s h = record { plan = h; rings = refl; sights = λ m. refl }

pub quiet_at_dispatcher : (d : DispatcherId) (f : Dispatcher → Dispatcher) (s : State) → Quietly s (change_dispatcher d f s)
quiet_at_dispatcher d f s =
    quiet_at_core d.core (λ k. record k { dispatchers = changed_at d.place f k.dispatchers }) s
    (plan_quiet s (change_dispatcher d f s) (quiet_core d.core (λ k. record k { dispatchers = changed_at d.place f k.dispatchers }) s (λ k. refl)))

pub channel_bindings : (e : EndId) (f : ℕ → End → Dispatcher → Dispatcher) (s : State) → (change_channel e f s).bindings ≡ s.bindings
channel_bindings e f s =
    by_given (λ (t : State). t.bindings ≡ s.bindings) (end_of s e) _ _ refl
    (λ x q. by_given (λ (t : State). t.bindings ≡ s.bindings) x.seat _ _ refl (λ seat r. refl))

pub quiet_at_channel : (e : EndId) (f : ℕ → End → Dispatcher → Dispatcher) (s : State) → Quietly s (change_channel e f s)
quiet_at_channel e f s = record {
  plan = plan_quiet s (change_channel e f s) (quiet_channel e f s);
  rings = channel_rings e f s;
  sights = λ n. ap (λ (bs : List Binding). seen (slice_get bs n)) (channel_bindings e f s);
}

pub quiet_seating : (d : DispatcherId) (e : EndId) (s : State) → Quietly s (seats d e s)
quiet_seating d e s = record {
  plan = plan_quiet s (seats d e s) (quiet_seats d e s);
  rings = seats_rings d e s;
  sights = λ n. by_given (λ (t : State). sights t n ≡ sights s n) (dispatcher_of s d) _ _ refl
      (λ x q. (quiet_at_end e (λ y. record y { seat = Some (record { dispatcher = d; channel = length x.ends }) }) s (λ y. refl)).sights n);
}

pub quiet_binding_end : (e : EndId) (circuit : ℕ) (s : State) → Quietly s (binds_end e circuit s)
quiet_binding_end e circuit s =
    let t : State = change_end e (λ x. record x { circuit = Some circuit }) s in
    and_then s t (binds_end e circuit s) (quiet_at_end e (λ x. record x { circuit = Some circuit }) s (λ x. refl)) (quiet_at_channel e _ t)

pub quiet_binding_both : (n : ℕ) (w : BindByNames) (s : State) → Quietly s (binds_both n w s)
quiet_binding_both n w s =
    let c : EndId = end_id n Client in
    let v : EndId = end_id n Server in
    let first : State = seats w.client c s in
    let second : State = seats w.service.dispatcher v first in
    let third : State = binds_end c 0 second in
    and_then s first (binds_both n w s) (quiet_seating w.client c s)
    (and_then first second (binds_both n w s) (quiet_seating w.service.dispatcher v first)
    (and_then second third (binds_both n w s) (quiet_binding_end c 0 second) (quiet_binding_end v 0 third)))

route_joint : (f : Route → Route) (back : Back) → ((r : Route) → (f r).cores ≡ r.cores) → joint_of (in_route f back) ≡ joint_of back
route_joint f local h = refl
route_joint f (over_ring n) h = refl
route_joint f (over_route route) h = ap (λ cores. over cores) (h route)

pub quiet_at_route : (n : ℕ) (f : Route → Route) (s : State) → ((r : Route) → (f r).cores ≡ r.cores) → Quietly s (change_route n f s)
quiet_at_route n f s h = record {
  plan = plan_route n f s;
  rings = refl;
  sights = λ m. changed_alike seen s.bindings m n (λ b. record b { back = in_route f b.back })
      (λ b. ap (λ j. Some (let x : Sight = record { joint = j; client = flow_of b.client; server = flow_of b.server } in x)) (route_joint f b.back h));
}

pub quiet_follows : (x : Heard) (s : State) → Quietly s (follows x s).state
quiet_follows no_outbox s = as_it_was s
quiet_follows misrouted s = as_it_was s
quiet_follows (opening_went_on n c) s = quiet_at_route n (with_number c) s (λ r. refl)
quiet_follows (server_made n d c) s =
    let t : State = change_route n grants s in
    let u : State = seats d (end_id n Server) t in
    and_then s t (binds_end (end_id n Server) c u) (quiet_at_route n grants s (λ r. refl))
    (and_then t u (binds_end (end_id n Server) c u) (quiet_seating d (end_id n Server) t) (quiet_binding_end (end_id n Server) c u))
quiet_follows (opening_failed n fault) s = quiet_at_route n (denies fault) s (λ r. refl)
quiet_follows (answer_went_on n) s = quiet_at_route n passes_word s (λ r. refl)
quiet_follows (end_opened e c) s =
    let t : State = change_route e.binding passes_word s in
    and_then s t (binds_end e c t) (quiet_at_route e.binding passes_word s (λ r. refl)) (quiet_binding_end e c t)
quiet_follows (end_refused e fault) s = quiet_at_route e.binding passes_word s (λ r. refl)

-- ---- labels of no call

pub quiet_put : (s t : State) (at : RingEnd) (l : Label) → PutOn s t at l → ((n : ℕ) → sights t n ≡ sights s n) → Linked (plan_of s)
    → ((x : Owner) → ring_of (plan_of s) x ≡ Some (turned at) → Suits (sights s) x l) → ((e : EndId) → number_of e l ≡ None) → GoodIn s → GoodIn t
quiet_put s t at l k same linked suits none h = quiet_good (reads s) (reads t) (sights s) (sights t) same read alike h
  where
    read : (o : Owner) → Each (Suits (sights s) o) (reads t o)
    read o = elim (put_cases s t at l o k linked) [
      | inl e ↦ subst (Each (Suits (sights s) o)) (sym e) (h.reads o)
      | inr (q, e) ↦ subst (Each (Suits (sights s) o)) (sym e) (each_push (Suits (sights s) o) (reads s o) l (h.reads o) (suits o q))
    ]

    alike : (o : Owner) (e : EndId) → picked e (reads t o) ≡ picked e (reads s o)
    alike o e = elim (put_cases s t at l o k linked) [
      | inl q ↦ ap (picked e) q
      | inr (r, q) ↦ ap (picked e) q ∙ picked_same e (reads s o) l (none e)
    ]

pub quiet_take : (s t : State) (at : RingEnd) (first : RingLabel) → TakenOff s t at → ((n : ℕ) → sights t n ≡ sights s n) → first_on at s ≡ Some first
    → ((e : EndId) → number_of e first.label ≡ None) → GoodIn s → GoodIn t
quiet_take s t at first k same there none h = quiet_good (reads s) (reads t) (sights s) (sights t) same read alike h
  where
    read : (o : Owner) → Each (Suits (sights s) o) (reads t o)
    read o = elim (take_cases s t at o k) [
      | inl e ↦ subst (Each (Suits (sights s) o)) (sym e) (h.reads o)
      | inr (q, e) ↦ subst (Each (Suits (sights s) o)) (sym e) (each_drop (Suits (sights s) o) (reads s o) (h.reads o))
    ]

    alike : (o : Owner) (e : EndId) → picked e (reads t o) ≡ picked e (reads s o)
    alike o e = elim (take_cases s t at o k) [
      | inl q ↦ ap (picked e) q
      | inr (r, q) ↦ ap (picked e) q ∙ picked_without e (reads s o) first.label (first_read s at o first r there) (none e)
    ]

pub no_call_said : (l : Label) (m : MonitorLabel) → l ≡ says m → (e : EndId) → number_of e l ≡ None
no_call_said l m q e = ap (number_of e) q

pub no_call_told : (l : Label) → l ≡ acknowledges → (e : EndId) → number_of e l ≡ None
no_call_told l q e = ap (number_of e) q

pub good_seen : (n : ℕ) (f : Ring → Ring) (s : State) → ((x : Owner) → reads (change_ring n f s) x ≡ reads s x) → GoodIn s → GoodIn (change_ring n f s)
good_seen n f s same h =
    quiet_good (reads s) (reads (change_ring n f s)) (sights s) (sights s) (λ m. refl) (λ o. subst (Each (Suits (sights s) o)) (sym (same o)) (h.reads o))
    (λ o e. ap (picked e) (same o)) h

-- ---- a binding is made

push_else : {X : Type 0} (xs : List X) (y : X) (m : ℕ) → m ≢ length xs → slice_get (xs ++ y ∷ []) m ≡ slice_get xs m
push_else [] y zero h = absurd (h refl)
push_else [] y (suc m) h = refl
push_else (x ∷ xs) y zero h = refl
push_else (x ∷ xs) y (suc m) h = push_else xs y m (λ e. h (ap suc e))

pub none_at_length : {X : Type 0} (xs : List X) → slice_get xs (length xs) ≡ None
none_at_length [] = refl
none_at_length (x ∷ xs) = none_at_length xs

zeros : (n j : ℕ) → slice_index (replicate n 0) j ≡ 0
zeros zero j = refl
zeros (suc n) zero = refl
zeros (suc n) (suc j) = zeros n j

pub made_new : (w : BindByNames) (back : Back) (stations : ℕ) (o : Option Queue) (s : State) → given o [] (λ (q : Queue). q.labels) ≡ []
    → NewOne (sights s) (sights (with_new_binding w back stations o s)) (length s.bindings) (sight_of (new_binding w back stations o))
made_new w back stations o s h = record {
  none = ap seen (none_at_length s.bindings);
  made = ap seen (get_last s.bindings (new_binding w back stations o));
  rest = λ m d. ap seen (push_else s.bindings (new_binding w back stations o) m d);
  passed = passed;
  queue = queue;
}
  where
    passed : (side : Side) (j : ℕ) → slice_index (flow_in side (sight_of (new_binding w back stations o))).passed j ≡ 0
    passed Client j = zeros stations j
    passed Server j = zeros stations j

    queue : (side : Side) → (flow_in side (sight_of (new_binding w back stations o))).queue ≡ []
    queue Client = h
    queue Server = h

nothing_read : (s : State) (e : EndId) → e.binding ≡ length s.bindings → reads s (this_end e) ≡ []
nothing_read s e d =
    ap (λ (o : Option RingEnd). given o [] (labels_at s.rings))
    (end_planned s e ∙ ap (λ (o : Option Binding). given o None (λ b. own_ring e.side b.back)) (ap (slice_get s.bindings) d ∙ none_at_length s.bindings))

pub good_new : (w : BindByNames) (back : Back) (stations : ℕ) (o : Option Queue) (s t : State) → given o [] (λ (q : Queue). q.labels) ≡ []
    → t.bindings ≡ s.bindings → ((x : Owner) → reads (with_new_binding w back stations o t) x ≡ reads s x) → GoodIn s → GoodIn (with_new_binding w back stations o t)
good_new w back stations o s t h same read good =
    new_good (reads s) (reads (with_new_binding w back stations o t)) (sights s) (sights (with_new_binding w back stations o t)) (length s.bindings)
    (sight_of (new_binding w back stations o))
    (subst (λ (bs : List Binding). NewOne (λ n. seen (slice_get bs n)) (λ n. seen (slice_get (t.bindings ++ new_binding w back stations o ∷ []) n)) (length bs) (sight_of (new_binding w back stations o)))
    same (made_new w back stations o t h))
    read (λ e d. nothing_read s e d) good

pub same_reads : (w : BindByNames) (back : Back) (stations : ℕ) (o : Option Queue) (s : State)
    → plan_of (with_new_binding w back stations o s) ≡ with_none (plan_of s) → (x : Owner) → reads (with_new_binding w back stations o s) x ≡ reads s x
same_reads w back stations o s h x =
    ap (λ p. given (ring_of p x) [] (labels_at s.rings)) h ∙ ap (λ r. given r [] (labels_at s.rings)) (none_same (plan_of s) x)

pub local_plan : (w : BindByNames) (stations : ℕ) (o : Option Queue) (s : State) → plan_of (with_new_binding w local stations o s) ≡ with_none (plan_of s)
local_plan w stations o s = three _ _ _ _ _ _ refl refl (joined_push _ s)

pub route_plan : (w : BindByNames) (route : Route) (stations : ℕ) (o : Option Queue) (s : State) → plan_of (with_new_binding w (over_route route) stations o s) ≡ with_none (plan_of s)
route_plan w route stations o s = three _ _ _ _ _ _ refl refl (joined_push _ s)

ring_plan : (w : BindByNames) (size : ℕ) (s : State) → plan_of (with_new_binding w (over_ring (length s.rings)) 2 None (with_ring size s)) ≡ with_joined (plan_of s)
ring_plan w size s = three _ _ _ _ _ _ refl (length_push s.rings (fresh_ring size)) (joined_push _ s)

pub ring_more : (w : BindByNames) (size : ℕ) (s : State) → OneMore s (with_new_binding w (over_ring (length s.rings)) 2 None (with_ring size s))
ring_more w size s = record {
  size = size;
  rings = refl;
  stays = λ x at q. ap (λ p. ring_of p x) (ring_plan w size s) ∙ stays x at q;
  comes = λ x at q. comes x at (sym (ap (λ p. ring_of p x) (ring_plan w size s)) ∙ q);
}
  where
    stays : (x : Owner) (at : RingEnd) → ring_of (plan_of s) x ≡ Some at → ring_of (with_joined (plan_of s)) x ≡ Some at
    stays (core_to a b) at e = e
    stays (this_end f) at e = joined_stays (plan_of s).joined f.binding (Some (length s.rings)) f.side at e

    comes : (x : Owner) (at : RingEnd) → ring_of (with_joined (plan_of s)) x ≡ Some at → (ring_of (plan_of s) x ≡ Some at) ⊎ (at.ring ≡ length s.rings)
    comes (core_to a b) at e = inl e
    comes (this_end f) at e = elim (joined_comes (plan_of s).joined f.binding (length s.rings) f.side at e) [
      | inl k ↦ inl k
      | inr (k, l) ↦ inr (ap (λ (z : RingEnd). z.ring) k)
    ]
