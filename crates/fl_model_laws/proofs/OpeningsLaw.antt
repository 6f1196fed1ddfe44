-- The openings that are under way are in order: kept by each step, and so in every run.
use Rattle.std.proofs.Common.{◌≡◌, refl, sym, ◌∙◌, ap, subst, ℕ, zero, suc, ◌+◌, List, [], ◌∷◌, ◌++◌, length, map, slice_get, Option, Some, None, arith}
use Rattle.std.specs.Prelude.{filter_map}
use Rattle.std.specs.List.{range_with_len}
use Rattle.fl_base.specs.declared.identity.Side.TheVariants.{Server}
use Rattle.fl_hop.specs.declared.links.LinkState.{LinkState}
use Rattle.fl_hop.specs.declared.entry.Hop.{Hop}
use Rattle.fl_hop.specs.declared.entry.HopTarget.{HopTarget}
use Rattle.fl_hop.specs.declared.entry.HopTarget.TheVariants.{Link as to_link, End as to_end}
use Rattle.fl_hop.specs.Table.{TheCircuits, hop_at}
use Rattle.fl_hop.specs.Numbers.{next_own, after_taking, count_taking}
use Rattle.fl_hop.proofs.Lists.{at_within, within}
use Rattle.fl_model.specs.Given.{changed_at}
use Rattle.fl_model.specs.Rings.{MonitorLabel, open_circuit, circuit_opened, circuit_refused, OpeningLabel, says, RingSide, first_side, second_side, RingEnd, Ring, RingLabel, read_by, puts, takes}
use Rattle.fl_model.specs.Monitors.{Core, Link, says_more, link_to, opens, with_said, with_circuits}
use Rattle.fl_model.specs.State.{State, first_on, core_of, change_core, change_ring, link_between, seats}
use Rattle.fl_model.specs.Binding.{with_new_binding, with_circuit_begun, end_id}
use Rattle.fl_model.specs.Forwarding.{LinkEnd, without_first_said}
use Rattle.fl_model.specs.Standing.{opening_number, said_by}
use Rattle.fl_model_laws.proofs.Cases.{by_given, either}
use Rattle.fl_model_laws.proofs.RingsKept.{seats_rings}
use Rattle.fl_model_laws.proofs.Views.{View, Part, part_of, sides_of, messages, view, map_changed}
use Rattle.fl_model_laws.proofs.Quiet.{quiet_seats}
use Rattle.fl_model_laws.proofs.Walk.{IsHere}
use Rattle.fl_model_laws.proofs.PlacesStep.{LinkedView, given_some, same_some, opening_counted, taking_counted}
use Rattle.fl_model_laws.proofs.LinkSides.{LinkSide, link_side_of, link_sides, link_side_in, link_side_is, Goes, openings, side_openings}
use Rattle.fl_model_laws.proofs.OpeningsStep.{part_link_side, ring_openings, OrderOf, Numbered}
use Rattle.fl_model_laws.proofs.OpeningsMoves.{changed_twice, waits_more, said_link_sides, answer_link_sides, opens_more, opening_link_sides, taking_link_sides, even_parts}
use Rattle.fl_model.specs.Events.{DispatcherId}
use Rattle.fl_model.specs.Waits.{has_places}
use Rattle.fl_model.specs.Monitors.{Fate, goes_on, ends_at, fails, fate, arrival, passage, next_on, service_of, Service, Heard, no_outbox, misrouted, opening_went_on, server_made, opening_failed, answer_went_on, end_opened, end_refused, Hearing, hears, hears_opening, hears_opened, hears_refused, saying, can_say, goes_misrouted}
use Rattle.fl_model.specs.State.{change_route}
use Rattle.fl_model.specs.Forwarding.{follows, takes_said, after_hearing, grants, passes_word}
use Rattle.fl_model.specs.Rings.{fresh_ring}
use Rattle.fl_model_laws.proofs.RingsKept.{channel_rings}
use Rattle.fl_model_laws.proofs.Quiet.{quiet_binds}
use Rattle.fl_model_laws.proofs.OpeningsKept.{alters_from, alters_so, part_there, link_side_link_sides, same_opening, both_orders, AtLink, at_link, here_link_side, here_ring}
use Rattle.fl_model.specs.Events.{Event}
use Rattle.fl_model.specs.State.{start, local, over_ring}
use Rattle.fl_model.specs.Runs.{reached}
use Rattle.fl_model.specs.Step.{step}
use Rattle.fl_model.specs.Making.{with_new_link}
use Rattle.fl_model.specs.Standing.{link_state, under_way, on_link, unread, labels_of}
use Rattle.fl_model.specs.SoundPlaces.{CoresStand, EndsStand, LinksArePaired, RingsHaveOneOwner}
use Rattle.fl_model.specs.SoundOpenings.{OpeningsGoInOrder}
use Rattle.std.proofs.lemmas.List.Elements.{filter_map-append}
use Rattle.fl_base.specs.Given.{given}
use Rattle.fl_base.specs.Numbered.{link_id, circuit_id}
use Rattle.fl_model_laws.proofs.Quiet.{Moves, view_keeps}
use Rattle.fl_model_laws.proofs.Walk.{Keeps, with_ring, step_keeps, run_keeps}
use Rattle.fl_model_laws.proofs.Start.{start_is_sound}
use Rattle.fl_model_laws.proofs.PlacesStep.{places_move, plan_viewed, to_linked}
use Rattle.fl_model_laws.proofs.Places.{Linked}
use Rattle.fl_model_laws.proofs.OpeningsStep.{Flowing, order_of, of_order, numbered_set, pushed_order, fresh_numbered, fresh_order, part_linked}
use Rattle.fl_model_laws.proofs.OpeningsMoves.{link_order, linked_parts, owned_order}
use Rattle.fl_model_laws.proofs.LinkSides.{link_side_is}
use Rattle.fl_model_laws.proofs.Views.{given_map}
use Rattle.fl_model_laws.proofs.OpeningsKept.{begun_parts, begun_order, monitor_order}
use Rattle.fl_model_laws.proofs.OpeningsHeard.{Hears, hears_here, Set, left_ok, answer_ok, taken_ok, passed_ok, taken_rings, set_parts}

abbrev heard_state : LinkEnd → State → Hearing → State
heard_state here s h = takes_said here.ring h.heard (change_core here.core (λ y. h.core) s)

abbrev HearOk : LinkEnd → State → Hearing → Type 0
HearOk here s h = OrderOf (map part_of (heard_state here s h).cores) (heard_state here s h).rings

saying_ok : (here : LinkEnd) (s : State) (k : Core) (m : MonitorLabel) (l : ℕ) (msg : MonitorLabel) (t : TheCircuits) (x : Heard) → Hears here s k m
    → ((u : State) → takes_said here.ring x u ≡ change_ring here.ring.ring (takes here.ring.side) u) → Set here s (with_said l msg (with_circuits t k)) (taken_rings here s)
    → HearOk here s (saying l msg t x k)
saying_ok here s k m l msg t x h e good =
    either (HearOk here s) (can_say l k) (record { core = with_said l msg (with_circuits t k); heard = x }) (record { core = k; heard = no_outbox })
    (λ q. subst (λ (u : State). OrderOf (map part_of u.cores) u.rings) (sym (e (change_core here.core (λ y. with_said l msg (with_circuits t k)) s))) good)
    (λ q. left_ok here s k m h)

fails_ok : (here : LinkEnd) (s : State) (k : Core) (o : OpeningLabel) (fault : ℕ) → Hears here s k (open_circuit o) → HearOk here s (hears_opening here.link o (fails fault) k)
fails_ok here s k o fault h =
    let us = k.circuits.links in
    saying_ok here s k (open_circuit o) here.link (circuit_refused o.circuit fault) (after_taking k.circuits here.link) (opening_failed o.binding fault) h (λ u. refl)
    (taken_ok here s k _ (open_circuit o) o.circuit h refl (taking_counted us here.link)
    (answer_link_sides (circuit_refused o.circuit fault) (count_taking us here.link) k.links here.link refl ∙ taking_link_sides us k.links here.link))

ends_ok : (here : LinkEnd) (s : State) (k : Core) (o : OpeningLabel) (d : DispatcherId) → Hears here s k (open_circuit o) → HearOk here s (hears_opening here.link o (ends_at d) k)
ends_ok here s k o d h =
    let us = k.circuits.links in
    saying_ok here s k (open_circuit o) here.link (circuit_opened o.circuit) _ (server_made o.binding d o.circuit) h (λ u. refl)
    (taken_ok here s k _ (open_circuit o) o.circuit h refl (taking_counted us here.link)
    (answer_link_sides (circuit_opened o.circuit) (count_taking us here.link) k.links here.link refl ∙ taking_link_sides us k.links here.link))

goes_ok : (here : LinkEnd) (s : State) (k : Core) (o : OpeningLabel) (next l d : ℕ) → Hears here s k (open_circuit o) → link_to next k ≡ Some l → next_own k.circuits l ≡ Some d
    → HearOk here s (hears_opening here.link o (goes_on l d) k)
goes_ok here s k o next l d h to own =
    let us = k.circuits.links in
    let msg : MonitorLabel = open_circuit (record o { circuit = d }) in
    saying_ok here s k (open_circuit o) l msg _ (opening_went_on o.binding d) h (λ u. refl)
    (passed_ok here s k _ (open_circuit o) o.circuit next l d h refl to own (opening_counted (count_taking us here.link) l ∙ taking_counted us here.link)
    (opening_link_sides (count_taking us here.link) (changed_at l (says_more msg) k.links) l
    ∙ ap (changed_at l opens_more) (said_link_sides msg (count_taking us here.link) k.links l)
    ∙ changed_twice opens_more (waits_more (d ∷ [])) (link_sides (count_taking us here.link) k.links) l
    ∙ ap (changed_at l (λ z. opens_more (waits_more (d ∷ []) z))) (taking_link_sides us k.links here.link)))

abbrev FateOk : LinkEnd → State → Core → OpeningLabel → Fate → Type 0
FateOk here s k o f = HearOk here s (hears_opening here.link o f k)

opening_ok : (here : LinkEnd) (s : State) (k : Core) (o : OpeningLabel) (services : List Service) → Hears here s k (open_circuit o) → HearOk here s (hears_opening here.link o (fate services o k) k)
opening_ok here s k o services h =
    by_given (FateOk here s k o) (next_on o.path k.circuits.core) (arrival services o.service k) (λ next. passage next k)
    (by_given (FateOk here s k o) (service_of services o.service) (fails 70) _ (fails_ok here s k o 70 h)
    (λ x q. by_given (FateOk here s k o) (slice_get k.dispatchers x.dispatcher.place) (fails 70) _ (fails_ok here s k o 70 h)
    (λ d r. either (FateOk here s k o) (has_places 1 d) (ends_at x.dispatcher) (fails 54) (λ t. ends_ok here s k o x.dispatcher h) (λ t. fails_ok here s k o 54 h))))
    (λ next q. by_given (FateOk here s k o) (link_to next k) (fails 73) _ (fails_ok here s k o 73 h)
    (λ l r. by_given (FateOk here s k o) (next_own k.circuits l) (fails 74) _ (fails_ok here s k o 74 h) (λ d t. goes_ok here s k o next l d h r t)))

opened_ok : (here : LinkEnd) (s : State) (k : Core) (c : ℕ) (hop : Hop) (way : HopTarget) → Hears here s k (circuit_opened c) → HearOk here s (hears_opened here.link c hop way k)
opened_ok here s k c hop (to_link m d) h =
    saying_ok here s k (circuit_opened c) m.0 (circuit_opened d.0) _ (answer_went_on hop.binding) h (λ u. refl)
    (answer_ok here s k _ (circuit_opened c) h refl refl (answer_link_sides (circuit_opened d.0) k.circuits.links k.links m.0 refl))
opened_ok here s k c hop (to_end e) h = answer_ok here s k _ (circuit_opened c) h refl refl refl

refused_ok : (here : LinkEnd) (s : State) (k : Core) (c fault : ℕ) (hop : Hop) (way : HopTarget) → Hears here s k (circuit_refused c fault) → HearOk here s (hears_refused here.link c fault hop way k)
refused_ok here s k c fault hop (to_link m d) h =
    saying_ok here s k (circuit_refused c fault) m.0 (circuit_refused d.0 fault) _ (answer_went_on hop.binding) h (λ u. refl)
    (answer_ok here s k _ (circuit_refused c fault) h refl refl (answer_link_sides (circuit_refused d.0 fault) k.circuits.links k.links m.0 refl))
refused_ok here s k c fault hop (to_end e) h = answer_ok here s k _ (circuit_refused c fault) h refl refl refl

hears_ok : (here : LinkEnd) (s : State) (k : Core) (services : List Service) (m : MonitorLabel) → Hears here s k m → HearOk here s (hears services here.link m k)
hears_ok here s k services (open_circuit o) h = opening_ok here s k o services h
hears_ok here s k services (circuit_opened c) h =
    by_given (HearOk here s) (hop_at k.circuits here.link c) (goes_misrouted k) _ (left_ok here s k (circuit_opened c) h) (λ hop q. opened_ok here s k c hop hop.way h)
hears_ok here s k services (circuit_refused c fault) h =
    by_given (HearOk here s) (hop_at k.circuits here.link c) (goes_misrouted k) _ (left_ok here s k (circuit_refused c fault) h) (λ hop q. refused_ok here s k c fault hop hop.way h)

-- ---- what follows

follows_parts : (x : Heard) (t : State) → map part_of (follows x t).state.cores ≡ map part_of t.cores
follows_parts no_outbox t = refl
follows_parts misrouted t = refl
follows_parts (opening_went_on n c) t = refl
follows_parts (server_made n d c) t =
    let e = end_id n Server in
    let u : State = change_route n grants t in
    ap (λ (v : View). v.parts) (quiet_binds e c (seats d e u) ∙ quiet_seats d e u)
follows_parts (opening_failed n fault) t = refl
follows_parts (answer_went_on n) t = refl
follows_parts (end_opened e c) t = ap (λ (v : View). v.parts) (quiet_binds e c (change_route e.binding passes_word t))
follows_parts (end_refused e fault) t = refl

pub follows_rings : (x : Heard) (t : State) → (follows x t).state.rings ≡ t.rings
follows_rings no_outbox t = refl
follows_rings misrouted t = refl
follows_rings (opening_went_on n c) t = refl
follows_rings (server_made n d c) t = channel_rings (end_id n Server) _ _ ∙ seats_rings d (end_id n Server) (change_route n grants t)
follows_rings (opening_failed n fault) t = refl
follows_rings (answer_went_on n) t = refl
follows_rings (end_opened e c) t = channel_rings e _ _
follows_rings (end_refused e fault) t = refl

said_parts : (at : RingEnd) (x : Heard) (t : State) → (takes_said at x t).cores ≡ t.cores
said_parts at no_outbox t = refl
said_parts at misrouted t = refl
said_parts at (opening_went_on n c) t = refl
said_parts at (server_made n d c) t = refl
said_parts at (opening_failed n fault) t = refl
said_parts at (answer_went_on n) t = refl
said_parts at (end_opened e c) t = refl
said_parts at (end_refused e fault) t = refl

-- a core stays itself
abbrev SameCore : Core → Hearing → Type 0
SameCore k h = h.core.circuits.core ≡ k.circuits.core

saying_core : (l : ℕ) (m : MonitorLabel) (t : TheCircuits) (x : Heard) (k : Core) → t.core ≡ k.circuits.core → SameCore k (saying l m t x k)
saying_core l m t x k e = either (SameCore k) (can_say l k) _ _ (λ q. e) (λ q. refl)

fate_core : (l : ℕ) (o : OpeningLabel) (f : Fate) (k : Core) → SameCore k (hears_opening l o f k)
fate_core l o (goes_on m n) k = saying_core m _ _ _ k refl
fate_core l o (ends_at d) k = saying_core l _ _ _ k refl
fate_core l o (fails fault) k = saying_core l _ _ _ k refl

opened_core : (l c : ℕ) (hop : Hop) (way : HopTarget) (k : Core) → SameCore k (hears_opened l c hop way k)
opened_core l c hop (to_link m d) k = saying_core m.0 _ _ _ k refl
opened_core l c hop (to_end e) k = refl

refused_core : (l c fault : ℕ) (hop : Hop) (way : HopTarget) (k : Core) → SameCore k (hears_refused l c fault hop way k)
refused_core l c fault hop (to_link m d) k = saying_core m.0 _ _ _ k refl
refused_core l c fault hop (to_end e) k = refl

hears_core : (services : List Service) (l : ℕ) (m : MonitorLabel) (k : Core) → SameCore k (hears services l m k)
hears_core services l (open_circuit o) k = fate_core l o (fate services o k) k
hears_core services l (circuit_opened c) k = by_given (SameCore k) (hop_at k.circuits l c) _ _ refl (λ hop q. opened_core l c hop hop.way k)
hears_core services l (circuit_refused c fault) k = by_given (SameCore k) (hop_at k.circuits l c) _ _ refl (λ hop q. refused_core l c fault hop hop.way k)

heard_flows : (here : LinkEnd) (m : MonitorLabel) (first : RingLabel) (k : Core) (s : State) → IsHere here s → first_on here.ring s ≡ Some first → first.label ≡ says m
    → core_of s here.core ≡ Some k → Flowing (view s) → Flowing (view (after_hearing here (hears s.services here.link m k) s).state)
heard_flows here m first k s j q r t h =
    let x : Hearing = hears s.services here.link m k in
    let u : State = heard_state here s x in
    let final : State = (follows x.heard u).state in
    let ps : List Part = map part_of s.cores in
    let ctx = hears_here here m first k s j q r t h.linked h.cores (order_of s h.order) in
    let parts : map part_of final.cores ≡ changed_at here.core (λ p. part_of x.core) ps =
    follows_parts x.heard u ∙ ap (map part_of) (said_parts here.ring x.heard (change_core here.core (λ y. x.core) s)) ∙ set_parts here.core x.core s in
    record {
      linked = places_move.heard here m first k s j q r t h.linked;
      cores = subst Numbered (sym parts) (numbered_set ps here.core (λ p. part_of x.core)
          (λ p e. hears_core s.services here.link m k ∙ ap (λ (y : Part). y.circuits.core) (same_some (slice_get ps here.core) (part_of k) p (part_there s here.core k t) e)) h.cores);
      order = of_order final (both_orders (map part_of u.cores) (map part_of final.cores) u.rings final.rings (follows_parts x.heard u) (follows_rings x.heard u) (hears_ok here s k s.services m ctx));
    }

linked_numbered : (a b size : ℕ) (s : State) → Numbered (map part_of s.cores) → Numbered (map part_of (with_new_link a b size s).cores)
linked_numbered a b size s h =
    subst Numbered (sym (linked_parts a b size s))
    (numbered_set _ b (part_linked a (length s.rings) second_side) (λ p q. refl) (numbered_set _ a (part_linked b (length s.rings) first_side) (λ p q. refl) h))

flow_moves : Moves Flowing
flow_moves = record {
  cores = λ n s h. record {
    linked = places_move.cores n s h.linked;
    cores = λ m p q. fresh_numbered n 0 m p q ∙ (let e : 0 + m ≡ m = omega arith in e);
    order = of_order (record s { cores = map Rattle.fl_model.specs.Monitors.fresh_core (range_with_len 0 n) }) (fresh_order (range_with_len 0 n) s.rings);
  };
  link = λ a b size s q h.
      let after = places_move.link a b size s q h.linked in
      record {
        linked = after;
        cores = linked_numbered a b size s h.cores;
        order = of_order (with_new_link a b size s) (link_order a b size s h.linked after (order_of s h.order));
      };
  bound = λ w n q s h. record {
    linked = places_move.bound w n q s h.linked;
    cores = h.cores;
    order = of_order (with_new_binding w local n q s) (order_of s h.order);
  };
  ring = λ w size s h. record {
    linked = places_move.ring w size s h.linked;
    cores = h.cores;
    order = of_order (with_new_binding w (over_ring (length s.rings)) 2 None (with_ring size s)) (pushed_order s (fresh_ring size) h.linked (order_of s h.order));
  };
  route = λ w i cores k l c s want begins h. record {
    linked = places_move.route w i cores k l c s want begins h.linked;
    cores = subst Numbered (sym (begun_parts w cores (length s.bindings) l c s)) (numbered_set _ w.client.core _ (λ p q. refl) h.cores);
    order = of_order (with_circuit_begun w cores (length s.bindings) l c s) (begun_order w cores k l c s begins h.linked h.cores (order_of s h.order));
  };
  from_ring = λ e b at s q r h. record {
    linked = places_move.from_ring e b at s q r h.linked;
    cores = h.cores;
    order = of_order (change_ring at.ring (takes at.side) s) (owned_order e b at s q r h.linked (order_of s h.order));
  };
  monitor_written = λ here link m s k q r h. record {
    linked = places_move.monitor_written here link m s k q r h.linked;
    cores = subst Numbered (sym (map_changed part_of (without_first_said here.link) (Rattle.fl_model_laws.proofs.OpeningsKept.part_drops here.link) s.cores here.core (λ c g. refl)))
        (numbered_set _ here.core (Rattle.fl_model_laws.proofs.OpeningsKept.part_drops here.link) (λ p u. refl) h.cores);
    order = of_order (change_core here.core (without_first_said here.link) (change_ring here.ring.ring (puts here.ring.side (says m)) s))
        (monitor_order here link m s k q r h.linked (order_of s h.order));
  };
  heard = λ here m first k s j q r t h. heard_flows here m first k s j q r t h;
}

pub flow_keeps : Keeps (λ s. Flowing (view s))
flow_keeps = view_keeps Flowing flow_moves

-- ---- what it says of a state

unread_is : (o : Option Ring) (side : RingSide) → openings (messages (given o [] (λ r. (read_by side r).waiting))) ≡ given o [] (λ r. side_openings side (sides_of r))
unread_is None side = refl
unread_is (Some r) first_side = refl
unread_is (Some r) second_side = refl

-- both cores' ends of a link
record Found (s : State) (a b : ℕ) (here : LinkState) : Type 0 where
  link : Link
  between : link_between s a b ≡ Some link
  link_side_is : part_link_side (map part_of s.cores) a b ≡ Some (link_side_of here link)

link_found : (s : State) (a b : ℕ) (here : LinkState) → LinkedView (view s) → link_state s a b ≡ Some here → Found s a b here
link_found s a b here linked q =
    let (k, i, j) = given_some (core_of s a) (λ k. given (link_to b k) None (λ l. slice_get k.circuits.links l)) here q in
    let (l, u, v) = given_some (link_to b k) (λ l. slice_get k.circuits.links l) here j in
    let there = part_there s a k i in
    let even : length k.circuits.links ≡ length k.links = even_parts s linked a (part_of k) there in
    let inside = within k.circuits.links l here v in
    let (x, w) = at_within k.links l (omega arith) in
    record {
      link = x;
      between = ap (λ o. given o None (λ c. given (link_to b c) None (λ n. slice_get c.links n))) i ∙ ap (λ o. given o None (λ n. slice_get k.links n)) u ∙ w;
      link_side_is = ap (λ o. given o None (link_side_in b)) there ∙ link_side_is b k.circuits.links (link_sides k.circuits.links k.links)
          ∙ ap (λ o. given o None (slice_get (link_sides k.circuits.links k.links))) u ∙ both k.circuits.links k.links l x v w;
    }
  where
    both : (us : List LinkState) (ls : List Link) (l : ℕ) (x : Link) → slice_get us l ≡ Some here → slice_get ls l ≡ Some x → slice_get (link_sides us ls) l ≡ Some (link_side_of here x)
    both [] ls l x v w = absurd (cc)
    both (u ∷ us) [] l x v w = absurd (cc)
    both (u ∷ us) (y ∷ ls) zero x v w =
        let e : u ≡ here = cc in let f : y ≡ x = cc in ap (λ (c : LinkState). Some (link_side_of c y)) e ∙ ap (λ (c : Link). Some (link_side_of here c)) f
    both (u ∷ us) (y ∷ ls) (suc l) x v w = both us ls l x v w

numbers_under_way : (s : State) (a b : ℕ) (link back : Link) → link_between s a b ≡ Some link → link_between s b a ≡ Some back
    → openings (under_way s a b) ≡ ring_openings s.rings back.ring ++ openings link.outbox
numbers_under_way s a b link back q r =
    filter_map-append opening_number (filter_map said_by (on_link s a b)) (given (link_between s a b) [] (λ l. l.outbox))
    ∙ ap (λ o. openings (filter_map said_by (given o [] (λ (l : Link). labels_of (unread s l.ring)))) ++ openings (given (link_between s a b) [] (λ l. l.outbox))) r
    ∙ ap (λ o. openings (messages (unread s back.ring)) ++ openings (given o [] (λ (l : Link). l.outbox))) q
    ∙ ap (λ xs. xs ++ openings link.outbox) (unread_is (slice_get s.rings back.ring.ring) back.ring.side)

pub flowing_openings : (s : State) → Flowing (view s) → OpeningsGoInOrder s
flowing_openings s h a b here there q r =
    let x = link_found s a b here h.linked q in
    let y = link_found s b a there h.linked r in
    let g = order_of s h.order a b (link_side_of here x.link) (link_side_of there y.link) x.link_side_is y.link_side_is in
    record { taken = g.taken; numbers = numbers_under_way s a b x.link y.link x.between y.between ∙ g.numbers }

start_flows : Flowing (view start)
start_flows = record {
  linked = subst Linked (sym (plan_viewed start)) (to_linked start start_is_sound.cores start_is_sound.ends start_is_sound.links start_is_sound.owners);
  cores = first;
  order = of_order start (fresh_order (0 ∷ []) []);
}
  where
    first : (n : ℕ) (p : Part) → slice_get (view start).parts n ≡ Some p → p.circuits.core ≡ n
    first zero p q = let e : part_of (Rattle.fl_model.specs.Monitors.fresh_core 0) ≡ p = cc in ap (λ (y : Part). y.circuits.core) (sym e)
    first (suc n) p q = absurd (cc)

-- a link side is a link's state and the link
record LinkSideOf (s : State) (a b : ℕ) (x : LinkSide) : Type 0 where
  here : LinkState
  state_is : link_state s a b ≡ Some here
  link : Link
  between : link_between s a b ≡ Some link
  is : x ≡ link_side_of here link

link_sides_of : (us : List LinkState) (ls : List Link) (l : ℕ) (x : LinkSide) → slice_get (link_sides us ls) l ≡ Some x
    → (u : LinkState) × (slice_get us l ≡ Some u) × ((y : Link) × (slice_get ls l ≡ Some y) × (x ≡ link_side_of u y))
link_sides_of [] ls l x q = absurd (cc)
link_sides_of (u ∷ us) [] l x q = absurd (cc)
link_sides_of (u ∷ us) (y ∷ ls) zero x q = (u, refl, (y, refl, (let e : link_side_of u y ≡ x = cc in sym e)))
link_sides_of (u ∷ us) (y ∷ ls) (suc l) x q = link_sides_of us ls l x q

link_side_found : (s : State) (a b : ℕ) (x : LinkSide) → part_link_side (map part_of s.cores) a b ≡ Some x → LinkSideOf s a b x
link_side_found s a b x q =
    let (k, i, j) = given_some (slice_get s.cores a) (λ k. link_side_in b (part_of k)) x (sym (given_map part_of None (link_side_in b) s.cores a) ∙ q) in
    let (l, v, w) = given_some (link_to b k) (slice_get (link_sides k.circuits.links k.links)) x (sym (link_side_is b k.circuits.links (link_sides k.circuits.links k.links)) ∙ j) in
    let (u, e, (y, f, g)) = link_sides_of k.circuits.links k.links l x w in
    record {
      here = u;
      state_is = ap (λ o. given o None (λ c. given (link_to b c) None (λ n. slice_get c.circuits.links n))) i ∙ ap (λ o. given o None (λ n. slice_get k.circuits.links n)) v ∙ e;
      link = y;
      between = ap (λ o. given o None (λ c. given (link_to b c) None (λ n. slice_get c.links n))) i ∙ ap (λ o. given o None (λ n. slice_get k.links n)) v ∙ f;
      is = g;
    }

openings_flow : (s : State) → CoresStand s → LinkedView (view s) → OpeningsGoInOrder s → Flowing (view s)
openings_flow s cores linked h = record { linked = linked; cores = numbered; order = of_order s order }
  where
    numbered : (n : ℕ) (p : Part) → slice_get (map part_of s.cores) n ≡ Some p → p.circuits.core ≡ n
    numbered n p q =
        let (k, i, j) = given_some (slice_get s.cores n) (λ k. Some (part_of k)) p
        (sym (given_map part_of None (λ (y : Part). Some y) s.cores n) ∙ ap (λ (o : Option Part). given o None (λ y. Some y)) q) in
        let e : part_of k ≡ p = cc in ap (λ (y : Part). y.circuits.core) (sym e) ∙ (cores n k i).number

    order : OrderOf (map part_of s.cores) s.rings
    order a b x y q r =
        let u = link_side_found s a b x q in
        let w = link_side_found s b a y r in
        let g = h a b u.here w.here u.state_is w.state_is in
        subst (λ (z : LinkSide). Goes (ring_openings s.rings) a b z y) (sym u.is) (subst (λ (z : LinkSide). Goes (ring_openings s.rings) a b (link_side_of u.here u.link) z) (sym w.is)
        (record { taken = g.taken; numbers = sym (numbers_under_way s a b u.link w.link u.between w.between) ∙ g.numbers }))

-- ---- the laws

pub step_keeps_openings : (s : State) (v : Event) → CoresStand s → EndsStand s → LinksArePaired s → RingsHaveOneOwner s → OpeningsGoInOrder s
    → OpeningsGoInOrder (step s v).state
step_keeps_openings s v a b c d h =
    let linked : LinkedView (view s) = subst Linked (sym (plan_viewed s)) (to_linked s a b c d) in
    flowing_openings (step s v).state (step_keeps (λ u. Flowing (view u)) flow_keeps s v (openings_flow s a linked h))

pub openings_in_runs : (vs : List Event) → OpeningsGoInOrder (reached start vs)
openings_in_runs vs = flowing_openings (reached start vs) (run_keeps (λ s. Flowing (view s)) flow_keeps vs start start_flows)
