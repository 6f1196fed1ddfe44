-- What a core hears leaves a board that fits.
use Rattle.std.proofs.Common.{◌≡◌, refl, sym, ◌∙◌, ap, subst, ℕ, zero, suc, ◌+◌, ◌-◌, ◌<◌, ◌≤◌, ◌==◌, nat_lt, Bool, cond, inl}
use Rattle.std.proofs.Common.{List, [], ◌∷◌, length, map, drop, slice_get, slice_set, slice_index, Option, Some, None, option_map, arith}
use Rattle.std.specs.Prelude.{position}
use Rattle.std.specs.List.{cons_option}
use Rattle.std.proofs.lemmas.Option.{slice_get-map}
use Rattle.fl_base.specs.declared.identity.Side.TheVariants.{Server}
use Rattle.fl_base.specs.Given.{given}
use Rattle.fl_hop.specs.Table.{TheCircuits, link_of}
use Rattle.fl_hop.specs.Numbers.{next_own}
use Rattle.fl_hop.proofs.Lists.{set_same, within}
use Rattle.fl_model.specs.Given.{changed_at}
use Rattle.fl_model.specs.Events.{DispatcherId}
use Rattle.fl_model.specs.Rings.{OpeningLabel, MonitorLabel, open_circuit, circuit_opened, circuit_refused, says, RingLabel, RingSide, first_side, second_side, Ring, first_for, takes}
use Rattle.fl_model.specs.Waits.{has_places}
use Rattle.fl_model.specs.Monitors.{Core, link_to, can_say, service_of, next_on, Fate, goes_on, ends_at, fails, arrival, passage, fate, Hearing, hears_opening, hears, with_said, with_circuits, Heard, saying}
use Rattle.fl_model.specs.State.{OpeningVerdict, undecided, granted, denied, Route, State, Binding, in_route, core_of, change_core, change_ring, change_route, first_on, seats}
use Rattle.fl_model.specs.Binding.{end_id}
use Rattle.fl_model.specs.Forwarding.{LinkEnd, after_hearing, with_number, grants, denies}
use Rattle.fl_model.specs.Standing.{core_at, number_at, Message, due_by, said_by}
use Rattle.fl_model_laws.proofs.Cases.{either, by_given}
use Rattle.fl_model_laws.proofs.Views.{Part, part_of, sides_of, back_of, view, made, two, messages, map_changed}
use Rattle.fl_model_laws.proofs.Quiet.{drop_said, quiet_seats, quiet_binds}
use Rattle.fl_model_laws.proofs.Walk.{IsHere}
use Rattle.fl_model_laws.proofs.PlacesStep.{given_some}
use Rattle.fl_model_laws.proofs.OpeningsHeard.{set_parts}
use Rattle.fl_model_laws.proofs.Hearing.{LinkThere, link_there}
use Rattle.fl_model_laws.proofs.Arriving.{is_last, place_is, less_true, same_opening, not_opened, not_refused, said_same}
use Rattle.fl_model_laws.proofs.Boards.{Has, IsRoute, message, some_is}
use Rattle.fl_model_laws.proofs.BoardViews.{part_line, side_said, board, core_part}
use Rattle.fl_model_laws.proofs.BoardCores.{set_part}
use Rattle.fl_model_laws.proofs.BoardSaid.{takes_first}
use Rattle.fl_model_laws.proofs.BoardHears.{Whole, HeardAt, heard_view, is_taken}
use Rattle.fl_model_laws.proofs.BoardOpenings.{OpenAt, passed_part, passed_fits, arrived_part, arrived_fits, failed_part, failed_fits}
use Rattle.fl_model_laws.proofs.BoardQuiet.{After}
use Rattle.fl_model_laws.proofs.Small.{some_same}

-- ---- what is known where a message is heard

pub record Hearer (s : State) (here : LinkEnd) (m : MonitorLabel) (k : Core) : Type 0 where
  pub whole : Whole (view s)
  pub core_is : core_of s here.core ≡ Some k
  pub heard : HeardAt (view s) here.core here.neighbour here.link here.ring m (part_of k)
  pub ring : Ring
  pub ring_is : slice_get s.rings here.ring.ring ≡ Some ring
  pub first : RingLabel
  pub first_is : first_for here.ring.side ring ≡ Some first
  pub label : first.label ≡ says m

first_said : (ls : List RingLabel) (x : RingLabel) (m : MonitorLabel) → slice_get ls 0 ≡ Some x → x.label ≡ says m → messages ls ≡ m ∷ messages (drop 1 ls)
first_said ls x m q e = drop_said ls x q ∙ ap (λ l. cons_option (said_by l) (messages (drop 1 ls))) e

side_first : (side : RingSide) (r : Ring) (x : RingLabel) (m : MonitorLabel) → first_for side r ≡ Some x → x.label ≡ says m → slice_get (side_said side (sides_of r)) 0 ≡ Some m
side_first first_side r x m q e = ap (λ ms. slice_get ms 0) (first_said r.by_second.waiting x m q e)
side_first second_side r x m q e = ap (λ ms. slice_get ms 0) (first_said r.by_first.waiting x m q e)

side_taken : (side : RingSide) (r : Ring) (x : RingLabel) (m : MonitorLabel) → first_for side r ≡ Some x → x.label ≡ says m → sides_of (takes side r) ≡ takes_first side (sides_of r)
side_taken first_side r x m q e = ap (λ ms. two (messages r.by_first.waiting) ms) (sym (ap (drop 1) (first_said r.by_second.waiting x m q e)))
side_taken second_side r x m q e = ap (λ ms. two ms (messages r.by_second.waiting)) (sym (ap (drop 1) (first_said r.by_first.waiting x m q e)))

pub hearer : (here : LinkEnd) (m : MonitorLabel) (first : RingLabel) (k : Core) (s : State) → IsHere here s → first_on here.ring s ≡ Some first → first.label ≡ says m
    → core_of s here.core ≡ Some k → Whole (view s) → Hearer s here m k
hearer here m first k s j q e at w =
    let t : LinkThere s here = link_there s here j in
    let mine : t.core ≡ k = some_is (core_of s here.core) t.core k t.core_is at in
    let place : link_to here.neighbour k ≡ Some here.link = subst (λ (x : Core). link_to here.neighbour x ≡ Some here.link) mine t.place in
    let link_is : slice_get k.links here.link ≡ Some t.link = subst (λ (x : Core). slice_get x.links here.link ≡ Some t.link) mine t.link_is in
    let (r, there, is) = given_some (slice_get s.rings here.ring.ring) (first_for here.ring.side) first q in
    let part = core_part s here.core k at in
    record {
      whole = w;
      core_is = at;
      heard = record {
        part_is = part;
        to = place;
        link = t.link;
        line_is = ap (λ o. given o None (part_line here.neighbour)) part ∙ ap (λ o. given o None (slice_get k.links)) place ∙ link_is;
        ring_is = t.ring;
        sides = sides_of r;
        sides_is = slice_get-map sides_of s.rings here.ring.ring ∙ ap (option_map sides_of) there;
        first = side_first here.ring.side r first m is e;
      };
      ring = r;
      ring_is = there;
      first = first;
      first_is = is;
      label = e;
    }

-- ---- the view after

abbrev pub HearFits : LinkEnd → State → Hearing → Type 0
HearFits here s h = After (view (after_hearing here h s).state)

pub taken_view : (here : LinkEnd) (m : MonitorLabel) (k c : Core) (s : State) (n : ℕ) (f : Route → Route) → Hearer s here m k
    → view (change_route n f (change_ring here.ring.ring (takes here.ring.side) (change_core here.core (λ y. c) s))) ≡ heard_view (view s) here.core (part_of c) here.ring n f
taken_view here m k c s n f h =
    let rings : map sides_of (changed_at here.ring.ring (takes here.ring.side) s.rings) ≡ changed_at here.ring.ring (takes_first here.ring.side) (map sides_of s.rings) =
    map_changed sides_of (takes here.ring.side) (takes_first here.ring.side) s.rings here.ring.ring
    (λ r q. side_taken here.ring.side r h.first m (subst (λ (x : Ring). first_for here.ring.side x ≡ Some h.first) (some_is (slice_get s.rings here.ring.ring) h.ring r h.ring_is q) h.first_is) h.label) in
    let backs = map_changed back_of (λ (b : Binding). record b { back = in_route f b.back }) (in_route f) s.bindings n (λ b q. refl) in
    ap (λ ps. made ps (map sides_of (changed_at here.ring.ring (takes here.ring.side) s.rings)) (map back_of (changed_at n (λ (b : Binding). record b { back = in_route f b.back }) s.bindings)))
    (set_parts here.core c s)
    ∙ ap (λ rs. made (set_part here.core (part_of c) (map part_of s.cores)) rs (map back_of (changed_at n (λ (b : Binding). record b { back = in_route f b.back }) s.bindings))) rings
    ∙ ap (λ bs. made (set_part here.core (part_of c) (map part_of s.cores)) (changed_at here.ring.ring (takes_first here.ring.side) (map sides_of s.rings)) bs) backs

set_itself : (ps : List Part) (n : ℕ) (p : Part) → slice_get ps n ≡ Some p → set_part n p ps ≡ ps
set_itself ps n p q = ap (λ (o : Option Part). given o ps (λ x. slice_set ps n p)) q ∙ set_same ps n p q

-- nothing was heard
pub left_view : (here : LinkEnd) (m : MonitorLabel) (k : Core) (s : State) → Hearer s here m k → After (view (change_core here.core (λ y. k) s))
left_view here m k s h =
    subst (λ (ps : List Part). After (made ps (map sides_of s.rings) (map back_of s.bindings))) (sym (set_parts here.core k s ∙ set_itself (map part_of s.cores) here.core (part_of k) h.heard.part_is))
    h.whole.known.fits

pub said_or_left : (here : LinkEnd) (m : MonitorLabel) (k : Core) (s : State) (l : ℕ) (new : MonitorLabel) (t : TheCircuits) (x : Heard) → Hearer s here m k
    → HearFits here s (record { core = with_said l new (with_circuits t k); heard = x }) → HearFits here s (saying l new t x k)
said_or_left here m k s l new t x h good = either (HearFits here s) (can_say l k) _ _ (λ q. good) (λ q. left_view here m k s h)

-- ---- the message is due

pub has_head : (s : State) (here : LinkEnd) (m : MonitorLabel) (k : Core) → Hearer s here m k → Has ((board (view s)).said here.neighbour here.core) m
has_head s here m k h =
    let t = is_taken (view s) here.core here.neighbour here.link here.ring m (part_of k) h.whole h.heard in
    subst (λ (ms : List MonitorLabel). Has ms m) (sym t.head) (inl refl)

-- ---- an opening

record OpeningIs (n : ℕ) (route : Route) (from to : ℕ) (o : OpeningLabel) : Type 0 where
  verdict : route.verdict ≡ undecided
  from_is : from ≡ core_at route (length route.numbers - 1)
  to_is : to ≡ core_at route (length route.numbers)
  opening : o ≡ record { circuit = number_at route (length route.numbers - 1); binding = n; service = route.service; path = route.cores }

opening_is : (n : ℕ) (route : Route) (from to : ℕ) (o : OpeningLabel) (v : OpeningVerdict) → route.verdict ≡ v → due_by n route v ≡ Some (message from to (open_circuit o))
    → OpeningIs n route from to o
opening_is n route from to o undecided e h = record {
  verdict = e;
  from_is = sym (ap (λ (m : Message). m.from) (some_same _ _ h));
  to_is = sym (ap (λ (m : Message). m.to) (some_same _ _ h));
  opening = sym (same_opening _ o (said_same _ _ h));
}
opening_is n route from to o (granted zero) e h = absurd (cc)
opening_is n route from to o (granted (suc i)) e h = absurd (not_opened _ o (said_same _ _ h))
opening_is n route from to o (denied zero fault) e h = absurd (cc)
opening_is n route from to o (denied (suc i) fault) e h = absurd (not_refused _ _ o (said_same _ _ h))

index_of : (xs : List ℕ) (i x : ℕ) → slice_get xs i ≡ Some x → slice_index xs i ≡ x
index_of [] i x q = absurd (cc)
index_of (y ∷ xs) zero x q = cc
index_of (y ∷ xs) (suc i) x q = index_of xs i x q

-- the core behind core t of a route
next_is : (route : Route) → IsRoute route → (core next : ℕ) → length route.numbers < length route.cores → core_at route (length route.numbers) ≡ core
    → next_on route.cores core ≡ Some next → (length route.numbers + 1 < length route.cores) × (core_at route (length route.numbers + 1) ≡ next)
next_is route is core next inside here h =
    let t = length route.numbers in
    let at : position (λ c. c == core) route.cores ≡ Some t =
    ap (λ (n : ℕ). cond (nat_lt n (length route.cores)) (Some n) None) (place_is route.cores t core inside here is.differ)
    ∙ ap (λ (b : Bool). cond b (Some t) None) (less_true t (length route.cores) inside) in
    let there : slice_get route.cores (t + 1) ≡ Some next = sym (ap (λ (o : Option ℕ). given o None (λ j. slice_get route.cores (j + 1))) at) ∙ h in
    (within route.cores (t + 1) next there, index_of route.cores (t + 1) next there)

module _ (here : LinkEnd) (k : Core) (s : State) (n : ℕ) (route : Route) (j : ℕ) (m : MonitorLabel) (h : Hearer s here m k)
    (o : OpenAt (view s) n route j here.link here.ring m (part_of k)) (to_is : here.core ≡ core_at route (length route.numbers)) where
  route_is : IsRoute route
  route_is = h.whole.known.routes n route o.was

  abbrev pub the_opening : OpeningLabel
  the_opening = record { circuit = number_at route j; binding = n; service = route.service; path = route.cores }

  at_core : (q : Part) (f : Route → Route) → After (heard_view (view s) (core_at route (length route.numbers)) q here.ring n f) → After (heard_view (view s) here.core q here.ring n f)
  at_core q f good = subst (λ (c : ℕ). After (heard_view (view s) c q here.ring n f)) (sym to_is) good

  goes_fits : (l d : ℕ) → length route.numbers + 1 < length route.cores → link_of k.circuits (core_at route (length route.numbers + 1)) ≡ Some l
      → next_own k.circuits l ≡ Some d → HearFits here s (hears_opening here.link the_opening (goes_on l d) k)
  goes_fits l d more to own =
      said_or_left here m k s l _ _ _ h
      (subst After (sym (taken_view here m k (with_said l (open_circuit (record the_opening { circuit = d })) (with_circuits _ k)) s n (with_number d) h))
      (at_core (passed_part (view s) h.whole n route j here.link here.ring m (part_of k) o l d) (with_number d)
      (passed_fits (view s) h.whole n route j here.link here.ring m (part_of k) o l d more to own)))

  ends_fits : (d : DispatcherId) → length route.numbers + 1 ≡ length route.cores → HearFits here s (hears_opening here.link the_opening (ends_at d) k)
  ends_fits d last =
      said_or_left here m k s here.link _ _ _ h
      (subst After (sym (quiet_binds (end_id n Server) (number_at route j) (seats d (end_id n Server) (change_route n grants
      (change_ring here.ring.ring (takes here.ring.side) (change_core here.core (λ y. with_said here.link (circuit_opened (number_at route j)) (with_circuits _ k)) s))))
      ∙ quiet_seats d (end_id n Server) (change_route n grants
      (change_ring here.ring.ring (takes here.ring.side) (change_core here.core (λ y. with_said here.link (circuit_opened (number_at route j)) (with_circuits _ k)) s)))
      ∙ taken_view here m k (with_said here.link (circuit_opened (number_at route j)) (with_circuits _ k)) s n grants h))
      (at_core (arrived_part (view s) h.whole n route j here.link here.ring m (part_of k) o) grants
      (arrived_fits (view s) h.whole n route j here.link here.ring m (part_of k) o last)))

  fails_fits : (fault : ℕ) → HearFits here s (hears_opening here.link the_opening (fails fault) k)
  fails_fits fault =
      said_or_left here m k s here.link _ _ _ h
      (subst After (sym (taken_view here m k (with_said here.link (circuit_refused (number_at route j) fault) (with_circuits _ k)) s n (denies fault) h))
      (at_core (failed_part (view s) h.whole n route j here.link here.ring m (part_of k) o fault) (denies fault)
      (failed_fits (view s) h.whole n route j here.link here.ring m (part_of k) o fault)))

  abbrev FateOk : Fate → Type 0
  FateOk f = HearFits here s (hears_opening here.link the_opening f k)

  own_core : k.circuits.core ≡ core_at route (length route.numbers)
  own_core = (h.whole.parts here.core (part_of k) h.heard.part_is).number ∙ to_is

  inside : length route.numbers < length route.cores
  inside = let few = route_is.few in omega arith

  fate_by : (x : Option ℕ) → next_on route.cores k.circuits.core ≡ x
      → HearFits here s (hears_opening here.link the_opening (given x (arrival s.services route.service k) (λ next. passage next k)) k)
  fate_by None e =
      let last : length route.cores ≤ length route.numbers + 1 = is_last route.cores (length route.numbers) k.circuits.core inside (sym own_core) route_is.differ e in
      let few = route_is.few in
      by_given (λ (f : Fate). HearFits here s (hears_opening here.link the_opening f k)) (service_of s.services route.service) _ _ (fails_fits 70)
      (λ x q. by_given (λ (f : Fate). HearFits here s (hears_opening here.link the_opening f k)) (slice_get k.dispatchers x.dispatcher.place) _ _ (fails_fits 70)
      (λ d r. either (λ (f : Fate). HearFits here s (hears_opening here.link the_opening f k)) (has_places 1 d) _ _
      (λ t. ends_fits x.dispatcher (omega arith)) (λ t. fails_fits 54)))
  fate_by (Some next) e =
      let (more, is) = next_is route route_is k.circuits.core next inside (sym own_core) e in
      by_given (λ (f : Fate). HearFits here s (hears_opening here.link the_opening f k)) (link_to next k) _ _ (fails_fits 73)
      (λ l q. by_given (λ (f : Fate). HearFits here s (hears_opening here.link the_opening f k)) (next_own k.circuits l) _ _ (fails_fits 74)
      (λ d r. goes_fits l d more (ap (link_of k.circuits) is ∙ q) r))

  pub opening_fits : HearFits here s (hears_opening here.link the_opening (fate s.services the_opening k) k)
  opening_fits = fate_by (next_on route.cores k.circuits.core) refl

pub opening_heard : (here : LinkEnd) (o : OpeningLabel) (k : Core) (s : State) → Hearer s here (open_circuit o) k → HearFits here s (hears s.services here.link (open_circuit o) k)
opening_heard here o k s h =
    let (n, (route, (was, due))) = h.whole.known.fits.messages here.neighbour here.core (open_circuit o) (has_head s here (open_circuit o) k h) in
    let is : OpeningIs n route here.neighbour here.core o = opening_is n route here.neighbour here.core o route.verdict refl due in
    let some : 1 ≤ length route.numbers = (h.whole.known.routes n route was).some in
    let j : ℕ = length route.numbers - 1 in
    let at : OpenAt (view s) n route j here.link here.ring (open_circuit o) (part_of k) = record {
      was = was;
      verdict = is.verdict;
      place = (let e : suc j ≡ length route.numbers = omega arith in e);
      at = subst (λ (c : ℕ). HeardAt (view s) c (core_at route j) here.link here.ring (open_circuit o) (part_of k)) is.to_is
          (subst (λ (c : ℕ). HeardAt (view s) here.core c here.link here.ring (open_circuit o) (part_of k)) is.from_is h.heard);
      due = due ∙ ap (λ (c : ℕ). Some (message c here.core (open_circuit o))) is.from_is ∙ ap (λ (c : ℕ). Some (message (core_at route j) c (open_circuit o))) is.to_is;
    } in
    subst (λ (x : OpeningLabel). HearFits here s (hears_opening here.link x (fate s.services x k) k)) (sym is.opening)
    (opening_fits here k s n route j (open_circuit o) h at is.to_is)
