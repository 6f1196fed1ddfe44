-- What a core hears keeps the order of the openings under way.
use Rattle.std.proofs.Common.{◌≡◌, refl, sym, ◌∙◌, ap, subst, ℕ, List, [], ◌∷◌, map, drop, slice_get, Some, None, option_map, inl, inr}
use Rattle.std.specs.List.{cons_option}
use Rattle.fl_base.specs.Given.{given}
use Rattle.fl_hop.specs.declared.links.LinkState.{LinkState}
use Rattle.fl_hop.specs.Numbers.{number, next_own, after_taking, count_taking}
use Rattle.fl_hop.proofs.Entering.{same_or}
use Rattle.fl_hop.proofs.Counting.{next_is}
use Rattle.fl_model.specs.Given.{changed_at}
use Rattle.fl_model.specs.Rings.{MonitorLabel, says, Ring, RingLabel, first_for, read_by, takes}
use Rattle.fl_model.specs.Monitors.{Core, link_to, with_circuits}
use Rattle.fl_model.specs.State.{State, first_on, core_of}
use Rattle.fl_model.specs.Forwarding.{LinkEnd}
use Rattle.fl_model.specs.Standing.{opening_number, said_by}
use Rattle.fl_model_laws.proofs.Views.{Part, part_of, sides_of, messages, view, map_changed}
use Rattle.fl_model_laws.proofs.Quiet.{quiet_seats, first_is}
use Rattle.fl_model_laws.proofs.Walk.{IsHere}
use Rattle.fl_model_laws.proofs.Places.{changed_same}
use Rattle.fl_model_laws.proofs.PlacesStep.{LinkedView, same_some, taking_counted}
use Rattle.fl_model_laws.proofs.LinkSides.{LinkSide, link_side_of, link_sides, names, link_side_to, link_side_in, link_side_is, Alters, opening_more, opened_in_order, same_in_order, taking_more, taken_in_order, not_self, openings, side_openings}
use Rattle.fl_model_laws.proofs.OpeningsStep.{part_link_side, ring_openings, OrderOf, Numbered, alters_at, same_link_sides, linked_apart, ring_changes, ring_kept, ring_at, take_openings, take_left, take_else, take_same}
use Rattle.fl_model_laws.proofs.OpeningsMoves.{waits_more, opens_more, taking_link_sides, taken_opened, number_is}
use Rattle.fl_model_laws.proofs.Quiet.{quiet_binds}
use Rattle.fl_model_laws.proofs.OpeningsKept.{alters_from, alters_so, part_there, same_opening, both_orders, at_link, here_link_side, here_ring}

pub record Hears (here : LinkEnd) (s : State) (k : Core) (m : MonitorLabel) : Type 0 where
  pub linked : LinkedView (view s)
  pub numbered : Numbered (map part_of s.cores)
  pub order : OrderOf (map part_of s.cores) s.rings
  pub there : slice_get (map part_of s.cores) here.core ≡ Some (part_of k)
  pub at : link_to here.neighbour k ≡ Some here.link
  pub link_side : LinkSide
  pub link_side_is : part_link_side (map part_of s.cores) here.core here.neighbour ≡ Some link_side
  pub link_side_ring : link_side.ring ≡ here.ring
  pub ring : Ring
  pub ring_is : slice_get s.rings here.ring.ring ≡ Some ring
  pub first : RingLabel
  pub first_is : first_for here.ring.side ring ≡ Some first
  pub label : first.label ≡ says m

pub hears_here : (here : LinkEnd) (m : MonitorLabel) (first : RingLabel) (k : Core) (s : State) → IsHere here s → first_on here.ring s ≡ Some first → first.label ≡ says m
    → core_of s here.core ≡ Some k → LinkedView (view s) → Numbered (map part_of s.cores) → OrderOf (map part_of s.cores) s.rings → Hears here s k m
hears_here here m first k s j q r t linked numbered order =
    let (x, e, f) = at_link here s j in
    let same : x.core ≡ k = same_some (core_of s here.core) x.core k x.core_is t in
    let (a, l) = here_link_side here s x linked in
    let (g, i) = here_ring here s x linked in
    record {
      linked = linked;
      numbered = numbered;
      order = order;
      there = part_there s here.core k t;
      at = ap (link_to here.neighbour) (sym same) ∙ x.link_is;
      link_side = link_side_of a x.link;
      link_side_is = l;
      link_side_ring = x.ring;
      ring = g;
      ring_is = i;
      first = first;
      first_is = Rattle.fl_model_laws.proofs.Quiet.first_is (slice_get s.rings here.ring.ring) (first_for here.ring.side) g first i q;
      label = r;
    }

abbrev pub taken_rings : LinkEnd → State → List Ring
taken_rings here s = changed_at here.ring.ring (takes here.ring.side) s.rings

abbrev pub Set : LinkEnd → State → Core → List Ring → Type 0
Set here s c rs = OrderOf (map part_of (changed_at here.core (λ y. c) s.cores)) rs

pub set_parts : (n : ℕ) (c : Core) (s : State) → map part_of (changed_at n (λ y. c) s.cores) ≡ changed_at n (λ q. part_of c) (map part_of s.cores)
set_parts n c s = map_changed part_of (λ y. c) (λ q. part_of c) s.cores n (λ x q. refl)

pub left_ok : (here : LinkEnd) (s : State) (k : Core) (m : MonitorLabel) → Hears here s k m → Set here s k s.rings
left_ok here s k m h =
    let ps : List Part = map part_of s.cores in
    both_orders (changed_at here.core (λ q. part_of k) ps) _ s.rings _ (set_parts here.core k s) refl
    (same_in_order (part_link_side ps) (part_link_side (changed_at here.core (λ q. part_of k) ps)) (ring_openings s.rings) (ring_openings s.rings)
    (same_link_sides ps here.core (λ q. part_of k) (part_of k) h.there refl refl) (λ a b y q. refl) h.order)

pub answer_ok : (here : LinkEnd) (s : State) (k c : Core) (m : MonitorLabel) → Hears here s k m → opening_number m ≡ None → names c.circuits.links ≡ names k.circuits.links
    → link_sides c.circuits.links c.links ≡ link_sides k.circuits.links k.links → Set here s c (taken_rings here s)
answer_ok here s k c m h none e f =
    let ps : List Part = map part_of s.cores in
    both_orders (changed_at here.core (λ q. part_of c) ps) _ (taken_rings here s) _ (set_parts here.core c s) refl
    (same_in_order (part_link_side ps) (part_link_side (changed_at here.core (λ q. part_of c) ps)) (ring_openings s.rings) (ring_openings (taken_rings here s))
    (same_link_sides ps here.core (λ q. part_of c) (part_of k) h.there e f)
    (λ a b y q. ring_kept s.rings here.ring.ring (takes here.ring.side) (λ r side i.
    take_same here.ring.side side m r h.first (subst (λ (x : Ring). first_for here.ring.side x ≡ Some h.first) (same_some (slice_get s.rings here.ring.ring) h.ring r h.ring_is i) h.first_is) h.label none) y.ring)
    h.order)

head_taken : (here : LinkEnd) (s : State) (k : Core) (m : MonitorLabel) (n : ℕ) → Hears here s k m → opening_number m ≡ Some n
    → ring_openings s.rings here.ring ≡ n ∷ ring_openings (taken_rings here s) here.ring
head_taken here s k m n h some =
    let side = here.ring.side in
    let left = messages (drop 1 (read_by side h.ring).waiting) in
    ap (λ o. given o [] (λ x. side_openings side (sides_of x))) h.ring_is ∙ take_openings side h.ring h.first h.first_is
    ∙ ap (λ o. openings (cons_option (said_by o) left)) h.label ∙ ap (λ o. cons_option o (openings left)) some
    ∙ ap (λ xs. n ∷ xs) (sym (ring_at s.rings here.ring.ring side (takes side) h.ring h.ring_is ∙ take_left side h.ring))

take_order : (here : LinkEnd) (s : State) (k c : Core) (m : MonitorLabel) (n : ℕ) → Hears here s k m → opening_number m ≡ Some n → names c.circuits.links ≡ names k.circuits.links
    → link_sides c.circuits.links c.links ≡ changed_at here.link taking_more (link_sides k.circuits.links k.links)
    → Alters (part_link_side (map part_of s.cores)) (part_link_side (changed_at here.core (λ q. part_of c) (map part_of s.cores))) here.core here.neighbour taking_more
    × OrderOf (changed_at here.core (λ q. part_of c) (map part_of s.cores)) (taken_rings here s)
take_order here s k c m n h some e f =
    let ps : List Part = map part_of s.cores in
    let alters = alters_from ps here.core here.neighbour here.link (λ q. part_of c) taking_more (part_of k) h.there h.at e f in (
      alters,
      (taken_in_order (part_link_side ps) (part_link_side (changed_at here.core (λ q. part_of c) ps)) (ring_openings s.rings) (ring_openings (taken_rings here s))
          here.core here.neighbour n h.link_side (linked_apart (view s) h.linked) h.link_side_is alters
          (ap (ring_openings s.rings) h.link_side_ring ∙ head_taken here s k m n h some ∙ ap (λ r. n ∷ ring_openings (taken_rings here s) r) (sym h.link_side_ring))
          (record { rest = λ r away. ring_changes s.rings here.ring (takes here.ring.side) (λ x. take_else here.ring.side x) r (λ g. away (g ∙ sym h.link_side_ring)) }) h.order),
    )

pub taken_ok : (here : LinkEnd) (s : State) (k c : Core) (m : MonitorLabel) (n : ℕ) → Hears here s k m → opening_number m ≡ Some n → names c.circuits.links ≡ names k.circuits.links
    → link_sides c.circuits.links c.links ≡ changed_at here.link taking_more (link_sides k.circuits.links k.links) → Set here s c (taken_rings here s)
taken_ok here s k c m n h some e f =
    both_orders (changed_at here.core (λ q. part_of c) (map part_of s.cores)) _ (taken_rings here s) _ (set_parts here.core c s) refl (take_order here s k c m n h some e f).1

pub passed_ok : (here : LinkEnd) (s : State) (k c : Core) (m : MonitorLabel) (n next l d : ℕ) → Hears here s k m → opening_number m ≡ Some n → link_to next k ≡ Some l → next_own k.circuits l ≡ Some d
    → names c.circuits.links ≡ names k.circuits.links
    → link_sides c.circuits.links c.links ≡ changed_at l (λ z. opens_more (waits_more (d ∷ []) z)) (changed_at here.link taking_more (link_sides k.circuits.links k.links))
    → Set here s c (taken_rings here s)
passed_ok here s k c m n next l d h some to own e f =
    let ps : List Part = map part_of s.cores in
    let N : ℕ = here.core in
    let mid : Core = with_circuits (after_taking k.circuits here.link) k in
    let us = k.circuits.links in
    let (first, middle) = take_order here s k mid m n h some (taking_counted us here.link) (taking_link_sides us k.links here.link) in
    let was = next_is k.circuits.core us l d own in
    let core : k.circuits.core ≡ N = h.numbered N (part_of k) h.there in
    let same_mid = taking_link_sides us k.links here.link in
    let raw = alters_at ps N next l (λ q. part_of mid) (λ q. part_of c) (λ z. opens_more (waits_more (d ∷ []) z)) (part_of k) us h.there to
    (taking_counted us here.link) e (f ∙ ap (changed_at l (λ z. opens_more (waits_more (d ∷ []) z))) (sym same_mid)) in
    let right = alters_so (part_link_side (changed_at N (λ q. part_of mid) ps)) (part_link_side (changed_at N (λ q. part_of c) ps)) N next (λ z. opens_more (waits_more (d ∷ []) z)) (opening_more N next)
    (λ z q. same_opening N next d z (fits was.link was.there core was.is z (at_mid same_mid z q))) raw in
    both_orders (changed_at N (λ q. part_of c) ps) _ (taken_rings here s) _ (set_parts N c s) refl
    (opened_in_order (part_link_side (changed_at N (λ q. part_of mid) ps)) (part_link_side (changed_at N (λ q. part_of c) ps)) (ring_openings (taken_rings here s)) N next
    (λ z q g. not_next first z q g) right middle)
  where
    ps0 : List Part
    ps0 = map part_of s.cores

    mid0 : Core
    mid0 = with_circuits (after_taking k.circuits here.link) k

    fits : (u : LinkState) → slice_get k.circuits.links l ≡ Some u → k.circuits.core ≡ here.core → number k.circuits.core u.neighbour.0 u.opened ≡ d → (z : LinkSide)
        → slice_get (changed_at here.link taking_more (link_sides k.circuits.links k.links)) l ≡ Some z → number here.core next z.opened ≡ d
    fits u q core is z r =
        let (w, i, j) = taken_opened (link_sides k.circuits.links k.links) here.link l z r in
        ap (number here.core next) j ∙ number_is here.core next l d k.circuits.links k.links u w to q (ap (λ x. number x u.neighbour.0 u.opened) (sym core) ∙ is) i

    at_mid : link_sides (count_taking k.circuits.links here.link) k.links ≡ changed_at here.link taking_more (link_sides k.circuits.links k.links) → (z : LinkSide)
        → part_link_side (changed_at here.core (λ q. part_of mid0) ps0) here.core next ≡ Some z → slice_get (changed_at here.link taking_more (link_sides k.circuits.links k.links)) l ≡ Some z
    at_mid g z q =
        sym (ap (λ o. given o None (link_side_in next)) (changed_same ps0 here.core (λ q. part_of mid0)) ∙ ap (λ o. given (option_map (λ (q : Part). part_of mid0) o) None (link_side_in next)) h.there
        ∙ ap (λ ns. link_side_to next ns (link_sides (count_taking k.circuits.links here.link) k.links)) (taking_counted k.circuits.links here.link)
        ∙ ap (link_side_to next (names k.circuits.links)) g
        ∙ link_side_is next k.circuits.links (changed_at here.link taking_more (link_sides k.circuits.links k.links))
        ∙ ap (λ o. given o None (slice_get (changed_at here.link taking_more (link_sides k.circuits.links k.links)))) to) ∙ q

    not_next : Alters (part_link_side ps0) (part_link_side (changed_at here.core (λ q. part_of mid0) ps0)) here.core here.neighbour taking_more → (z : LinkSide)
        → part_link_side (changed_at here.core (λ q. part_of mid0) ps0) here.core next ≡ Some z → here.core ≡ next → ⊥
    not_next alters z q g = elim (same_or next here.neighbour) [
      | inl i ↦ not_self (part_link_side ps0) here.core here.neighbour h.link_side (linked_apart (view s) h.linked) h.link_side_is (g ∙ i)
      | inr i ↦ not_self (part_link_side ps0) here.core next z (linked_apart (view s) h.linked) (sym (alters.rest here.core next (λ x. i x.1)) ∙ q) g
    ]
