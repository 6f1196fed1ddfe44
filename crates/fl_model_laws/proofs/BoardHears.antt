-- Where a monitor's message is heard: what is known there of the core, its line to the one who said it, and the entries of
-- the circuit that it's about.
use Rattle.std.proofs.Common.{◌≡◌, refl, sym, ◌∙◌, ap, ℕ, ◌+◌, ◌*◌, ◌<◌, ◌≤◌, inl, inr}
use Rattle.std.proofs.Common.{List, length, slice_get, Some, None, option_map, arith}
use Rattle.fl_base.specs.declared.identity.EndId.{EndId}
use Rattle.fl_base.specs.Given.{given}
use Rattle.fl_hop.specs.declared.entry.Hop.{Hop}
use Rattle.fl_hop.specs.Joined.{Sound as IsTable}
use Rattle.fl_hop.specs.Table.{TheCircuits, hop_at, link_of, slot}
use Rattle.fl_hop.specs.Numbers.{next_own}
use Rattle.fl_hop.proofs.Counting.{next_is, never_next}
use Rattle.fl_hop.proofs.Numbering.{small}
use Rattle.fl_hop.proofs.Lists.{at_within}
use Rattle.fl_model.specs.Given.{changed_at}
use Rattle.fl_model.specs.Rings.{MonitorLabel, RingEnd}
use Rattle.fl_model.specs.Monitors.{Link, says_more}
use Rattle.fl_model.specs.State.{Route, Back, local, over_ring, over_route, in_route, own_ring}
use Rattle.fl_model.specs.Forwarding.{route_of}
use Rattle.fl_model.specs.SoundRoutes.{OneNumber}
use Rattle.fl_model.specs.SoundLimits.{OneNumberBack}
use Rattle.fl_model.specs.SoundEntries.{Key, near_key, far_key}
use Rattle.fl_model_laws.proofs.Views.{View, Part, Sides, made}
use Rattle.fl_model_laws.proofs.Places.{changed_other, changed_same}
use Rattle.fl_model_laws.proofs.PlacesStep.{given_some}
use Rattle.fl_model_laws.proofs.TableSteps.{stands_there, link_within}
use Rattle.fl_model_laws.proofs.Boards.{Board, Known, Takes, Puts, Changes}
use Rattle.fl_model_laws.proofs.BoardViews.{part_hop, hop_in, line, route_in, side_said, said_in, board}
use Rattle.fl_model_laws.proofs.BoardCores.{set_part, NewTable, set_kept, set_were, place_stays, NewLinks, line_next, line_else}
use Rattle.fl_model_laws.proofs.BoardSaid.{Paired, said_on, takes_first, said_taken, Alters, said_put}

-- ---- what is known of a sound state's view

pub record PartStands (n : ℕ) (p : Part) : Type 0 where
  pub number : p.circuits.core ≡ n
  pub even : length p.links ≡ length p.circuits.links
  pub table : IsTable p.circuits

pub record Whole (v : View) : Type 0 where
  pub known : Known (board v)
  pub parts : (n : ℕ) (p : Part) → slice_get v.parts n ≡ Some p → PartStands n p
  pub paired : Paired (line v.parts)
  pub within : (a b : ℕ) (l : Link) → line v.parts a b ≡ Some l → l.ring.ring < length v.rings
  pub apart : (a b : ℕ) (l : Link) (e : EndId) (back : Back) → line v.parts a b ≡ Some l → slice_get v.backs e.binding ≡ Some back
      → own_ring e.side back ≡ Some l.ring → ⊥

-- a message stands first on the line of a core to another
pub record HeardAt (v : View) (core from l : ℕ) (ring : RingEnd) (m : MonitorLabel) (p : Part) : Type 0 where
  pub part_is : slice_get v.parts core ≡ Some p
  pub to : link_of p.circuits from ≡ Some l
  pub link : Link
  pub line_is : line v.parts core from ≡ Some link
  pub ring_is : link.ring ≡ ring
  pub sides : Sides
  pub sides_is : slice_get v.rings ring.ring ≡ Some sides
  pub first : slice_get (side_said ring.side sides) 0 ≡ Some m

abbrev pub taken_rings : View → RingEnd → List Sides
taken_rings v ring = changed_at ring.ring (takes_first ring.side) v.rings

-- the core is another, the message is taken, and a binding's route is another
abbrev pub heard_view : View → ℕ → Part → RingEnd → ℕ → (Route → Route) → View
heard_view v core q ring n f = made (set_part core q v.parts) (taken_rings v ring) (changed_at n (in_route f) v.backs)

pub is_taken : (v : View) (core from l : ℕ) (ring : RingEnd) (m : MonitorLabel) (p : Part) → Whole v → HeardAt v core from l ring m p
    → Takes (said_in v.parts v.rings) (said_on (line v.parts) (taken_rings v ring)) from core m
is_taken v core from l ring m p w h = said_taken (line v.parts) v.rings core from h.link ring h.sides m w.paired h.line_is h.ring_is h.sides_is h.first

-- ---- lines

pub line_there : (v : View) (core next l : ℕ) (p : Part) → Whole v → slice_get v.parts core ≡ Some p → link_of p.circuits next ≡ Some l
    → (z : Link) × (line v.parts core next ≡ Some z)
line_there v core next l p w at to =
    let inside = link_within p.circuits next l to in
    let even = (w.parts core p at).even in
    let (z, got) = at_within p.links l (omega arith) in
    (z, ap (λ o. given o None (λ (x : Part). given (link_of x.circuits next) None (slice_get x.links))) at ∙ ap (λ o. given o None (slice_get p.links)) to ∙ got)

-- a message more for a neighbour, whatever stands on rings
pub is_added : (v : View) (core next l : ℕ) (rings : List Sides) (p q : Part) (new : MonitorLabel) → Whole v → slice_get v.parts core ≡ Some p → NewLinks p q next l (says_more new)
    → Puts (said_on (line v.parts) rings) (said_in (set_part core q v.parts) rings) core next (Some new)
is_added v core next l rings p q new w at links =
    let (z, got) = line_there v core next l p w at links.next_is in
    let alters : Alters (line v.parts) (line (set_part core q v.parts)) core next (says_more new) = record {
      here = line_next v.parts core p q next l (says_more new) at links;
      rest = λ a b away. line_else v.parts core p q next l (says_more new) at links a b away;
      ring = λ x. refl;
    } in
    said_put (line v.parts) (line (set_part core q v.parts)) rings core next new z got alters

-- and where one is taken
pub is_put : (v : View) (core next l : ℕ) (ring : RingEnd) (p q : Part) (new : MonitorLabel) → Whole v → slice_get v.parts core ≡ Some p → NewLinks p q next l (says_more new)
    → Puts (said_on (line v.parts) (taken_rings v ring)) (said_in (set_part core q v.parts) (taken_rings v ring)) core next (Some new)
is_put v core next l ring p q new w at links = is_added v core next l (taken_rings v ring) p q new w at links

-- ---- routes

is_over : (back : Back) (route : Route) → route_of back ≡ Some route → back ≡ over_route route
is_over local route e = absurd (cc)
is_over (over_ring n) route e = absurd (cc)
is_over (over_route other) route e = let f : other ≡ route = cc in ap (λ (r : Route). over_route r) f

pub route_set : (backs : List Back) (n : ℕ) (f : Route → Route) (route : Route) → route_in backs n ≡ Some route
    → route_in (changed_at n (in_route f) backs) n ≡ Some (f route)
route_set backs n f route q =
    let (back, at, is) = given_some (slice_get backs n) route_of route q in
    ap (λ o. given o None route_of) (changed_same backs n (in_route f) ∙ ap (option_map (in_route f)) at)
    ∙ ap (λ (b : Back). route_of (in_route f b)) (is_over back route is)

pub route_else : (backs : List Back) (n m : ℕ) (f : Route → Route) → (m ≡ n → ⊥) → route_in (changed_at n (in_route f) backs) m ≡ route_in backs m
route_else backs n m f away = ap (λ o. given o None route_of) (changed_other backs n m (in_route f) away)

-- ---- what changes on the board

pub is_changed : (v : View) (core n : ℕ) (ring : RingEnd) (f : Route → Route) (p q : Part) → slice_get v.parts core ≡ Some p → NewTable p.circuits q.circuits n
    → Changes (board v) (board (heard_view v core q ring n f)) n
is_changed v core n ring f p q at t = record {
  others = λ m away. route_else v.backs n m f away;
  places = λ c neighbour l s. place_stays v.parts core p q at t.names c neighbour ∙ s;
  kept = set_kept v.parts core n p q at t;
  were = set_were v.parts core n p q at t;
}

-- ---- an entry at a link of a route is the binding's

module _ (b : Board) (known : Known b) (n : ℕ) (route : Route) (at : b.routes n ≡ Some route) (j : ℕ) (within : j < length route.numbers) where
  pub only_far : (h : Hop) → b.hops (far_key route j) ≡ Some h → h.binding ≡ n
  only_far h q =
      let (other, there, (i, due)) = known.fits.due (far_key route j) h q in
      elim due [
        | inl a ↦
            (let back : OneNumberBack other route i j = record {
              first = a.within;
              second = within;
              from = sym (ap (λ (k : Key). k.core) a.key_is);
              to = sym (ap (λ (k : Key). k.neighbour) a.key_is);
              number = sym (ap (λ (k : Key). k.number) a.key_is);
            } in
            known.back h.binding n other route i j there at back)
        | inr a ↦
            (let one : OneNumber other route i j = record {
              first = a.within;
              second = within;
              from = sym (ap (λ (k : Key). k.neighbour) a.key_is);
              to = sym (ap (λ (k : Key). k.core) a.key_is);
              number = sym (ap (λ (k : Key). k.number) a.key_is);
            } in
            known.once h.binding n other route i j there at one)
      ]

  pub only_near : (h : Hop) → b.hops (near_key route j) ≡ Some h → h.binding ≡ n
  only_near h q =
      let (other, there, (i, due)) = known.fits.due (near_key route j) h q in
      elim due [
        | inl a ↦
            (let one : OneNumber other route i j = record {
              first = a.within;
              second = within;
              from = sym (ap (λ (k : Key). k.core) a.key_is);
              to = sym (ap (λ (k : Key). k.neighbour) a.key_is);
              number = sym (ap (λ (k : Key). k.number) a.key_is);
            } in
            known.once h.binding n other route i j there at one)
        | inr a ↦
            (let back : OneNumberBack other route i j = record {
              first = a.within;
              second = within;
              from = sym (ap (λ (k : Key). k.neighbour) a.key_is);
              to = sym (ap (λ (k : Key). k.core) a.key_is);
              number = sym (ap (λ (k : Key). k.number) a.key_is);
            } in
            known.back h.binding n other route i j there at back)
      ]

-- ---- numbers

pub hop_small : (ps : List Part) (key : Key) (hop : Hop) → hop_in ps key ≡ Some hop → key.number ≤ 2046
hop_small ps key hop q =
    let (p, at, is) = given_some (slice_get ps key.core) (part_hop key.neighbour key.number) hop q in
    let (l, to, there) = given_some (link_of p.circuits key.neighbour) (λ l. hop_at p.circuits l key.number) hop is in
    (stands_there p.circuits l key.number hop there).0

pub slot_within : (t : TheCircuits) (neighbour l c : ℕ) → IsTable t → link_of t neighbour ≡ Some l → c ≤ 2046 → slot l c < length t.hops
slot_within t neighbour l c table to few =
    let inside = link_within t neighbour l to in
    let whole : length t.hops ≡ 2047 * length t.links = table.whole in omega arith

-- at a core's next number nothing stands
pub next_free : (t : TheCircuits) (l d : ℕ) → IsTable t → next_own t l ≡ Some d → (d ≤ 2046) × ((h : Hop) → hop_at t l d ≡ Some h → ⊥)
next_free t l d table own =
    let next = next_is t.core t.links l d own in
    let few : next.link.opened ≤ 1022 = next.few in
    let among = small t.core next.link.neighbour.0 (next.link.opened + 1) d (omega arith) (next.link.opened, omega arith, sym next.is) in (
      among.1,
      (λ h q. elim (table.toward l d h.binding h.way (record { answered = h.answered; there = q })) [
        | inl x ↦ never_next t.core t.links table.apart l d next (inl x.0)
        | inr x ↦ never_next t.core t.links table.apart l d next (inr x.0)
      ]),
    )
