-- Each event keeps the order of the openings under way.
use Rattle.std.proofs.Common.{◌≡◌, refl, sym, ◌∙◌, ap, subst, ℕ, zero, suc, ◌+◌, ◌<◌, List, [], ◌∷◌, ◌++◌, length, map, drop, slice_get, slice_index, Option, Some, None, option_map, arith, position}
use Rattle.std.specs.List.{cons_option}
use Rattle.std.proofs.lemmas.Option.{slice_get-map}
use Rattle.std.proofs.lemmas.List.{length-map}
use Rattle.fl_base.specs.declared.identity.Side.TheVariants.{Client}
use Rattle.fl_base.specs.Given.{given}
use Rattle.fl_base.specs.Numbered.{link_id, circuit_id}
use Rattle.fl_hop.specs.declared.links.LinkState.{LinkState}
use Rattle.fl_hop.specs.Numbers.{number}
use Rattle.fl_hop.specs.Openings.{opened}
use Rattle.fl_hop.proofs.Lists.{at_within}
use Rattle.fl_hop.proofs.Counting.{next_is}
use Rattle.fl_model.specs.Given.{changed_at}
use Rattle.fl_model.specs.Rings.{MonitorLabel, open_circuit, OpeningLabel, says, RingSide, first_side, second_side, RingEnd, Ring, puts}
use Rattle.fl_model.specs.Monitors.{Core, Link, says_more, link_to, opens}
use Rattle.fl_model.specs.State.{State, Route, over_route, undecided, core_of, link_between, seats}
use Rattle.fl_model.specs.Binding.{BindByNames, with_new_binding, with_circuit_begun, end_id, arrival_queue}
use Rattle.fl_model.specs.Forwarding.{LinkEnd, without_first_said}
use Rattle.fl_model.specs.Standing.{opening_number}
use Rattle.fl_model.specs.SoundPlaces.{opposite}
use Rattle.fl_model_laws.proofs.RingsKept.{seats_rings}
use Rattle.fl_model_laws.proofs.Views.{View, Part, part_of, sides_of, view, map_changed, changed_later}
use Rattle.fl_model_laws.proofs.Quiet.{quiet_seats}
use Rattle.fl_model_laws.proofs.Walk.{IsHere, BeginsRoute}
use Rattle.fl_model_laws.proofs.Places.{turned}
use Rattle.fl_model_laws.proofs.PlacesStep.{LinkedView, given_some, same_some, opening_counted}
use Rattle.fl_model_laws.proofs.LinkSides.{LinkSide, link_side_of, link_sides, names, link_side_in, is_to, link_side_is, link_side, Alters, opening_more, opened_in_order, moved_in_order, not_self, openings, side_openings}
use Rattle.fl_model_laws.proofs.OpeningsStep.{part_link_side, ring_openings, OrderOf, Numbered, alters_at, same_link_sides, linked_apart, link_side_within, ring_changes, ring_at, put_openings}
use Rattle.fl_model_laws.proofs.OpeningsMoves.{changed_twice, waits_more, said_link_sides, opens_more, opening_link_sides, number_is, even_parts}

pub alters_from : (ps : List Part) (n b l : ℕ) (h : Part → Part) (f : LinkSide → LinkSide) (p : Part) → slice_get ps n ≡ Some p → position (is_to b) p.circuits.links ≡ Some l
    → names (h p).circuits.links ≡ names p.circuits.links → link_sides (h p).circuits.links (h p).links ≡ changed_at l f (link_sides p.circuits.links p.links)
    → Alters (part_link_side ps) (part_link_side (changed_at n h ps)) n b f
alters_from ps n b l h f p q at e k =
    let a = alters_at ps n b l (λ x. x) h f p p.circuits.links q at refl e k in
    let same = same_link_sides ps n (λ x. x) p q refl refl in
    record { here = a.here ∙ ap (option_map f) (same n b); rest = λ x y away. a.rest x y away ∙ same x y }

pub alters_so : (link_side later : ℕ → ℕ → Option LinkSide) (a b : ℕ) (f g : LinkSide → LinkSide) → ((z : LinkSide) → link_side a b ≡ Some z → f z ≡ g z) → Alters link_side later a b f → Alters link_side later a b g
alters_so link_side later a b f g h k = record { here = k.here ∙ by (link_side a b) refl; rest = k.rest }
  where
    by : (o : Option LinkSide) → link_side a b ≡ o → option_map f o ≡ option_map g o
    by None q = refl
    by (Some z) q = ap (λ (x : LinkSide). Some x) (h z q)

pub part_there : (s : State) (n : ℕ) (k : Core) → core_of s n ≡ Some k → slice_get (map part_of s.cores) n ≡ Some (part_of k)
part_there s n k q = slice_get-map part_of s.cores n ∙ ap (option_map part_of) q

pub link_side_link_sides : (ps : List Part) (n b l : ℕ) (p : Part) (z : LinkSide) → slice_get ps n ≡ Some p → position (is_to b) p.circuits.links ≡ Some l → part_link_side ps n b ≡ Some z
    → slice_get (link_sides p.circuits.links p.links) l ≡ Some z
link_side_link_sides ps n b l p z q at r =
    sym (ap (λ o. given o None (link_side_in b)) q ∙ link_side_is b p.circuits.links (link_sides p.circuits.links p.links) ∙ ap (λ o. given o None (slice_get (link_sides p.circuits.links p.links))) at) ∙ r

pub same_opening : (a b c : ℕ) (z : LinkSide) → number a b z.opened ≡ c → opens_more (waits_more (c ∷ []) z) ≡ opening_more a b z
same_opening a b c z e = ap (λ n. (let y : LinkSide = record { ring = z.ring; opened = z.opened + 1; taken = z.taken; waiting = z.waiting ++ n ∷ [] } in y)) (sym e)

-- ---- a circuit that is begun

abbrev pub part_opens : ℕ → ℕ → OpeningLabel → Part → Part
part_opens l c o p = record { circuits = opened p.circuits (link_id l) (circuit_id c) o.binding; links = changed_at l (says_more (open_circuit o)) p.links }

pub both_orders : (ps qs : List Part) (rs us : List Ring) → qs ≡ ps → us ≡ rs → OrderOf ps rs → OrderOf qs us
both_orders ps qs rs us e f h = subst (λ xs. OrderOf xs us) (sym e) (subst (λ xs. OrderOf ps xs) (sym f) h)

pub begun_parts : (w : BindByNames) (cores : List ℕ) (n l c : ℕ) (s : State) → map part_of (with_circuit_begun w cores n l c s).cores
    ≡ changed_at w.client.core (part_opens l c (record { circuit = c; binding = n; service = w.iref; path = cores })) (map part_of s.cores)
begun_parts w cores n l c s =
    let route : Route = record { service = w.iref; cores = cores; numbers = c ∷ []; verdict = undecided } in
    let o : OpeningLabel = record { circuit = c; binding = n; service = w.iref; path = cores } in
    let fresh : State = with_new_binding w (over_route route) (length cores + 1) (Some arrival_queue) s in
    let sat : State = seats w.client (end_id n Client) fresh in
    map_changed part_of (opens l c o) (part_opens l c o) sat.cores w.client.core (λ k q. refl)
    ∙ ap (changed_at w.client.core (part_opens l c o)) (ap (λ (v : View). v.parts) (quiet_seats w.client (end_id n Client) fresh))

pub begun_order : (w : BindByNames) (cores : List ℕ) (k : Core) (l c : ℕ) (s : State) → BeginsRoute w cores k l c s → LinkedView (view s) → Numbered (map part_of s.cores)
    → OrderOf (map part_of s.cores) s.rings → OrderOf (map part_of (with_circuit_begun w cores (length s.bindings) l c s).cores) (with_circuit_begun w cores (length s.bindings) l c s).rings
begun_order w cores k l c s begins linked numbered h =
    let n : ℕ = w.client.core in
    let b : ℕ = slice_index cores 1 in
    let o : OpeningLabel = record { circuit = c; binding = length s.bindings; service = w.iref; path = cores } in
    let ps : List Part = map part_of s.cores in
    let p : Part = part_of k in
    let there = part_there s n k begins.core in
    let next = next_is k.circuits.core k.circuits.links l c begins.number in
    let core : k.circuits.core ≡ n = numbered n p there in
    let made = opening_link_sides p.circuits.links (changed_at l (says_more (open_circuit o)) p.links) l
    ∙ ap (changed_at l opens_more) (said_link_sides (open_circuit o) p.circuits.links p.links l)
    ∙ changed_twice opens_more (waits_more (c ∷ [])) (link_sides p.circuits.links p.links) l in
    let alters = alters_from ps n b l (part_opens l c o) (λ z. opens_more (waits_more (c ∷ []) z)) p there begins.link (opening_counted p.circuits.links l) made in
    let right = alters_so (part_link_side ps) (part_link_side (changed_at n (part_opens l c o) ps)) n b (λ z. opens_more (waits_more (c ∷ []) z)) (opening_more n b) (λ z q.
    same_opening n b c z (number_is n b l c p.circuits.links p.links next.link z begins.link next.there (ap (λ m. number m next.link.neighbour.0 next.link.opened) (sym core) ∙ next.is)
    (link_side_link_sides ps n b l p z there begins.link q))) alters in
    both_orders (changed_at n (part_opens l c o) ps) _ s.rings _ (begun_parts w cores (length s.bindings) l c s) (seats_rings w.client (end_id (length s.bindings) Client) _)
    (opened_in_order (part_link_side ps) (part_link_side (changed_at n (part_opens l c o) ps)) (ring_openings s.rings) n b (λ z q. not_self (part_link_side ps) n b z (linked_apart (view s) linked) q) right h)

-- ---- a core's end of a link

pub record AtLink (here : LinkEnd) (s : State) : Type 0 where
  pub core : Core
  pub core_is : core_of s here.core ≡ Some core
  pub link_is : link_to here.neighbour core ≡ Some here.link
  pub link : Link
  pub there : slice_get core.links here.link ≡ Some link
  pub ring : link.ring ≡ here.ring

pub at_link : (here : LinkEnd) (s : State) → (k : IsHere here s) → AtLink here s × (k.core ≡ here.core) × (k.neighbour ≡ here.neighbour)
at_link here s k =
    let (c, q, r) = given_some (core_of s k.core) _ here k.here_is in
    let (l, t, u) = given_some (link_to k.neighbour c) _ here r in
    let (x, v, w) = given_some (slice_get c.links l) _ here u in
    let e : record { core = k.core; neighbour = k.neighbour; link = l; ring = x.ring } ≡ here = inner k.core k.neighbour l x.ring here w in
    by k.core k.neighbour l c x here e q t v
  where
    inner : (a b l : ℕ) (r : RingEnd) (y : LinkEnd) → Some (let z : LinkEnd = record { core = a; neighbour = b; link = l; ring = r } in z) ≡ Some y
        → (let z : LinkEnd = record { core = a; neighbour = b; link = l; ring = r } in z) ≡ y
    inner a b l r y e = cc

    by : (a b l : ℕ) (c : Core) (x : Link) (y : LinkEnd) → (let z : LinkEnd = record { core = a; neighbour = b; link = l; ring = x.ring } in z) ≡ y
        → core_of s a ≡ Some c → link_to b c ≡ Some l → slice_get c.links l ≡ Some x → AtLink y s × (a ≡ y.core) × (b ≡ y.neighbour)
    by a b l c x y e q t v = (
      record {
        core = c;
        core_is = ap (λ (z : LinkEnd). core_of s z.core) (sym e) ∙ q;
        link_is = ap (λ (z : LinkEnd). link_to z.neighbour c) (sym e) ∙ t ∙ ap (λ (z : LinkEnd). Some z.link) e;
        link = x;
        there = ap (λ (z : LinkEnd). slice_get c.links z.link) (sym e) ∙ v;
        ring = ap (λ (z : LinkEnd). z.ring) e;
      },
      ap (λ (z : LinkEnd). z.core) e,
      ap (λ (z : LinkEnd). z.neighbour) e,
    )

link_sides_there : (us : List LinkState) (ls : List Link) (l : ℕ) (x : Link) → length us ≡ length ls → slice_get ls l ≡ Some x → (a : LinkState) × (slice_get (link_sides us ls) l ≡ Some (link_side_of a x))
link_sides_there [] [] l x e q = absurd (cc)
link_sides_there [] (y ∷ ls) l x e q = absurd (omega arith)
link_sides_there (a ∷ us) [] l x e q = absurd (cc)
link_sides_there (a ∷ us) (y ∷ ls) zero x e q = (a, (let f : y ≡ x = cc in ap (λ (z : Link). Some (link_side_of a z)) f))
link_sides_there (a ∷ us) (y ∷ ls) (suc l) x e q = link_sides_there us ls l x (let f : length (a ∷ us) ≡ length (y ∷ ls) = e in omega arith) q

-- its link side
pub here_link_side : (here : LinkEnd) (s : State) (k : AtLink here s) → LinkedView (view s) → (a : LinkState) × (part_link_side (map part_of s.cores) here.core here.neighbour ≡ Some (link_side_of a k.link))
here_link_side here s k linked =
    let p : Part = part_of k.core in
    let there = part_there s here.core k.core k.core_is in
    let (a, q) = link_sides_there p.circuits.links p.links here.link k.link (even_parts s linked here.core p there) k.there in (
      a,
      ap (λ o. given o None (link_side_in here.neighbour)) there ∙ link_side_is here.neighbour p.circuits.links (link_sides p.circuits.links p.links)
          ∙ ap (λ o. given o None (slice_get (link_sides p.circuits.links p.links))) k.link_is ∙ q,
    )

pub here_ring : (here : LinkEnd) (s : State) (k : AtLink here s) → LinkedView (view s) → (r : Ring) × (slice_get s.rings here.ring.ring ≡ Some r)
here_ring here s k linked =
    let (a, q) = here_link_side here s k linked in
    let e = length-map s.rings sides_of in
    let w : k.link.ring.ring < length (map sides_of s.rings) = link_side_within (view s) here.core here.neighbour (link_side_of a k.link) linked q in
    let f : k.link.ring.ring ≡ here.ring.ring = ap (λ (x : RingEnd). x.ring) k.ring in
    at_within s.rings here.ring.ring (omega arith)

-- ---- a message goes onto a link

abbrev behind : Option ℕ → List ℕ → List ℕ
behind None ws = ws
behind (Some c) ws = drop 1 ws

behind_is : (o : Option ℕ) (ws : List ℕ) → behind o (cons_option o ws) ≡ ws
behind_is None ws = refl
behind_is (Some c) ws = refl

before_is : (o : Option ℕ) (ws : List ℕ) → cons_option o ws ≡ cons_option o [] ++ ws
before_is None ws = refl
before_is (Some c) ws = refl

outbox_is : (ms : List MonitorLabel) (m : MonitorLabel) → slice_get ms 0 ≡ Some m → openings ms ≡ cons_option (opening_number m) (openings (drop 1 ms))
outbox_is [] m q = absurd (cc)
outbox_is (n ∷ ms) m q = let e : n ≡ m = cc in ap (λ (x : MonitorLabel). cons_option (opening_number x) (openings ms)) e

abbrev shifts : MonitorLabel → LinkSide → LinkSide
shifts m z = record z { waiting = behind (opening_number m) z.waiting }

abbrev pub drops : Link → Link
drops x = record x { outbox = drop 1 x.outbox }

drop_link_sides : (m : MonitorLabel) (us : List LinkState) (ls : List Link) (l : ℕ) (x : Link) → slice_get ls l ≡ Some x → slice_get x.outbox 0 ≡ Some m
    → link_sides us (changed_at l drops ls) ≡ changed_at l (shifts m) (link_sides us ls)
drop_link_sides m [] ls l x q r = refl
drop_link_sides m (a ∷ us) [] l x q r = refl
drop_link_sides m (a ∷ us) (y ∷ ls) zero x q r =
    let e : y ≡ x = cc in
    let f : slice_get y.outbox 0 ≡ Some m = ap (λ (z : Link). slice_get z.outbox 0) e ∙ r in
    let g : openings (drop 1 y.outbox) ≡ behind (opening_number m) (openings y.outbox) =
    sym (ap (behind (opening_number m)) (outbox_is y.outbox m f) ∙ behind_is (opening_number m) (openings (drop 1 y.outbox))) in
    ap (λ ws. (let z : LinkSide = record { ring = y.ring; opened = a.opened; taken = a.taken; waiting = ws } in z) ∷ link_sides us ls) g
drop_link_sides m (a ∷ us) (y ∷ ls) (suc l) x q r =
    ap (link_sides (a ∷ us)) (changed_later y ls l drops) ∙ ap (λ xs. link_side_of a y ∷ xs) (drop_link_sides m us ls l x q r) ∙ sym (changed_later (link_side_of a y) (link_sides us ls) l (shifts m))

abbrev pub part_drops : ℕ → Part → Part
part_drops l p = record { circuits = p.circuits; links = changed_at l drops p.links }

put_changes : (rs : List Ring) (at : RingEnd) (m : MonitorLabel) (x : RingEnd) → (x ≡ turned at → ⊥) → ring_openings (changed_at at.ring (puts at.side (says m)) rs) x ≡ ring_openings rs x
put_changes rs at m x away = ring_changes rs (turned at) (puts at.side (says m)) (λ r. by at.side r) x away
  where
    by : (side : RingSide) (r : Ring) → side_openings (opposite (opposite side)) (sides_of (puts side (says m) r)) ≡ side_openings (opposite (opposite side)) (sides_of r)
    by first_side r = refl
    by second_side r = refl

put_there : (rs : List Ring) (at : RingEnd) (m : MonitorLabel) (r : Ring) → slice_get rs at.ring ≡ Some r
    → ring_openings (changed_at at.ring (puts at.side (says m)) rs) (turned at) ≡ ring_openings rs (turned at) ++ cons_option (opening_number m) []
put_there rs at m r q =
    ring_at rs at.ring (opposite at.side) (puts at.side (says m)) r q ∙ put_openings at.side m r
    ∙ ap (λ ws. ws ++ cons_option (opening_number m) []) (sym (ap (λ o. given o [] (λ x. side_openings (opposite at.side) (sides_of x))) q))

pub monitor_order : (here : LinkEnd) (link : Link) (m : MonitorLabel) (s : State) (k : IsHere here s) → link_between s k.core k.neighbour ≡ Some link → slice_get link.outbox 0 ≡ Some m
    → LinkedView (view s) → OrderOf (map part_of s.cores) s.rings
    → OrderOf (map part_of (changed_at here.core (without_first_said here.link) s.cores)) (changed_at here.ring.ring (puts here.ring.side (says m)) s.rings)
monitor_order here link m s k t u linked h =
    let (x, e, f) = at_link here s k in
    let ps : List Part = map part_of s.cores in
    let p : Part = part_of x.core in
    let there = part_there s here.core x.core x.core_is in
    let same : x.link ≡ link = same_some (link_between s here.core here.neighbour) x.link link
    (ap (λ o. given o None (λ c. given (link_to here.neighbour c) None (λ l. slice_get c.links l))) x.core_is ∙ ap (λ o. given o None (λ l. slice_get x.core.links l)) x.link_is ∙ x.there)
    (ap (λ n. link_between s n here.neighbour) (sym e) ∙ ap (λ n. link_between s k.core n) (sym f) ∙ t) in
    let first : slice_get x.link.outbox 0 ≡ Some m = ap (λ (y : Link). slice_get y.outbox 0) same ∙ u in
    let (a, q) = here_link_side here s x linked in
    let z : LinkSide = link_side_of a x.link in
    let (r, i) = here_ring here s x linked in
    let apart = linked_apart (view s) linked in
    let (y, j, l) = apart.pair here.core here.neighbour z q in
    let facing : y.ring ≡ turned here.ring = l ∙ ap turned x.ring in
    let box : z.waiting ≡ cons_option (opening_number m) [] ++ (shifts m z).waiting =
    outbox_is x.link.outbox m first ∙ before_is (opening_number m) (openings (drop 1 x.link.outbox))
    ∙ ap (λ ws. cons_option (opening_number m) [] ++ ws) (sym (ap (behind (opening_number m)) (outbox_is x.link.outbox m first) ∙ behind_is (opening_number m) (openings (drop 1 x.link.outbox)))) in
    let alters = alters_from ps here.core here.neighbour here.link (part_drops here.link) (shifts m) p there x.link_is refl
    (drop_link_sides m p.circuits.links p.links here.link x.link x.there first) in
    both_orders (changed_at here.core (part_drops here.link) ps) _ (changed_at here.ring.ring (puts here.ring.side (says m)) s.rings) _
    (map_changed part_of (without_first_said here.link) (part_drops here.link) s.cores here.core (λ c g. refl)) refl
    (moved_in_order (part_link_side ps) (part_link_side (changed_at here.core (part_drops here.link) ps)) (ring_openings s.rings) (ring_openings (changed_at here.ring.ring (puts here.ring.side (says m)) s.rings))
    here.core here.neighbour (shifts m) (cons_option (opening_number m) []) z y apart q j alters (record { same = refl; waiting = box })
    (ap (ring_openings (changed_at here.ring.ring (puts here.ring.side (says m)) s.rings)) facing ∙ put_there s.rings here.ring m r i
    ∙ ap (λ g. ring_openings s.rings g ++ cons_option (opening_number m) []) (sym facing))
    (record { rest = λ v away. put_changes s.rings here.ring m v (λ g. away (g ∙ sym facing)) }) h)
