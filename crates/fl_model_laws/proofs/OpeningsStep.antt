-- Each event keeps the openings that are under way in order.
use Rattle.std.proofs.Common.{◌≡◌, refl, sym, ◌∙◌, ap, subst, ℕ, zero, suc, ◌+◌, ◌<◌, ◌==◌, Bool, true, false, if◌then◌else◌, List, [], ◌∷◌, ◌++◌, length, map, drop, slice_get, Option, Some, None, option_map, arith, ◌⊎◌, inl, inr, position}
use Rattle.std.specs.List.{range_with_len, cons_option}
use Rattle.std.proofs.lemmas.List.{length-map, map-append}
use Rattle.std.proofs.lemmas.List.Elements.{filter_map-append}
use Rattle.fl_base.specs.Given.{given}
use Rattle.fl_hop.specs.declared.links.LinkState.{LinkState}
use Rattle.fl_hop.specs.Table.{with_link}
use Rattle.fl_hop.proofs.Entering.{same_or}
use Rattle.fl_model.specs.Given.{changed_at}
use Rattle.fl_model.specs.Rings.{MonitorLabel, says, RingSide, first_side, second_side, RingEnd, Ring, RingLabel, first_for, read_by, puts, takes}
use Rattle.fl_model.specs.Monitors.{fresh_core, Link}
use Rattle.fl_model.specs.State.{State}
use Rattle.fl_model.specs.Standing.{opening_number, said_by}
use Rattle.fl_model.specs.SoundPlaces.{core_to, opposite}
use Rattle.fl_model_laws.proofs.Views.{View, Part, found, given_map, part_of, sides_of, messages, view}
use Rattle.fl_model_laws.proofs.Quiet.{messages_push, drop_said}
use Rattle.fl_model_laws.proofs.Places.{changed_other, changed_same, turned, ring_of, found_push}
use Rattle.fl_model_laws.proofs.PlacesStep.{plan, outline, LinkedView, given_some, length_push}
use Rattle.fl_model_laws.proofs.LinkSides.{LinkSide, link_side_of, link_sides, names, link_side_to, link_side_in, is_to, link_side_here, link_side_else, link_side, side_openings, unread_openings, GoInOrder, Apart, Alters, same_in_order, openings}

-- ---- link sides and the plan

link_side_ring : (us : List LinkState) (ls : List Link) (b : ℕ) → found (λ n. n == b) (names us) (map (λ (l : Link). l.ring) ls)
    ≡ given (link_side_to b (names us) (link_sides us ls)) None (λ x. Some x.ring)
link_side_ring [] ls b = refl
link_side_ring (a ∷ us) [] b = refl
link_side_ring (a ∷ us) (l ∷ ls) b = by (a.neighbour.0 == b) (link_side_ring us ls b)
  where
    by : (t : Bool) → found (λ n. n == b) (names us) (map (λ (x : Link). x.ring) ls) ≡ given (link_side_to b (names us) (link_sides us ls)) None (λ x. Some x.ring)
        → (if t then Some l.ring else found (λ n. n == b) (names us) (map (λ (x : Link). x.ring) ls)) ≡ given (if t then Some (link_side_of a l) else link_side_to b (names us) (link_sides us ls)) None (λ x. Some x.ring)
    by true k = refl
    by false k = k

ring_link_side : (v : View) (a b : ℕ) → ring_of (plan v) (core_to a b) ≡ given (link_side v a b) None (λ x. Some x.ring)
ring_link_side v a b = by v.parts a
  where
    by : (ps : List Part) (n : ℕ) → given (slice_get (map outline ps) n) None (λ o. found (λ m. m == b) o.neighbours o.rings) ≡ given (given (slice_get ps n) None (link_side_in b)) None (λ x. Some x.ring)
    by [] n = refl
    by (p ∷ ps) zero = link_side_ring p.circuits.links p.links b
    by (p ∷ ps) (suc n) = by ps n

pub link_side_owner : (v : View) (a b : ℕ) (x : LinkSide) → link_side v a b ≡ Some x → ring_of (plan v) (core_to a b) ≡ Some x.ring
link_side_owner v a b x q = ring_link_side v a b ∙ ap (λ o. given o None (λ (y : LinkSide). Some y.ring)) q

pub owner_link_side : (v : View) (a b : ℕ) (at : RingEnd) → ring_of (plan v) (core_to a b) ≡ Some at → (x : LinkSide) × (link_side v a b ≡ Some x) × (x.ring ≡ at)
owner_link_side v a b at q =
    let (x, r, e) = given_some (link_side v a b) (λ (y : LinkSide). Some y.ring) at (sym (ring_link_side v a b) ∙ q) in
    (x, r, (let k : x.ring ≡ at = cc in k))

pub linked_apart : (v : View) → LinkedView v → Apart (link_side v)
linked_apart v h = record {
  pair = λ a b x q. owner_link_side v b a (turned x.ring) (h.back a b x.ring (link_side_owner v a b x q));
  one = λ a b c d x y q r e.
      let k : core_to a b ≡ core_to c d = h.one (core_to a b) (core_to c d) x.ring (link_side_owner v a b x q) (link_side_owner v c d y r ∙ ap (λ (z : RingEnd). Some z) (sym e)) in
      ((let m : a ≡ c = cc in m), (let m : b ≡ d = cc in m));
}

pub link_side_within : (v : View) (a b : ℕ) (x : LinkSide) → LinkedView v → link_side v a b ≡ Some x → x.ring.ring < length v.rings
link_side_within v a b x h q = h.within (core_to a b) x.ring (link_side_owner v a b x q)

-- ---- a core changed

abbrev pub part_link_side : List Part → ℕ → ℕ → Option LinkSide
part_link_side ps x y = given (slice_get ps x) None (link_side_in y)

set_link_side : (ps : List Part) (n y : ℕ) (g : Part → Part) (p : Part) → slice_get ps n ≡ Some p → part_link_side (changed_at n g ps) n y ≡ link_side_in y (g p)
set_link_side ps n y g p q = ap (λ o. given o None (link_side_in y)) (changed_same ps n g) ∙ ap (λ o. given (option_map g o) None (link_side_in y)) q

pub alters_at : (ps : List Part) (n b l : ℕ) (g h : Part → Part) (f : LinkSide → LinkSide) (p : Part) (us : List LinkState) → slice_get ps n ≡ Some p
    → position (is_to b) us ≡ Some l → names (g p).circuits.links ≡ names us → names (h p).circuits.links ≡ names us
    → link_sides (h p).circuits.links (h p).links ≡ changed_at l f (link_sides (g p).circuits.links (g p).links)
    → Alters (part_link_side (changed_at n g ps)) (part_link_side (changed_at n h ps)) n b f
alters_at ps n b l g h f p us q at e e2 k = record {
  here = set_link_side ps n b h p q ∙ ap (λ ns. link_side_to b ns (link_sides (h p).circuits.links (h p).links)) e2 ∙ ap (link_side_to b (names us)) k
      ∙ link_side_here b l f us (link_sides (g p).circuits.links (g p).links) at
      ∙ ap (option_map f) (sym (set_link_side ps n b g p q ∙ ap (λ ns. link_side_to b ns (link_sides (g p).circuits.links (g p).links)) e));
  rest = λ x y away. elim (same_or x n) [
    | inr d ↦ ap (λ o. given o None (link_side_in y)) (changed_other ps n x h d ∙ sym (changed_other ps n x g d))
    | inl d ↦ subst (λ m. part_link_side (changed_at n h ps) m y ≡ part_link_side (changed_at n g ps) m y) (sym d)
        (set_link_side ps n y h p q ∙ ap (λ ns. link_side_to y ns (link_sides (h p).circuits.links (h p).links)) e2 ∙ ap (link_side_to y (names us)) k
        ∙ link_side_else b y l f us (link_sides (g p).circuits.links (g p).links) at (λ z. away (d, z))
        ∙ sym (set_link_side ps n y g p q ∙ ap (λ ns. link_side_to y ns (link_sides (g p).circuits.links (g p).links)) e))
  ];
}

-- a change that leaves a core's link sides
pub same_link_sides : (ps : List Part) (n : ℕ) (g : Part → Part) (p : Part) → slice_get ps n ≡ Some p → names (g p).circuits.links ≡ names p.circuits.links
    → link_sides (g p).circuits.links (g p).links ≡ link_sides p.circuits.links p.links → (x y : ℕ) → part_link_side (changed_at n g ps) x y ≡ part_link_side ps x y
same_link_sides ps n g p q e k x y = elim (same_or x n) [
  | inr d ↦ ap (λ o. given o None (link_side_in y)) (changed_other ps n x g d)
  | inl d ↦ subst (λ m. part_link_side (changed_at n g ps) m y ≡ part_link_side ps m y) (sym d)
      (set_link_side ps n y g p q ∙ ap (λ ns. link_side_to y ns (link_sides (g p).circuits.links (g p).links)) e ∙ ap (link_side_to y (names p.circuits.links)) k
      ∙ sym (ap (λ o. given o None (link_side_in y)) q))
]

-- ---- a ring changed

abbrev pub ring_openings : List Ring → RingEnd → List ℕ
ring_openings rs at = given (slice_get rs at.ring) [] (λ r. side_openings at.side (sides_of r))

pub rings_viewed : (rs : List Ring) (at : RingEnd) → given (slice_get (map sides_of rs) at.ring) [] (side_openings at.side) ≡ ring_openings rs at
rings_viewed rs at = given_map sides_of [] (side_openings at.side) rs at.ring

same_end : (x y : RingEnd) → x.ring ≡ y.ring → x.side ≡ y.side → x ≡ y
same_end x y p q = both x.ring y.ring x.side y.side p q
  where
    both : (a b : ℕ) (c d : RingSide) → a ≡ b → c ≡ d → record { ring = a; side = c } ≡ (let r : RingEnd = record { ring = b; side = d } in r)
    both a b c d e f = cc

side_or : (a b : RingSide) → (a ≡ b) ⊎ (a ≡ opposite b)
side_or first_side first_side = inl refl
side_or first_side second_side = inr refl
side_or second_side first_side = inr refl
side_or second_side second_side = inl refl

pub ring_changes : (rs : List Ring) (at : RingEnd) (f : Ring → Ring) → ((r : Ring) → side_openings (opposite at.side) (sides_of (f r)) ≡ side_openings (opposite at.side) (sides_of r))
    → (x : RingEnd) → (x ≡ at → ⊥) → ring_openings (changed_at at.ring f rs) x ≡ ring_openings rs x
ring_changes rs at f h x away = elim (same_or x.ring at.ring) [
  | inr d ↦ ap (λ o. given o [] (λ r. side_openings x.side (sides_of r))) (changed_other rs at.ring x.ring f d)
  | inl d ↦ elim (side_or x.side at.side) [
    | inl e ↦ absurd (away (same_end x at d e))
    | inr e ↦ subst (λ n. given (slice_get (changed_at at.ring f rs) n) [] (λ r. side_openings x.side (sides_of r)) ≡ given (slice_get rs n) [] (λ r. side_openings x.side (sides_of r))) (sym d)
        (ap (λ o. given o [] (λ r. side_openings x.side (sides_of r))) (changed_same rs at.ring f) ∙ by e (slice_get rs at.ring))
  ]
]
  where
    by : x.side ≡ opposite at.side → (o : Option Ring) → given (option_map f o) [] (λ r. side_openings x.side (sides_of r)) ≡ given o [] (λ r. side_openings x.side (sides_of r))
    by e None = refl
    by e (Some r) = subst (λ s. side_openings s (sides_of (f r)) ≡ side_openings s (sides_of r)) (sym e) (h r)

pub ring_at : (rs : List Ring) (n : ℕ) (side : RingSide) (f : Ring → Ring) (r : Ring) → slice_get rs n ≡ Some r
    → ring_openings (changed_at n f rs) (record { ring = n; side = side }) ≡ side_openings side (sides_of (f r))
ring_at rs n side f r q = ap (λ o. given o [] (λ x. side_openings side (sides_of x))) (changed_same rs n f) ∙ ap (λ o. given (option_map f o) [] (λ x. side_openings side (sides_of x))) q

pub take_openings : (side : RingSide) (r : Ring) (x : RingLabel) → first_for side r ≡ Some x
    → side_openings side (sides_of r) ≡ openings (cons_option (said_by x.label) (messages (drop 1 (read_by side r).waiting)))
take_openings first_side r x h = ap openings (drop_said r.by_second.waiting x h)
take_openings second_side r x h = ap openings (drop_said r.by_first.waiting x h)

pub take_left : (side : RingSide) (r : Ring) → side_openings side (sides_of (takes side r)) ≡ openings (messages (drop 1 (read_by side r).waiting))
take_left first_side r = refl
take_left second_side r = refl

pub take_else : (side : RingSide) (r : Ring) → side_openings (opposite side) (sides_of (takes side r)) ≡ side_openings (opposite side) (sides_of r)
take_else first_side r = refl
take_else second_side r = refl

pub put_openings : (side : RingSide) (m : MonitorLabel) (r : Ring) → side_openings (opposite side) (sides_of (puts side (says m) r)) ≡ side_openings (opposite side) (sides_of r) ++ cons_option (opening_number m) []
put_openings first_side m r = ap openings (messages_push r.by_first.waiting _) ∙ filter_map-append opening_number (messages r.by_first.waiting) (m ∷ [])
put_openings second_side m r = ap openings (messages_push r.by_second.waiting _) ∙ filter_map-append opening_number (messages r.by_second.waiting) (m ∷ [])

pub put_else : (side : RingSide) (m : MonitorLabel) (r : Ring) → side_openings side (sides_of (puts side (says m) r)) ≡ side_openings side (sides_of r)
put_else first_side m r = refl
put_else second_side m r = refl

pub ring_kept : (rs : List Ring) (n : ℕ) (f : Ring → Ring) → ((r : Ring) (side : RingSide) → slice_get rs n ≡ Some r → side_openings side (sides_of (f r)) ≡ side_openings side (sides_of r))
    → (x : RingEnd) → ring_openings (changed_at n f rs) x ≡ ring_openings rs x
ring_kept rs n f h x = elim (same_or x.ring n) [
  | inr d ↦ ap (λ o. given o [] (λ r. side_openings x.side (sides_of r))) (changed_other rs n x.ring f d)
  | inl d ↦ subst (λ m. given (slice_get (changed_at n f rs) m) [] (λ r. side_openings x.side (sides_of r)) ≡ given (slice_get rs m) [] (λ r. side_openings x.side (sides_of r))) (sym d)
      (ap (λ o. given o [] (λ r. side_openings x.side (sides_of r))) (changed_same rs n f) ∙ by (slice_get rs n) refl)
]
  where
    by : (o : Option Ring) → slice_get rs n ≡ o → given (option_map f o) [] (λ r. side_openings x.side (sides_of r)) ≡ given o [] (λ r. side_openings x.side (sides_of r))
    by None q = refl
    by (Some r) q = h r x.side q

pub take_same : (side other : RingSide) (m : MonitorLabel) (r : Ring) (x : RingLabel) → first_for side r ≡ Some x → x.label ≡ says m → opening_number m ≡ None
    → side_openings other (sides_of (takes side r)) ≡ side_openings other (sides_of r)
take_same side other m r x h l q = elim (side_or other side) [
  | inl e ↦ subst (λ s. side_openings s (sides_of (takes side r)) ≡ side_openings s (sides_of r)) (sym e)
      (take_left side r ∙ sym (take_openings side r x h ∙ ap (λ o. openings (cons_option (said_by o) (messages (drop 1 (read_by side r).waiting)))) l
      ∙ ap (λ o. cons_option o (openings (messages (drop 1 (read_by side r).waiting)))) q))
  | inr e ↦ subst (λ s. side_openings s (sides_of (takes side r)) ≡ side_openings s (sides_of r)) (sym e) (take_else side r)
]

-- ---- the predicate

abbrev pub Numbered : List Part → Type 0
Numbered ps = (n : ℕ) (p : Part) → slice_get ps n ≡ Some p → p.circuits.core ≡ n

pub record Flowing (v : View) : Type 0 where
  pub linked : LinkedView v
  pub cores : Numbered v.parts
  pub order : GoInOrder (part_link_side v.parts) (unread_openings v)

abbrev pub OrderOf : List Part → List Ring → Type 0
OrderOf ps rs = GoInOrder (part_link_side ps) (ring_openings rs)

pub order_of : (s : State) → GoInOrder (part_link_side (view s).parts) (unread_openings (view s)) → OrderOf (map part_of s.cores) s.rings
order_of s h = same_in_order (link_side (view s)) (link_side (view s)) (unread_openings (view s)) (ring_openings s.rings) (λ a b. refl) (λ a b y q. sym (rings_viewed s.rings y.ring)) h

pub of_order : (s : State) → OrderOf (map part_of s.cores) s.rings → GoInOrder (part_link_side (view s).parts) (unread_openings (view s))
of_order s h = same_in_order (link_side (view s)) (link_side (view s)) (ring_openings s.rings) (unread_openings (view s)) (λ a b. refl) (λ a b y q. rings_viewed s.rings y.ring) h

pub numbered_set : (ps : List Part) (n : ℕ) (g : Part → Part) → ((p : Part) → slice_get ps n ≡ Some p → (g p).circuits.core ≡ p.circuits.core) → Numbered ps → Numbered (changed_at n g ps)
numbered_set ps n g e h m q r = elim (same_or m n) [
  | inr d ↦ h m q (sym (changed_other ps n m g d) ∙ r)
  | inl d ↦ by (slice_get ps n) refl (sym (changed_same ps n g) ∙ subst (λ k. slice_get (changed_at n g ps) k ≡ Some q) d r) ∙ sym d
]
  where
    by : (o : Option Part) → slice_get ps n ≡ o → option_map g o ≡ Some q → q.circuits.core ≡ n
    by None f k = absurd (cc)
    by (Some p) f k = let i : g p ≡ q = cc in ap (λ (z : Part). z.circuits.core) (sym i) ∙ e p f ∙ h n p f

-- ---- new rings

pub push_openings : (rs : List Ring) (r : Ring) (at : RingEnd) → at.ring < length rs → ring_openings (rs ++ r ∷ []) at ≡ ring_openings rs at
push_openings rs r at h = by rs at.ring h
  where
    by : (xs : List Ring) (n : ℕ) → n < length xs → given (slice_get (xs ++ r ∷ []) n) [] (λ y. side_openings at.side (sides_of y)) ≡ given (slice_get xs n) [] (λ y. side_openings at.side (sides_of y))
    by [] n k = absurd (omega arith)
    by (x ∷ xs) zero k = refl
    by (x ∷ xs) (suc n) k = by xs n (let e : suc n < length (x ∷ xs) = k in omega arith)

pub pushed_order : (s : State) (r : Ring) → LinkedView (view s) → OrderOf (map part_of s.cores) s.rings → OrderOf (map part_of s.cores) (s.rings ++ r ∷ [])
pushed_order s r l h =
    same_in_order (part_link_side (map part_of s.cores)) (part_link_side (map part_of s.cores)) (ring_openings s.rings) (ring_openings (s.rings ++ r ∷ [])) (λ a b. refl)
    (λ a b y q. push_openings s.rings r y.ring (let k : y.ring.ring < length (map sides_of s.rings) = link_side_within (view s) a b y l q in let e = length-map s.rings sides_of in omega arith)) h

-- ---- the number of cores

fresh_link_side : (xs : List ℕ) (a b : ℕ) → part_link_side (map part_of (map fresh_core xs)) a b ≡ None
fresh_link_side [] a b = refl
fresh_link_side (x ∷ xs) zero b = refl
fresh_link_side (x ∷ xs) (suc a) b = fresh_link_side xs a b

pub fresh_numbered : (m a n : ℕ) (p : Part) → slice_get (map part_of (map fresh_core (range_with_len a m))) n ≡ Some p → p.circuits.core ≡ a + n
fresh_numbered zero a n p h = absurd (cc)
fresh_numbered (suc m) a zero p h =
    let e : part_of (fresh_core a) ≡ p = cc in ap (λ (q : Part). q.circuits.core) (sym e) ∙ (let f : a ≡ a + 0 = omega arith in f)
fresh_numbered (suc m) a (suc n) p h = fresh_numbered m (a + 1) n p h ∙ (let f : a + 1 + n ≡ a + suc n = omega arith in f)

pub fresh_order : (xs : List ℕ) (rs : List Ring) → OrderOf (map part_of (map fresh_core xs)) rs
fresh_order xs rs a b x y q r = absurd (let e : None ≡ Some x = sym (fresh_link_side xs a b) ∙ q in cc)

-- ---- a link

link_sides_push : (us : List LinkState) (ls : List Link) (u : LinkState) (l : Link) → length us ≡ length ls → link_sides (us ++ u ∷ []) (ls ++ l ∷ []) ≡ link_sides us ls ++ link_side_of u l ∷ []
link_sides_push [] [] u l h = refl
link_sides_push [] (m ∷ ls) u l h = absurd (omega arith)
link_sides_push (a ∷ us) [] u l h = absurd (omega arith)
link_sides_push (a ∷ us) (m ∷ ls) u l h = ap (λ xs. link_side_of a m ∷ xs) (link_sides_push us ls u l (let e : length (a ∷ us) ≡ length (m ∷ ls) = h in omega arith))

link_sides_length : (us : List LinkState) (ls : List Link) → length us ≡ length ls → length (link_sides us ls) ≡ length us
link_sides_length [] ls h = refl
link_sides_length (a ∷ us) [] h = absurd (omega arith)
link_sides_length (a ∷ us) (m ∷ ls) h =
    let k : length (link_sides us ls) ≡ length us = link_sides_length us ls (let e : length (a ∷ us) ≡ length (m ∷ ls) = h in omega arith) in omega arith

pub record IsNewLinkSide (n : ℕ) (x : LinkSide) : Type 0 where
  pub ring : x.ring.ring ≡ n
  pub opened : x.opened ≡ 0
  pub taken : x.taken ≡ 0
  pub waiting : x.waiting ≡ []

abbrev pub part_linked : ℕ → ℕ → RingSide → Part → Part
part_linked b n side p = record { circuits = with_link p.circuits (record { 0 = b }); links = p.links ++ record { ring = record { ring = n; side = side }; outbox = [] } ∷ [] }

new_or : (o : Option LinkSide) (t : Bool) (n : ℕ) (z x : LinkSide) → IsNewLinkSide n z → given o (if t then Some z else None) (λ y. Some y) ≡ Some x → (o ≡ Some x) ⊎ IsNewLinkSide n x
new_or (Some y) t n z x h q = inl q
new_or None true n z x h q = inr (subst (IsNewLinkSide n) (let e : z ≡ x = cc in e) h)
new_or None false n z x h q = absurd (cc)

linked_in : (b n y : ℕ) (side : RingSide) (p : Part) (x : LinkSide) → length p.circuits.links ≡ length p.links → link_side_in y (part_linked b n side p) ≡ Some x
    → (link_side_in y p ≡ Some x) ⊎ IsNewLinkSide n x
linked_in b n y side p x even h =
    let u : LinkState = record { neighbour = record { 0 = b }; opened = 0; taken = 0 } in
    let l : Link = record { ring = record { ring = n; side = side }; outbox = [] } in
    let us = p.circuits.links in
    let long : length (names us) ≡ length (link_sides us p.links) = length-map us (λ (a : LinkState). a.neighbour.0) ∙ sym (link_sides_length us p.links even) in
    new_or (link_side_in y p) (b == y) n (link_side_of u l) x (record { ring = refl; opened = refl; taken = refl; waiting = refl })
    (sym (ap (λ ns. link_side_to y ns (link_sides (us ++ u ∷ []) (p.links ++ l ∷ []))) (map-append (λ (a : LinkState). a.neighbour.0) us (u ∷ [])) ∙ ap (link_side_to y (names us ++ b ∷ [])) (link_sides_push us p.links u l even)
    ∙ found_push (λ m. m == y) (names us) b (link_sides us p.links) (link_side_of u l) long) ∙ h)

abbrev EvenParts : List Part → Type 0
EvenParts ps = (n : ℕ) (p : Part) → slice_get ps n ≡ Some p → length p.circuits.links ≡ length p.links

pub linked_comes : (ps : List Part) (a b n x y : ℕ) (side : RingSide) (z : LinkSide) → EvenParts ps → part_link_side (changed_at a (part_linked b n side) ps) x y ≡ Some z
    → (part_link_side ps x y ≡ Some z) ⊎ IsNewLinkSide n z
linked_comes ps a b n x y side z even h = elim (same_or x a) [
  | inr d ↦ inl (sym (ap (λ o. given o None (link_side_in y)) (changed_other ps a x (part_linked b n side) d)) ∙ h)
  | inl d ↦ subst (λ m. (part_link_side ps m y ≡ Some z) ⊎ IsNewLinkSide n z) (sym d)
      (by (slice_get ps a) refl (sym (ap (λ o. given o None (link_side_in y)) (changed_same ps a (part_linked b n side))) ∙ subst (λ m. part_link_side (changed_at a (part_linked b n side) ps) m y ≡ Some z) d h))
]
  where
    by : (o : Option Part) → slice_get ps a ≡ o → given (option_map (part_linked b n side) o) None (link_side_in y) ≡ Some z → (given o None (link_side_in y) ≡ Some z) ⊎ IsNewLinkSide n z
    by None q k = absurd (cc)
    by (Some p) q k = linked_in b n y side p z (even a p q) k

pub linked_even : (ps : List Part) (a b n : ℕ) (side : RingSide) → EvenParts ps → EvenParts (changed_at a (part_linked b n side) ps)
linked_even ps a b n side even m p h = elim (same_or m a) [
  | inr d ↦ even m p (sym (changed_other ps a m (part_linked b n side) d) ∙ h)
  | inl d ↦ by (slice_get ps a) refl (sym (changed_same ps a (part_linked b n side)) ∙ subst (λ k. slice_get (changed_at a (part_linked b n side) ps) k ≡ Some p) d h)
]
  where
    by : (o : Option Part) → slice_get ps a ≡ o → option_map (part_linked b n side) o ≡ Some p → length p.circuits.links ≡ length p.links
    by None q k = absurd (cc)
    by (Some r) q k =
        let e : part_linked b n side r ≡ p = cc in
        let f : length r.circuits.links ≡ length r.links = even a r q in
        let g = length_push r.circuits.links (record { neighbour = record { 0 = b }; opened = 0; taken = 0 }) in
        let i = length_push r.links (record { ring = record { ring = n; side = side }; outbox = [] }) in
        subst (λ (w : Part). length w.circuits.links ≡ length w.links) e (omega arith)
