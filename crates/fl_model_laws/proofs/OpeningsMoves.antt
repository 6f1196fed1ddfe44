-- The events that begin, move or end an opening keep the order of those under way.
use Rattle.std.proofs.Common.{◌≡◌, refl, sym, ◌∙◌, ap, subst, ℕ, zero, suc, ◌+◌, ◌-◌, ◌<◌, List, [], ◌∷◌, ◌++◌, length, map, slice_get, slice_set, Option, Some, None, option_map, arith, ◌⊎◌, inl, inr, position, get_or}
use Rattle.std.specs.List.{range_with_len, cons_option}
use Rattle.std.proofs.lemmas.Bool.{eqb-true}
use Rattle.std.proofs.lemmas.Option.{slice_get-map}
use Rattle.std.proofs.lemmas.List.{length-map, append-nil}
use Rattle.std.proofs.lemmas.List.Elements.{filter_map-append}
use Rattle.std.proofs.lemmas.List.Quantifiers.{position-Some}
use Rattle.fl_base.specs.declared.identity.EndId.{EndId}
use Rattle.fl_base.specs.Given.{given}
use Rattle.fl_hop.specs.declared.links.LinkState.{LinkState}
use Rattle.fl_hop.specs.Numbers.{number, next_own, with_opening, with_taking, changed, count_opening, count_taking}
use Rattle.fl_hop.proofs.Entering.{same_or}
use Rattle.fl_model.specs.Given.{changed_at}
use Rattle.fl_model.specs.Rings.{MonitorLabel, RingSide, first_side, second_side, RingEnd, Ring, fresh_ring, takes}
use Rattle.fl_model.specs.Monitors.{Link, says_more}
use Rattle.fl_model.specs.State.{State, Binding, binding_of, own_ring}
use Rattle.fl_model.specs.Making.{with_new_link, linked}
use Rattle.fl_model.specs.Standing.{opening_number}
use Rattle.fl_model.specs.SoundPlaces.{core_to, this_end}
use Rattle.fl_model_laws.proofs.Views.{Part, part_of, sides_of, view, map_changed, changed_later}
use Rattle.fl_model_laws.proofs.Places.{changed_other, changed_same, ring_of}
use Rattle.fl_model_laws.proofs.PlacesStep.{plan, plan_viewed, outline, LinkedView, same_some, owner_planned}
use Rattle.fl_model_laws.proofs.LinkSides.{LinkSide, link_side_of, link_sides, link_sides_counted, link_sides_said, is_to, no_state, same_in_order, taking_more, side_openings}
use Rattle.fl_model_laws.proofs.OpeningsStep.{part_link_side, ring_openings, OrderOf, part_linked, linked_comes, linked_even, IsNewLinkSide, push_openings, link_side_within, link_side_owner, linked_apart, ring_changes, take_else}

-- ---- a link

numbers_none : (f : ℕ → ℕ) (o t : ℕ) (xs ws : List ℕ) → o ≡ 0 → xs ≡ [] → ws ≡ [] → xs ++ ws ≡ map f (range_with_len t (o - t))
numbers_none f o t xs ws a b c =
    let e : o - t ≡ 0 = omega arith in
    ap (λ ys. ys ++ ws) b ∙ c ∙ sym (ap (λ m. map f (range_with_len t m)) e)

fresh_openings : (rs : List Ring) (size : ℕ) (at : RingEnd) → at.ring ≡ length rs → ring_openings (rs ++ fresh_ring size ∷ []) at ≡ []
fresh_openings rs size at e = ap (λ n. given (slice_get (rs ++ fresh_ring size ∷ []) n) [] (λ r. side_openings at.side (sides_of r))) e ∙ by rs
  where
    one : (side : RingSide) → side_openings side (sides_of (fresh_ring size)) ≡ []
    one first_side = refl
    one second_side = refl

    by : (xs : List Ring) → given (slice_get (xs ++ fresh_ring size ∷ []) (length xs)) [] (λ r. side_openings at.side (sides_of r)) ≡ []
    by [] = one at.side
    by (x ∷ xs) = by xs

pub linked_parts : (a b size : ℕ) (s : State) → map part_of (with_new_link a b size s).cores
    ≡ changed_at b (part_linked a (length s.rings) second_side) (changed_at a (part_linked b (length s.rings) first_side) (map part_of s.cores))
linked_parts a b size s =
    let n : ℕ = length s.rings in
    map_changed part_of (linked a n second_side) (part_linked a n second_side) (changed_at a (linked b n first_side) s.cores) b (λ k q. refl)
    ∙ ap (changed_at b (part_linked a n second_side)) (map_changed part_of (linked b n first_side) (part_linked b n first_side) s.cores a (λ k q. refl))

pub even_parts : (s : State) → LinkedView (view s) → (n : ℕ) (p : Part) → slice_get (map part_of s.cores) n ≡ Some p → length p.circuits.links ≡ length p.links
even_parts s h n p q =
    sym (length-map p.circuits.links (λ (a : LinkState). a.neighbour.0))
    ∙ h.even n (outline p) (slice_get-map outline (map part_of s.cores) n ∙ ap (option_map outline) q)
    ∙ length-map p.links (λ (l : Link). l.ring)

pub link_order : (a b size : ℕ) (s : State) → LinkedView (view s) → LinkedView (view (with_new_link a b size s)) → OrderOf (map part_of s.cores) s.rings
    → OrderOf (map part_of (with_new_link a b size s).cores) (s.rings ++ fresh_ring size ∷ [])
link_order a b size s before after h c d x y q r =
    elim (comes c d x q) [
      | inl i ↦ elim (comes d c y r) [
        | inl j ↦ (let g = h c d x y i j in
            record { taken = g.taken; numbers = ap (λ xs. xs ++ x.waiting) (push_openings s.rings (fresh_ring size) y.ring (old d c y j)) ∙ g.numbers })
        | inr j ↦ absurd (let k : x.ring.ring < length s.rings = old c d x i in let l = paired in let m = j.ring in omega arith)
      ]
      | inr i ↦ elim (comes d c y r) [
        | inl j ↦ absurd (let k : y.ring.ring < length s.rings = old d c y j in let l = paired in let m = i.ring in omega arith)
        | inr j ↦ (let e = j.taken in let f = i.opened in record {
          taken = omega arith;
          numbers = numbers_none (Rattle.fl_hop.specs.Numbers.number c d) x.opened y.taken _ x.waiting f (fresh_openings s.rings size y.ring j.ring) i.waiting;
        })
      ]
    ]
  where
    n : ℕ
    n = length s.rings

    ps : List Part
    ps = map part_of s.cores

    near : List Part
    near = changed_at a (part_linked b n first_side) ps

    even : (m : ℕ) (p : Part) → slice_get ps m ≡ Some p → length p.circuits.links ≡ length p.links
    even = even_parts s before

    comes : (i j : ℕ) (z : LinkSide) → part_link_side (map part_of (with_new_link a b size s).cores) i j ≡ Some z → (part_link_side ps i j ≡ Some z) ⊎ IsNewLinkSide n z
    comes i j z k = elim (linked_comes near b a n i j second_side z (linked_even ps a b n first_side even) (sym (ap (λ us. part_link_side us i j) (linked_parts a b size s)) ∙ k)) [
      | inl l ↦ linked_comes ps a b n i j first_side z even l
      | inr l ↦ inr l
    ]

    old : (i j : ℕ) (z : LinkSide) → part_link_side ps i j ≡ Some z → z.ring.ring < length s.rings
    old i j z k = let e = length-map s.rings sides_of in let l : z.ring.ring < length (map sides_of s.rings) = link_side_within (view s) i j z before k in omega arith

    paired : y.ring.ring ≡ x.ring.ring
    paired =
        let (u, i, j) = (linked_apart (view (with_new_link a b size s)) after).pair c d x q in
        let same : u ≡ y = same_some (part_link_side (map part_of (with_new_link a b size s).cores) d c) u y i r in
        ap (λ (z : LinkSide). z.ring.ring) (sym same) ∙ ap (λ (z : RingEnd). z.ring) j

-- ---- a binding's ring

pub owned_order : (e : EndId) (b : Binding) (at : RingEnd) (s : State) → binding_of s e ≡ Some b → own_ring e.side b.back ≡ Some at → LinkedView (view s)
    → OrderOf (map part_of s.cores) s.rings → OrderOf (map part_of s.cores) (changed_at at.ring (takes at.side) s.rings)
owned_order e b at s q r l h =
    same_in_order (part_link_side (map part_of s.cores)) (part_link_side (map part_of s.cores)) (ring_openings s.rings) (ring_openings (changed_at at.ring (takes at.side) s.rings)) (λ c d. refl)
    (λ c d y i. ring_changes s.rings at (takes at.side) (λ x. take_else at.side x) y.ring (λ k. apart c d y i k)) h
  where
    mine : ring_of (plan (view s)) (this_end e) ≡ Some at
    mine = ap (λ p. ring_of p (this_end e)) (plan_viewed s) ∙ owner_planned s (this_end e) at (b, q, r)

    apart : (c d : ℕ) (y : LinkSide) → part_link_side (map part_of s.cores) c d ≡ Some y → y.ring ≡ at → ⊥
    apart c d y i k =
        let same : core_to c d ≡ this_end e = l.one (core_to c d) (this_end e) at (link_side_owner (view s) c d y i ∙ ap (λ (z : RingEnd). Some z) k) mine in cc

-- ---- counts and outboxes

pub changed_twice : {X : Type 0} (f g : X → X) (xs : List X) (n : ℕ) → changed_at n f (changed_at n g xs) ≡ changed_at n (λ x. f (g x)) xs
changed_twice f g [] n = refl
changed_twice f g (x ∷ xs) zero = refl
changed_twice f g (x ∷ xs) (suc n) =
    ap (changed_at (suc n) f) (changed_later x xs n g) ∙ changed_later x (changed_at n g xs) n f ∙ ap (λ ys. x ∷ ys) (changed_twice f g xs n)
    ∙ sym (changed_later x xs n (λ y. f (g y)))

counted_is : (f : LinkState → LinkState) (us : List LinkState) (l : ℕ) → changed f us l (slice_get us l) ≡ changed_at l f us
counted_is f us l = by (slice_get us l)
  where
    by : (o : Option LinkState) → changed f us l o ≡ given o us (λ x. slice_set us l (f x))
    by None = refl
    by (Some x) = refl

abbrev pub waits_more : List ℕ → LinkSide → LinkSide
waits_more ns z = record z { waiting = z.waiting ++ ns }

pub said_link_sides : (m : MonitorLabel) (us : List LinkState) (ls : List Link) (l : ℕ) → link_sides us (changed_at l (says_more m) ls) ≡ changed_at l (waits_more (cons_option (opening_number m) [])) (link_sides us ls)
said_link_sides m us ls l =
    link_sides_said (says_more m) (waits_more (cons_option (opening_number m) [])) (λ a x. ap (λ ws. (let z : LinkSide = record { ring = x.ring; opened = a.opened; taken = a.taken; waiting = ws } in z)) (filter_map-append opening_number x.outbox (m ∷ []))) us ls l

changed_nothing : {X : Type 0} (f : X → X) → ((x : X) → f x ≡ x) → (xs : List X) (n : ℕ) → changed_at n f xs ≡ xs
changed_nothing f h [] n = refl
changed_nothing f h (x ∷ xs) zero = ap (λ y. y ∷ xs) (h x)
changed_nothing f h (x ∷ xs) (suc n) = changed_later x xs n f ∙ ap (λ ys. x ∷ ys) (changed_nothing f h xs n)

-- a message that isn't an opening
pub answer_link_sides : (m : MonitorLabel) (us : List LinkState) (ls : List Link) (l : ℕ) → opening_number m ≡ None → link_sides us (changed_at l (says_more m) ls) ≡ link_sides us ls
answer_link_sides m us ls l q =
    said_link_sides m us ls l ∙ ap (λ o. changed_at l (waits_more (cons_option o [])) (link_sides us ls)) q
    ∙ changed_nothing (waits_more []) (λ z. ap (λ ws. (let y : LinkSide = record { ring = z.ring; opened = z.opened; taken = z.taken; waiting = ws } in y)) (append-nil z.waiting)) (link_sides us ls) l

abbrev pub opens_more : LinkSide → LinkSide
opens_more z = record z { opened = z.opened + 1 }

pub opening_link_sides : (us : List LinkState) (ls : List Link) (l : ℕ) → link_sides (count_opening us l) ls ≡ changed_at l opens_more (link_sides us ls)
opening_link_sides us ls l = ap (λ vs. link_sides vs ls) (counted_is with_opening us l) ∙ link_sides_counted with_opening opens_more (λ a x. refl) us ls l

pub taking_link_sides : (us : List LinkState) (ls : List Link) (l : ℕ) → link_sides (count_taking us l) ls ≡ changed_at l taking_more (link_sides us ls)
taking_link_sides us ls l = ap (λ vs. link_sides vs ls) (counted_is with_taking us l) ∙ link_sides_counted with_taking taking_more (λ a x. refl) us ls l

-- ---- the number of an opening

get_or_is : {X : Type 0} (xs : List X) (n : ℕ) (d x : X) → slice_get xs n ≡ Some x → get_or xs n d ≡ x
get_or_is [] n d x h = absurd (cc)
get_or_is (y ∷ xs) zero d x h = let e : y ≡ x = cc in e
get_or_is (y ∷ xs) (suc n) d x h = get_or_is xs n d x h

pub names_to : (b l : ℕ) (us : List LinkState) (u : LinkState) → position (is_to b) us ≡ Some l → slice_get us l ≡ Some u → u.neighbour.0 ≡ b
names_to b l us u h q =
    let (i, j, k) = position-Some (is_to b) us l no_state h in
    ap (λ (a : LinkState). a.neighbour.0) (sym (get_or_is us l no_state u q)) ∙ eqb-true _ b j

pub link_sides_opened : (us : List LinkState) (ls : List Link) (l : ℕ) (u : LinkState) (z : LinkSide) → slice_get us l ≡ Some u → slice_get (link_sides us ls) l ≡ Some z → z.opened ≡ u.opened
link_sides_opened [] ls l u z q r = absurd (cc)
link_sides_opened (a ∷ us) [] l u z q r = absurd (cc)
link_sides_opened (a ∷ us) (x ∷ ls) zero u z q r =
    let e : a ≡ u = cc in let f : link_side_of a x ≡ z = cc in ap (λ (y : LinkSide). y.opened) (sym f) ∙ ap (λ (y : LinkState). y.opened) e
link_sides_opened (a ∷ us) (x ∷ ls) (suc l) u z q r = link_sides_opened us ls l u z q r

pub taken_opened : (xs : List LinkSide) (l m : ℕ) (z : LinkSide) → slice_get (changed_at l taking_more xs) m ≡ Some z → (w : LinkSide) × (slice_get xs m ≡ Some w) × (z.opened ≡ w.opened)
taken_opened xs l m z h = elim (same_or m l) [
  | inr d ↦ (z, sym (changed_other xs l m taking_more d) ∙ h, refl)
  | inl d ↦ (let (w, e, f) = by (slice_get xs l) refl (sym (changed_same xs l taking_more) ∙ subst (λ n. slice_get (changed_at l taking_more xs) n ≡ Some z) d h) in
      (w, subst (λ n. slice_get xs n ≡ Some w) (sym d) e, f))
]
  where
    by : (o : Option LinkSide) → slice_get xs l ≡ o → option_map taking_more o ≡ Some z → (w : LinkSide) × (slice_get xs l ≡ Some w) × (z.opened ≡ w.opened)
    by None e f = absurd (cc)
    by (Some w) e f = (w, e, (let g : taking_more w ≡ z = cc in ap (λ (y : LinkSide). y.opened) (sym g)))

-- the link side's next number is the one that the table gives
pub number_is : (core b l c : ℕ) (us : List LinkState) (ls : List Link) (u : LinkState) (z : LinkSide) → position (is_to b) us ≡ Some l → slice_get us l ≡ Some u
    → number core u.neighbour.0 u.opened ≡ c → slice_get (link_sides us ls) l ≡ Some z → number core b z.opened ≡ c
number_is core b l c us ls u z h q n r =
    ap (number core b) (link_sides_opened us ls l u z q r) ∙ ap (λ m. number core m u.opened) (sym (names_to b l us u h q)) ∙ n
