-- Updates that leave the board as it is: the number of cores, a new link, bindings off circuits, what an end takes from its
-- ring, and a message that goes from its outbox onto the ring.
use Rattle.std.proofs.Common.{◌≡◌, refl, sym, ◌∙◌, ap, subst, ℕ, zero, suc, ◌<◌, inl, inr, slice_set}
use Rattle.std.proofs.Common.{List, [], ◌∷◌, ◌++◌, length, map, slice_get, Option, Some, None, option_map, arith}
use Rattle.std.specs.List.{range_with_len}
use Rattle.std.proofs.lemmas.Option.{slice_get-map}
use Rattle.std.proofs.lemmas.List.{map-append}
use Rattle.fl_base.specs.declared.identity.EndId.{EndId}
use Rattle.fl_base.specs.Given.{given}
use Rattle.fl_hop.proofs.Entering.{same_or}
use Rattle.fl_hop.proofs.Lists.{at_within}
use Rattle.fl_model.specs.Given.{changed_at}
use Rattle.fl_model.specs.Rings.{MonitorLabel, says, RingSide, first_side, second_side, RingEnd, Ring, fresh_ring, puts, takes, there_is_room}
use Rattle.fl_model.specs.Ends.{Queue}
use Rattle.fl_model.specs.Monitors.{Link, fresh_core}
use Rattle.fl_model.specs.State.{Back, local, over_ring, State, Binding, link_between, change_ring, binding_of, own_ring}
use Rattle.fl_model.specs.Binding.{BindByNames, with_new_binding}
use Rattle.fl_model.specs.Forwarding.{LinkEnd, route_of, monitor_writes_by, without_first_said}
use Rattle.fl_model.specs.SoundPlaces.{opposite}
use Rattle.fl_model.specs.SoundEntries.{Key}
use Rattle.fl_model_laws.proofs.Views.{View, Part, Sides, part_of, sides_of, back_of, view, made, two, messages, map_changed, given_map}
use Rattle.fl_model_laws.proofs.Quiet.{messages_push}
use Rattle.fl_model_laws.proofs.Walk.{IsHere, with_ring}
use Rattle.fl_model_laws.proofs.Places.{changed_other, changed_same}
use Rattle.fl_model_laws.proofs.Hearing.{LinkThere}
use Rattle.fl_model_laws.proofs.Boards.{Fits, some_is}
use Rattle.fl_model_laws.proofs.BoardSteps.{same_fits, empty_fits}
use Rattle.fl_model_laws.proofs.BoardViews.{part_hop, part_line, hop_in, line, route_in, side_said, unread_said, board, core_part}
use Rattle.fl_model_laws.proofs.BoardCores.{set_part, place_stays, same_hops, NewLinks, line_next, line_else}
use Rattle.fl_model_laws.proofs.BoardSaid.{same_said, side_or, same_ring_end, gains, Alters, drops, said_moved}
use Rattle.fl_model_laws.proofs.BoardHears.{Whole}

abbrev pub After : View → Type 0
After v = Fits (board v)

-- ---- bindings off circuits

pub route_push : (backs : List Back) (x : Back) (n : ℕ) → route_of x ≡ None → route_in (backs ++ x ∷ []) n ≡ route_in backs n
route_push [] x zero e = e
route_push [] x (suc n) e = refl
route_push (y ∷ backs) x zero e = refl
route_push (y ∷ backs) x (suc n) e = route_push backs x n e

pub unread_push : (rings : List Sides) (r : Sides) (at : RingEnd) → at.ring < length rings → unread_said (rings ++ r ∷ []) at ≡ unread_said rings at
unread_push rings r at h = by rings at.ring h
  where
    by : (xs : List Sides) (n : ℕ) → n < length xs → given (slice_get (xs ++ r ∷ []) n) [] (side_said at.side) ≡ given (slice_get xs n) [] (side_said at.side)
    by [] n k = absurd (omega arith)
    by (x ∷ xs) zero k = refl
    by (x ∷ xs) (suc n) k = by xs n (let e : suc n < length (x ∷ xs) = k in omega arith)

pub bound_fits : (w : BindByNames) (stations : ℕ) (q : Option Queue) (s : State) → Whole (view s) → After (view (with_new_binding w local stations q s))
bound_fits w stations q s h =
    subst (λ (bs : List Back). After (made (map part_of s.cores) (map sides_of s.rings) bs)) (sym (map-append back_of s.bindings _))
    (same_fits (board (view s)) (board (made (map part_of s.cores) (map sides_of s.rings) (map back_of s.bindings ++ local ∷ []))) (record {
      routes = λ n. route_push (map back_of s.bindings) local n refl;
      places = λ core neighbour l e. e;
      kept = λ key hop e. e;
      were = λ key hop e. e;
      said = λ x y. refl;
    }) h.known.fits)

pub ring_fits : (w : BindByNames) (size : ℕ) (s : State) → Whole (view s) → After (view (with_new_binding w (over_ring (length s.rings)) 2 None (with_ring size s)))
ring_fits w size s h =
    let back : Back = over_ring (length s.rings) in
    subst (λ (bs : List Back). After (made (map part_of s.cores) (map sides_of (s.rings ++ fresh_ring size ∷ [])) bs)) (sym (map-append back_of s.bindings _))
    (subst (λ (rs : List Sides). After (made (map part_of s.cores) rs (map back_of s.bindings ++ back ∷ []))) (sym (map-append sides_of s.rings _))
    (same_fits (board (view s)) (board (made (map part_of s.cores) (map sides_of s.rings ++ two [] [] ∷ []) (map back_of s.bindings ++ back ∷ []))) (record {
      routes = λ n. route_push (map back_of s.bindings) back n refl;
      places = λ core neighbour l e. e;
      kept = λ key hop e. e;
      were = λ key hop e. e;
      said = λ x y. same_said (line (map part_of s.cores)) (map sides_of s.rings) (map sides_of s.rings ++ two [] [] ∷ []) x y
          (λ l e. unread_push (map sides_of s.rings) (two [] []) l.ring (h.within y x l e));
    }) h.known.fits))

-- ---- an end takes from its binding's ring

own_else : (rs : List Ring) (at x : RingEnd) → (x ≡ at → ⊥) → unread_said (map sides_of (changed_at at.ring (takes at.side) rs)) x ≡ unread_said (map sides_of rs) x
own_else rs at x away =
    given_map sides_of [] (side_said x.side) (changed_at at.ring (takes at.side) rs) x.ring
    ∙ elim (same_or x.ring at.ring) [
      | inr d ↦ ap (λ o. given o [] (λ (r : Ring). side_said x.side (sides_of r))) (changed_other rs at.ring x.ring (takes at.side) d)
      | inl d ↦ elim (side_or x.side at.side) [
        | inl e ↦ absurd (away (same_ring_end x at d e))
        | inr e ↦ subst (λ n. given (slice_get (changed_at at.ring (takes at.side) rs) n) [] (λ (r : Ring). side_said x.side (sides_of r))
            ≡ given (slice_get rs n) [] (λ (r : Ring). side_said x.side (sides_of r))) (sym d)
            (ap (λ o. given o [] (λ (r : Ring). side_said x.side (sides_of r))) (changed_same rs at.ring (takes at.side)) ∙ by e (slice_get rs at.ring))
      ]
    ]
    ∙ sym (given_map sides_of [] (side_said x.side) rs x.ring)
  where
    one : (side : RingSide) (r : Ring) → side_said (opposite side) (sides_of (takes side r)) ≡ side_said (opposite side) (sides_of r)
    one first_side r = refl
    one second_side r = refl

    by : x.side ≡ opposite at.side → (o : Option Ring) → given (option_map (takes at.side) o) [] (λ (r : Ring). side_said x.side (sides_of r))
        ≡ given o [] (λ (r : Ring). side_said x.side (sides_of r))
    by e None = refl
    by e (Some r) = subst (λ (z : RingSide). side_said z (sides_of (takes at.side r)) ≡ side_said z (sides_of r)) (sym e) (one at.side r)

pub from_ring_fits : (e : EndId) (b : Binding) (at : RingEnd) (s : State) → binding_of s e ≡ Some b → own_ring e.side b.back ≡ Some at → Whole (view s)
    → After (view (change_ring at.ring (takes at.side) s))
from_ring_fits e b at s q r h =
    same_fits (board (view s)) (board (view (change_ring at.ring (takes at.side) s))) (record {
      routes = λ n. refl;
      places = λ core neighbour l i. i;
      kept = λ key hop i. i;
      were = λ key hop i. i;
      said = λ x y. same_said (line (map part_of s.cores)) (map sides_of s.rings) (map sides_of (changed_at at.ring (takes at.side) s.rings)) x y
          (λ l i. own_else s.rings at l.ring (λ same. h.apart y x l e b.back i (slice_get-map back_of s.bindings e.binding ∙ ap (option_map back_of) q)
          (r ∙ ap (λ (z : RingEnd). Some z) (sym same))));
    }) h.known.fits

-- ---- the number of cores

fresh_hop : (xs : List ℕ) (key : Key) → hop_in (map part_of (map fresh_core xs)) key ≡ None
fresh_hop xs key = by xs key.core
  where
    by : (ys : List ℕ) (n : ℕ) → given (slice_get (map part_of (map fresh_core ys)) n) None (part_hop key.neighbour key.number) ≡ None
    by [] n = refl
    by (y ∷ ys) zero = refl
    by (y ∷ ys) (suc n) = by ys n

fresh_line : (xs : List ℕ) (a b : ℕ) → line (map part_of (map fresh_core xs)) a b ≡ None
fresh_line [] a b = refl
fresh_line (x ∷ xs) zero b = refl
fresh_line (x ∷ xs) (suc a) b = fresh_line xs a b

pub cores_fits : (n : ℕ) (s : State) → s.bindings ≡ [] → After (view (record s { cores = map fresh_core (range_with_len 0 n) }))
cores_fits n s none =
    empty_fits (board (view (record s { cores = map fresh_core (range_with_len 0 n) })))
    (λ m. ap (λ (bs : List Binding). route_in (map back_of bs) m) none)
    (λ key. fresh_hop (range_with_len 0 n) key)
    (λ x y. ap (λ o. given o [] (λ (l : Link). unread_said (map sides_of s.rings) l.ring) ++ given (line (map part_of (map fresh_core (range_with_len 0 n))) x y) [] (λ (l : Link). l.outbox))
    (fresh_line (range_with_len 0 n) y x)
    ∙ ap (λ o. given o [] (λ (l : Link). l.outbox)) (fresh_line (range_with_len 0 n) x y))

-- ---- a message goes onto the ring

put_sides : (side : RingSide) (m : MonitorLabel) (r : Ring) → sides_of (puts side (says m) r) ≡ gains (opposite side) m (sides_of r)
put_sides first_side m r = ap (λ ms. two ms (messages r.by_second.waiting)) (messages_push r.by_first.waiting _)
put_sides second_side m r = ap (λ ms. two (messages r.by_first.waiting) ms) (messages_push r.by_second.waiting _)

pub changed_to : {X : Type 0} (n : ℕ) (f : X → X) (xs : List X) (x : X) → slice_get xs n ≡ Some x → changed_at n f xs ≡ changed_at n (λ y. f x) xs
changed_to {X} n f xs x q =
    ap (λ (o : Option X). given o xs (λ y. slice_set xs n (f y))) q
    ∙ sym (ap (λ (o : Option X). given o xs (λ y. slice_set xs n (f x))) q)

abbrev part_drops : ℕ → Part → Part
part_drops l p = record { circuits = p.circuits; links = changed_at l drops p.links }

pub written_fits : (here : LinkEnd) (link : Link) (m : MonitorLabel) (s : State) (k : IsHere here s) → link_between s k.core k.neighbour ≡ Some link → slice_get link.outbox 0 ≡ Some m
    → LinkThere s here → link_between s here.core here.neighbour ≡ Some link → Whole (view s) → After (view (monitor_writes_by here m there_is_room s).state)
written_fits here link m s k t u x between h =
    let p : Part = part_of x.core in
    let ps : List Part = map part_of s.cores in
    let rs : List Sides = map sides_of s.rings in
    let q : Part = part_drops here.link p in
    let at : slice_get ps here.core ≡ Some p = core_part s here.core x.core x.core_is in
    let line_is : line ps here.core here.neighbour ≡ Some x.link =
    ap (λ o. given o None (part_line here.neighbour)) at ∙ ap (λ o. given o None (slice_get p.links)) x.place ∙ x.link_is in
    let same : x.link ≡ link = some_is (line ps here.core here.neighbour) x.link link line_is (given_map part_of None (part_line here.neighbour) s.cores here.core ∙ between) in
    let first : slice_get x.link.outbox 0 ≡ Some m = ap (λ (y : Link). slice_get y.outbox 0) same ∙ u in
    let inside : x.link.ring.ring < length rs = h.within here.core here.neighbour x.link line_is in
    let (r, got) = at_within rs x.link.ring.ring inside in
    let links : NewLinks p q here.neighbour here.link drops = record { names = refl; next_is = x.place; links = refl } in
    let alters : Alters (line ps) (line (set_part here.core q ps)) here.core here.neighbour drops = record {
      here = line_next ps here.core p q here.neighbour here.link drops at links;
      rest = λ a b away. line_else ps here.core p q here.neighbour here.link drops at links a b away;
      ring = λ y. refl;
    } in
    let parts : map part_of (changed_at here.core (without_first_said here.link) s.cores) ≡ set_part here.core q ps =
    map_changed part_of (without_first_said here.link) (part_drops here.link) s.cores here.core (λ c g. refl) ∙ changed_to here.core (part_drops here.link) ps p at in
    let rings : map sides_of (changed_at here.ring.ring (puts here.ring.side (says m)) s.rings) ≡ changed_at x.link.ring.ring (gains (opposite x.link.ring.side) m) rs =
    map_changed sides_of (puts here.ring.side (says m)) (gains (opposite here.ring.side) m) s.rings here.ring.ring (λ y g. put_sides here.ring.side m y)
    ∙ ap (λ (y : RingEnd). changed_at y.ring (gains (opposite y.side) m) rs) (sym x.ring) in
    subst (λ (us : List Part). After (made us (map sides_of (changed_at here.ring.ring (puts here.ring.side (says m)) s.rings)) (map back_of s.bindings))) (sym parts)
    (subst (λ (us : List Sides). After (made (set_part here.core q ps) us (map back_of s.bindings))) (sym rings)
    (same_fits (board (view s)) (board (made (set_part here.core q ps) (changed_at x.link.ring.ring (gains (opposite x.link.ring.side) m) rs) (map back_of s.bindings))) (record {
      routes = λ n. refl;
      places = λ core neighbour l e. place_stays ps here.core p q at refl core neighbour ∙ e;
      kept = λ key hop e. same_hops ps here.core p q at refl (λ a b. refl) key ∙ e;
      were = λ key hop e. sym (same_hops ps here.core p q at refl (λ a b. refl) key) ∙ e;
      said = λ a b. said_moved (line ps) (line (set_part here.core q ps)) rs here.core here.neighbour x.link m r h.paired line_is first got alters a b;
    }) h.known.fits))
