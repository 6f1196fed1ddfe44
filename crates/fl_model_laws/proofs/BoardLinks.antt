-- A new link leaves the board as it is: no number on it leads anywhere, and nothing stands there.
use Rattle.std.proofs.Common.{◌≡◌, refl, sym, ◌∙◌, ap, subst, ℕ, ◌+◌, ◌*◌, ◌<◌, ◌≤◌, nat_lt, not, Bool, true, false, cond, ◌⊎◌, inl, inr}
use Rattle.std.proofs.Common.{List, [], ◌∷◌, ◌++◌, length, map, replicate, slice_get, Option, Some, None, option_map, arith}
use Rattle.std.specs.Prelude.{position}
use Rattle.std.specs.List.{position_or_len}
use Rattle.std.proofs.lemmas.List.{length-map, map-append, length-append, length-replicate}
use Rattle.std.proofs.lemmas.Bool.Decides.{nat_tests}
use Rattle.fl_base.specs.declared.identity.CoreId.{CoreId}
use Rattle.fl_base.specs.Given.{given}
use Rattle.fl_hop.specs.declared.entry.Hop.{Hop}
use Rattle.fl_hop.specs.declared.links.LinkState.{LinkState}
use Rattle.fl_hop.specs.Table.{TheCircuits, hop_at, link_of, with_link, slot}
use Rattle.fl_hop.proofs.Entering.{same_or}
use Rattle.fl_hop.proofs.Lists.{push_keeps, push_cases, fill_cases, within}
use Rattle.fl_model.specs.Given.{changed_at}
use Rattle.fl_model.specs.Rings.{MonitorLabel, RingSide, first_side, second_side, RingEnd, fresh_ring}
use Rattle.fl_model.specs.Monitors.{Link}
use Rattle.fl_model.specs.State.{State}
use Rattle.fl_model.specs.Making.{with_new_link}
use Rattle.fl_model.specs.SoundEntries.{Key}
use Rattle.fl_model_laws.proofs.Views.{Part, Sides, part_of, sides_of, back_of, view, made, two}
use Rattle.fl_model_laws.proofs.Places.{changed_other, changed_same}
use Rattle.fl_model_laws.proofs.PlacesStep.{given_some, length_push}
use Rattle.fl_model_laws.proofs.LinkSides.{is_to}
use Rattle.fl_model_laws.proofs.OpeningsStep.{part_linked}
use Rattle.fl_model_laws.proofs.OpeningsMoves.{linked_parts}
use Rattle.fl_model_laws.proofs.TableSteps.{stands_there, there_stands}
use Rattle.fl_model_laws.proofs.BoardSteps.{same_fits}
use Rattle.fl_model_laws.proofs.BoardViews.{part_hop, part_line, hop_in, place_in, line, side_said, unread_said, board}
use Rattle.fl_model_laws.proofs.BoardSaid.{said_on}
use Rattle.fl_model_laws.proofs.BoardHears.{Whole}
use Rattle.fl_model_laws.proofs.BoardQuiet.{After, unread_push}

-- ---- a place in a list that grew

pos_is : {X : Type 0} (p : X → Bool) (xs : List X) (i : ℕ) → position p xs ≡ Some i → (position_or_len p xs ≡ i) × (i < length xs)
pos_is p xs i q = by (nat_lt (position_or_len p xs) (length xs)) refl q
  where
    by : (b : Bool) → nat_lt (position_or_len p xs) (length xs) ≡ b → cond b (Some (position_or_len p xs)) None ≡ Some i → (position_or_len p xs ≡ i) × (i < length xs)
    by true e h = let same : position_or_len p xs ≡ i = cc in (same, grind (arith, nat_tests, e, same))
    by false e h = absurd (cc)

is_pos : {X : Type 0} (p : X → Bool) (xs : List X) (i : ℕ) → position_or_len p xs ≡ i → i < length xs → position p xs ≡ Some i
is_pos p xs i e l =
    let t : nat_lt (position_or_len p xs) (length xs) ≡ true = grind (arith, nat_tests, e, l) in
    ap (λ (b : Bool). cond b (Some (position_or_len p xs)) None) t ∙ ap (λ (n : ℕ). Some n) e

place_push : {X : Type 0} (p : X → Bool) (xs : List X) (y : X)
    → (position_or_len p (xs ++ y ∷ []) ≡ position_or_len p xs) ⊎ ((position_or_len p xs ≡ length xs) × (length xs ≤ position_or_len p (xs ++ y ∷ [])))
place_push p [] y = inr (refl, omega arith)
place_push {X} p (x ∷ xs) y = by (p x) (place_push p xs y)
  where
    by : (b : Bool) → ((position_or_len p (xs ++ y ∷ []) ≡ position_or_len p xs) ⊎ ((position_or_len p xs ≡ length xs) × (length xs ≤ position_or_len p (xs ++ y ∷ []))))
        → (cond (not b) (1 + position_or_len p (xs ++ y ∷ [])) 0 ≡ cond (not b) (1 + position_or_len p xs) 0)
        ⊎ ((cond (not b) (1 + position_or_len p xs) 0 ≡ length (x ∷ xs)) × (length (x ∷ xs) ≤ cond (not b) (1 + position_or_len p (xs ++ y ∷ [])) 0))
    by true h = inl refl
    by false h = elim h [
      | inl e ↦ inl (ap (λ (n : ℕ). 1 + n) e)
      | inr (a, b) ↦ inr (omega (arith, a), omega (arith, b))
    ]

pub link_stays : (t : TheCircuits) (x : CoreId) (b i : ℕ) → link_of t b ≡ Some i → link_of (with_link t x) b ≡ Some i
link_stays t x b i q =
    let y : LinkState = record { neighbour = x; opened = 0; taken = 0 } in
    let (at, inside) = pos_is (is_to b) t.links i q in
    let long = length_push t.links y in
    elim (place_push (is_to b) t.links y) [
      | inl e ↦ is_pos (is_to b) (t.links ++ y ∷ []) i (e ∙ at) (omega arith)
      | inr (e, l) ↦ absurd (omega (arith, e, at, inside))
    ]

pub link_comes : (t : TheCircuits) (x : CoreId) (b i : ℕ) → link_of (with_link t x) b ≡ Some i → (link_of t b ≡ Some i) ⊎ (i ≡ length t.links)
link_comes t x b i q =
    let y : LinkState = record { neighbour = x; opened = 0; taken = 0 } in
    let (at, inside) = pos_is (is_to b) (t.links ++ y ∷ []) i q in
    let long = length_push t.links y in
    elim (place_push (is_to b) t.links y) [
      | inl e ↦ by (nat_lt i (length t.links)) refl (sym e ∙ at) inside long
      | inr (e, l) ↦ inr (omega (arith, l, at, inside, long))
    ]
  where
    by : (c : Bool) → nat_lt i (length t.links) ≡ c → position_or_len (is_to b) t.links ≡ i → {n : ℕ} → i < n → n ≡ length t.links + 1 → (link_of t b ≡ Some i) ⊎ (i ≡ length t.links)
    by true e at inside long = inl (is_pos (is_to b) t.links i at (grind (arith, nat_tests, e)))
    by false e at inside long = inr (let l : length t.links ≤ i = grind (arith, nat_tests, e) in omega (arith, l, inside, long))

-- ---- a part

record PartOk (p : Part) : Type 0 where
  even : length p.links ≡ length p.circuits.links
  whole : length p.circuits.hops ≡ 2047 * length p.circuits.links

abbrev AllOk : List Part → Type 0
AllOk ps = (n : ℕ) (p : Part) → slice_get ps n ≡ Some p → PartOk p

abbrev new_line : ℕ → RingSide → Link
new_line n side = record { ring = record { ring = n; side = side }; outbox = [] }

linked_ok : (b n : ℕ) (side : RingSide) (p : Part) → PartOk p → PartOk (part_linked b n side p)
linked_ok b n side p h =
    let y : LinkState = record { neighbour = record { 0 = b }; opened = 0; taken = 0 } in
    let nothing : Option Hop = None in
    let none : List (Option Hop) = replicate 2047 nothing in
    let e = h.even in
    let w = h.whole in
    let i = length_push p.circuits.links y in
    let j = length_push p.links (new_line n side) in
    let k = length-append p.circuits.hops none in
    let l : length none ≡ 2047 = length-replicate 2047 nothing in
    record { even = omega (arith, e, i, j); whole = omega (arith, w, i, k, l) }

record IsNew (n : ℕ) (x : Link) : Type 0 where
  ring : x.ring.ring ≡ n
  outbox : x.outbox ≡ []

linked_hop : (b n nb m : ℕ) (side : RingSide) (p : Part) (h : Hop) → part_hop nb m p ≡ Some h → part_hop nb m (part_linked b n side p) ≡ Some h
linked_hop b n nb m side p h q =
    let x : CoreId = record { 0 = b } in
    let (l, to, there) = given_some (link_of p.circuits nb) (λ l. hop_at p.circuits l m) h q in
    let (few, at) = stands_there p.circuits l m h there in
    ap (λ o. given o None (λ k. hop_at (with_link p.circuits x) k m)) (link_stays p.circuits x nb l to)
    ∙ there_stands (with_link p.circuits x) l m (Some h) few (push_keeps p.circuits.hops (replicate 2047 None) (slot l m) (Some h) at)

hop_linked : (b n nb m : ℕ) (side : RingSide) (p : Part) (h : Hop) → PartOk p → part_hop nb m (part_linked b n side p) ≡ Some h → part_hop nb m p ≡ Some h
hop_linked b n nb m side p h ok q =
    let x : CoreId = record { 0 = b } in
    let (l, to, there) = given_some (link_of (with_link p.circuits x) nb) (λ l. hop_at (with_link p.circuits x) l m) h q in
    let (few, at) = stands_there (with_link p.circuits x) l m h there in
    elim (fill_cases p.circuits.hops 2047 None (slot l m) (Some h) at) [
      | inr e ↦ absurd (cc)
      | inl old ↦ elim (link_comes p.circuits x nb l to) [
        | inl was ↦ ap (λ o. given o None (λ k. hop_at p.circuits k m)) was ∙ there_stands p.circuits l m (Some h) few old
        | inr new ↦ absurd (let w = ok.whole in let inside = within p.circuits.hops (slot l m) (Some h) old in omega (arith, w, inside, new))
      ]
    ]

linked_line : (b n nb : ℕ) (side : RingSide) (p : Part) (z : Link) → part_line nb p ≡ Some z → part_line nb (part_linked b n side p) ≡ Some z
linked_line b n nb side p z q =
    let x : CoreId = record { 0 = b } in
    let (l, to, there) = given_some (link_of p.circuits nb) (slice_get p.links) z q in
    ap (λ o. given o None (slice_get (p.links ++ new_line n side ∷ []))) (link_stays p.circuits x nb l to) ∙ push_keeps p.links (new_line n side ∷ []) l z there

line_linked : (b n nb : ℕ) (side : RingSide) (p : Part) (z : Link) → PartOk p → part_line nb (part_linked b n side p) ≡ Some z → (part_line nb p ≡ Some z) ⊎ IsNew n z
line_linked b n nb side p z ok q =
    let x : CoreId = record { 0 = b } in
    let (l, to, there) = given_some (link_of (with_link p.circuits x) nb) (slice_get (p.links ++ new_line n side ∷ [])) z q in
    elim (push_cases p.links (new_line n side) l z there) [
      | inr (at, is) ↦ inr (record { ring = ap (λ (y : Link). y.ring.ring) is; outbox = ap (λ (y : Link). y.outbox) is })
      | inl old ↦ elim (link_comes p.circuits x nb l to) [
        | inl was ↦ inl (ap (λ o. given o None (slice_get p.links)) was ∙ old)
        | inr new ↦ absurd (let e = ok.even in let inside = within p.links l z old in omega (arith, e, inside, new))
      ]
    ]

-- ---- the parts

lifted : {X : Type 0} (f : Part → Option X) (g : Part → Part) (ps : List Part) (a c : ℕ) (x : X) → ((p : Part) → slice_get ps a ≡ Some p → f p ≡ Some x → f (g p) ≡ Some x)
    → given (slice_get ps c) None f ≡ Some x → given (slice_get (changed_at a g ps) c) None f ≡ Some x
lifted {X} f g ps a c x h q = elim (same_or c a) [
  | inr other ↦ ap (λ o. given o None f) (changed_other ps a c g other) ∙ q
  | inl same ↦ subst (λ n. given (slice_get (changed_at a g ps) n) None f ≡ Some x) (sym same)
      (ap (λ o. given o None f) (changed_same ps a g) ∙ by (slice_get ps a) refl (subst (λ n. given (slice_get ps n) None f ≡ Some x) same q))
]
  where
    by : (o : Option Part) → slice_get ps a ≡ o → given o None f ≡ Some x → given (option_map g o) None f ≡ Some x
    by None e k = absurd (cc)
    by (Some p) e k = h p e k

lowered : {X : Type 0} (R : Type 0) (f : Part → Option X) (g : Part → Part) (ps : List Part) (a c : ℕ) (x : X)
    → ((p : Part) → slice_get ps a ≡ Some p → f (g p) ≡ Some x → (f p ≡ Some x) ⊎ R)
    → given (slice_get (changed_at a g ps) c) None f ≡ Some x → (given (slice_get ps c) None f ≡ Some x) ⊎ R
lowered {X} R f g ps a c x h q = elim (same_or c a) [
  | inr other ↦ inl (sym (ap (λ o. given o None f) (changed_other ps a c g other)) ∙ q)
  | inl same ↦ subst (λ n. (given (slice_get ps n) None f ≡ Some x) ⊎ R) (sym same)
      (by (slice_get ps a) refl (sym (ap (λ o. given o None f) (changed_same ps a g)) ∙ subst (λ n. given (slice_get (changed_at a g ps) n) None f ≡ Some x) same q))
]
  where
    by : (o : Option Part) → slice_get ps a ≡ o → given (option_map g o) None f ≡ Some x → (given o None f ≡ Some x) ⊎ R
    by None e k = absurd (cc)
    by (Some p) e k = h p e k

-- one more link at one core
record Grows (ps qs : List Part) (n : ℕ) : Type 0 where
  ok : AllOk qs
  places : (core neighbour l : ℕ) → place_in ps core neighbour ≡ Some l → place_in qs core neighbour ≡ Some l
  kept : (key : Key) (hop : Hop) → hop_in ps key ≡ Some hop → hop_in qs key ≡ Some hop
  were : (key : Key) (hop : Hop) → hop_in qs key ≡ Some hop → hop_in ps key ≡ Some hop
  stays : (a b : ℕ) (z : Link) → line ps a b ≡ Some z → line qs a b ≡ Some z
  comes : (a b : ℕ) (z : Link) → line qs a b ≡ Some z → (line ps a b ≡ Some z) ⊎ IsNew n z

left_of : {A : Type 0} → A ⊎ ⊥ → A
left_of h = elim h [ inl a ↦ a | inr n ↦ absurd n ]

grows : (a b n : ℕ) (side : RingSide) (ps : List Part) → AllOk ps → Grows ps (changed_at a (part_linked b n side) ps) n
grows a b n side ps ok = record {
  ok = all_ok;
  places = λ core nb l q. lifted (λ (p : Part). link_of p.circuits nb) (part_linked b n side) ps a core l (λ p e k. link_stays p.circuits (record { 0 = b }) nb l k) q;
  kept = λ key hop q. lifted (part_hop key.neighbour key.number) (part_linked b n side) ps a key.core hop (λ p e k. linked_hop b n key.neighbour key.number side p hop k) q;
  were = λ key hop q. left_of (lowered ⊥ (part_hop key.neighbour key.number) (part_linked b n side) ps a key.core hop
      (λ p e k. inl (hop_linked b n key.neighbour key.number side p hop (ok a p e) k)) q);
  stays = λ x y z q. lifted (part_line y) (part_linked b n side) ps a x z (λ p e k. linked_line b n y side p z k) q;
  comes = λ x y z q. lowered (IsNew n z) (part_line y) (part_linked b n side) ps a x z (λ p e k. line_linked b n y side p z (ok a p e) k) q;
}
  where
    all_ok : AllOk (changed_at a (part_linked b n side) ps)
    all_ok m q r = elim (same_or m a) [
      | inr d ↦ ok m q (sym (changed_other ps a m (part_linked b n side) d) ∙ r)
      | inl d ↦ by (slice_get ps a) refl (sym (changed_same ps a (part_linked b n side)) ∙ subst (λ k. slice_get (changed_at a (part_linked b n side) ps) k ≡ Some q) d r)
    ]
      where
        by : (o : Option Part) → slice_get ps a ≡ o → option_map (part_linked b n side) o ≡ Some q → PartOk q
        by None e k = absurd (cc)
        by (Some p) e k = subst PartOk (let f : part_linked b n side p ≡ q = cc in f) (linked_ok b n side p (ok a p e))

-- ---- the board

fresh_unread : (rings : List Sides) (at : RingEnd) → at.ring ≡ length rings → unread_said (rings ++ two [] [] ∷ []) at ≡ []
fresh_unread rings at e = ap (λ n. given (slice_get (rings ++ two [] [] ∷ []) n) [] (side_said at.side)) e ∙ by rings
  where
    one : (side : RingSide) → side_said side (two [] []) ≡ []
    one first_side = refl
    one second_side = refl

    by : (xs : List Sides) → given (slice_get (xs ++ two [] [] ∷ []) (length xs)) [] (side_said at.side) ≡ []
    by [] = one at.side
    by (x ∷ xs) = by xs

grown_given : (o u : Option Link) (f g : Link → List MonitorLabel) → ((z : Link) → o ≡ Some z → (u ≡ Some z) × (g z ≡ f z)) → ((z : Link) → u ≡ Some z → (o ≡ Some z) ⊎ (g z ≡ []))
    → given u [] g ≡ given o [] f
grown_given (Some z) u f g h k = let (a, b) = h z refl in ap (λ (x : Option Link). given x [] g) a ∙ b
grown_given None None f g h k = refl
grown_given None (Some z) f g h k = elim (k z refl) [ inl e ↦ absurd (cc) | inr e ↦ e ]

grown_said : (ps qs : List Part) (rings : List Sides) (n x y : ℕ) → n ≡ length rings → ((a b : ℕ) (z : Link) → line ps a b ≡ Some z → z.ring.ring < length rings)
    → ((a b : ℕ) (z : Link) → line ps a b ≡ Some z → line qs a b ≡ Some z) → ((a b : ℕ) (z : Link) → line qs a b ≡ Some z → (line ps a b ≡ Some z) ⊎ IsNew n z)
    → said_on (line qs) (rings ++ two [] [] ∷ []) x y ≡ said_on (line ps) rings x y
grown_said ps qs rings n x y e inside stays comes =
    ap (λ ms. ms ++ given (line qs x y) [] (λ (l : Link). l.outbox))
    (grown_given (line ps y x) (line qs y x) (λ l. unread_said rings l.ring) (λ l. unread_said (rings ++ two [] [] ∷ []) l.ring)
    (λ z q. (stays y x z q, unread_push rings (two [] []) z.ring (inside y x z q)))
    (λ z q. elim (comes y x z q) [ inl a ↦ inl a | inr a ↦ inr (fresh_unread rings z.ring (a.ring ∙ e)) ]))
    ∙ ap (λ ms. given (line ps y x) [] (λ (l : Link). unread_said rings l.ring) ++ ms)
    (grown_given (line ps x y) (line qs x y) (λ l. l.outbox) (λ l. l.outbox) (λ z q. (stays x y z q, refl))
    (λ z q. elim (comes x y z q) [ inl a ↦ inl a | inr a ↦ inr a.outbox ]))

pub link_fits : (a b size : ℕ) (s : State) → Whole (view s) → After (view (with_new_link a b size s))
link_fits a b size s h =
    let ps : List Part = map part_of s.cores in
    let rs : List Sides = map sides_of s.rings in
    let n : ℕ = length s.rings in
    let near : List Part = changed_at a (part_linked b n first_side) ps in
    let far : List Part = changed_at b (part_linked a n second_side) near in
    let ok : AllOk ps = λ m p q. record { even = (h.parts m p q).even; whole = (h.parts m p q).table.whole } in
    let one : Grows ps near n = grows a b n first_side ps ok in
    let both : Grows near far n = grows b a n second_side near one.ok in
    subst (λ (us : List Part). After (made us (map sides_of (s.rings ++ fresh_ring size ∷ [])) (map back_of s.bindings))) (sym (linked_parts a b size s))
    (subst (λ (us : List Sides). After (made far us (map back_of s.bindings))) (sym (map-append sides_of s.rings _))
    (same_fits (board (view s)) (board (made far (rs ++ two [] [] ∷ []) (map back_of s.bindings))) (record {
      routes = λ m. refl;
      places = λ core nb l q. both.places core nb l (one.places core nb l q);
      kept = λ key hop q. both.kept key hop (one.kept key hop q);
      were = λ key hop q. one.were key hop (both.were key hop q);
      said = λ x y. grown_said ps far rs n x y (sym (length-map s.rings sides_of)) h.within (λ c d z q. both.stays c d z (one.stays c d z q))
          (λ c d z q. elim (both.comes c d z q) [ inl k ↦ one.comes c d z k | inr k ↦ inr k ]);
    }) h.known.fits))
