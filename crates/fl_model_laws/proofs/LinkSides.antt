-- The openings of circuits that are under way on each link, by their numbers: those that one core has counted and the other
-- hasn't, in order.
use Rattle.std.proofs.Common.{◌≡◌, ◌≢◌, refl, sym, ◌∙◌, ap, subst, ℕ, zero, suc, ◌+◌, ◌-◌, ◌≤◌, ◌==◌, Bool, if◌then◌else◌, List, [], ◌∷◌, ◌++◌, map, slice_get, Option, Some, None, option_map, arith, ◌⊎◌, inl, inr, position, get_or}
use Rattle.std.specs.Prelude.{filter_map}
use Rattle.std.specs.List.{range_with_len}
use Rattle.std.proofs.lemmas.Bool.{eqb-true}
use Rattle.std.proofs.lemmas.List.{append_assoc, map-append}
use Rattle.std.proofs.lemmas.List.Quantifiers.{position-Some}
use Rattle.fl_base.specs.Given.{given}
use Rattle.fl_hop.specs.declared.links.LinkState.{LinkState}
use Rattle.fl_hop.specs.Numbers.{number}
use Rattle.fl_hop.proofs.Entering.{same_or}
use Rattle.fl_model.specs.Given.{changed_at}
use Rattle.fl_model.specs.Rings.{MonitorLabel, RingSide, first_side, second_side, RingEnd}
use Rattle.fl_model.specs.Monitors.{Link}
use Rattle.fl_model.specs.Standing.{opening_number}
use Rattle.fl_model.specs.SoundPlaces.{opposite}
use Rattle.fl_model_laws.proofs.Views.{View, Part, Sides, found, found_is, changed_later}
use Rattle.fl_model_laws.proofs.Places.{changed_other, changed_same, turned}

-- ---- one core's end of a link: its side of the ring, its counts, and the numbers of the openings that wait in its outbox

pub record LinkSide : Type 0 where
  pub ring : RingEnd
  pub opened : ℕ
  pub taken : ℕ
  pub waiting : List ℕ

abbrev pub openings : List MonitorLabel → List ℕ
openings ms = filter_map opening_number ms

abbrev pub link_side_of : LinkState → Link → LinkSide
link_side_of a l = record { ring = l.ring; opened = a.opened; taken = a.taken; waiting = openings l.outbox }

abbrev pub link_sides : List LinkState → List Link → List LinkSide
link_sides [] ls = []
link_sides (a ∷ us) [] = []
link_sides (a ∷ us) (l ∷ ls) = link_side_of a l ∷ link_sides us ls

pub link_sides_counted : (f : LinkState → LinkState) (g : LinkSide → LinkSide) → ((a : LinkState) (l : Link) → link_side_of (f a) l ≡ g (link_side_of a l)) → (us : List LinkState) (ls : List Link) (n : ℕ)
    → link_sides (changed_at n f us) ls ≡ changed_at n g (link_sides us ls)
link_sides_counted f g h [] ls n = refl
link_sides_counted f g h (a ∷ us) [] zero = refl
link_sides_counted f g h (a ∷ us) [] (suc n) = ap (λ bs. link_sides bs []) (changed_later a us n f)
link_sides_counted f g h (a ∷ us) (l ∷ ls) zero = ap (λ x. x ∷ link_sides us ls) (h a l)
link_sides_counted f g h (a ∷ us) (l ∷ ls) (suc n) =
    ap (λ bs. link_sides bs (l ∷ ls)) (changed_later a us n f) ∙ ap (λ xs. link_side_of a l ∷ xs) (link_sides_counted f g h us ls n) ∙ sym (changed_later (link_side_of a l) (link_sides us ls) n g)

pub link_sides_said : (f : Link → Link) (g : LinkSide → LinkSide) → ((a : LinkState) (l : Link) → link_side_of a (f l) ≡ g (link_side_of a l)) → (us : List LinkState) (ls : List Link) (n : ℕ)
    → link_sides us (changed_at n f ls) ≡ changed_at n g (link_sides us ls)
link_sides_said f g h [] ls n = refl
link_sides_said f g h (a ∷ us) [] n = refl
link_sides_said f g h (a ∷ us) (l ∷ ls) zero = ap (λ x. x ∷ link_sides us ls) (h a l)
link_sides_said f g h (a ∷ us) (l ∷ ls) (suc n) =
    ap (link_sides (a ∷ us)) (changed_later l ls n f) ∙ ap (λ xs. link_side_of a l ∷ xs) (link_sides_said f g h us ls n) ∙ sym (changed_later (link_side_of a l) (link_sides us ls) n g)

abbrev pub names : List LinkState → List ℕ
names us = map (λ (a : LinkState). a.neighbour.0) us

abbrev pub link_side_to : ℕ → List ℕ → List LinkSide → Option LinkSide
link_side_to b ns xs = found (λ n. n == b) ns xs

abbrev pub link_side_in : ℕ → Part → Option LinkSide
link_side_in b p = link_side_to b (names p.circuits.links) (link_sides p.circuits.links p.links)

found_map : {X Y Z : Type 0} (q : Y → Bool) (g : X → Y) (xs : List X) (ys : List Z) → found q (map g xs) ys ≡ found (λ x. q (g x)) xs ys
found_map q g [] ys = refl
found_map q g (x ∷ xs) [] = refl
found_map q g (x ∷ xs) (y ∷ ys) = ap (λ o. if q (g x) then Some y else o) (found_map q g xs ys)

abbrev pub is_to : ℕ → LinkState → Bool
is_to b a = a.neighbour.0 == b

pub link_side_is : (b : ℕ) (us : List LinkState) (xs : List LinkSide) → link_side_to b (names us) xs ≡ given (position (is_to b) us) None (slice_get xs)
link_side_is b us xs = found_map (λ n. n == b) (λ (a : LinkState). a.neighbour.0) us xs ∙ sym (found_is (is_to b) us xs)

pub link_side_here : (b l : ℕ) (f : LinkSide → LinkSide) (us : List LinkState) (xs : List LinkSide) → position (is_to b) us ≡ Some l
    → link_side_to b (names us) (changed_at l f xs) ≡ option_map f (link_side_to b (names us) xs)
link_side_here b l f us xs h =
    link_side_is b us (changed_at l f xs) ∙ ap (λ o. given o None (slice_get (changed_at l f xs))) h ∙ changed_same xs l f
    ∙ ap (option_map f) (sym (link_side_is b us xs ∙ ap (λ o. given o None (slice_get xs)) h))

abbrev pub no_state : LinkState
no_state = record { neighbour = record { 0 = 0 }; opened = 0; taken = 0 }

pub link_side_else : (b y l : ℕ) (f : LinkSide → LinkSide) (us : List LinkState) (xs : List LinkSide) → position (is_to b) us ≡ Some l → y ≢ b
    → link_side_to y (names us) (changed_at l f xs) ≡ link_side_to y (names us) xs
link_side_else b y l f us xs h away = link_side_is y us (changed_at l f xs) ∙ by (position (is_to y) us) refl ∙ sym (link_side_is y us xs)
  where
    by : (o : Option ℕ) → position (is_to y) us ≡ o → given o None (slice_get (changed_at l f xs)) ≡ given o None (slice_get xs)
    by None q = refl
    by (Some m) q =
        let (i, j, k) = position-Some (is_to b) us l no_state h in
        let (u, v, w) = position-Some (is_to y) us m no_state q in
        changed_other xs l m f (λ e.
        let one : y ≡ (get_or us m no_state).neighbour.0 = sym (eqb-true _ y v) in
        let two : (get_or us l no_state).neighbour.0 ≡ b = eqb-true _ b j in
        away (one ∙ ap (λ n. (get_or us n no_state).neighbour.0) e ∙ two))

-- ---- between cores

abbrev pub link_side : View → ℕ → ℕ → Option LinkSide
link_side v a b = given (slice_get v.parts a) None (link_side_in b)

abbrev pub side_openings : RingSide → Sides → List ℕ
side_openings first_side r = openings r.by_second
side_openings second_side r = openings r.by_first

abbrev pub unread_openings : View → RingEnd → List ℕ
unread_openings v at = given (slice_get v.rings at.ring) [] (side_openings at.side)

abbrev pub counted_numbers : ℕ → ℕ → LinkSide → LinkSide → List ℕ
counted_numbers a b x y = map (number a b) (range_with_len y.taken (x.opened - y.taken))

pub record Goes (on : RingEnd → List ℕ) (a b : ℕ) (x y : LinkSide) : Type 0 where
  pub taken : y.taken ≤ x.opened
  pub numbers : on y.ring ++ x.waiting ≡ counted_numbers a b x y

abbrev pub GoInOrder : (ℕ → ℕ → Option LinkSide) → (RingEnd → List ℕ) → Type 0
GoInOrder link_side on = (a b : ℕ) (x y : LinkSide) → link_side a b ≡ Some x → link_side b a ≡ Some y → Goes on a b x y

-- the rings of two link sides differ, and those of one link are its two sides
pub record Apart (link_side : ℕ → ℕ → Option LinkSide) : Type 0 where
  pub pair : (a b : ℕ) (x : LinkSide) → link_side a b ≡ Some x → (y : LinkSide) × (link_side b a ≡ Some y) × (y.ring ≡ turned x.ring)
  pub one : (a b c d : ℕ) (x y : LinkSide) → link_side a b ≡ Some x → link_side c d ≡ Some y → x.ring ≡ y.ring → (a ≡ c) × (b ≡ d)

-- one link side changed
pub record Alters (link_side later : ℕ → ℕ → Option LinkSide) (a b : ℕ) (f : LinkSide → LinkSide) : Type 0 where
  pub here : later a b ≡ option_map f (link_side a b)
  pub rest : (x y : ℕ) → ((x ≡ a) × (y ≡ b) → ⊥) → later x y ≡ link_side x y

not_turned : (side : RingSide) → side ≡ opposite side → ⊥
not_turned first_side e = absurd (cc)
not_turned second_side e = absurd (cc)

pub not_self : (link_side : ℕ → ℕ → Option LinkSide) (a b : ℕ) (x : LinkSide) → Apart link_side → link_side a b ≡ Some x → a ≡ b → ⊥
not_self link_side a b x h q e =
    let q2 : link_side a a ≡ Some x = subst (λ n. link_side a n ≡ Some x) (sym e) q in
    let (y, r, s) = h.pair a a x q2 in
    let same : x ≡ y = let k : Some x ≡ Some y = sym q2 ∙ r in cc in
    not_turned x.ring.side (ap (λ (l : LinkSide). l.ring.side) same ∙ ap (λ (r : RingEnd). r.side) s)

range_push : (a n : ℕ) → range_with_len a (suc n) ≡ range_with_len a n ++ (a + n) ∷ []
range_push a zero = let e : a ≡ a + 0 = omega arith in ap (λ n. n ∷ []) e
range_push a (suc n) =
    ap (λ xs. a ∷ xs) (range_push (a + 1) n) ∙ (let e : a + 1 + n ≡ a + suc n = omega arith in ap (λ k. a ∷ (range_with_len (a + 1) n ++ k ∷ [])) e)

numbers_push : (a b t o : ℕ) → t ≤ o → map (number a b) (range_with_len t (o + 1 - t)) ≡ map (number a b) (range_with_len t (o - t)) ++ number a b o ∷ []
numbers_push a b t o h =
    let e : o + 1 - t ≡ suc (o - t) = omega arith in
    let f : t + (o - t) ≡ o = omega arith in
    ap (λ n. map (number a b) (range_with_len t n)) e ∙ ap (map (number a b)) (range_push t (o - t)) ∙ map-append (number a b) (range_with_len t (o - t)) _
    ∙ ap (λ n. map (number a b) (range_with_len t (o - t)) ++ number a b n ∷ []) f

-- what an altered link side was
pub was : (link_side later : ℕ → ℕ → Option LinkSide) (a b : ℕ) (f : LinkSide → LinkSide) (x : LinkSide) → Alters link_side later a b f → later a b ≡ Some x → (y : LinkSide) × (link_side a b ≡ Some y) × (x ≡ f y)
was link_side later a b f x h q = by (link_side a b) refl (sym h.here ∙ q)
  where
    by : (o : Option LinkSide) → link_side a b ≡ o → option_map f o ≡ Some x → (y : LinkSide) × (link_side a b ≡ Some y) × (x ≡ f y)
    by None e k = absurd (cc)
    by (Some y) e k = (y, e, (let r : f y ≡ x = cc in sym r))

pair_or : (x y a b : ℕ) → ((x ≡ a) × (y ≡ b)) ⊎ ((x ≡ a) × (y ≡ b) → ⊥)
pair_or x y a b = elim (same_or x a) [
  | inl e ↦ elim (same_or y b) [
    | inl f ↦ inl (e, f)
    | inr f ↦ inr (λ k. f k.1)
  ]
  | inr e ↦ inr (λ k. e k.0)
]

-- ---- an opening more

abbrev pub opening_more : ℕ → ℕ → LinkSide → LinkSide
opening_more a b x = record x { opened = x.opened + 1; waiting = x.waiting ++ number a b x.opened ∷ [] }

pub opened_in_order : (link_side later : ℕ → ℕ → Option LinkSide) (on : RingEnd → List ℕ) (a b : ℕ) → ((z : LinkSide) → link_side a b ≡ Some z → a ≡ b → ⊥) → Alters link_side later a b (opening_more a b) → GoInOrder link_side on
    → GoInOrder later on
opened_in_order link_side later on a b apart alters h c d x y q r = elim (pair_or c d a b) [
  | inl (e, f) ↦ subst (λ m. Goes on m d x y) (sym e) (subst (λ m. Goes on a m x y) (sym f)
      (mine x y (subst (λ m. later m b ≡ Some x) e (subst (λ m. later c m ≡ Some x) f q)) (subst (λ m. later b m ≡ Some y) e (subst (λ m. later m c ≡ Some y) f r))))
  | inr e ↦ elim (pair_or d c a b) [
    | inl (f, g) ↦ subst (λ m. Goes on m d x y) (sym g) (subst (λ m. Goes on b m x y) (sym f)
        (theirs x y (subst (λ m. later m a ≡ Some x) g (subst (λ m. later c m ≡ Some x) f q)) (subst (λ m. later a m ≡ Some y) g (subst (λ m. later m c ≡ Some y) f r))))
    | inr f ↦ h c d x y (sym (alters.rest c d e) ∙ q) (sym (alters.rest d c f) ∙ r)
  ]
]
  where
    mine : (x y : LinkSide) → later a b ≡ Some x → later b a ≡ Some y → Goes on a b x y
    mine x y q r =
        let (z, e, f) = was link_side later a b (opening_more a b) x alters q in
        let other : link_side b a ≡ Some y = sym (alters.rest b a (λ k. apart z e (sym k.0))) ∙ r in
        let g = h a b z y e other in
        let t : y.taken ≤ z.opened = g.taken in
        subst (λ (w : LinkSide). Goes on a b w y) (sym f) (record {
          taken = omega arith;
          numbers = sym (append_assoc (on y.ring) z.waiting (number a b z.opened ∷ [])) ∙ ap (λ xs. xs ++ number a b z.opened ∷ []) g.numbers ∙ sym (numbers_push a b y.taken z.opened t);
        })

    theirs : (x y : LinkSide) → later b a ≡ Some x → later a b ≡ Some y → Goes on b a x y
    theirs x y q r =
        let (z, e, f) = was link_side later a b (opening_more a b) y alters r in
        let other : link_side b a ≡ Some x = sym (alters.rest b a (λ k. apart z e (sym k.0))) ∙ q in
        let g = h b a x z other e in
        subst (λ (w : LinkSide). Goes on b a x w) (sym f) (record { taken = g.taken; numbers = g.numbers })

-- ---- rings changed

-- what the link sides' rings hold stays
pub same_in_order : (link_side later : ℕ → ℕ → Option LinkSide) (on more : RingEnd → List ℕ) → ((a b : ℕ) → later a b ≡ link_side a b)
    → ((a b : ℕ) (y : LinkSide) → link_side a b ≡ Some y → more y.ring ≡ on y.ring) → GoInOrder link_side on → GoInOrder later more
same_in_order link_side later on more e f h c d x y q r =
    let old : link_side d c ≡ Some y = sym (e d c) ∙ r in
    let g = h c d x y (sym (e c d) ∙ q) old in
    record { taken = g.taken; numbers = ap (λ xs. xs ++ x.waiting) (f d c y old) ∙ g.numbers }

pub record RingChanges (on more : RingEnd → List ℕ) (at : RingEnd) : Type 0 where
  pub rest : (r : RingEnd) → (r ≡ at → ⊥) → more r ≡ on r

abbrev pub taking_more : LinkSide → LinkSide
taking_more x = record x { taken = x.taken + 1 }

taken_numbers_by : (a b t o k n : ℕ) (ns ws : List ℕ) → o - t ≡ k → t ≤ o → (n ∷ ns) ++ ws ≡ map (number a b) (range_with_len t k)
    → (t + 1 ≤ o) × (ns ++ ws ≡ map (number a b) (range_with_len (t + 1) (o - (t + 1))))
taken_numbers_by a b t o zero n ns ws e h q = absurd (cc)
taken_numbers_by a b t o (suc k) n ns ws e h q =
    let less : t + 1 ≤ o = omega arith in
    let f : o - (t + 1) ≡ k = omega arith in
    (less, (let g : ns ++ ws ≡ map (number a b) (range_with_len (t + 1) k) = cc in g) ∙ ap (λ m. map (number a b) (range_with_len (t + 1) m)) (sym f))

pub taken_in_order : (link_side later : ℕ → ℕ → Option LinkSide) (on more : RingEnd → List ℕ) (a b n : ℕ) (z : LinkSide) → Apart link_side → link_side a b ≡ Some z
    → Alters link_side later a b taking_more → on z.ring ≡ n ∷ more z.ring → RingChanges on more z.ring → GoInOrder link_side on → GoInOrder later more
taken_in_order link_side later on more a b n z apart here alters first changes h c d x y q r = elim (pair_or d c a b) [
  | inl (e, f) ↦ subst (λ m. Goes more m d x y) (sym f) (subst (λ m. Goes more b m x y) (sym e)
      (mine x y (subst (λ m. later b m ≡ Some x) e (subst (λ m. later m d ≡ Some x) f q)) (subst (λ m. later m b ≡ Some y) e (subst (λ m. later d m ≡ Some y) f r))))
  | inr e ↦ theirs e
]
  where
    mine : (x y : LinkSide) → later b a ≡ Some x → later a b ≡ Some y → Goes more b a x y
    mine x y q r =
        let (w, e, f) = was link_side later a b taking_more y alters r in
        let same : w ≡ z = let k : Some w ≡ Some z = sym e ∙ here in cc in
        let other : link_side b a ≡ Some x = sym (alters.rest b a (λ k. not_self link_side a b z apart here (sym k.0))) ∙ q in
        let g = h b a x z other here in
        let t = taken_numbers_by b a z.taken x.opened (x.opened - z.taken) n (more z.ring) x.waiting refl g.taken (ap (λ xs. xs ++ x.waiting) (sym first) ∙ g.numbers) in
        subst (λ (v : LinkSide). Goes more b a x v) (sym (f ∙ ap taking_more same)) (record { taken = t.0; numbers = t.1 })

    theirs : ((d ≡ a) × (c ≡ b) → ⊥) → Goes more c d x y
    theirs e =
        let old : link_side d c ≡ Some y = sym (alters.rest d c e) ∙ r in
        let away : more y.ring ≡ on y.ring = changes.rest y.ring (λ k. e (apart.one d c a b y z old here k)) in
        elim (pair_or c d a b) [
          | inl (f, g) ↦
              (let (w, i, j) = was link_side later a b taking_more x alters (subst (λ m. later m b ≡ Some x) f (subst (λ m. later c m ≡ Some x) g q)) in
              let k = h c d w y (ap (λ m. link_side m d) f ∙ ap (λ m. link_side a m) g ∙ i) old in
              subst (λ (v : LinkSide). Goes more c d v y) (sym j) (record { taken = k.taken; numbers = ap (λ xs. xs ++ w.waiting) away ∙ k.numbers }))
          | inr f ↦
              (let k = h c d x y (sym (alters.rest c d f) ∙ q) old in
              record { taken = k.taken; numbers = ap (λ xs. xs ++ x.waiting) away ∙ k.numbers })
        ]

-- the first message of an outbox goes onto the link
pub record Moves (f : LinkSide → LinkSide) (z : LinkSide) (ms : List ℕ) : Type 0 where
  pub same : f z ≡ record z { waiting = (f z).waiting }
  pub waiting : z.waiting ≡ ms ++ (f z).waiting

pub moved_in_order : (link_side later : ℕ → ℕ → Option LinkSide) (on more : RingEnd → List ℕ) (a b : ℕ) (f : LinkSide → LinkSide) (ms : List ℕ) (z u : LinkSide) → Apart link_side
    → link_side a b ≡ Some z → link_side b a ≡ Some u → Alters link_side later a b f → Moves f z ms → more u.ring ≡ on u.ring ++ ms → RingChanges on more u.ring → GoInOrder link_side on
    → GoInOrder later more
moved_in_order link_side later on more a b f ms z u apart here there alters moves put changes h c d x y q r = elim (pair_or c d a b) [
  | inl (e, g) ↦ subst (λ m. Goes more m d x y) (sym e) (subst (λ m. Goes more a m x y) (sym g)
      (mine x y (subst (λ m. later m b ≡ Some x) e (subst (λ m. later c m ≡ Some x) g q)) (subst (λ m. later b m ≡ Some y) e (subst (λ m. later m c ≡ Some y) g r))))
  | inr e ↦ theirs e
]
  where
    mine : (x y : LinkSide) → later a b ≡ Some x → later b a ≡ Some y → Goes more a b x y
    mine x y q r =
        let (w, i, j) = was link_side later a b f x alters q in
        let same : w ≡ z = let k : Some w ≡ Some z = sym i ∙ here in cc in
        let other : link_side b a ≡ Some y = sym (alters.rest b a (λ k. not_self link_side a b z apart here (sym k.0))) ∙ r in
        let one : u ≡ y = let k : Some u ≡ Some y = sym there ∙ other in cc in
        let g = h a b z u here there in
        let made : x ≡ record z { waiting = (f z).waiting } = j ∙ ap f same ∙ moves.same in
        subst (λ (v : LinkSide). Goes more a b v y) (sym made) (subst (λ (v : LinkSide). Goes more a b (record z { waiting = (f z).waiting }) v) one (record {
          taken = g.taken;
          numbers = ap (λ xs. xs ++ (f z).waiting) put ∙ append_assoc (on u.ring) ms (f z).waiting ∙ ap (λ xs. on u.ring ++ xs) (sym moves.waiting) ∙ g.numbers;
        }))

    theirs : ((c ≡ a) × (d ≡ b) → ⊥) → Goes more c d x y
    theirs e =
        elim (pair_or d c a b) [
          | inl (k, l) ↦
              (let (w, i, j) = was link_side later a b f y alters (subst (λ m. later m b ≡ Some y) k (subst (λ m. later d m ≡ Some y) l r)) in
              let same : w ≡ z = let m : Some w ≡ Some z = sym i ∙ here in cc in
              let old : link_side c d ≡ Some x = sym (alters.rest c d e) ∙ q in
              let g = h c d x z old (ap (λ m. link_side m c) k ∙ ap (λ m. link_side a m) l ∙ here) in
              let away : more z.ring ≡ on z.ring = changes.rest z.ring (λ m. not_self link_side a b z apart here (apart.one a b b a z u here there m).0) in
              subst (λ (v : LinkSide). Goes more c d x v) (sym (j ∙ ap f same ∙ moves.same)) (record { taken = g.taken; numbers = ap (λ xs. xs ++ x.waiting) away ∙ g.numbers }))
          | inr k ↦
              (let old : link_side c d ≡ Some x = sym (alters.rest c d e) ∙ q in
              let back : link_side d c ≡ Some y = sym (alters.rest d c k) ∙ r in
              let g = h c d x y old back in
              let away : more y.ring ≡ on y.ring = changes.rest y.ring (λ m. let o = apart.one d c b a y u back there m in e (o.1, o.0)) in
              record { taken = g.taken; numbers = ap (λ xs. xs ++ x.waiting) away ∙ g.numbers })
        ]
