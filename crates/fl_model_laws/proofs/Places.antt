-- Which side of which ring each link and each end has: links are there both ways, and each side of a ring has one owner.
use Rattle.std.proofs.Common.{◌≡◌, ◌≢◌, refl, sym, ◌∙◌, ap, subst, ℕ, zero, suc, ◌+◌, ◌<◌, ◌==◌, Bool, true, false, if◌then◌else◌, List, [], ◌∷◌, ◌++◌, length, slice_get, Option, Some, None, option_map, arith, ◌⊎◌, inl, inr}
use Rattle.std.proofs.lemmas.Bool.{eqb-true, eq-eqb}
use Rattle.std.proofs.lemmas.List.{length-append}
use Rattle.fl_base.specs.declared.identity.EndId.{EndId}
use Rattle.fl_base.specs.declared.identity.Side.{Side}
use Rattle.fl_base.specs.declared.identity.Side.TheVariants.{Client, Server}
use Rattle.fl_base.specs.Given.{given}
use Rattle.fl_hop.proofs.Entering.{same_or}
use Rattle.fl_hop.proofs.Lists.{at_within}
use Rattle.fl_model.specs.Given.{changed_at}
use Rattle.fl_model.specs.Rings.{RingSide, first_side, second_side, RingEnd}
use Rattle.fl_model.specs.State.{side_of}
use Rattle.fl_model.specs.SoundPlaces.{Owner, core_to, this_end, opposite}
use Rattle.fl_model_laws.proofs.Views.{found, changed_later}

-- ---- lists

pub changed_other : {X : Type 0} (xs : List X) (n m : ℕ) (f : X → X) → m ≢ n → slice_get (changed_at n f xs) m ≡ slice_get xs m
changed_other [] n m f h = refl
changed_other (x ∷ xs) zero zero f h = absurd (h refl)
changed_other (x ∷ xs) zero (suc m) f h = refl
changed_other (x ∷ xs) (suc n) zero f h = ap (λ ys. slice_get ys 0) (changed_later x xs n f)
changed_other (x ∷ xs) (suc n) (suc m) f h =
    ap (λ ys. slice_get ys (suc m)) (changed_later x xs n f) ∙ changed_other xs n m f (λ e. h (ap (λ k. suc k) e))

pub changed_same : {X : Type 0} (xs : List X) (n : ℕ) (f : X → X) → slice_get (changed_at n f xs) n ≡ option_map f (slice_get xs n)
changed_same [] n f = refl
changed_same (x ∷ xs) zero f = refl
changed_same (x ∷ xs) (suc n) f = ap (λ ys. slice_get ys (suc n)) (changed_later x xs n f) ∙ changed_same xs n f

pub found_push : {X Y : Type 0} (p : X → Bool) (xs : List X) (x : X) (ys : List Y) (y : Y) → length xs ≡ length ys
    → found p (xs ++ x ∷ []) (ys ++ y ∷ []) ≡ given (found p xs ys) (if p x then Some y else None) (λ z. Some z)
found_push p [] x [] y h = refl
found_push p [] x (z ∷ ys) y h = absurd (omega arith)
found_push p (w ∷ xs) x [] y h = absurd (omega arith)
found_push {X} {Y} p (w ∷ xs) x (z ∷ ys) y h = by (p w) (found_push p xs x ys y (let e : length (w ∷ xs) ≡ length (z ∷ ys) = h in omega arith))
  where
    by : (b : Bool) → found p (xs ++ x ∷ []) (ys ++ y ∷ []) ≡ given (found p xs ys) (if p x then Some y else None) (λ v. Some v)
        → (if b then Some z else found p (xs ++ x ∷ []) (ys ++ y ∷ [])) ≡ given (if b then Some z else found p xs ys) (if p x then Some y else None) (λ v. Some v)
    by true k = refl
    by false k = k

-- ---- the plan

pub record Outline : Type 0 where
  pub neighbours : List ℕ
  pub rings : List RingEnd

pub record Plan : Type 0 where
  pub cores : List Outline
  -- how many rings there are
  pub rings : ℕ
  -- the ring of each binding that has one
  pub joined : List (Option ℕ)

abbrev pub ring_in : ℕ → Outline → Option RingEnd
ring_in b o = found (λ n. n == b) o.neighbours o.rings

abbrev pub ring_side_of : Side → ℕ → RingEnd
ring_side_of side n = record { ring = n; side = side_of side }

abbrev pub end_ring : Side → Option ℕ → Option RingEnd
end_ring side o = given o None (λ n. Some (ring_side_of side n))

abbrev pub ring_of : Plan → Owner → Option RingEnd
ring_of p (core_to a b) = given (slice_get p.cores a) None (ring_in b)
ring_of p (this_end e) = given (slice_get p.joined e.binding) None (end_ring e.side)

abbrev pub turned : RingEnd → RingEnd
turned at = record { ring = at.ring; side = opposite at.side }

abbrev pub IsEven : List Outline → Type 0
IsEven cores = (n : ℕ) (o : Outline) → slice_get cores n ≡ Some o → length o.neighbours ≡ length o.rings

pub record Linked (p : Plan) : Type 0 where
  pub even : IsEven p.cores
  pub within : (x : Owner) (at : RingEnd) → ring_of p x ≡ Some at → at.ring < p.rings
  pub back : (a b : ℕ) (at : RingEnd) → ring_of p (core_to a b) ≡ Some at → ring_of p (core_to b a) ≡ Some (turned at)
  pub one : (x y : Owner) (at : RingEnd) → ring_of p x ≡ Some at → ring_of p y ≡ Some at → x ≡ y

-- one more ring, each side of which has an owner
pub record Grows (p q : Plan) (new : RingSide → Owner) : Type 0 where
  pub even : IsEven q.cores
  pub rings : q.rings ≡ p.rings + 1
  pub stays : (x : Owner) (at : RingEnd) → ring_of p x ≡ Some at → ring_of q x ≡ Some at
  pub comes : (x : Owner) (at : RingEnd) → ring_of q x ≡ Some at → (ring_of p x ≡ Some at) ⊎ ((at.ring ≡ p.rings) × (x ≡ new at.side))
  pub turns : (a b : ℕ) (at : RingEnd) → at.ring ≡ p.rings → core_to a b ≡ new at.side → ring_of q (core_to b a) ≡ Some (turned at)

pub grown : (p q : Plan) (new : RingSide → Owner) → Grows p q new → Linked p → Linked q
grown p q new g h = record {
  even = g.even;
  within = λ x at e. let more = g.rings in elim (g.comes x at e) [
    | inl a ↦ (let k : at.ring < p.rings = h.within x at a in omega arith)
    | inr (a, b) ↦ omega arith
  ];
  back = λ a b at e. elim (g.comes (core_to a b) at e) [
    | inl k ↦ g.stays (core_to b a) (turned at) (h.back a b at k)
    | inr (k, l) ↦ g.turns a b at k l
  ];
  one = λ x y at e f. elim (g.comes x at e) [
    | inl k ↦ elim (g.comes y at f) [
      | inl l ↦ h.one x y at k l
      | inr (l, m) ↦ absurd (let n : at.ring < p.rings = h.within x at k in omega arith)
    ]
    | inr (k, l) ↦ elim (g.comes y at f) [
      | inl m ↦ absurd (let n : at.ring < p.rings = h.within y at m in omega arith)
      | inr (m, n) ↦ l ∙ sym n
    ]
  ];
}

-- ---- a binding without a ring

none_pushed : (xs : List (Option ℕ)) (n : ℕ) (side : Side) → given (slice_get (xs ++ None ∷ []) n) None (end_ring side) ≡ given (slice_get xs n) None (end_ring side)
none_pushed [] zero side = refl
none_pushed [] (suc n) side = refl
none_pushed (x ∷ xs) zero side = refl
none_pushed (x ∷ xs) (suc n) side = none_pushed xs n side

abbrev pub with_none : Plan → Plan
with_none p = record p { joined = p.joined ++ None ∷ [] }

pub none_same : (p : Plan) (x : Owner) → ring_of (with_none p) x ≡ ring_of p x
none_same p (core_to a b) = refl
none_same p (this_end e) = none_pushed p.joined e.binding e.side

pub same_linked : (p q : Plan) → ((x : Owner) → ring_of q x ≡ ring_of p x) → q.rings ≡ p.rings → IsEven q.cores → Linked p → Linked q
same_linked p q e r even h = record {
  even = even;
  within = λ x at k. let m : at.ring < p.rings = h.within x at (sym (e x) ∙ k) in omega arith;
  back = λ a b at k. e (core_to b a) ∙ h.back a b at (sym (e (core_to a b)) ∙ k);
  one = λ x y at k l. h.one x y at (sym (e x) ∙ k) (sym (e y) ∙ l);
}

pub none_linked : (p : Plan) → Linked p → Linked (record p { joined = p.joined ++ None ∷ [] })
none_linked p h = same_linked p (with_none p) (none_same p) refl h.even h

-- ---- a binding with a ring

abbrev pub with_joined : Plan → Plan
with_joined p = record { cores = p.cores; rings = p.rings + 1; joined = p.joined ++ Some p.rings ∷ [] }

abbrev side_end : ℕ → RingSide → Owner
side_end n first_side = this_end (record { binding = n; side = Client })
side_end n second_side = this_end (record { binding = n; side = Server })

own_side : (n : ℕ) (side : Side) → this_end (record { binding = n; side = side }) ≡ side_end n (side_of side)
own_side n Client = refl
own_side n Server = refl

pub joined_comes : (xs : List (Option ℕ)) (n r : ℕ) (side : Side) (at : RingEnd) → given (slice_get (xs ++ Some r ∷ []) n) None (end_ring side) ≡ Some at
    → (given (slice_get xs n) None (end_ring side) ≡ Some at) ⊎ ((at ≡ ring_side_of side r) × (n ≡ length xs))
joined_comes [] zero r side at h = inr ((let e : at ≡ ring_side_of side r = cc in e), refl)
joined_comes [] (suc n) r side at h = absurd (cc)
joined_comes (x ∷ xs) zero r side at h = inl h
joined_comes (x ∷ xs) (suc n) r side at h = elim (joined_comes xs n r side at h) [
  | inl a ↦ inl a
  | inr (a, b) ↦ inr (a, omega (arith, b))
]

pub joined_stays : (xs : List (Option ℕ)) (n : ℕ) (o : Option ℕ) (side : Side) (at : RingEnd) → given (slice_get xs n) None (end_ring side) ≡ Some at
    → given (slice_get (xs ++ o ∷ []) n) None (end_ring side) ≡ Some at
joined_stays [] n o side at h = absurd (cc)
joined_stays (x ∷ xs) zero o side at h = h
joined_stays (x ∷ xs) (suc n) o side at h = joined_stays xs n o side at h

joined_owner : (p : Plan) (e : EndId) (at : RingEnd) → at ≡ ring_side_of e.side p.rings → e.binding ≡ length p.joined
    → (at.ring ≡ p.rings) × (this_end e ≡ side_end (length p.joined) at.side)
joined_owner p e at q r = (
  ap (λ (x : RingEnd). x.ring) q,
  (ap (λ n. this_end (record { binding = n; side = e.side })) r ∙ own_side (length p.joined) e.side ∙ ap (side_end (length p.joined)) (sym (ap (λ (x : RingEnd). x.side) q))),
)

pub joined_linked : (p : Plan) → Linked p → Linked (with_joined p)
joined_linked p h = grown p (with_joined p) (side_end (length p.joined)) (record {
  even = h.even;
  rings = refl;
  stays = stays;
  comes = comes;
  turns = λ a b at r e. absurd (no_core a b at.side e);
}) h
  where
    stays : (x : Owner) (at : RingEnd) → ring_of p x ≡ Some at → ring_of (with_joined p) x ≡ Some at
    stays (core_to a b) at e = e
    stays (this_end f) at e = joined_stays p.joined f.binding (Some p.rings) f.side at e

    comes : (x : Owner) (at : RingEnd) → ring_of (with_joined p) x ≡ Some at → (ring_of p x ≡ Some at) ⊎ ((at.ring ≡ p.rings) × (x ≡ side_end (length p.joined) at.side))
    comes (core_to a b) at e = inl e
    comes (this_end f) at e = elim (joined_comes p.joined f.binding p.rings f.side at e) [
      | inl k ↦ inl k
      | inr (k, l) ↦ inr (joined_owner p f at k l)
    ]

    no_core : (a b : ℕ) (side : RingSide) → core_to a b ≡ side_end (length p.joined) side → ⊥
    no_core a b first_side e = absurd (cc)
    no_core a b second_side e = absurd (cc)

-- ---- a link

abbrev pub joins : ℕ → ℕ → RingSide → Outline → Outline
joins b n side o = record { neighbours = o.neighbours ++ b ∷ []; rings = o.rings ++ record { ring = n; side = side } ∷ [] }

abbrev at_core : List Outline → ℕ → ℕ → Option RingEnd
at_core cores x y = given (slice_get cores x) None (ring_in y)

some_given : {X : Type 0} (o : Option X) (d : Option X) (x : X) → o ≡ Some x → given o d (λ z. Some z) ≡ Some x
some_given o d x h = ap (λ p. given p d (λ z. Some z)) h

in_stays : (o : Outline) (b n y : ℕ) (side : RingSide) (at : RingEnd) → length o.neighbours ≡ length o.rings → ring_in y o ≡ Some at → ring_in y (joins b n side o) ≡ Some at
in_stays o b n y side at e h = found_push (λ m. m == y) o.neighbours b o.rings _ e ∙ some_given (ring_in y o) _ at h

in_new : (o : Outline) (b n : ℕ) (side : RingSide) → length o.neighbours ≡ length o.rings → ring_in b o ≡ None → ring_in b (joins b n side o) ≡ Some (record { ring = n; side = side })
in_new o b n side e h =
    let at : RingEnd = record { ring = n; side = side } in
    found_push (λ m. m == b) o.neighbours b o.rings at e ∙ ap (λ p. given p (if b == b then Some at else None) (λ z. Some z)) h
    ∙ ap (λ t. if t then Some at else None) (eq-eqb b b refl)

test_cases : (t : Bool) (b y : ℕ) (new at : RingEnd) → (b == y) ≡ t → (if t then Some new else None) ≡ Some at → (y ≡ b) × (at ≡ new)
test_cases true b y new at q h = (sym (eqb-true b y q), (let e : at ≡ new = cc in e))
test_cases false b y new at q h = absurd (cc)

in_cases : (r : Option RingEnd) (b y : ℕ) (new at : RingEnd) → given r (if b == y then Some new else None) (λ z. Some z) ≡ Some at
    → (r ≡ Some at) ⊎ ((y ≡ b) × (at ≡ new))
in_cases (Some z) b y new at h = inl h
in_cases None b y new at h = inr (test_cases (b == y) b y new at refl h)

in_comes : (o : Outline) (b n y : ℕ) (side : RingSide) (at : RingEnd) → length o.neighbours ≡ length o.rings → ring_in y (joins b n side o) ≡ Some at
    → (ring_in y o ≡ Some at) ⊎ ((y ≡ b) × (at ≡ record { ring = n; side = side }))
in_comes o b n y side at e h = in_cases (ring_in y o) b y _ at (sym (found_push (λ m. m == y) o.neighbours b o.rings _ e) ∙ h)

pub join_stays : (cores : List Outline) (a b n x y : ℕ) (side : RingSide) (at : RingEnd) → IsEven cores → at_core cores x y ≡ Some at → at_core (changed_at a (joins b n side) cores) x y ≡ Some at
join_stays cores a b n x y side at even h = elim (same_or x a) [
  | inl e ↦ subst (λ m. at_core cores m y ≡ Some at → at_core (changed_at a (joins b n side) cores) m y ≡ Some at) (sym e)
      (λ k. ap (λ o. given o None (ring_in y)) (changed_same cores a (joins b n side)) ∙ by (slice_get cores a) refl k) h
  | inr e ↦ ap (λ o. given o None (ring_in y)) (changed_other cores a x (joins b n side) e) ∙ h
]
  where
    by : (o : Option Outline) → slice_get cores a ≡ o → given o None (ring_in y) ≡ Some at → given (option_map (joins b n side) o) None (ring_in y) ≡ Some at
    by None q k = absurd (cc)
    by (Some o) q k = in_stays o b n y side at (even a o q) k

pub join_comes : (cores : List Outline) (a b n x y : ℕ) (side : RingSide) (at : RingEnd) → IsEven cores → at_core (changed_at a (joins b n side) cores) x y ≡ Some at
    → (at_core cores x y ≡ Some at) ⊎ ((x ≡ a) × (y ≡ b) × (at ≡ record { ring = n; side = side }))
join_comes cores a b n x y side at even h = elim (same_or x a) [
  | inl e ↦ at_a e h
  | inr e ↦ inl (sym (ap (λ o. given o None (ring_in y)) (changed_other cores a x (joins b n side) e)) ∙ h)
]
  where
    by : (o : Option Outline) → slice_get cores a ≡ o → given (option_map (joins b n side) o) None (ring_in y) ≡ Some at
        → (given o None (ring_in y) ≡ Some at) ⊎ ((y ≡ b) × (at ≡ record { ring = n; side = side }))
    by None q k = absurd (cc)
    by (Some o) q k = in_comes o b n y side at (even a o q) k

    at_a : x ≡ a → at_core (changed_at a (joins b n side) cores) x y ≡ Some at → (at_core cores x y ≡ Some at) ⊎ ((x ≡ a) × (y ≡ b) × (at ≡ record { ring = n; side = side }))
    at_a e k = elim (by (slice_get cores a) refl (sym (ap (λ o. given o None (ring_in y)) (changed_same cores a (joins b n side)))
        ∙ subst (λ m. at_core (changed_at a (joins b n side) cores) m y ≡ Some at) e k)) [
          | inl l ↦ inl (subst (λ m. at_core cores m y ≡ Some at) (sym e) l)
          | inr (l, m) ↦ inr (e, l, m)
        ]

join_new : (cores : List Outline) (a b n : ℕ) (side : RingSide) → IsEven cores → a < length cores → at_core cores a b ≡ None
    → at_core (changed_at a (joins b n side) cores) a b ≡ Some (record { ring = n; side = side })
join_new cores a b n side even within h =
    let there = at_within cores a within in
    ap (λ o. given o None (ring_in b)) (changed_same cores a (joins b n side)) ∙ ap (λ o. given (option_map (joins b n side) o) None (ring_in b)) there.1
    ∙ in_new there.0 b n side (even a there.0 there.1) (sym (ap (λ o. given o None (ring_in b)) there.1) ∙ h)

pub join_even : (cores : List Outline) (a b n : ℕ) (side : RingSide) → IsEven cores → IsEven (changed_at a (joins b n side) cores)
join_even cores a b n side even m o h = elim (same_or m a) [
  | inl e ↦ by (slice_get cores a) refl (sym (changed_same cores a (joins b n side)) ∙ subst (λ k. slice_get (changed_at a (joins b n side) cores) k ≡ Some o) e h)
  | inr e ↦ even m o (sym (changed_other cores a m (joins b n side) e) ∙ h)
]
  where
    by : (p : Option Outline) → slice_get cores a ≡ p → option_map (joins b n side) p ≡ Some o → length o.neighbours ≡ length o.rings
    by None q k = absurd (cc)
    by (Some p) q k =
        let same : length p.neighbours ≡ length p.rings = even a p q in
        let e : joins b n side p ≡ o = cc in
        let x = length-append p.neighbours (b ∷ []) in
        let y = length-append p.rings (record { ring = n; side = side } ∷ []) in
        subst (λ (z : Outline). length z.neighbours ≡ length z.rings) e (omega arith)

abbrev pub with_link_between : ℕ → ℕ → Plan → Plan
with_link_between a b p = record {
  cores = changed_at b (joins a p.rings second_side) (changed_at a (joins b p.rings first_side) p.cores);
  rings = p.rings + 1;
  joined = p.joined;
}

abbrev link_owner : ℕ → ℕ → RingSide → Owner
link_owner a b first_side = core_to a b
link_owner a b second_side = core_to b a

length_set_at : {X : Type 0} (xs : List X) (n : ℕ) (f : X → X) → length (changed_at n f xs) ≡ length xs
length_set_at [] n f = refl
length_set_at (x ∷ xs) zero f = refl
length_set_at (x ∷ xs) (suc n) f =
    let e : length (changed_at n f xs) ≡ length xs = length_set_at xs n f in
    ap length (changed_later x xs n f) ∙ (let k : length (x ∷ changed_at n f xs) ≡ length (x ∷ xs) = omega arith in k)

pub link_linked : (a b : ℕ) (p : Plan) → a ≢ b → a < length p.cores → b < length p.cores → ring_of p (core_to a b) ≡ None → Linked p → Linked (with_link_between a b p)
link_linked a b p apart wa wb none h = grown p (with_link_between a b p) (link_owner a b) (record {
  even = join_even near b a p.rings second_side near_even;
  rings = refl;
  stays = stays;
  comes = comes;
  turns = λ x y at r e. turns x y at.side at.ring r e;
}) h
  where
    near : List Outline
    near = changed_at a (joins b p.rings first_side) p.cores

    near_even : IsEven near
    near_even = join_even p.cores a b p.rings first_side h.even

    stays : (x : Owner) (at : RingEnd) → ring_of p x ≡ Some at → ring_of (with_link_between a b p) x ≡ Some at
    stays (core_to x y) at e = join_stays near b a p.rings x y second_side at near_even (join_stays p.cores a b p.rings x y first_side at h.even e)
    stays (this_end f) at e = e

    comes : (x : Owner) (at : RingEnd) → ring_of (with_link_between a b p) x ≡ Some at → (ring_of p x ≡ Some at) ⊎ ((at.ring ≡ p.rings) × (x ≡ link_owner a b at.side))
    comes (this_end f) at e = inl e
    comes (core_to x y) at e = elim (join_comes near b a p.rings x y second_side at near_even e) [
      | inr (k, l, m) ↦ inr (ap (λ (z : RingEnd). z.ring) m, (ap (λ n. core_to n y) k ∙ ap (λ n. core_to b n) l ∙ sym (ap (λ (z : RingEnd). link_owner a b z.side) m)))
      | inl o ↦ elim (join_comes p.cores a b p.rings x y first_side at h.even o) [
        | inr (k, l, m) ↦ inr (ap (λ (z : RingEnd). z.ring) m, (ap (λ n. core_to n y) k ∙ ap (λ n. core_to a n) l ∙ sym (ap (λ (z : RingEnd). link_owner a b z.side) m)))
        | inl k ↦ inl k
      ]
    ]

    none_back : (o : Option RingEnd) → at_core p.cores b a ≡ o → at_core p.cores b a ≡ None
    none_back None q = q
    none_back (Some at) q = absurd (let k : ring_of p (core_to a b) ≡ Some (turned at) = h.back b a at q in let m : None ≡ Some (turned at) = sym none ∙ k in cc)

    near_ab : at_core near a b ≡ Some (record { ring = p.rings; side = first_side })
    near_ab = join_new p.cores a b p.rings first_side h.even wa none

    near_ba : at_core near b a ≡ None
    near_ba = ap (λ o. given o None (ring_in a)) (changed_other p.cores a b (joins b p.rings first_side) (λ e. apart (sym e))) ∙ none_back (at_core p.cores b a) refl

    far_ba : at_core (with_link_between a b p).cores b a ≡ Some (record { ring = p.rings; side = second_side })
    far_ba = let e = length_set_at p.cores a (joins b p.rings first_side) in join_new near b a p.rings second_side near_even (omega (arith, e, wb)) near_ba

    far_ab : at_core (with_link_between a b p).cores a b ≡ Some (record { ring = p.rings; side = first_side })
    far_ab = join_stays near b a p.rings a b second_side _ near_even near_ab

    turns : (x y : ℕ) (side : RingSide) (r : ℕ) → r ≡ p.rings → core_to x y ≡ link_owner a b side → ring_of (with_link_between a b p) (core_to y x) ≡ Some (record { ring = r; side = opposite side })
    turns x y first_side r q e =
        let k : x ≡ a = cc in
        let l : y ≡ b = cc in
        ap (λ n. at_core (with_link_between a b p).cores n x) l ∙ ap (λ n. at_core (with_link_between a b p).cores b n) k ∙ far_ba ∙ ap (λ n. Some (record { ring = n; side = second_side })) (sym q)
    turns x y second_side r q e =
        let k : x ≡ b = cc in
        let l : y ≡ a = cc in
        ap (λ n. at_core (with_link_between a b p).cores n x) l ∙ ap (λ n. at_core (with_link_between a b p).cores a n) k ∙ far_ab ∙ ap (λ n. Some (record { ring = n; side = first_side })) (sym q)
