-- What stands before each reader after a label is put on a ring or taken, after a look, and after a ring is made.
use Rattle.std.proofs.Common.{◌≡◌, ◌≢◌, refl, sym, ◌∙◌, ap, subst, ℕ, ◌<◌, List, [], ◌∷◌, ◌++◌, length, drop, slice_get, Option, Some, None, option_map, ◌⊎◌, inl, inr, ◌||◌, nat_le}
use Rattle.fl_base.specs.Given.{given}
use Rattle.fl_hop.proofs.Entering.{same_or}
use Rattle.fl_hop.proofs.Lists.{push_keeps, at_within}
use Rattle.fl_model.specs.Given.{changed_at}
use Rattle.fl_model.specs.Rings.{Label, RingLabel, Ring, RingSide, first_side, second_side, RingEnd, read_by, first_for, puts, takes, looks, makes_sure, fresh_ring, is_spent, free}
use Rattle.fl_model.specs.State.{State, first_on, change_ring}
use Rattle.fl_model.specs.Making.{with_new_link}
use Rattle.fl_model.specs.Standing.{labels_of}
use Rattle.fl_model.specs.SoundPlaces.{Owner, core_to, this_end}
use Rattle.fl_model_laws.proofs.Cases.{either, by_given}
use Rattle.fl_model_laws.proofs.Places.{Plan, Linked, ring_of, turned, changed_same, changed_other, join_stays, join_comes, join_even, joins, with_link_between, IsEven}
use Rattle.fl_model_laws.proofs.PlacesStep.{plan_of, plan_ring, link_plan}
use Rattle.fl_model_laws.proofs.Scenes.{labels_at, reads, put_here, put_else, take_here, take_else, end_or}

-- ---- a label is put, or taken

-- t is s with its rings changed, over the same links
pub record RingsOnly (s t : State) (later : List Ring) : Type 0 where
  pub plan : plan_of t ≡ plan_of s
  pub rings : t.rings ≡ later

reads_there : (s t : State) (rs : List Ring) (x : Owner) (y : RingEnd) (g : List Label → List Label) → RingsOnly s t rs → ring_of (plan_of s) x ≡ Some y
    → labels_at rs y ≡ g (labels_at s.rings y) → reads t x ≡ g (reads s x)
reads_there s t rs x y g k q h =
    ap (λ p. given (ring_of p x) [] (labels_at t.rings)) k.plan ∙ ap (λ o. given o [] (labels_at t.rings)) q
    ∙ ap (λ ring_list. labels_at ring_list y) k.rings ∙ h ∙ ap g (sym (ap (λ o. given o [] (labels_at s.rings)) q))

reads_nowhere : (s t : State) (rs : List Ring) (x : Owner) → RingsOnly s t rs → ring_of (plan_of s) x ≡ None → reads t x ≡ reads s x
reads_nowhere s t rs x k q =
    ap (λ p. given (ring_of p x) [] (labels_at t.rings)) k.plan ∙ ap (λ o. given o [] (labels_at t.rings)) q
    ∙ sym (ap (λ o. given o [] (labels_at s.rings)) q)

abbrev pub PutOn : State → State → RingEnd → Label → Type 0
PutOn s t at l = RingsOnly s t (changed_at at.ring (puts at.side l) s.rings)

abbrev pub TakenOff : State → State → RingEnd → Type 0
TakenOff s t at = RingsOnly s t (changed_at at.ring (takes at.side) s.rings)

pub put_reads : (s t : State) (at : RingEnd) (l : Label) (x : Owner) → PutOn s t at l → Linked (plan_of s) → ring_of (plan_of s) x ≡ Some (turned at)
    → reads t x ≡ reads s x ++ l ∷ []
put_reads s t at l x k h q = reads_there s t _ x (turned at) (λ ls. ls ++ l ∷ []) k q (put_here s.rings at l (h.within x (turned at) q))

pub put_leaves : (s t : State) (at : RingEnd) (l : Label) (x : Owner) → PutOn s t at l → ring_of (plan_of s) x ≢ Some (turned at) → reads t x ≡ reads s x
put_leaves s t at l x k h = by (ring_of (plan_of s) x) refl
  where
    by : (o : Option RingEnd) → ring_of (plan_of s) x ≡ o → reads t x ≡ reads s x
    by None q = reads_nowhere s t _ x k q
    by (Some y) q = reads_there s t _ x y (λ ls. ls) k q (put_else s.rings at l y (λ e. h (q ∙ ap (λ z. Some z) e)))

pub take_reads : (s t : State) (at : RingEnd) (x : Owner) → TakenOff s t at → ring_of (plan_of s) x ≡ Some at → reads t x ≡ drop 1 (reads s x)
take_reads s t at x k q = reads_there s t _ x at (drop 1) k q (take_here s.rings at)

pub take_leaves : (s t : State) (at : RingEnd) (x : Owner) → TakenOff s t at → ring_of (plan_of s) x ≢ Some at → reads t x ≡ reads s x
take_leaves s t at x k h = by (ring_of (plan_of s) x) refl
  where
    by : (o : Option RingEnd) → ring_of (plan_of s) x ≡ o → reads t x ≡ reads s x
    by None q = reads_nowhere s t _ x k q
    by (Some y) q = reads_there s t _ x y (λ ls. ls) k q (take_else s.rings at y (λ e. h (q ∙ ap (λ z. Some z) e)))

some_or : (o : Option RingEnd) (y : RingEnd) → (o ≡ Some y) ⊎ (o ≢ Some y)
some_or None y = inr (λ e. absurd (cc))
some_or (Some x) y = elim (end_or x y) [
  | inl e ↦ inl (ap (λ z. Some z) e)
  | inr e ↦ inr (λ f. e (let g : Some x ≡ Some y = f in cc))
]

pub put_cases : (s t : State) (at : RingEnd) (l : Label) (x : Owner) → PutOn s t at l → Linked (plan_of s)
    → (reads t x ≡ reads s x) ⊎ ((ring_of (plan_of s) x ≡ Some (turned at)) × (reads t x ≡ reads s x ++ l ∷ []))
put_cases s t at l x k h = elim (some_or (ring_of (plan_of s) x) (turned at)) [
  | inl e ↦ inr (e, put_reads s t at l x k h e)
  | inr e ↦ inl (put_leaves s t at l x k e)
]

pub take_cases : (s t : State) (at : RingEnd) (x : Owner) → TakenOff s t at
    → (reads t x ≡ reads s x) ⊎ ((ring_of (plan_of s) x ≡ Some at) × (reads t x ≡ drop 1 (reads s x)))
take_cases s t at x k = elim (some_or (ring_of (plan_of s) x) at) [
  | inl e ↦ inr (e, take_reads s t at x k e)
  | inr e ↦ inl (take_leaves s t at x k e)
]

-- what stands first for the side of a ring stands first before its owner
pub first_read : (s : State) (at : RingEnd) (x : Owner) (first : RingLabel) → ring_of (plan_of s) x ≡ Some at → first_on at s ≡ Some first
    → slice_get (reads s x) 0 ≡ Some first.label
first_read s at x first q h = ap (λ o. slice_get (given o [] (labels_at s.rings)) 0) q ∙ by (slice_get s.rings at.ring) h
  where
    one : (ls : List RingLabel) → slice_get ls 0 ≡ Some first → slice_get (labels_of ls) 0 ≡ Some first.label
    one [] e = absurd (cc)
    one (l ∷ ls) e = let same : l ≡ first = cc in ap (λ (z : RingLabel). Some z.label) same

    by : (o : Option Ring) → given o None (first_for at.side) ≡ Some first → slice_get (given o [] (λ r. labels_of (read_by at.side r).waiting)) 0 ≡ Some first.label
    by None e = absurd (cc)
    by (Some r) e = one (read_by at.side r).waiting e

-- ---- looks

abbrev pub SeesSame : (Ring → Ring) → Type 0
SeesSame f = (side : RingSide) (r : Ring) → labels_of (read_by side (f r)).waiting ≡ labels_of (read_by side r).waiting

pub looks_labels : (by : RingSide) → SeesSame (looks by)
looks_labels first_side first_side r = by_given (λ (t : Ring). labels_of (read_by first_side t).waiting ≡ labels_of (read_by first_side r).waiting) (first_for first_side r) _ _ refl (λ x q. refl)
looks_labels first_side second_side r = by_given (λ (t : Ring). labels_of (read_by second_side t).waiting ≡ labels_of (read_by second_side r).waiting) (first_for first_side r) _ _ refl (λ x q. refl)
looks_labels second_side first_side r = by_given (λ (t : Ring). labels_of (read_by first_side t).waiting ≡ labels_of (read_by first_side r).waiting) (first_for second_side r) _ _ refl (λ x q. refl)
looks_labels second_side second_side r = by_given (λ (t : Ring). labels_of (read_by second_side t).waiting ≡ labels_of (read_by second_side r).waiting) (first_for second_side r) _ _ refl (λ x q. refl)

pub sure_labels : (need : ℕ) (by : RingSide) → SeesSame (makes_sure need by)
sure_labels need by side r =
    either (λ (t : Ring). labels_of (read_by side t).waiting ≡ labels_of (read_by side r).waiting)
    (is_spent by r || nat_le need (free by r)) r (looks by r) (λ q. refl) (λ q. looks_labels by side r)

pub reads_seen : (n : ℕ) (f : Ring → Ring) (s : State) → SeesSame f → (x : Owner) → reads (change_ring n f s) x ≡ reads s x
reads_seen n f s h x = ap (λ p. given (ring_of p x) [] (labels_at (changed_at n f s.rings))) (plan_ring n f s) ∙ by (ring_of (plan_of s) x)
  where
    ring : (y : RingEnd) (o : Option Ring) → given (option_map f o) [] (λ r. labels_of (read_by y.side r).waiting) ≡ given o [] (λ r. labels_of (read_by y.side r).waiting)
    ring y None = refl
    ring y (Some r) = h y.side r

    at : (y : RingEnd) → labels_at (changed_at n f s.rings) y ≡ labels_at s.rings y
    at y = elim (same_or y.ring n) [
      | inr d ↦ ap (λ o. given o [] (λ r. labels_of (read_by y.side r).waiting)) (changed_other s.rings n y.ring f d)
      | inl d ↦ subst (λ m. given (slice_get (changed_at n f s.rings) m) [] (λ r. labels_of (read_by y.side r).waiting) ≡ given (slice_get s.rings m) [] (λ r. labels_of (read_by y.side r).waiting)) (sym d)
          (ap (λ o. given o [] (λ r. labels_of (read_by y.side r).waiting)) (changed_same s.rings n f) ∙ ring y (slice_get s.rings n))
    ]

    by : (o : Option RingEnd) → given o [] (labels_at (changed_at n f s.rings)) ≡ given o [] (labels_at s.rings)
    by None = refl
    by (Some y) = at y

-- ---- rings are made

-- each owner of a ring keeps it, and one that comes has the new ring
pub record OneMore (s t : State) : Type 0 where
  pub size : ℕ
  pub rings : t.rings ≡ s.rings ++ fresh_ring size ∷ []
  pub stays : (x : Owner) (at : RingEnd) → ring_of (plan_of s) x ≡ Some at → ring_of (plan_of t) x ≡ Some at
  pub comes : (x : Owner) (at : RingEnd) → ring_of (plan_of t) x ≡ Some at → (ring_of (plan_of s) x ≡ Some at) ⊎ (at.ring ≡ length s.rings)

fresh_labels : (size : ℕ) (side : RingSide) → labels_of (read_by side (fresh_ring size)).waiting ≡ []
fresh_labels size first_side = refl
fresh_labels size second_side = refl

push_labels : (rs : List Ring) (r : Ring) (y : RingEnd) → y.ring < length rs → labels_at (rs ++ r ∷ []) y ≡ labels_at rs y
push_labels rs r y h =
    let (x, q) = at_within rs y.ring h in
    ap (λ o. given o [] (λ z. labels_of (read_by y.side z).waiting)) (push_keeps rs (r ∷ []) y.ring x q ∙ sym q)

last_labels : (rs : List Ring) (size : ℕ) (y : RingEnd) → y.ring ≡ length rs → labels_at (rs ++ fresh_ring size ∷ []) y ≡ []
last_labels rs size y e = ap (λ n. given (slice_get (rs ++ fresh_ring size ∷ []) n) [] (λ z. labels_of (read_by y.side z).waiting)) e ∙ by rs
  where
    by : (xs : List Ring) → given (slice_get (xs ++ fresh_ring size ∷ []) (length xs)) [] (λ z. labels_of (read_by y.side z).waiting) ≡ []
    by [] = fresh_labels size y.side
    by (x ∷ xs) = by xs

pub reads_more : (s t : State) → OneMore s t → Linked (plan_of s) → (x : Owner) → reads t x ≡ reads s x
reads_more s t k h x = by (ring_of (plan_of t) x) refl (ring_of (plan_of s) x) refl
  where
    at : (y : RingEnd) → labels_at t.rings y ≡ labels_at (s.rings ++ fresh_ring k.size ∷ []) y
    at y = ap (λ rs. labels_at rs y) k.rings

    by : (o : Option RingEnd) → ring_of (plan_of t) x ≡ o → (p : Option RingEnd) → ring_of (plan_of s) x ≡ p → reads t x ≡ reads s x
    by None e None f = ap (λ o. given o [] (labels_at t.rings)) e ∙ sym (ap (λ o. given o [] (labels_at s.rings)) f)
    by None e (Some z) f = absurd (let u : None ≡ Some z = sym e ∙ k.stays x z f in cc)
    by (Some y) e None f = elim (k.comes x y e) [
      | inl a ↦ absurd (let u : None ≡ Some y = sym f ∙ a in cc)
      | inr a ↦ ap (λ o. given o [] (labels_at t.rings)) e ∙ at y ∙ last_labels s.rings k.size y a ∙ sym (ap (λ o. given o [] (labels_at s.rings)) f)
    ]
    by (Some y) e (Some z) f =
        let same : z ≡ y = (let u : Some z ≡ Some y = sym (k.stays x z f) ∙ e in cc) in
        ap (λ o. given o [] (labels_at t.rings)) e ∙ at y
        ∙ ap (labels_at (s.rings ++ fresh_ring k.size ∷ [])) (sym same) ∙ push_labels s.rings (fresh_ring k.size) z (h.within x z f)
        ∙ sym (ap (λ o. given o [] (labels_at s.rings)) f)

pub link_more : (a b size : ℕ) (s : State) → Linked (plan_of s) → OneMore s (with_new_link a b size s)
link_more a b size s h = record {
  size = size;
  rings = refl;
  stays = λ x at q. ap (λ p. ring_of p x) (link_plan a b size s) ∙ stays x at q;
  comes = λ x at q. comes x at (sym (ap (λ p. ring_of p x) (link_plan a b size s)) ∙ q);
}
  where
    p : Plan
    p = plan_of s

    near_even : IsEven (changed_at a (joins b p.rings first_side) p.cores)
    near_even = join_even p.cores a b p.rings first_side h.even

    stays : (x : Owner) (at : RingEnd) → ring_of p x ≡ Some at → ring_of (with_link_between a b p) x ≡ Some at
    stays (core_to x y) at e =
        join_stays (changed_at a (joins b p.rings first_side) p.cores) b a p.rings x y second_side at near_even (join_stays p.cores a b p.rings x y first_side at h.even e)
    stays (this_end f) at e = e

    comes : (x : Owner) (at : RingEnd) → ring_of (with_link_between a b p) x ≡ Some at → (ring_of p x ≡ Some at) ⊎ (at.ring ≡ length s.rings)
    comes (this_end f) at e = inl e
    comes (core_to x y) at e = elim (join_comes (changed_at a (joins b p.rings first_side) p.cores) b a p.rings x y second_side at near_even e) [
      | inr (k, l, m) ↦ inr (ap (λ (z : RingEnd). z.ring) m)
      | inl o ↦ elim (join_comes p.cores a b p.rings x y first_side at h.even o) [
        | inr (k, l, m) ↦ inr (ap (λ (z : RingEnd). z.ring) m)
        | inl k ↦ inl k
      ]
    ]
