-- The monitors' messages between two cores, by the lines that the cores have to each other and what stands on the rings.
use Rattle.std.proofs.Common.{◌≡◌, refl, sym, ◌∙◌, ap, subst, ℕ, ◌⊎◌, inl, inr}
use Rattle.std.proofs.Common.{List, [], ◌∷◌, ◌++◌, drop, slice_get, Option, Some, None, option_map, append_assoc}
use Rattle.std.proofs.lemmas.List.{append-nil}
use Rattle.fl_base.specs.Given.{given}
use Rattle.fl_hop.proofs.Entering.{same_or}
use Rattle.fl_model.specs.Given.{changed_at}
use Rattle.fl_model.specs.Rings.{MonitorLabel, RingSide, first_side, second_side, RingEnd}
use Rattle.fl_model.specs.Monitors.{Link, says_more}
use Rattle.fl_model.specs.SoundPlaces.{opposite}
use Rattle.fl_model_laws.proofs.Views.{Sides, two}
use Rattle.fl_model_laws.proofs.Places.{changed_other, changed_same, turned}
use Rattle.fl_model_laws.proofs.Boards.{Takes, Puts, pair_or}
use Rattle.fl_model_laws.proofs.BoardViews.{side_said, unread_said}

abbrev pub Lines : Type 0
Lines = ℕ → ℕ → Option Link

abbrev pub said_on : Lines → List Sides → ℕ → ℕ → List MonitorLabel
said_on lines rings a b = given (lines b a) [] (λ l. unread_said rings l.ring) ++ given (lines a b) [] (λ l. l.outbox)

-- each line is there both ways, over a ring's two sides, and no two lines have one side of a ring
pub record Paired (lines : Lines) : Type 0 where
  pub pair : (a b : ℕ) (x : Link) → lines a b ≡ Some x → (y : Link) × (lines b a ≡ Some y) × (y.ring ≡ turned x.ring)
  pub one : (a b c d : ℕ) (x y : Link) → lines a b ≡ Some x → lines c d ≡ Some y → x.ring ≡ y.ring → (a ≡ c) × (b ≡ d)

-- ---- rings

pub same_ring_end : (x y : RingEnd) → x.ring ≡ y.ring → x.side ≡ y.side → x ≡ y
same_ring_end x y p q = both x.ring y.ring x.side y.side p q
  where
    both : (a b : ℕ) (c d : RingSide) → a ≡ b → c ≡ d → record { ring = a; side = c } ≡ (let r : RingEnd = record { ring = b; side = d } in r)
    both a b c d e f = cc

pub side_or : (a b : RingSide) → (a ≡ b) ⊎ (a ≡ opposite b)
side_or first_side first_side = inl refl
side_or first_side second_side = inr refl
side_or second_side first_side = inr refl
side_or second_side second_side = inl refl

-- what a side has yet to read, with the first message taken; and with one more
abbrev pub takes_first : RingSide → Sides → Sides
takes_first first_side r = two r.by_first (drop 1 r.by_second)
takes_first second_side r = two (drop 1 r.by_first) r.by_second

abbrev pub gains : RingSide → MonitorLabel → Sides → Sides
gains first_side m r = two r.by_first (r.by_second ++ m ∷ [])
gains second_side m r = two (r.by_first ++ m ∷ []) r.by_second

-- a change of what one side has yet to read
pub unread_else : (rings : List Sides) (at : RingEnd) (f : Sides → Sides) → ((r : Sides) → side_said (opposite at.side) (f r) ≡ side_said (opposite at.side) r)
    → (x : RingEnd) → (x ≡ at → ⊥) → unread_said (changed_at at.ring f rings) x ≡ unread_said rings x
unread_else rings at f h x away = elim (same_or x.ring at.ring) [
  | inr d ↦ ap (λ o. given o [] (side_said x.side)) (changed_other rings at.ring x.ring f d)
  | inl d ↦ elim (side_or x.side at.side) [
    | inl e ↦ absurd (away (same_ring_end x at d e))
    | inr e ↦ subst (λ n. given (slice_get (changed_at at.ring f rings) n) [] (side_said x.side) ≡ given (slice_get rings n) [] (side_said x.side)) (sym d)
        (ap (λ o. given o [] (side_said x.side)) (changed_same rings at.ring f) ∙ by e (slice_get rings at.ring))
  ]
]
  where
    by : x.side ≡ opposite at.side → (o : Option Sides) → given (option_map f o) [] (side_said x.side) ≡ given o [] (side_said x.side)
    by e None = refl
    by e (Some r) = subst (λ s. side_said s (f r) ≡ side_said s r) (sym e) (h r)

pub unread_at : (rings : List Sides) (at : RingEnd) (f : Sides → Sides) (r : Sides) → slice_get rings at.ring ≡ Some r
    → unread_said (changed_at at.ring f rings) at ≡ side_said at.side (f r)
unread_at rings at f r q = ap (λ o. given o [] (side_said at.side)) (changed_same rings at.ring f ∙ ap (option_map f) q)

take_else : (side : RingSide) (r : Sides) → side_said (opposite side) (takes_first side r) ≡ side_said (opposite side) r
take_else first_side r = refl
take_else second_side r = refl

take_here : (side : RingSide) (r : Sides) → side_said side (takes_first side r) ≡ drop 1 (side_said side r)
take_here first_side r = refl
take_here second_side r = refl

gain_else : (side : RingSide) (m : MonitorLabel) (r : Sides) → side_said (opposite side) (gains side m r) ≡ side_said (opposite side) r
gain_else first_side m r = refl
gain_else second_side m r = refl

gain_here : (side : RingSide) (m : MonitorLabel) (r : Sides) → side_said side (gains side m r) ≡ side_said side r ++ m ∷ []
gain_here first_side m r = refl
gain_here second_side m r = refl

-- ---- what lines say where only rings change

pub same_said : (lines : Lines) (rings more : List Sides) (a b : ℕ) → ((l : Link) → lines b a ≡ Some l → unread_said more l.ring ≡ unread_said rings l.ring)
    → said_on lines more a b ≡ said_on lines rings a b
same_said lines rings more a b h = ap (λ ms. ms ++ given (lines a b) [] (λ (l : Link). l.outbox)) (by (lines b a) refl)
  where
    by : (o : Option Link) → lines b a ≡ o → given o [] (λ l. unread_said more l.ring) ≡ given o [] (λ l. unread_said rings l.ring)
    by None q = refl
    by (Some l) q = h l q

-- ---- the first message on a line is taken

split_first : (ms : List MonitorLabel) (m : MonitorLabel) → slice_get ms 0 ≡ Some m → ms ≡ m ∷ drop 1 ms
split_first [] m q = absurd (cc)
split_first (x ∷ ms) m q = let e : x ≡ m = cc in ap (λ y. y ∷ ms) e

pub said_taken : (lines : Lines) (rings : List Sides) (here there : ℕ) (x : Link) (at : RingEnd) (r : Sides) (m : MonitorLabel) → Paired lines → lines here there ≡ Some x → x.ring ≡ at
    → slice_get rings at.ring ≡ Some r → slice_get (side_said at.side r) 0 ≡ Some m
    → Takes (said_on lines rings) (said_on lines (changed_at at.ring (takes_first at.side) rings)) there here m
said_taken lines rings here there x at r m paired line ring got first = record {
  head = ap (λ o. given o [] (λ (l : Link). unread_said rings l.ring) ++ outbox) line
      ∙ ap (λ (e : RingEnd). unread_said rings e ++ outbox) ring
      ∙ ap (λ ms. ms ++ outbox) (ap (λ o. given o [] (side_said at.side)) got ∙ split_first (side_said at.side r) m first)
      ∙ ap (λ ms. m ∷ (ms ++ outbox)) (sym (unread_at rings at (takes_first at.side) r got ∙ take_here at.side r))
      ∙ ap (λ (e : RingEnd). m ∷ (unread_said (changed_at at.ring (takes_first at.side) rings) e ++ outbox)) (sym ring)
      ∙ ap (λ o. m ∷ (given o [] (λ (l : Link). unread_said (changed_at at.ring (takes_first at.side) rings) l.ring) ++ outbox)) (sym line);
  rest = λ u v away. same_said lines rings (changed_at at.ring (takes_first at.side) rings) u v
      (λ l q. unread_else rings at (takes_first at.side) (take_else at.side) l.ring
      (λ e. let (i, j) = paired.one v u here there l x q line (e ∙ sym ring) in away (j, i)));
}
  where
    outbox : List MonitorLabel
    outbox = given (lines there here) [] (λ (l : Link). l.outbox)

-- ---- one line changes

pub record Alters (lines later : Lines) (a b : ℕ) (f : Link → Link) : Type 0 where
  pub here : later a b ≡ option_map f (lines a b)
  pub rest : (x y : ℕ) → ((x ≡ a) × (y ≡ b) → ⊥) → later x y ≡ lines x y
  pub ring : (x : Link) → (f x).ring ≡ x.ring

ring_part : (lines later : Lines) (rings : List Sides) (a b u v : ℕ) (f : Link → Link) → Alters lines later a b f
    → given (later v u) [] (λ l. unread_said rings l.ring) ≡ given (lines v u) [] (λ l. unread_said rings l.ring)
ring_part lines later rings a b u v f h = elim (pair_or v u a b) [
  | inr away ↦ ap (λ o. given o [] (λ (l : Link). unread_said rings l.ring)) (h.rest v u away)
  | inl (e, i) ↦ subst (λ n. given (later n u) [] (λ l. unread_said rings l.ring) ≡ given (lines n u) [] (λ l. unread_said rings l.ring)) (sym e)
      (subst (λ n. given (later a n) [] (λ l. unread_said rings l.ring) ≡ given (lines a n) [] (λ l. unread_said rings l.ring)) (sym i)
      (ap (λ o. given o [] (λ (l : Link). unread_said rings l.ring)) h.here ∙ by (lines a b)))
]
  where
    by : (o : Option Link) → given (option_map f o) [] (λ l. unread_said rings l.ring) ≡ given o [] (λ l. unread_said rings l.ring)
    by None = refl
    by (Some l) = ap (unread_said rings) (h.ring l)

pub said_put : (lines later : Lines) (rings : List Sides) (a b : ℕ) (m : MonitorLabel) (z : Link) → lines a b ≡ Some z → Alters lines later a b (says_more m)
    → Puts (said_on lines rings) (said_on later rings) a b (Some m)
said_put lines later rings a b m z at h = record {
  back = ap (λ ms. ms ++ given (later a b) [] (λ (l : Link). l.outbox)) (ring_part lines later rings a b a b (says_more m) h)
      ∙ ap (λ o. given (lines b a) [] (λ (l : Link). unread_said rings l.ring) ++ given o [] (λ (l : Link). l.outbox)) (h.here ∙ ap (option_map (says_more m)) at)
      ∙ sym (append_assoc (given (lines b a) [] (λ (l : Link). unread_said rings l.ring)) z.outbox (m ∷ []))
      ∙ ap (λ o. (given (lines b a) [] (λ (l : Link). unread_said rings l.ring) ++ given o [] (λ (l : Link). l.outbox)) ++ m ∷ []) (sym at);
  rest = λ u v away.
      ap (λ ms. ms ++ given (later u v) [] (λ (l : Link). l.outbox)) (ring_part lines later rings a b u v (says_more m) h)
      ∙ ap (λ o. given (lines v u) [] (λ (l : Link). unread_said rings l.ring) ++ given o [] (λ (l : Link). l.outbox)) (h.rest u v away);
}

-- no line changes
pub said_left : (lines later : Lines) (rings : List Sides) (a b : ℕ) → ((x y : ℕ) → later x y ≡ lines x y) → Puts (said_on lines rings) (said_on later rings) a b None
said_left lines later rings a b h = record {
  back = same a b ∙ sym (append-nil (said_on lines rings a b));
  rest = λ u v away. same u v;
}
  where
    same : (u v : ℕ) → said_on later rings u v ≡ said_on lines rings u v
    same u v =
        ap (λ o. given o [] (λ (l : Link). unread_said rings l.ring) ++ given (later u v) [] (λ (l : Link). l.outbox)) (h v u)
        ∙ ap (λ o. given (lines v u) [] (λ (l : Link). unread_said rings l.ring) ++ given o [] (λ (l : Link). l.outbox)) (h u v)

-- ---- the first message of an outbox goes onto the ring

abbrev pub drops : Link → Link
drops x = record x { outbox = drop 1 x.outbox }

pub said_moved : (lines later : Lines) (rings : List Sides) (a b : ℕ) (z : Link) (m : MonitorLabel) (r : Sides) → Paired lines → lines a b ≡ Some z → slice_get z.outbox 0 ≡ Some m
    → slice_get rings z.ring.ring ≡ Some r → Alters lines later a b drops → (u v : ℕ)
    → said_on later (changed_at z.ring.ring (gains (opposite z.ring.side) m) rings) u v ≡ said_on lines rings u v
said_moved lines later rings a b z m r paired at first got h u v =
    ap (λ ms. ms ++ given (later u v) [] (λ (l : Link). l.outbox)) (ring_part lines later more a b u v drops h)
    ∙ elim (pair_or u v a b) [
      | inr away ↦ ap (λ o. given (lines v u) [] (λ (l : Link). unread_said more l.ring) ++ given o [] (λ (l : Link). l.outbox)) (h.rest u v away)
          ∙ same_said lines rings more u v (λ l q. unread_else rings (turned z.ring) (gains (opposite z.ring.side) m) (gain_else (opposite z.ring.side) m) l.ring
          (λ e. let (y, i, j) = paired.pair a b z at in let (k, w) = paired.one v u b a l y q i (e ∙ sym j) in away (w, k)))
      | inl (e, i) ↦ subst (λ n. given (lines v n) [] (λ l. unread_said more l.ring) ++ given (later n v) [] (λ l. l.outbox) ≡ said_on lines rings n v) (sym e)
          (subst (λ n. given (lines n a) [] (λ l. unread_said more l.ring) ++ given (later a n) [] (λ l. l.outbox) ≡ said_on lines rings a n) (sym i) there)
    ]
  where
    more : List Sides
    more = changed_at z.ring.ring (gains (opposite z.ring.side) m) rings

    there : given (lines b a) [] (λ l. unread_said more l.ring) ++ given (later a b) [] (λ l. l.outbox) ≡ said_on lines rings a b
    there =
        let (y, k, w) = paired.pair a b z at in
        let old : List MonitorLabel = side_said (opposite z.ring.side) r in
        ap (λ o. given o [] (λ (l : Link). unread_said more l.ring) ++ given (later a b) [] (λ (l : Link). l.outbox)) k
        ∙ ap (λ (x : RingEnd). unread_said more x ++ given (later a b) [] (λ (l : Link). l.outbox)) w
        ∙ ap (λ ms. ms ++ given (later a b) [] (λ (l : Link). l.outbox)) (unread_at rings (turned z.ring) (gains (opposite z.ring.side) m) r got ∙ gain_here (opposite z.ring.side) m r)
        ∙ ap (λ o. (old ++ m ∷ []) ++ given o [] (λ (l : Link). l.outbox)) (h.here ∙ ap (option_map drops) at)
        ∙ append_assoc old (m ∷ []) (drop 1 z.outbox)
        ∙ ap (λ ms. old ++ ms) (sym (split_first z.outbox m first))
        ∙ ap (λ ms. ms ++ z.outbox) (sym (ap (λ o. given o [] (side_said (opposite z.ring.side))) got))
        ∙ ap (λ (x : RingEnd). unread_said rings x ++ z.outbox) (sym w)
        ∙ ap (λ o. given o [] (λ (l : Link). unread_said rings l.ring) ++ z.outbox) (sym k)
        ∙ ap (λ o. given (lines b a) [] (λ (l : Link). unread_said rings l.ring) ++ given o [] (λ (l : Link). l.outbox)) (sym at)
