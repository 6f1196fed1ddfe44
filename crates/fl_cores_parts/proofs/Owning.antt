-- Whose each side of a ring and each queue is, by what cores name.
use borrow.Author.Count.{below_more}
use Rattle.std.proofs.Common.{◌≡◌, ◌⊎◌, inl, inr, ⊎_elim, refl, sym, ap, ◌∙◌, subst, arith, ℕ, zero, suc, ◌+◌, ◌<◌, ◌≤◌, List, [], ◌∷◌, ◌++◌, length, slice_get, slice_set, get_or, Option, Some, None}
use Rattle.std.proofs.lemmas.Option.{slice_get_within, slice_get-get_or}
use Rattle.fl_base.specs.declared.identity.EndId.{EndId}
use Rattle.fl_base.specs.Given.{given}
use Rattle.fl_core.specs.declared.wiring.LinkSide.{LinkSide}
use Rattle.fl_core.specs.declared.wiring.WiredEnd.{WiredEnd}
use Rattle.fl_core.specs.declared.wiring.EndWiring.{EndWiring}
use Rattle.fl_core.specs.declared.wiring.EndWiring.TheVariants.{Queues, Ring, Circuit}
use Rattle.fl_core.specs.declared.wiring.Inlet.TheVariants as inlet
use Rattle.fl_core.specs.declared.wiring.Outlet.TheVariants as outlet
use Rattle.fl_core.specs.View.{TheCore, place_of, side_of_link, inlet_by, inlet_of, outlet_by, outlet_of}
use Rattle.fl_core.specs.Sound.{IsCore}
use Rattle.fl_core.proofs.HasWiredEnd.{placed_below}
use Rattle.fl_world_refines.specs.ShowsState.{wiring_of, NamesQueue, NamesSide}
use Rattle.fl_cores_parts.specs.Dealing.{IsLinkSide, TakesSide, UsesQueue, Below, Owns, AreOf, HaveOwners}

-- ---- a list with one element changed

set_length : (xs : List ℕ) (n k : ℕ) → length (slice_set xs n k) ≡ length xs
set_length [] n k = refl
set_length (x ∷ xs) zero k = refl
set_length (x ∷ xs) (suc n) k = ap suc (set_length xs n k)

set_here : (xs : List ℕ) (n k : ℕ) → n < length xs → slice_get (slice_set xs n k) n ≡ Some k
set_here [] n k below = absurd (omega (arith, below))
set_here (x ∷ xs) zero k below = refl
set_here (x ∷ xs) (suc n) k below = set_here xs n k (omega (arith, below))

set_else : (xs : List ℕ) (n k t : ℕ) → (slice_get (slice_set xs n k) t ≡ slice_get xs t) ⊎ (t ≡ n)
set_else [] n k t = inl refl
set_else (x ∷ xs) zero k zero = inr refl
set_else (x ∷ xs) zero k (suc t) = inl refl
set_else (x ∷ xs) (suc n) k zero = inl refl
set_else (x ∷ xs) (suc n) k (suc t) = ⊎_elim (λ h. inl h) (λ h. inr (ap suc h)) (set_else xs n k t)

-- ---- what is named, at one place after another

-- nothing is
pub owns_none : (Named : ℕ → Type 0) (k : ℕ) (o : List ℕ) → ((t : ℕ) → Named t → ⊥) → Owns Named k o o
owns_none Named k o none = record {
  count = refl;
  own = λ t named below. absurd (none t named);
  others = λ t. inl refl;
}

pub owns_both : (P Q R : ℕ → Type 0) (k : ℕ) (o m o2 : List ℕ) → Owns P k o m → Owns Q k m o2 → ((t : ℕ) → P t → R t) → ((t : ℕ) → Q t → R t)
    → ((t : ℕ) → R t → P t ⊎ Q t) → Owns R k o o2
owns_both P Q R k o m o2 a b first second split = record {
  count = b.count ∙ a.count;
  own = λ t named below.
      let same = a.count in
      ⊎_elim
      (λ (p : P t). ⊎_elim (λ (stays : slice_get o2 t ≡ slice_get m t). stays ∙ a.own t p below) (λ (q : Q t). b.own t q (omega (arith, below, same))) (b.others t))
      (λ (q : Q t). b.own t q (omega (arith, below, same)))
      (split t named);
  others = λ t.
      ⊎_elim
      (λ (stays : slice_get o2 t ≡ slice_get m t). ⊎_elim (λ (stood : slice_get m t ≡ slice_get o t). inl (stays ∙ stood)) (λ (p : P t). inr (first t p)) (a.others t))
      (λ (q : Q t). inr (second t q))
      (b.others t);
}

pub none_below : (P : ℕ → ℕ → Type 0) (k : ℕ) (o : List ℕ) → Owns (Below P 0) k o o
none_below P k o = owns_none (Below P 0) k o (λ t h. let below = h.1 in omega (arith, below))

pub one_more : (P : ℕ → ℕ → Type 0) (n k : ℕ) (o m o2 : List ℕ) → Owns (Below P n) k o m → Owns (P n) k m o2 → Owns (Below P (n + 1)) k o o2
one_more P n k o m o2 a b = owns_both (Below P n) (P n) (Below P (n + 1)) k o m o2 a b
    (λ t h. let below = h.1 in (h.0, omega (arith, below), h.2))
    (λ t h. (n, omega arith, h))
    (λ t h. below_more (λ (i : ℕ). P i t → Below P n t ⊎ P n t) n (λ i below p. inl (i, below, p)) (λ p. inr p) h.0 h.1 h.2)

pub both_more : (P Q : ℕ → ℕ → Type 0) (n k : ℕ) (o m1 m2 o2 : List ℕ) → Owns (Below (λ i t. P i t ⊎ Q i t) n) k o m1 → Owns (P n) k m1 m2 → Owns (Q n) k m2 o2
    → Owns (Below (λ i t. P i t ⊎ Q i t) (n + 1)) k o o2
both_more P Q n k o m1 m2 o2 a p q = one_more (λ i t. P i t ⊎ Q i t) n k o m1 o2 a
    (owns_both (P n) (Q n) (λ t. P n t ⊎ Q n t) k m1 m2 o2 p q (λ t h. inl h) (λ t h. inr h) (λ t h. h))

-- ---- what a core names

wire_is : (c : TheCore) (e : EndId) (place : ℕ) (p : WiredEnd) → place_of c e ≡ Some place → slice_get c.wired_ends place ≡ Some p → wiring_of c e ≡ Some p.wiring
wire_is c e place p at is =
    ap (λ (o : Option ℕ). given o None λ n. given (slice_get c.wired_ends n) None λ (q : WiredEnd). Some q.wiring) at
    ∙ ap (λ (o : Option WiredEnd). given o None λ (q : WiredEnd). Some q.wiring) is

-- an end on a wire: its name, its place and its wired end
record OnWiring (c : TheCore) (name : EndId) (x : EndWiring) : Type 0 where
  pub place : ℕ
  pub place_is : place_of c name ≡ Some place
  pub wired_end : WiredEnd
  pub wired_end_is : slice_get c.wired_ends place ≡ Some wired_end
  pub wire_is : wired_end.wiring ≡ x

on_wire : (c : TheCore) (name : EndId) (x : EndWiring) → wiring_of c name ≡ Some x → OnWiring c name x
on_wire c name x h = by_place (place_of c name) refl h
  where
    by_wired_end : (place : ℕ) → place_of c name ≡ Some place → (o : Option WiredEnd) → slice_get c.wired_ends place ≡ o → given o None (λ (q : WiredEnd). Some q.wiring) ≡ Some x
        → OnWiring c name x
    by_wired_end place at None is h = absurd (cc)
    by_wired_end place at (Some p) is h = record { place = place; place_is = at; wired_end = p; wired_end_is = is; wire_is = (let e : Some p.wiring ≡ Some x = h in cc) }

    by_place : (o : Option ℕ) → place_of c name ≡ o → given o None (λ n. given (slice_get c.wired_ends n) None λ (q : WiredEnd). Some q.wiring) ≡ Some x → OnWiring c name x
    by_place None at h = absurd (cc)
    by_place (Some place) at h = by_wired_end place at (slice_get c.wired_ends place) refl h

-- what a wired end's wire gives, where something is found at its place
by_wired_end : {A : Type 0} (c : TheCore) (e : ℕ) (f : WiredEnd → Option A) (a : A) → given (slice_get c.wired_ends e) None f ≡ Some a
    → (p : WiredEnd) × (slice_get c.wired_ends e ≡ Some p) × (f p ≡ Some a)
by_wired_end {A} c e f a h = by (slice_get c.wired_ends e) refl h
  where
    by : (o : Option WiredEnd) → slice_get c.wired_ends e ≡ o → given o None f ≡ Some a → (p : WiredEnd) × (slice_get c.wired_ends e ≡ Some p) × (f p ≡ Some a)
    by None is h = absurd (cc)
    by (Some p) is h = (p, is, h)

ring_in : (x : EndWiring) (side : ℕ) → inlet_by x ≡ inlet.Side side → x ≡ Ring side
ring_in (Queues out from) side h = absurd (cc)
ring_in (Ring s) side h = cc
ring_in (Circuit l a) side h = absurd (cc)

queue_in : (x : EndWiring) (queue : ℕ) → inlet_by x ≡ inlet.Queue queue → (out : ℕ) × (x ≡ Queues out queue)
queue_in (Queues out from) queue h = (out, cc)
queue_in (Ring s) queue h = absurd (cc)
queue_in (Circuit l a) queue h = absurd (cc)

not_side : (o : Option ℕ) (queue : ℕ) → given o None (λ (side : ℕ). Some (outlet.Side side)) ≡ Some (outlet.Queue queue) → ⊥
not_side None queue h = cc
not_side (Some side) queue h = cc

queue_out : (link_sides : List LinkSide) (x : EndWiring) (queue : ℕ) → outlet_by link_sides x ≡ Some (outlet.Queue queue) → (from : ℕ) × (x ≡ Queues queue from)
queue_out link_sides (Queues out from) queue h = (from, cc)
queue_out link_sides (Ring s) queue h = absurd (cc)
queue_out link_sides (Circuit l a) queue h = absurd (not_side (side_of_link link_sides l.0) queue h)

inlet_at : (c : TheCore) (e : ℕ) (p : WiredEnd) → slice_get c.wired_ends e ≡ Some p → inlet_of c e ≡ Some (inlet_by p.wiring)
inlet_at c e p is = ap (λ (o : Option WiredEnd). given o None λ (q : WiredEnd). Some (inlet_by q.wiring)) is

outlet_at : (c : TheCore) (e : ℕ) (p : WiredEnd) → slice_get c.wired_ends e ≡ Some p → outlet_of c e ≡ outlet_by c.link_sides p.wiring
outlet_at c e p is = ap (λ (o : Option WiredEnd). given o None λ (q : WiredEnd). outlet_by c.link_sides q.wiring) is

link_below : (link_sides : List LinkSide) (l side : ℕ) → side_of_link link_sides l ≡ Some side → l < length link_sides
link_below link_sides l side h = by (slice_get link_sides l) refl h
  where
    by : (o : Option LinkSide) → slice_get link_sides l ≡ o → given o None (λ (link_side : LinkSide). Some link_side.side) ≡ Some side → l < length link_sides
    by None is h = absurd (cc)
    by (Some link_side) is h = slice_get_within link_sides l link_side is

-- sides: of links, and of ends
module _ (c : TheCore) (sound : IsCore c) where
  named_by_end : (e side : ℕ) → TakesSide c e side → NamesSide c side
  named_by_end e side h =
      let (p, is, wired) = by_wired_end c e (λ (q : WiredEnd). Some (inlet_by q.wiring)) (inlet.Side side) h in
      let same : inlet_by p.wiring ≡ inlet.Side side = cc in
      inr (p.name, wire_is c p.name e p (sound.named e p is) is ∙ ap Some (ring_in p.wiring side same))

  side_split : (n : ℕ) → length c.link_sides ≤ n → (side : ℕ) → NamesSide c side → Below (IsLinkSide c.link_sides) n side ⊎ Below (TakesSide c) (length c.board.seats) side
  side_split n few side (inl h) = inl (h.0, (let below = link_below c.link_sides h.0 side h.1 in omega (arith, below, few)), h.1)
  side_split n few side (inr h) =
      let w = on_wire c h.0 (Ring side) h.1 in
      inr (w.place, placed_below c h.0 w.place sound w.place_is, inlet_at c w.place w.wired_end w.wired_end_is ∙ ap (λ (x : EndWiring). Some (inlet_by x)) w.wire_is)

  pub owns_sides : (n k : ℕ) (o m o2 : List ℕ) → length c.link_sides ≤ n → Owns (Below (IsLinkSide c.link_sides) n) k o m
      → Owns (Below (TakesSide c) (length c.board.seats)) k m o2 → Owns (NamesSide c) k o o2
  owns_sides n k o m o2 few links ends = owns_both (Below (IsLinkSide c.link_sides) n) (Below (TakesSide c) (length c.board.seats)) (NamesSide c) k o m o2 links ends
      (λ side h. inl (h.0, h.2)) (λ side h. named_by_end h.0 side h.2) (side_split n few)

  -- queues
  named_by_use : (e queue : ℕ) → UsesQueue c e queue → NamesQueue c queue
  named_by_use e queue (inl h) =
      let (p, is, wired) = by_wired_end c e (λ (q : WiredEnd). Some (inlet_by q.wiring)) (inlet.Queue queue) h in
      let same : inlet_by p.wiring ≡ inlet.Queue queue = cc in
      let x = queue_in p.wiring queue same in
      inr (p.name, x.0, wire_is c p.name e p (sound.named e p is) is ∙ ap Some x.1)
  named_by_use e queue (inr h) =
      let (p, is, wired) = by_wired_end c e (λ (q : WiredEnd). outlet_by c.link_sides q.wiring) (outlet.Queue queue) h in
      let x = queue_out c.link_sides p.wiring queue wired in
      inl (p.name, x.0, wire_is c p.name e p (sound.named e p is) is ∙ ap Some x.1)

  used : (queue : ℕ) → NamesQueue c queue → Below (UsesQueue c) (length c.board.seats) queue
  used queue (inl h) =
      let w = on_wire c h.0 (Queues queue h.1) h.2 in
      (w.place, placed_below c h.0 w.place sound w.place_is, inr (outlet_at c w.place w.wired_end w.wired_end_is ∙ ap (outlet_by c.link_sides) w.wire_is))
  used queue (inr h) =
      let w = on_wire c h.0 (Queues h.1 queue) h.2 in
      (w.place, placed_below c h.0 w.place sound w.place_is, inl (inlet_at c w.place w.wired_end w.wired_end_is ∙ ap (λ (x : EndWiring). Some (inlet_by x)) w.wire_is))

  pub owns_queues : (k : ℕ) (o o2 : List ℕ) → Owns (Below (UsesQueue c) (length c.board.seats)) k o o2 → Owns (NamesQueue c) k o o2
  owns_queues k o o2 owns = record {
    count = owns.count;
    own = λ queue named below. owns.own queue (used queue named) below;
    others = λ queue. ⊎_elim (λ same. inl same) (λ (h : Below (UsesQueue c) (length c.board.seats) queue). inr (named_by_use h.0 queue h.2)) (owns.others queue);
  }

-- ---- what all cores name

-- the owners of so many things, by what the first n of these cores name
pub record SoFar (cores : List TheCore) (Names : TheCore → ℕ → Type 0) (count n : ℕ) (owners : List ℕ) : Type 0 where
  pub count_is : length owners ≡ count
  pub of : AreOf (length cores) owners
  pub each : (m thing : ℕ) (c : TheCore) → m < n → slice_get cores m ≡ Some c → Names c thing → thing < count
      → ((k : ℕ) (d : TheCore) → slice_get cores k ≡ Some d → Names d thing → k ≡ m) → slice_get owners thing ≡ Some m

-- of large records cc does not end, of any type it does
same_some : {X : Type 0} (x y : X) → Some x ≡ Some y → x ≡ y
same_some x y e = cc

pub one_core_more : (cores : List TheCore) (Names : TheCore → ℕ → Type 0) (count n : ℕ) (c : TheCore) (o o2 : List ℕ) → slice_get cores n ≡ Some c
    → SoFar cores Names count n o → Owns (Names c) n o o2 → SoFar cores Names count (n + 1) o2
one_core_more cores Names count n c o o2 core_is so owns = record {
  count_is = owns.count ∙ so.count_is;
  of = λ thing owner at.
      ⊎_elim
      (λ (stays : slice_get o2 thing ≡ slice_get o thing). so.of thing owner (sym stays ∙ at))
      (λ (named : Names c thing).
      let long = owns.count in
      let below = slice_get_within o2 thing owner at in
      let here : Some n ≡ Some owner = sym (owns.own thing named (omega (arith, long, below))) ∙ at in
      let same : n ≡ owner = cc in
      subst (λ (x : ℕ). x < length cores) same (slice_get_within cores n c core_is))
      (owns.others thing);
  each = λ m thing d below at names within only.
      below_more (λ (i : ℕ). (x : TheCore) → slice_get cores i ≡ Some x → Names x thing
      → ((k : ℕ) (y : TheCore) → slice_get cores k ≡ Some y → Names y thing → k ≡ i) → slice_get o2 thing ≡ Some i)
      n
      (λ i before x there named alone.
      ⊎_elim
      (λ (stays : slice_get o2 thing ≡ slice_get o thing). stays ∙ so.each i thing x before there named within alone)
      (λ (too : Names c thing). absurd (let same = alone n c core_is too in omega (arith, same, before)))
      (owns.others thing))
      (λ x there named alone.
      let twice : Some c ≡ Some x = sym core_is ∙ there in
      let same : c ≡ x = same_some c x twice in
      let long = so.count_is in
      owns.own thing (subst (λ (y : TheCore). Names y thing) (sym same) named) (omega (arith, within, long)))
      m below d at names only;
}

-- the core that was looked up
pub core_at : (cores : List TheCore) (n : ℕ) (c : TheCore) → n < length cores → c ≡ get_or cores n c → slice_get cores n ≡ Some c
core_at cores n c below is = slice_get-get_or cores n c below ∙ ap Some (sym is)

pub all_cores : (cores : List TheCore) (Names : TheCore → ℕ → Type 0) (count n : ℕ) (owners : List ℕ) → n ≡ length cores → SoFar cores Names count n owners
    → HaveOwners cores Names count owners
all_cores cores Names count n owners all so = record {
  named = record {
    count = so.count_is;
    each = λ m thing c at names within only.
        let below = slice_get_within cores m c at in
        so.each m thing c (omega (arith, below, all)) at names within only;
  };
  of = so.of;
}

-- ---- all are the first core's

pub none_of : (k : ℕ) → AreOf k []
none_of k thing owner at = absurd (let no : None ≡ Some owner = at in cc)
