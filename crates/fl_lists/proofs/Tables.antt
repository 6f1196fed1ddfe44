-- A whole table after a node is taken out or put in, and what the three lists are then.
use Rattle.std.proofs.Common.{◌≡◌, ◌≢◌, ℕ, ◌+◌, ◌-◌, ◌<◌, ◌≤◌, ◌==◌, true, false, if◌then◌else◌, inl, inr, List, [], ◌∷◌, ◌++◌, length, sym, ◌∙◌, ap, subst, refl, arith, Option, Some, None, drop, slice_get, IsSome, is_some, set, replicate, length-append}
use Rattle.std.proofs.lemmas.Bool.{false≢true, eqb-true, eqb-false, eq-eqb, ne_eqb, cases_eq, cases_lt, cases_Bool, or_cases, or_parts, or_from, or_left, or_right, cond-true, cond-false}
use Rattle.std.proofs.lemmas.List.{get_or-set_same, get_or-set_other, get_or-replicate, get_or_past, length-set, length-replicate}
use Rattle.fl_lists.specs.declared.place.Place.{Place}
use Rattle.fl_lists.specs.declared.place.Place.TheVariants.{Idle, Polled, Pending}
use Rattle.fl_lists.specs.declared.node.Node.{Node}
use Rattle.fl_lists.specs.ThreeLists.{ThreeLists, list_at, is_in, without, place_of, unlinked, pushed, moved, popped, empty, NoRepeat, IsApart}
use Rattle.fl_lists.specs.Table.{free_node, node_at, next_at, prev_at, place_at, AllFree, Joined, TakenOut, PutBefore, ChangesFew, head_of, index_of, indexes, numbers, Chain, Ring, list_from, lists_of, IsTable}
use Rattle.fl_lists.proofs.Members.{first_is_in, without_first, without_later, without_none}
use Rattle.fl_lists.proofs.Numbers.{head_before, is_in-indexes, without-indexes, indexes_push, NoRepeat_of, number_back, numbers-indexes}
use Rattle.fl_lists.proofs.Rings.{same_or_not, placed_below, list_is, prev_placed, next_placed, last_placed, in_list, ring_without, ring_push, ring_besides_out, ring_besides_in}

-- two values with the same lists are the same
pub same_lists : (v w : ThreeLists) → v.size ≡ w.size → ((p : Place) → list_at v p ≡ list_at w p) → v ≡ w
same_lists v w size lists =
    let make : ℕ → List ℕ → List ℕ → List ℕ → ThreeLists =
    λ n a b c. record { size = n; idle = a; polled = b; pending = c } in
    ap (λ (n : ℕ). make n v.idle v.polled v.pending) size ∙ ap (λ (a : List ℕ). make w.size a v.polled v.pending) (lists Idle)
    ∙ ap (λ (b : List ℕ). make w.size w.idle b v.pending) (lists Polled) ∙ ap (make w.size w.idle w.polled) (lists Pending)

pub same_node : (m n : Node) → m.prev ≡ n.prev → m.next ≡ n.next → m.place ≡ n.place → m ≡ n
same_node m n prev next place =
    let make : ℕ → ℕ → Option Place → Node = λ a b p. record { prev = a; next = b; place = p } in
    ap (λ (a : ℕ). make a m.next m.place) prev ∙ ap (λ (b : ℕ). make n.prev b m.place) next ∙ ap (make n.prev n.next) place

list_there : (nodes : List Node) (p : Place) → list_at (lists_of nodes) p ≡ list_from nodes p
list_there nodes Idle = refl
list_there nodes Polled = refl
list_there nodes Pending = refl

pub pushed_size : (w : ThreeLists) (c : ℕ) (p : Place) → (pushed w c p).size ≡ w.size
pushed_size w c Idle = refl
pushed_size w c Polled = refl
pushed_size w c Pending = refl

pub pushed_this : (w : ThreeLists) (c : ℕ) (p : Place) → list_at (pushed w c p) p ≡ list_at w p ++ c ∷ []
pushed_this w c Idle = refl
pushed_this w c Polled = refl
pushed_this w c Pending = refl

pub pushed_other : (w : ThreeLists) (c : ℕ) (p q : Place) → q ≢ p → list_at (pushed w c p) q ≡ list_at w q
pushed_other w c Idle Idle ne = absurd (ne refl)
pushed_other w c Idle Polled ne = refl
pushed_other w c Idle Pending ne = refl
pushed_other w c Polled Idle ne = refl
pushed_other w c Polled Polled ne = absurd (ne refl)
pushed_other w c Polled Pending ne = refl
pushed_other w c Pending Idle ne = refl
pushed_other w c Pending Polled ne = refl
pushed_other w c Pending Pending ne = absurd (ne refl)

pub unlinked_list : (w : ThreeLists) (c : ℕ) (p : Place) → list_at (unlinked w c) p ≡ without c (list_at w p)
unlinked_list w c Idle = refl
unlinked_list w c Polled = refl
unlinked_list w c Pending = refl

-- a table with these rings has these lists
pub rings_give : (nodes : List Node) (w : ThreeLists) → 3 ≤ length nodes → length nodes ≤ 65536 → length nodes - 3 ≡ w.size
    → ((p : Place) → Ring nodes (head_of p) p (indexes (list_at w p))) → IsTable nodes × (lists_of nodes ≡ w)
rings_give nodes w heads short size rings =
    let same : (p : Place) → list_from nodes p ≡ list_at w p =
    λ p. ap (λ (ks : List ℕ). numbers ks) (list_is nodes (head_of p) p (indexes (list_at w p)) (rings p))
    ∙ numbers-indexes (list_at w p) in (
      record {
        heads = heads;
        short = short;
        ring = λ p. subst (λ (ys : List ℕ). Ring nodes (head_of p) p (indexes ys)) (sym (same p)) (rings p);
      },
      same_lists (lists_of nodes) w size (λ p. list_there nodes p ∙ same p),
    )

module _ (nodes : List Node) (table : IsTable nodes) where
  pub ring_at : (p : Place) → Ring nodes (head_of p) p (indexes (list_at (lists_of nodes) p))
  ring_at p =
      subst (λ (ys : List ℕ). Ring nodes (head_of p) p (indexes ys)) (sym (list_there nodes p)) (table.ring p)

  head_placed : (p : Place) → place_at nodes (head_of p) ≡ Some p
  head_placed p = (ring_at p).placed _ (first_is_in (head_of p) (indexes (list_at (lists_of nodes) p)))

  listed_at : (c : ℕ) (p : Place) → place_at nodes (index_of c) ≡ Some p → is_in c (list_at (lists_of nodes) p) ≡ true
  listed_at c p h =
      sym (is_in-indexes c (list_at (lists_of nodes) p)) ∙ in_list nodes _ p _ (ring_at p) (index_of c) h (head_before c p)

  placed_at : (c : ℕ) (p : Place) → is_in c (list_at (lists_of nodes) p) ≡ true → place_at nodes (index_of c) ≡ Some p
  placed_at c p i =
      (ring_at p).placed (index_of c) (or_right _ _ (is_in-indexes c (list_at (lists_of nodes) p) ∙ i))

  -- a node in a list stands behind the heads
  node_below : (c : ℕ) (p : Place) → is_in c (list_at (lists_of nodes) p) ≡ true → c < length nodes - 3
  node_below c p i =
      let within : index_of c < length nodes = placed_below nodes (index_of c) p (placed_at c p i) in
      omega arith

  pub apart_lists : IsApart (lists_of nodes)
  apart_lists = record {
    once = λ p. NoRepeat_of (list_at (lists_of nodes) p) (ring_at p).once.1;
    one_list = λ p q c i j. let here = placed_at c p i in let there = placed_at c q j in cc (here, there);
    below = λ p c i. node_below c p i;
  }

  missing_at : (c : ℕ) (p : Place) → place_at nodes (index_of c) ≡ None → is_in c (list_at (lists_of nodes) p) ≡ false
  missing_at c p free = elim (cases_Bool (is_in c (list_at (lists_of nodes) p))) [
    | inl i ↦ let here = placed_at c p i in absurd (cc (free, here))
    | inr missed ↦ missed
  ]

  -- the place that a node tells is the list that it is in
  pub place_is : (c : ℕ) → place_of (lists_of nodes) c ≡ place_at nodes (index_of c)
  place_is c = go (place_at nodes (index_of c)) refl where
    w : ThreeLists
    w = lists_of nodes

    other : (p q : Place) → place_at nodes (index_of c) ≡ Some p → p ≢ q → is_in c (list_at w q) ≡ false
    other p q h ne = elim (cases_Bool (is_in c (list_at w q))) [
      | inl i ↦ let there = placed_at c q i in absurd (ne (cc (h, there)))
      | inr missed ↦ missed
    ]

    go : (o : Option Place) → place_at nodes (index_of c) ≡ o → place_of w c ≡ o
    go None h =
        cond-false _ _ _ (missing_at c Idle h) ∙ cond-false _ _ _ (missing_at c Polled h)
        ∙ cond-false _ _ _ (missing_at c Pending h)
    go (Some Idle) h = cond-true _ _ _ (listed_at c Idle h)
    go (Some Polled) h =
        cond-false _ _ _ (other Polled Idle h (λ e. cc)) ∙ cond-true _ _ _ (listed_at c Polled h)
    go (Some Pending) h =
        cond-false _ _ _ (other Pending Idle h (λ e. cc)) ∙ cond-false _ _ _ (other Pending Polled h (λ e. cc))
        ∙ cond-true _ _ _ (listed_at c Pending h)

  -- where c is in a list, its neighbours and itself are of one place
  pub neighbours : (c : ℕ) (p : Place) → place_at nodes (index_of c) ≡ Some p
      → (place_at nodes (prev_at nodes (index_of c)) ≡ Some p) × (place_at nodes (next_at nodes (index_of c)) ≡ Some p)
  neighbours c p h =
      let i = is_in-indexes c (list_at (lists_of nodes) p) ∙ listed_at c p h in
      (prev_placed nodes _ p _ (ring_at p) (index_of c) i, next_placed nodes _ p _ (ring_at p) (index_of c) i)

  pub last_below : (p : Place) → prev_at nodes (head_of p) < length nodes
  last_below p = placed_below nodes _ p (last_placed nodes _ p _ (ring_at p))

  pub table_out : (new : List Node) (c : ℕ) (p : Place) → TakenOut nodes new (index_of c) → place_at nodes (index_of c) ≡ Some p
      → IsTable new × (lists_of new ≡ unlinked (lists_of nodes) c)
  table_out new c p t h =
      let w = lists_of nodes in
      let near = neighbours c p h in
      let at_indexes : (q : Place) → Ring new (head_of q) q (without (index_of c) (indexes (list_at (lists_of nodes) q))) =
      λ q. elim (same_or_not q p) [
        | inl e ↦
            ring_without nodes _ q _ (ring_at q) new (index_of c) t
            (is_in-indexes c (list_at (lists_of nodes) q) ∙ listed_at c q (h ∙ ap (λ (z : Place). Some z) (sym e)))
        | inr ne ↦ ring_besides_out nodes _ q _ (ring_at q) new (index_of c) p t ne h near.0 near.1
      ] in
      let size = t.size in
      let heads = table.heads in
      let short = table.short in
      rings_give new (unlinked (lists_of nodes) c) (omega arith) (omega arith) (ap (λ (n : ℕ). n - 3) size) (λ q.
      subst (λ (ys : List ℕ). Ring new (head_of q) q (indexes ys)) (sym (unlinked_list (lists_of nodes) c q))
      (subst (λ (ks : List ℕ). Ring new (head_of q) q ks) (without-indexes c (list_at (lists_of nodes) q)) (at_indexes q)))

  pub table_in : (new : List Node) (c : ℕ) (p : Place) → PutBefore nodes new (index_of c) (head_of p) p
      → place_at nodes (index_of c) ≡ None → IsTable new × (lists_of new ≡ pushed (lists_of nodes) c p)
  table_in new c p t free =
      let at_last = last_placed nodes _ p _ (ring_at p) in
      let new_rings : (q : Place) → Ring new (head_of q) q (indexes (list_at (pushed (lists_of nodes) c p) q)) =
      λ q. elim (same_or_not p q) [
        | inl e ↦
            subst (λ (z : Place). Ring new (head_of z) z (indexes (list_at (pushed (lists_of nodes) c p) z))) e
            (subst (λ (ys : List ℕ). Ring new (head_of p) p (indexes ys)) (sym (pushed_this (lists_of nodes) c p))
            (subst (λ (ks : List ℕ). Ring new (head_of p) p ks) (indexes_push (list_at (lists_of nodes) p) c)
            (ring_push nodes _ p _ (ring_at p) new (index_of c) t free)))
        | inr ne ↦
            subst (λ (ys : List ℕ). Ring new (head_of q) q (indexes ys))
            (sym (pushed_other (lists_of nodes) c p q (λ s. ne (sym s))))
            (ring_besides_in nodes _ q _ (ring_at q) new (index_of c) _ p t (λ s. ne (sym s)) free (head_placed p) at_last)
      ] in
      let size = t.size in
      let heads = table.heads in
      let short = table.short in
      rings_give new (pushed (lists_of nodes) c p) (omega arith) (omega arith)
      (ap (λ (n : ℕ). n - 3) size ∙ sym (pushed_size (lists_of nodes) c p)) new_rings

  -- what comes after a head is the node of the first of its list
  pub front_is : (p : Place)
      → (if next_at nodes (head_of p) == head_of p then None else Some (next_at nodes (head_of p) - 3)) ≡ slice_get (list_at (lists_of nodes) p) 0
  front_is p = go (head_of p) (list_at (lists_of nodes) p) (ring_at p).chain (ring_at p).once where
    go : (h : ℕ) (xs : List ℕ) → Chain (next_at nodes) (prev_at nodes) h (indexes xs) h → NoRepeat (h ∷ indexes xs)
        → (if next_at nodes h == h then None else Some (next_at nodes h - 3)) ≡ slice_get xs 0
    go h [] chain once = cond-true _ _ _ (eq-eqb _ _ chain.0)
    go h (x ∷ xs) chain once =
        cond-false _ _ _ (ne_eqb _ _ (λ s. eqb-false (index_of x) h (or_parts _ _ once.0).0 (sym chain.0 ∙ s)))
        ∙ ap (λ (z : ℕ). Some (z - 3)) chain.0 ∙ ap (λ (z : ℕ). Some z) (number_back x)

  -- what comes after a head, if it isn't the head, is the node of a number
  pub next_is : (p : Place) → next_at nodes (head_of p) ≢ head_of p
      → (c : ℕ) × (next_at nodes (head_of p) ≡ index_of c) × (is_in c (list_at (lists_of nodes) p) ≡ true)
  next_is p other = go (list_at (lists_of nodes) p) (ring_at p).chain where
    go : (xs : List ℕ) → Chain (next_at nodes) (prev_at nodes) (head_of p) (indexes xs) (head_of p)
        → (c : ℕ) × (next_at nodes (head_of p) ≡ index_of c) × (is_in c xs ≡ true)
    go [] chain = absurd (other chain.0)
    go (x ∷ xs) chain = (x, chain.0, first_is_in x xs)

-- at most two nodes beside c have other links
pub few_out : (old new : List Node) (c : ℕ) → TakenOut old new c → ChangesFew 2 c old new
few_out old new c t = record {
  changed = prev_at old c ∷ (next_at old c ∷ []);
  few = omega arith;
  others = λ k ne missing.
      let parts = or_parts (prev_at old c == k) _ missing in
      let at_prev : k ≢ prev_at old c = λ e. eqb-false _ _ parts.0 (sym e) in
      let at_next : k ≢ next_at old c = λ e. eqb-false _ _ (or_parts _ _ parts.1).0 (sym e) in
      same_node _ _ (t.prevs k ne ∙ cond-false _ _ _ (ne_eqb _ _ at_next)) (t.nexts k ne ∙ cond-false _ _ _ (ne_eqb _ _ at_prev))
      (t.places k ∙ cond-false _ _ _ (ne_eqb _ _ ne));
}

pub few_in : (old new : List Node) (c head : ℕ) (p : Place) → PutBefore old new c head p → ChangesFew 2 c old new
few_in old new c head p t = record {
  changed = prev_at old head ∷ (head ∷ []);
  few = omega arith;
  others = λ k ne missing.
      let parts = or_parts (prev_at old head == k) _ missing in
      let at_last : k ≢ prev_at old head = λ e. eqb-false _ _ parts.0 (sym e) in
      let at_head : k ≢ head = λ e. eqb-false _ _ (or_parts _ _ parts.1).0 (sym e) in
      same_node _ _ (t.prevs k ∙ cond-false _ _ _ (ne_eqb _ _ at_head) ∙ cond-false _ _ _ (ne_eqb _ _ ne))
      (t.nexts k ∙ cond-false _ _ _ (ne_eqb _ _ ne) ∙ cond-false _ _ _ (ne_eqb _ _ at_last))
      (t.places k ∙ cond-false _ _ _ (ne_eqb _ _ ne));
}

missing_in_both : (k : ℕ) (xs ys : List ℕ) → is_in k (xs ++ ys) ≡ false → (is_in k xs ≡ false) × (is_in k ys ≡ false)
missing_in_both k [] ys h = (refl, h)
missing_in_both k (x ∷ xs) ys h =
    let parts = or_parts (x == k) (is_in k (xs ++ ys)) h in
    let rest = missing_in_both k xs ys parts.1 in
    (or_from _ _ parts.0 rest.0, rest.1)

pub few_both : (m n c : ℕ) (old between new : List Node) → ChangesFew m c old between → ChangesFew n c between new → ChangesFew (m + n) c old new
few_both m n c old between new f g = record {
  changed = f.changed ++ g.changed;
  few = let a = f.few in let b = g.few in omega (arith, length-append f.changed g.changed);
  others = λ k ne missing.
      let parts = missing_in_both k f.changed g.changed missing in
      g.others k ne parts.1 ∙ f.others k ne parts.0;
}

-- Where the neighbours of c are joined, and then c is put before a head, that is what taking c out and putting it there
-- would leave: c is written whole.
by_two : (old mid new : List Node) (c head : ℕ) (p : Place) → c < length mid → head ≢ c
    → Joined old mid (prev_at old c) (next_at old c) → PutBefore mid new c head p
    → TakenOut old (set mid c free_node) c × PutBefore (set mid c free_node) new c head p
by_two old mid new c head p below ne j t = (
  record {
    nexts = λ k away. ap (λ (n : Node). n.next) (other k away) ∙ j.nexts k;
    prevs = λ k away. ap (λ (n : Node). n.prev) (other k away) ∙ j.prevs k;
    places = λ k. elim (cases_eq k c) [
      | inl e ↦ ap (λ (i : ℕ). place_at free i) e ∙ ap (λ (n : Node). n.place) this ∙ sym (cond-true _ _ _ (eq-eqb _ _ e))
      | inr away ↦ ap (λ (n : Node). n.place) (other k away) ∙ j.places k ∙ sym (cond-false _ _ _ (ne_eqb _ _ away))
    ];
    size = length-set mid c free_node ∙ j.size;
  },
  record {
    nexts = λ k. elim (cases_eq k c) [
      | inl e ↦ t.nexts k ∙ cond-true _ _ _ (eq-eqb _ _ e) ∙ sym (cond-true _ _ _ (eq-eqb _ _ e))
      | inr away ↦
          t.nexts k ∙ cond-false _ _ _ (ne_eqb _ _ away)
          ∙ ap (λ (i : ℕ). if k == i then c else next_at mid k) (sym last)
          ∙ ap (λ (x : ℕ). if k == prev_at free head then c else x) (ap (λ (n : Node). n.next) (sym (other k away)))
          ∙ sym (cond-false _ _ _ (ne_eqb _ _ away))
    ];
    prevs = λ k. elim (cases_eq k head) [
      | inl e ↦ t.prevs k ∙ cond-true _ _ _ (eq-eqb _ _ e) ∙ sym (cond-true _ _ _ (eq-eqb _ _ e))
      | inr off ↦ t.prevs k ∙ cond-false _ _ _ (ne_eqb _ _ off) ∙ before k ∙ sym (cond-false _ _ _ (ne_eqb _ _ off))
    ];
    places = λ k. elim (cases_eq k c) [
      | inl e ↦ t.places k ∙ cond-true _ _ _ (eq-eqb _ _ e) ∙ sym (cond-true _ _ _ (eq-eqb _ _ e))
      | inr away ↦
          t.places k ∙ cond-false _ _ _ (ne_eqb _ _ away) ∙ ap (λ (n : Node). n.place) (sym (other k away))
          ∙ sym (cond-false _ _ _ (ne_eqb _ _ away))
    ];
    size = t.size ∙ sym (length-set mid c free_node);
  },
) where
  free : List Node
  free = set mid c free_node

  this : node_at free c ≡ free_node
  this = get_or-set_same mid c free_node free_node below

  other : (k : ℕ) → k ≢ c → node_at free k ≡ node_at mid k
  other k away = get_or-set_other mid c k free_node free_node away

  last : prev_at free head ≡ prev_at mid head
  last = ap (λ (n : Node). n.prev) (other head ne)

  before : (k : ℕ) → (if k == c then prev_at mid head else prev_at mid k) ≡ (if k == c then prev_at free head else prev_at free k)
  before k = elim (cases_eq k c) [
    | inl e ↦ cond-true _ _ _ (eq-eqb _ _ e) ∙ sym last ∙ sym (cond-true _ _ _ (eq-eqb _ _ e))
    | inr away ↦
        cond-false _ _ _ (ne_eqb _ _ away) ∙ ap (λ (n : Node). n.prev) (sym (other k away))
        ∙ sym (cond-false _ _ _ (ne_eqb _ _ away))
  ]

some_place : (o : Option Place) → IsSome o → (p : Place) × (o ≡ Some p)
some_place (Some p) h = (p, refl)
some_place None h = absurd (false≢true h)

-- a table that holds these lists, and in which few nodes differ from before
pub record Left (most c : ℕ) (old new : List Node) (w : ThreeLists) : Type 0 where
  pub table : IsTable new
  pub lists : lists_of new ≡ w
  pub few : ChangesFew most c old new

-- what each call needs of the table, and what it leaves
module _ (nodes : List Node) (c : ℕ) (table : IsTable nodes) where
  pub linked_here : IsSome (place_of (lists_of nodes) c) → (p : Place) × (place_at nodes (index_of c) ≡ Some p)
  linked_here h = let found = some_place _ h in (found.0, sym (place_is nodes table c) ∙ found.1)

  pub read_place : (k : ℕ) → k ≡ index_of c → place_at nodes k ≡ place_of (lists_of nodes) c
  read_place k at = ap (place_at nodes) at ∙ sym (place_is nodes table c)

  -- what has no node is in no list
  pub past_place : (k : ℕ) → k ≡ index_of c → length nodes ≤ k → None ≡ place_of (lists_of nodes) c
  past_place k at past = sym (ap (λ (n : Node). n.place) (get_or_past nodes k free_node past)) ∙ read_place k at

  -- what is in a list has a node
  pub linked_below : IsSome (place_of (lists_of nodes) c) → index_of c < length nodes
  linked_below h = let found = linked_here h in placed_below nodes (index_of c) found.0 found.1

  pub linked_short : IsSome (place_of (lists_of nodes) c) → c < 65533
  linked_short h = let below = linked_below h in let short = table.short in omega arith

  pub prev_below : IsSome (place_of (lists_of nodes) c) → prev_at nodes (index_of c) < length nodes
  prev_below h = let found = linked_here h in placed_below nodes _ found.0 (neighbours nodes table c found.0 found.1).0

  pub next_below : IsSome (place_of (lists_of nodes) c) → next_at nodes (index_of c) < length nodes
  next_below h = let found = linked_here h in placed_below nodes _ found.0 (neighbours nodes table c found.0 found.1).1

  pub unlinks : (new : List Node) (k : ℕ) → k ≡ index_of c → TakenOut nodes new k → IsSome (place_of (lists_of nodes) c)
      → Left 2 (index_of c) nodes new (unlinked (lists_of nodes) c)
  unlinks new k at t h =
      let t_here = subst (λ (n : ℕ). TakenOut nodes new n) at t in
      let found = linked_here h in
      let out = table_out nodes table new c found.0 t_here found.1 in
      record { table = out.0; lists = out.1; few = few_out nodes new (index_of c) t_here }

  pub pushes : (new : List Node) (k head : ℕ) (p : Place) → k ≡ index_of c → head ≡ head_of p → PutBefore nodes new k head p
      → place_of (lists_of nodes) c ≡ None → Left 2 (index_of c) nodes new (pushed (lists_of nodes) c p)
  pushes new k head p at e t h =
      let t_here = subst (λ (n : ℕ). PutBefore nodes new n (head_of p) p) at (subst (λ (n : ℕ). PutBefore nodes new k n p) e t) in
      let come = table_in nodes table new c p t_here (sym (place_is nodes table c) ∙ h) in
      record { table = come.0; lists = come.1; few = few_in nodes new (index_of c) (head_of p) p t_here }

  pub moves : (new : List Node) (k head : ℕ) (p : Place) → k ≡ index_of c → head ≡ head_of p
      → (between : List Node) × Joined nodes between (prev_at nodes k) (next_at nodes k) × PutBefore between new k head p
      → IsSome (place_of (lists_of nodes) c) → Left 4 (index_of c) nodes new (moved (lists_of nodes) c p)
  moves new k head p at e m h =
      let m_head = subst (λ (n : ℕ). (between : List Node) × Joined nodes between (prev_at nodes k) (next_at nodes k) × PutBefore between new k n p) e m in
      let m_at = subst (λ (n : ℕ). (between : List Node) × Joined nodes between (prev_at nodes n) (next_at nodes n) × PutBefore between new n (head_of p) p) at m_head in
      let size = m_at.1.size in
      let there = linked_below h in
      let steps = by_two nodes m_at.0 new (index_of c) (head_of p) p (omega arith) (λ s. head_before c p (sym s)) m_at.1 m_at.2 in
      let free = set m_at.0 (index_of c) free_node in
      let found = linked_here h in
      let out = table_out nodes table free c found.0 steps.0 found.1 in
      let come = table_in free out.0 new c p steps.1 (steps.0.places (index_of c) ∙ cond-true _ _ _ (eq-eqb (index_of c) (index_of c) refl)) in
      record {
        table = come.0;
        lists = come.1 ∙ ap (λ (w : ThreeLists). pushed w c p) out.1;
        few = few_both 2 2 (index_of c) nodes free new (few_out nodes free (index_of c) steps.0) (few_in free new (index_of c) _ p steps.1);
      }

-- what is in a list has a place
pub linked_in : (w : ThreeLists) (p : Place) (c : ℕ) → is_in c (list_at w p) ≡ true → IsSome (place_of w c)
linked_in w p c i = elim (cases_Bool (is_in c w.idle)) [
  | inl a ↦ some_is (cond-true _ _ _ a)
  | inr a ↦ elim (cases_Bool (is_in c w.polled)) [
    | inl b ↦ some_is (cond-false _ _ _ a ∙ cond-true _ _ _ b)
    | inr b ↦ elim (cases_Bool (is_in c w.pending)) [
      | inl d ↦ some_is (cond-false _ _ _ a ∙ cond-false _ _ _ b ∙ cond-true _ _ _ d)
      | inr d ↦ absurd (nowhere p i a b d)
    ]
  ]
] where
  some_is : {q : Place} → place_of w c ≡ Some q → IsSome (place_of w c)
  some_is e = ap (λ (o : Option Place). is_some o) e

  nowhere : (q : Place) → is_in c (list_at w q) ≡ true → is_in c w.idle ≡ false → is_in c w.polled ≡ false → is_in c w.pending ≡ false → ⊥
  nowhere Idle h a b d = false≢true (sym a ∙ h)
  nowhere Polled h a b d = false≢true (sym b ∙ h)
  nowhere Pending h a b d = false≢true (sym d ∙ h)

pub front_in : (xs : List ℕ) (c : ℕ) → slice_get xs 0 ≡ Some c → is_in c xs ≡ true
front_in [] c h = absurd (cc h)
front_in (x ∷ xs) c h = let e : x ≡ c = cc h in or_left _ _ (eq-eqb x c e)

front_out : (xs : List ℕ) (c : ℕ) → NoRepeat xs → slice_get xs 0 ≡ Some c → without c xs ≡ drop 1 xs
front_out [] c once h = absurd (cc h)
front_out (x ∷ xs) c once h =
    let e : x ≡ c = cc h in
    without_first c x xs e ∙ without_none c xs (ap (λ (z : ℕ). is_in z xs) (sym e) ∙ once.0)

-- to take out the first of a list is to drop it there
pub pop_is : (w : ThreeLists) (p : Place) (c : ℕ) → IsApart w → slice_get (list_at w p) 0 ≡ Some c → unlinked w c ≡ popped w p
pop_is w p c apart h = go p here (front_out (list_at w p) c (apart.once p) h) where
  here : is_in c (list_at w p) ≡ true
  here = front_in (list_at w p) c h

  stays : (r : Place) → is_in c (list_at w r) ≡ true → (q : Place) → r ≢ q → without c (list_at w q) ≡ list_at w q
  stays r i q ne = without_none c (list_at w q) (elim (cases_Bool (is_in c (list_at w q))) [
    | inl j ↦ absurd (ne (apart.one_list r q c i j))
    | inr missed ↦ missed
  ])

  go : (r : Place) → is_in c (list_at w r) ≡ true → without c (list_at w r) ≡ drop 1 (list_at w r) → unlinked w c ≡ popped w r
  go Idle i e = same_lists _ _ refl (λ q. at_idle q i e) where
    at_idle : (q : Place) → is_in c w.idle ≡ true → without c w.idle ≡ drop 1 w.idle → list_at (unlinked w c) q ≡ list_at (popped w Idle) q
    at_idle Idle i e = e
    at_idle Polled i e = stays Idle i Polled (λ s. cc)
    at_idle Pending i e = stays Idle i Pending (λ s. cc)
  go Polled i e = same_lists _ _ refl (λ q. at_polled q i e) where
    at_polled : (q : Place) → is_in c w.polled ≡ true → without c w.polled ≡ drop 1 w.polled → list_at (unlinked w c) q ≡ list_at (popped w Polled) q
    at_polled Idle i e = stays Polled i Idle (λ s. cc)
    at_polled Polled i e = e
    at_polled Pending i e = stays Polled i Pending (λ s. cc)
  go Pending i e = same_lists _ _ refl (λ q. at_pending q i e) where
    at_pending : (q : Place) → is_in c w.pending ≡ true → without c w.pending ≡ drop 1 w.pending → list_at (unlinked w c) q ≡ list_at (popped w Pending) q
    at_pending Idle i e = stays Pending i Idle (λ s. cc)
    at_pending Polled i e = stays Pending i Polled (λ s. cc)
    at_pending Pending i e = e

head_alone : ℕ → Place → Node
head_alone at p = record { prev = at; next = at; place = Some p }

-- a head that points to itself is the ring of an empty list
ring_alone : (nodes : List Node) (head : ℕ) (p : Place) → node_at nodes head ≡ head_alone head p
    → ((k : ℕ) → k ≢ head → place_at nodes k ≢ Some p) → Ring nodes head p []
unfolding head_alone
ring_alone nodes head p here others = record {
  chain = (ap (λ (n : Node). n.next) here, ap (λ (n : Node). n.prev) here);
  once = (refl, tt);
  placed = λ k i. elim (or_cases (head == k) false i) [
    | inl e ↦ ap (place_at nodes) (sym (eqb-true head k e)) ∙ ap (λ (n : Node). n.place) here
    | inr never ↦ absurd (false≢true never)
  ];
  listed = λ k h. elim (cases_eq k head) [
    | inl e ↦ or_left _ _ (eq-eqb head k (sym e))
    | inr ne ↦ absurd (others k ne h)
  ];
}

-- a table of free nodes in which three heads have been written
pub first_is_table : (items : List Node) (a b d : Node) → 3 ≤ length items → length items ≤ 65536 → AllFree items
    → a ≡ record { prev = 0; next = 0; place = Some Idle } → b ≡ record { prev = 1; next = 1; place = Some Polled }
    → d ≡ record { prev = 2; next = 2; place = Some Pending }
    → let nodes = set (set (set items 0 a) 1 b) 2 d in IsTable nodes × (lists_of nodes ≡ empty (length items - 3))
unfolding head_alone
first_is_table items a b d heads short free_at is_a is_b is_d = rings_give nodes (empty (length items - 3)) heads_there short_there size rings where
  nodes : List Node
  nodes = set (set (set items 0 a) 1 b) 2 d

  long_1 : length (set items 0 a) ≡ length items
  long_1 = length-set items 0 a

  long_2 : length (set (set items 0 a) 1 b) ≡ length items
  long_2 = length-set (set items 0 a) 1 b ∙ long_1

  long_3 : length nodes ≡ length items
  long_3 = length-set (set (set items 0 a) 1 b) 2 d ∙ long_2

  heads_there : 3 ≤ length nodes
  heads_there = omega (arith, long_3)

  short_there : length nodes ≤ 65536
  short_there = omega (arith, long_3)

  size : length nodes - 3 ≡ length items - 3
  size = ap (λ (n : ℕ). n - 3) long_3

  at_d : node_at nodes 2 ≡ d
  at_d = get_or-set_same (set (set items 0 a) 1 b) 2 d free_node (omega (arith, long_2))

  at_b : node_at nodes 1 ≡ b
  at_b =
      get_or-set_other (set (set items 0 a) 1 b) 2 1 d free_node (omega arith)
      ∙ get_or-set_same (set items 0 a) 1 b free_node (omega (arith, long_1))

  at_a : node_at nodes 0 ≡ a
  at_a =
      get_or-set_other (set (set items 0 a) 1 b) 2 0 d free_node (omega arith)
      ∙ get_or-set_other (set items 0 a) 1 0 b free_node (omega arith)
      ∙ get_or-set_same items 0 a free_node (omega arith)

  elsewhere : (k : ℕ) → k ≢ 0 → k ≢ 1 → k ≢ 2 → place_at nodes k ≡ None
  elsewhere k not_a not_b not_d = ap (λ (n : Node). n.place)
      (get_or-set_other (set (set items 0 a) 1 b) 2 k d free_node not_d
      ∙ get_or-set_other (set items 0 a) 1 k b free_node not_b
      ∙ get_or-set_other items 0 k a free_node not_a ∙ free_at k)

  place_a : (k : ℕ) → k ≡ 0 → place_at nodes k ≡ Some Idle
  place_a k e = ap (place_at nodes) e ∙ ap (λ (n : Node). n.place) (at_a ∙ is_a)

  place_b : (k : ℕ) → k ≡ 1 → place_at nodes k ≡ Some Polled
  place_b k e = ap (place_at nodes) e ∙ ap (λ (n : Node). n.place) (at_b ∙ is_b)

  place_d : (k : ℕ) → k ≡ 2 → place_at nodes k ≡ Some Pending
  place_d k e = ap (place_at nodes) e ∙ ap (λ (n : Node). n.place) (at_d ∙ is_d)

  only : (p : Place) (k : ℕ) → k ≢ head_of p → place_at nodes k ≢ Some p
  only p k ne h = elim (cases_eq k 0) [
    | inl e ↦ other_head Idle (place_a k e) e
    | inr not_a ↦ elim (cases_eq k 1) [
      | inl e ↦ other_head Polled (place_b k e) e
      | inr not_b ↦ elim (cases_eq k 2) [
        | inl e ↦ other_head Pending (place_d k e) e
        | inr not_d ↦ let none = elsewhere k not_a not_b not_d in cc (none, h)
      ]
    ]
  ] where
    other_head : (q : Place) → place_at nodes k ≡ Some q → k ≡ head_of q → ⊥
    other_head q there at = let same : q ≡ p = cc (there, h) in ne (at ∙ ap (head_of) same)

  alone : (p : Place) → Ring nodes (head_of p) p []
  alone Idle = ring_alone nodes 0 Idle (at_a ∙ is_a) (only Idle)
  alone Polled = ring_alone nodes 1 Polled (at_b ∙ is_b) (only Polled)
  alone Pending = ring_alone nodes 2 Pending (at_d ∙ is_d) (only Pending)

  rings : (p : Place) → Ring nodes (head_of p) p (indexes (list_at (empty (length items - 3)) p))
  rings Idle = alone Idle
  rings Polled = alone Polled
  rings Pending = alone Pending

-- a table of copies of one free node
pub all_free : (items : List Node) (len : ℕ) → items ≡ replicate len free_node → AllFree items
all_free items len same = λ k. elim (cases_lt k len) [
  | inl below ↦ ap (λ (xs : List Node). node_at xs k) same ∙ get_or-replicate len k free_node free_node below
  | inr past ↦ get_or_past items k free_node (omega (arith, ap length same ∙ length-replicate len free_node))
]

-- what comes after the head of a list, which stands at index k
module _ (nodes : List Node) (p : Place) (k : ℕ) (table : IsTable nodes) (at : k ≡ head_of p) where
  pub front_index : next_at nodes k ≢ k → 3 ≤ next_at nodes k
  front_index = subst (λ (h : ℕ). next_at nodes h ≢ h → 3 ≤ next_at nodes h) (sym at) (λ other.
      let found = next_is nodes table p other in
      let told = found.1 in
      omega arith)

  pub front_is_none : next_at nodes k ≡ k → None ≡ slice_get (list_at (lists_of nodes) p) 0
  front_is_none = subst (λ (h : ℕ). next_at nodes h ≡ h → None ≡ slice_get (list_at (lists_of nodes) p) 0) (sym at) (λ none.
      sym (cond-true _ _ _ (eq-eqb _ _ none)) ∙ front_is nodes table p)

  pub front_is_some : next_at nodes k ≢ k → Some (next_at nodes k - 3) ≡ slice_get (list_at (lists_of nodes) p) 0
  front_is_some = subst (λ (h : ℕ). next_at nodes h ≢ h → Some (next_at nodes h - 3) ≡ slice_get (list_at (lists_of nodes) p) 0) (sym at) (λ other.
      sym (cond-false _ _ _ (ne_eqb _ _ other)) ∙ front_is nodes table p)

-- behind what leads to the end of a chain nothing comes
nothing_behind : (next prev : ℕ → ℕ) (a b : ℕ) (xs : List ℕ) → Chain next prev a xs b → is_in b xs ≡ false → next a ≡ b → xs ≡ []
nothing_behind next prev a b [] chain out e = refl
nothing_behind next prev a b (x ∷ xs) chain out e =
    absurd (false≢true (sym out ∙ or_left _ _ (eq-eqb x b (sym chain.0 ∙ e))))

-- what leads to the end of a chain is the last of its list, and to take it out and push it changes nothing
last_stays : (next prev : ℕ → ℕ) (a b c : ℕ) (xs : List ℕ) → Chain next prev a xs b → NoRepeat xs → is_in b xs ≡ false → is_in c xs ≡ true
    → next c ≡ b → without c xs ++ c ∷ [] ≡ xs
last_stays next prev a b c [] chain once out i e = absurd (false≢true i)
last_stays next prev a b c (x ∷ xs) chain once out i e =
    let behind = (or_parts (x == b) (is_in b xs) out).1 in
    elim (cases_eq x c) [
      | inl same ↦
          let alone : xs ≡ [] = nothing_behind next prev x b xs chain.1.1 behind (ap next same ∙ e) in
          ap (λ (ys : List ℕ). ys ++ c ∷ []) (without_first c x xs same ∙ ap (without c) alone)
          ∙ ap (λ (z : ℕ). z ∷ []) (sym same) ∙ ap (λ (ys : List ℕ). x ∷ ys) (sym alone)
      | inr other ↦
          let later : is_in c xs ≡ true = elim (or_cases (x == c) (is_in c xs) i) [
            | inl same ↦ absurd (other (eqb-true x c same))
            | inr found ↦ found
          ] in
          ap (λ (ys : List ℕ). ys ++ c ∷ []) (without_later c x xs other)
          ∙ ap (λ (ys : List ℕ). x ∷ ys) (last_stays next prev x b c xs chain.1.1 once.1 behind later e)
    ]

-- the list of this place ends in c: to move c to its back changes nothing
last_moved : (nodes : List Node) (table : IsTable nodes) (c : ℕ) (p : Place) → is_in c (list_at (lists_of nodes) p) ≡ true
    → next_at nodes (index_of c) ≡ head_of p → lists_of nodes ≡ moved (lists_of nodes) c p
last_moved nodes table c p i e = same_lists w (moved w c p) (sym (pushed_size (unlinked w c) c p)) at where
  w : ThreeLists
  w = lists_of nodes

  apart : IsApart w
  apart = apart_lists nodes table

  ring : Ring nodes (head_of p) p (indexes (list_at w p))
  ring = ring_at nodes table p

  there : is_in (index_of c) (indexes (list_at w p)) ≡ true
  there = is_in-indexes c (list_at w p) ∙ i

  -- with numbers in place of indexes
  same : without c (list_at w p) ++ c ∷ [] ≡ list_at w p
  same =
      sym (numbers-indexes (without c (list_at w p) ++ c ∷ []))
      ∙ ap (λ (ks : List ℕ). numbers ks) (sym (indexes_push (without c (list_at w p)) c)
      ∙ ap (λ (ks : List ℕ). ks ++ index_of c ∷ []) (sym (without-indexes c (list_at w p)))
      ∙ last_stays (next_at nodes) (prev_at nodes) _ _ (index_of c) (indexes (list_at w p)) ring.chain ring.once.1 ring.once.0 there e)
      ∙ numbers-indexes (list_at w p)

  here : list_at w p ≡ list_at (moved w c p) p
  here =
      sym same ∙ ap (λ (ys : List ℕ). ys ++ c ∷ []) (sym (unlinked_list w c p)) ∙ sym (pushed_this (unlinked w c) c p)

  missing : (q : Place) → q ≢ p → is_in c (list_at w q) ≡ false
  missing q ne = elim (cases_Bool (is_in c (list_at w q))) [
    | inl j ↦ absurd (ne (apart.one_list q p c j i))
    | inr missed ↦ missed
  ]

  at : (q : Place) → list_at w q ≡ list_at (moved w c p) q
  at q = elim (same_or_not q p) [
    | inl same ↦ subst (λ (z : Place). list_at w z ≡ list_at (moved w c p) z) (sym same) here
    | inr ne ↦ sym (pushed_other (unlinked w c) c p q ne ∙ unlinked_list w c q ∙ without_none c (list_at w q) (missing q ne))
  ]

-- to move what leads to the head of its place to the back there changes nothing
pub moves_last : (nodes : List Node) (c head : ℕ) (p : Place) → IsTable nodes → IsSome (place_of (lists_of nodes) c)
    → head ≡ head_of p → next_at nodes (index_of c) ≡ head → lists_of nodes ≡ moved (lists_of nodes) c p
moves_last nodes c head p table linked at next =
    let found = linked_here nodes c table linked in
    let to_head : next_at nodes (index_of c) ≡ head_of p = next ∙ at in
    let near : place_at nodes (next_at nodes (index_of c)) ≡ Some found.0 = (neighbours nodes table c found.0 found.1).1 in
    let at_head : place_at nodes (head_of p) ≡ Some p = head_placed nodes table p in
    let there : place_at nodes (head_of p) ≡ Some found.0 = subst (λ (k : ℕ). place_at nodes k ≡ Some found.0) to_head near in
    let same : found.0 ≡ p = cc (there, at_head) in
    let i = listed_at nodes table c p (found.1 ∙ ap (λ (q : Place). Some q) same) in
    last_moved nodes table c p i to_head
