-- The lists of a table as lists of a larger size, and tables of the same nodes.
use Rattle.std.proofs.Common.{◌≡◌, ℕ, ◌+◌, ◌-◌, ◌<◌, ◌≤◌, Bool, true, false, inl, inr, List, ◌++◌, length, sym, ◌∙◌, ap, subst, refl, arith, Option, Some, None, drop, take, slice_get, IfSome, length-append, replicate}
use Rattle.std.proofs.lemmas.Bool.{false≢true, cases_lt, cond-true, cond-false}
use Rattle.std.proofs.lemmas.List.{take_at, get_or_past, get_or_append_left, get_or-append_right, get_or-drop, length-drop, length-replicate}
use Rattle.fl_lists.specs.declared.place.Place.{Place}
use Rattle.fl_lists.specs.declared.place.Place.TheVariants.{Idle, Polled, Pending}
use Rattle.fl_lists.specs.declared.node.Node.{Node}
use Rattle.fl_lists.specs.ThreeLists.{ThreeLists, list_at, is_in, place_of, pushed, moved, unlinked, empty, NoRepeat, IsApart}
use Rattle.fl_lists.specs.Table.{free_node, head_of, indexes, Ring, lists_of, IsTable, AllFree, SameNodes, ChangesFew, sized, TheLists, in_use, seen_of, IsOver, IsHeld}
use Rattle.fl_lists.proofs.Rings.{ring_kept}
use Rattle.fl_lists.proofs.Tables.{Left, all_free, front_in, rings_give, ring_at, apart_lists}

pub list_sized : (n : ℕ) (w : ThreeLists) (p : Place) → list_at (sized n w) p ≡ list_at w p
list_sized n w Idle = refl
list_sized n w Polled = refl
list_sized n w Pending = refl

pub pushed_sized : (n : ℕ) (w : ThreeLists) (c : ℕ) (p : Place) → pushed (sized n w) c p ≡ sized n (pushed w c p)
pushed_sized n w c Idle = refl
pushed_sized n w c Polled = refl
pushed_sized n w c Pending = refl

pub moved_sized : (n : ℕ) (w : ThreeLists) (c : ℕ) (p : Place) → moved (sized n w) c p ≡ sized n (moved w c p)
moved_sized n w c p = pushed_sized n (unlinked w c) c p

apart_sized : (n : ℕ) (w : ThreeLists) → IsApart w → w.size ≤ n → IsApart (sized n w)
apart_sized n w apart within = record {
  once = λ p. subst (λ (xs : List ℕ). NoRepeat xs) (sym (list_sized n w p)) (apart.once p);
  one_list = λ p q c i j. apart.one_list p q c (was p c i) (was q c j);
  below = λ p c i. let below = apart.below p c (was p c i) in omega arith;
} where
  was : (p : Place) (c : ℕ) → is_in c (list_at (sized n w) p) ≡ true → is_in c (list_at w p) ≡ true
  was p c i = ap (λ (xs : List ℕ). is_in c xs) (sym (list_sized n w p)) ∙ i

pub apart_over : (w : TheLists) → IsOver w → IsApart w.lists
apart_over w over =
    let within = over.within in
    subst (λ (v : ThreeLists). IsApart v) (sym over.lists)
    (apart_sized w.lists.size (lists_of w.table) (apart_lists w.table over.table) (omega arith))

pub front_over : (w : TheLists) → IsOver w → (p : Place) → slice_get (list_at (lists_of w.table) p) 0 ≡ slice_get (list_at w.lists p) 0
front_over w over p =
    ap (λ (xs : List ℕ). slice_get xs 0)
    (sym (list_sized w.lists.size (lists_of w.table) p) ∙ ap (λ (v : ThreeLists). list_at v p) (sym over.lists))

-- the first of a list is below the size
pub first_below : (w : ThreeLists) → IsApart w → (p : Place) (first : Option ℕ) → first ≡ slice_get (list_at w p) 0 → IfSome first (λ c. c < w.size)
first_below w apart p (Some c) is = apart.below p c (front_in (list_at w p) c (sym is))
first_below w apart p None is = tt

pub over_held : (few : Bool) (near nodes : List Node) (n : ℕ) (w : TheLists) → IsHeld few near nodes n → seen_of few near nodes n ≡ w → IsOver w
over_held few near nodes n w held seen =
    subst (λ (v : TheLists). IsOver v) seen record { table = held.table; within = held.within; short = held.short; lists = refl }

-- what is known of the table in use, by its name
module _ (few : Bool) (near nodes : List Node) (n : ℕ) (w : TheLists) (held : IsHeld few near nodes n) (seen : seen_of few near nodes n ≡ w) where
  near_is : few ≡ true → in_use few near nodes ≡ near
  near_is is = cond-true _ _ _ is

  large_is : few ≡ false → in_use few near nodes ≡ nodes
  large_is is = cond-false _ _ _ is

  pub near_seen : few ≡ true → near ≡ w.table
  near_seen is = sym (near_is is) ∙ ap (λ (v : TheLists). v.table) seen

  pub large_seen : few ≡ false → nodes ≡ w.table
  large_seen is = sym (large_is is) ∙ ap (λ (v : TheLists). v.table) seen

  pub near_table : few ≡ true → IsTable near
  near_table is = subst (λ (xs : List Node). IsTable xs) (near_is is) held.table

  pub large_table : few ≡ false → IsTable nodes
  large_table is = subst (λ (xs : List Node). IsTable xs) (large_is is) held.table

  pub near_place : few ≡ true → (c : ℕ) → place_of (lists_of near) c ≡ place_of w.lists c
  near_place is c =
      ap (λ (xs : List Node). place_of (lists_of xs) c) (sym (near_is is)) ∙ ap (λ (v : TheLists). place_of v.lists c) seen

  pub large_place : few ≡ false → (c : ℕ) → place_of (lists_of nodes) c ≡ place_of w.lists c
  large_place is c =
      ap (λ (xs : List Node). place_of (lists_of xs) c) (sym (large_is is)) ∙ ap (λ (v : TheLists). place_of v.lists c) seen

  -- the table that was chosen, of the near one and what stands in the large one
  pub chosen_seen : (xs ys : List Node) → xs ≡ in_use few near ys → ys ≡ nodes → xs ≡ w.table
  chosen_seen xs ys is same =
      is ∙ ap (λ (zs : List Node). in_use few near zs) same ∙ ap (λ (v : TheLists). v.table) seen

  pub chosen_table : (xs : List Node) → xs ≡ w.table → IsTable xs
  chosen_table xs is =
      subst (λ (zs : List Node). IsTable zs) (ap (λ (v : TheLists). v.table) seen ∙ sym is) held.table

  pub chosen_place : (xs : List Node) → xs ≡ w.table → (c : ℕ) → place_of (lists_of xs) c ≡ place_of w.lists c
  chosen_place xs is c =
      ap (λ (zs : List Node). place_of (lists_of zs) c) (is ∙ sym (ap (λ (v : TheLists). v.table) seen))
      ∙ ap (λ (v : TheLists). place_of v.lists c) seen

  pub near_longer : few ≡ true → length near ≤ length nodes
  near_longer is =
      let within : length near ≤ n + 3 = subst (λ (xs : List Node). length xs ≤ n + 3) (near_is is) held.within in
      let whole = held.whole in
      omega arith

  pub nodes_short : length nodes ≤ 65536
  nodes_short = let whole = held.whole in let short = held.short in omega arith

  -- a number below the size has a node in the large table
  pub below_nodes : (c : ℕ) → c < w.lists.size → c < length nodes - 3
  below_nodes c below =
      let here : c < n = subst (λ (v : TheLists). c < v.lists.size) (sym seen) below in
      let whole = held.whole in
      omega arith

-- a table copied to the front of free nodes
pub wider_same : (near nodes : List Node) → AllFree nodes → SameNodes near (near ++ drop (length near) nodes)
wider_same near nodes free = λ k. elim (cases_lt k (length near)) [
  | inl below ↦ get_or_append_left near (drop (length near) nodes) free_node k below
  | inr past ↦
      get_or-append_right near (drop (length near) nodes) (length near) k free_node refl past
      ∙ get_or-drop (length near) nodes (k - length near) free_node ∙ free (length near + (k - length near))
      ∙ sym (get_or_past near k free_node past)
]

-- a longer table of the same nodes holds the same lists
pub wider_table : (near new : List Node) → IsTable near → length near ≤ length new → length new ≤ 65536 → SameNodes near new
    → IsTable new × (lists_of new ≡ sized (length new - 3) (lists_of near))
wider_table near new table longer short same =
    let heads = table.heads in
    rings_give new (sized (length new - 3) (lists_of near)) (omega arith) short refl (λ p.
    subst (λ (xs : List ℕ). Ring new (head_of p) p (indexes xs)) (sym (list_sized (length new - 3) (lists_of near) p))
    (ring_kept near (head_of p) p _ (ring_at near table p) new (λ k i. ap (λ (n : Node). n.next) (same k))
    (λ k i. ap (λ (n : Node). n.prev) (same k)) (λ k h. ap (λ (n : Node). n.place) (same k) ∙ h)
    (λ k h. sym (ap (λ (n : Node). n.place) (same k)) ∙ h)))

-- what `widen` leaves of a longer table with nothing in it
pub widened : (near nodes front : List Node) → front ≡ near → IsTable near → length near ≤ length nodes → length nodes ≤ 65536 → AllFree nodes
    → let new = front ++ drop (length near) nodes in IsTable new × (lists_of new ≡ sized (length nodes - 3) (lists_of near)) × SameNodes near new
widened near nodes front copied table longer short nothing =
    subst
    (λ (xs : List Node). let new = xs ++ drop (length near) nodes in IsTable new × (lists_of new ≡ sized (length nodes - 3) (lists_of near)) × SameNodes near new)
    (sym copied) there where
      new : List Node
      new = near ++ drop (length near) nodes

      long : length new ≡ length nodes
      long = omega (arith, length-append near (drop (length near) nodes), length-drop (length near) nodes)

      same : SameNodes near new
      same = wider_same near nodes nothing

      given : IsTable new × (lists_of new ≡ sized (length new - 3) (lists_of near))
      given = wider_table near new table (omega (arith, long)) (omega (arith, long)) same

      there : IsTable new × (lists_of new ≡ sized (length nodes - 3) (lists_of near)) × SameNodes near new
      there = (given.0, given.1 ∙ ap (λ (m : ℕ). sized (m - 3) (lists_of near)) long, same)

-- few nodes changed in the longer table are few changed against the shorter one
pub few_wider : (most c : ℕ) (near between new : List Node) → SameNodes near between → ChangesFew most c between new → ChangesFew most c near new
few_wider most c near between new same few =
    record { changed = few.changed; few = few.few; others = λ k ne missing. few.others k ne missing ∙ same k }

-- what a Vec holds after a write to all of its elements
pub written : (len : ℕ) (old new : List Node) → length old ≡ len → length new ≡ length old → take len (new ++ drop (length new) old) ≡ new
written len old new a b = grind (arith, take_at new (drop (length new) old) len)

-- what a call leaves of the tables, which were seen as `old` before
pub record After (most c : ℕ) (old : TheLists) (few : Bool) (near nodes : List Node) (n : ℕ) (w : ThreeLists) : Type 0 where
  pub held : IsHeld few near nodes n
  pub lists : (seen_of few near nodes n).lists ≡ w
  pub few_changed : ChangesFew most c old.table (in_use few near nodes)
  pub apart : IsApart (seen_of few near nodes n).lists

after : (most c : ℕ) (old : TheLists) (few : Bool) (near nodes : List Node) (n : ℕ) (w : ThreeLists) → IsHeld few near nodes n
    → (seen_of few near nodes n).lists ≡ w → ChangesFew most c old.table (in_use few near nodes) → After most c old few near nodes n w
after most c old few near nodes n w held lists few_changed = record {
  held = held;
  lists = lists;
  few_changed = few_changed;
  apart = apart_over (seen_of few near nodes n) (over_held few near nodes n (seen_of few near nodes n) held refl);
}

-- a call that changes lists by `f` has changed the near table
pub near_after : (most c : ℕ) (few : Bool) (near new nodes : List Node) (n : ℕ) (old : TheLists) (f : ThreeLists → ThreeLists)
    → IsHeld few near nodes n → seen_of few near nodes n ≡ old → few ≡ true → length new ≡ length near
    → Left most c near new (f (lists_of near)) → f (sized n (lists_of near)) ≡ sized n (f (lists_of near))
    → After most c old few new nodes n (f old.lists)
near_after most c true near new nodes n old f held seen is kept left same =
    subst (λ (v : TheLists). After most c v true new nodes n (f v.lists)) seen
    (after most c (seen_of true near nodes n) true new nodes n (f (sized n (lists_of near)))
    record {
      table = left.table;
      within = let within = held.within in omega arith;
      eight = kept ∙ held.eight;
      whole = held.whole;
      short = held.short;
      free = held.free;
    } (ap (sized n) left.lists ∙ sym same) left.few)
near_after most c false near new nodes n old f held seen is kept left same = absurd (false≢true is)

-- or the large one, which is written back
pub large_after : (most c : ℕ) (few : Bool) (near nodes lent new : List Node) (len n : ℕ) (old : TheLists) (f : ThreeLists → ThreeLists)
    → IsHeld few near nodes n → seen_of few near nodes n ≡ old → few ≡ false
    → lent ≡ nodes → length lent ≡ len → length new ≡ length lent → Left most c lent new (f (lists_of lent))
    → f (sized n (lists_of nodes)) ≡ sized n (f (lists_of nodes))
    → After most c old few near (take len (new ++ drop (length new) nodes)) n (f old.lists)
large_after most c true near nodes lent new len n old f held seen is lends long kept left same = absurd (false≢true (sym is))
large_after most c false near nodes lent new len n old f held seen is lends long kept left same =
    subst (λ (xs : List Node). After most c old false near xs n (f old.lists)) (sym whole)
    (subst (λ (v : TheLists). After most c v false near new n (f v.lists)) seen
    (after most c (seen_of false near nodes n) false near new n (f (sized n (lists_of nodes)))
    record {
      table = left.table;
      within = let all = held.whole in omega (arith, stays);
      eight = held.eight;
      whole = stays ∙ held.whole;
      short = held.short;
      free = λ e. absurd (false≢true e);
    } (ap (sized n) lists ∙ sym same) few_changed)) where
      stays : length new ≡ length nodes
      stays = kept ∙ ap length lends

      whole : take len (new ++ drop (length new) nodes) ≡ new
      whole = written len nodes new (ap length (sym lends) ∙ long) stays

      lists : lists_of new ≡ f (lists_of nodes)
      lists = left.lists ∙ ap (λ (xs : List Node). f (lists_of xs)) lends

      few_changed : ChangesFew most c nodes new
      few_changed = subst (λ (xs : List Node). ChangesFew most c xs new) lends left.few

-- a call that changes lists by `f` has gone over to the large table
pub wider_after : (most c : ℕ) (few : Bool) (near nodes lent new : List Node) (len n : ℕ) (old : TheLists) (f : ThreeLists → ThreeLists)
    → IsHeld few near nodes n → seen_of few near nodes n ≡ old → few ≡ true
    → lent ≡ nodes → length lent ≡ len → length new ≡ length lent
    → IsTable new → lists_of new ≡ sized (length lent - 3) (f (lists_of near)) → ChangesFew most c near new
    → f (sized n (lists_of near)) ≡ sized n (f (lists_of near))
    → After most c old false near (take len (new ++ drop (length new) nodes)) n (f old.lists)
wider_after most c false near nodes lent new len n old f held seen is lends long kept table lists few same = absurd (false≢true is)
wider_after most c true near nodes lent new len n old f held seen is lends long kept table lists few same =
    subst (λ (xs : List Node). After most c old false near xs n (f old.lists)) (sym whole)
    (subst (λ (v : TheLists). After most c v false near new n (f v.lists)) seen
    (after most c (seen_of true near nodes n) false near new n (f (sized n (lists_of near)))
    record {
      table = table;
      within = let all = held.whole in omega (arith, stays);
      eight = held.eight;
      whole = stays ∙ held.whole;
      short = held.short;
      free = λ e. absurd (false≢true e);
    } (ap (sized n) lists ∙ sym same) few)) where
      stays : length new ≡ length nodes
      stays = kept ∙ ap length lends

      whole : take len (new ++ drop (length new) nodes) ≡ new
      whole = written len nodes new (ap length (sym lends) ∙ long) stays

-- what a new `Lists` is: three empty lists
pub record New (few : Bool) (near nodes : List Node) (n : ℕ) : Type 0 where
  pub held : IsHeld few near nodes n
  pub lists : (seen_of few near nodes n).lists ≡ empty n
  pub apart : IsApart (seen_of few near nodes n).lists

new : (few : Bool) (near nodes : List Node) (n m : ℕ) → IsHeld few near nodes n → lists_of (in_use few near nodes) ≡ empty m → New few near nodes n
new few near nodes n m held lists = record {
  held = held;
  lists = ap (sized n) lists;
  apart = apart_over (seen_of few near nodes n) (over_held few near nodes n _ held refl);
}

-- its near table has the heads
pub new_near : (near nodes : List Node) (n m : ℕ) → IsTable near → lists_of near ≡ empty m → length near ≡ 8 → 5 ≤ n → n ≤ 65533
    → nodes ≡ replicate (n + 3) free_node → New true near nodes n
new_near near nodes n m table lists eight many short free = new true near nodes n m
    record {
      table = table;
      within = omega arith;
      eight = eight;
      whole = ap length free ∙ length-replicate (n + 3) free_node;
      short = short;
      free = λ e. all_free nodes (n + 3) free;
    } lists

-- or its large one, which is written back
pub new_large : (near nodes lent heads : List Node) (len n m : ℕ) → IsTable heads → lists_of heads ≡ empty m → length near ≡ 8
    → n ≤ 65533 → nodes ≡ replicate (n + 3) free_node → lent ≡ nodes → length lent ≡ len → length heads ≡ length lent
    → New false near (take len (heads ++ drop (length heads) nodes)) n
new_large near nodes lent heads len n m table lists eight short free lends long kept =
    subst (λ (xs : List Node). New false near xs n) (sym (written len nodes heads (ap length (sym lends) ∙ long) stays))
    (new false near heads n m record {
      table = table;
      within = omega (arith, whole);
      eight = eight;
      whole = whole;
      short = short;
      free = λ e. absurd (false≢true e);
    } lists) where
      stays : length heads ≡ length nodes
      stays = kept ∙ ap length lends

      whole : length heads ≡ n + 3
      whole = stays ∙ ap length free ∙ length-replicate (n + 3) free_node
