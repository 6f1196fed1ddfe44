-- The three rings of a table after a node is taken out or put in.
use Rattle.std.proofs.Common.{◌≡◌, ◌≢◌, ℕ, ◌<◌, ◌==◌, ◌||◌, Bool, true, false, if◌then◌else◌, ◌⊎◌, inl, inr, List, [], ◌∷◌, ◌++◌, length, sym, ◌∙◌, ap, subst, refl, arith, Option, Some, None}
use Rattle.std.proofs.lemmas.Bool.{eqb-true, eq-eqb, ne_eqb, cases_eq, cases_lt, cases_Bool, or_cases, or_parts, or_from, or_left, or_right, cond-true, cond-false}
use Rattle.std.proofs.lemmas.List.{get_or_past}
use Rattle.fl_lists.specs.declared.place.Place.{Place}
use Rattle.fl_lists.specs.declared.place.Place.TheVariants.{Idle, Polled, Pending}
use Rattle.fl_lists.specs.declared.node.Node.{Node}
use Rattle.fl_lists.specs.ThreeLists.{is_in, without}
use Rattle.fl_lists.specs.Table.{free_node, next_at, prev_at, place_at, TakenOut, PutBefore, Ring, walk}
use Rattle.fl_lists.proofs.Members.{different, first_is_in, is_in-push, without_none, is_in_from-without, is_in-without, missing-without, NoRepeat-without, NoRepeat-push, few_below}
use Rattle.fl_lists.proofs.Chains.{keep, last_is_in, prev_is_in, next_is_in, chain_push, chain_without, walk_is}

pub same_or_not : (p q : Place) → (p ≡ q) ⊎ (p ≢ q)
same_or_not Idle Idle = inl refl
same_or_not Idle Polled = inr (λ e. cc)
same_or_not Idle Pending = inr (λ e. cc)
same_or_not Polled Idle = inr (λ e. cc)
same_or_not Polled Polled = inl refl
same_or_not Polled Pending = inr (λ e. cc)
same_or_not Pending Idle = inr (λ e. cc)
same_or_not Pending Polled = inr (λ e. cc)
same_or_not Pending Pending = inl refl

-- a place is of a node of the table
pub placed_below : (nodes : List Node) (k : ℕ) (place : Place) → place_at nodes k ≡ Some place → k < length nodes
placed_below nodes k place h = elim (cases_lt k (length nodes)) [
  | inl below ↦ below
  | inr past ↦
      let none : place_at nodes k ≡ None = ap (λ (n : Node). n.place) (get_or_past nodes k free_node past) in
      absurd (cc (none, h))
]

-- an update of places at its own place and at another
place_this : (k c : ℕ) (x y : Option Place) → k ≡ c → (if k == c then x else y) ≡ x
place_this k c x y e = cond-true _ _ _ (eq-eqb k c e)

place_other : (k c : ℕ) (x y : Option Place) → k ≢ c → (if k == c then x else y) ≡ y
place_other k c x y ne = cond-false _ _ _ (ne_eqb k c ne)

number_other : (k c x y : ℕ) → k ≢ c → (if k == c then x else y) ≡ y
number_other k c x y ne = cond-false _ _ _ (ne_eqb k c ne)

-- what is in a list and its head after the list, too
ring_turned : (head k : ℕ) (xs : List ℕ) → is_in k (xs ++ head ∷ []) ≡ is_in k (head ∷ xs)
ring_turned head k xs = is_in-push k head xs ∙ or_swapped (is_in k xs) (head == k) where
  or_swapped : (a b : Bool) → (a || b) ≡ (b || a)
  or_swapped true true = refl
  or_swapped true false = refl
  or_swapped false true = refl
  or_swapped false false = refl

module _ (nodes : List Node) (head : ℕ) (place : Place) (xs : List ℕ) (ring : Ring nodes head place xs) where
  head_not_in : is_in head xs ≡ false
  head_not_in = ring.once.0

  -- a list is what the walk from its head gives
  pub list_is : walk (next_at nodes) head (length nodes) (next_at nodes head) ≡ xs
  list_is =
      let few = few_below (length nodes) (head ∷ xs) ring.once (λ k i. placed_below nodes k place (ring.placed k i)) in
      walk_is (next_at nodes) (prev_at nodes) head head xs (length nodes) head_not_in (omega arith) ring.chain

  pub prev_placed : (c : ℕ) → is_in c xs ≡ true → place_at nodes (prev_at nodes c) ≡ Some place
  prev_placed c i = ring.placed _ (prev_is_in (next_at nodes) (prev_at nodes) head xs head c ring.chain i)

  pub next_placed : (c : ℕ) → is_in c xs ≡ true → place_at nodes (next_at nodes c) ≡ Some place
  next_placed c i =
      ring.placed _ (sym (ring_turned head _ xs) ∙ next_is_in (next_at nodes) (prev_at nodes) head xs head c ring.chain i)

  pub last_placed : place_at nodes (prev_at nodes head) ≡ Some place
  last_placed = ring.placed _ (last_is_in (next_at nodes) (prev_at nodes) head xs head ring.chain)

  -- a node of this place that is not the head is in the list
  pub in_list : (c : ℕ) → place_at nodes c ≡ Some place → c ≢ head → is_in c xs ≡ true
  in_list c h ne = elim (or_cases (head == c) (is_in c xs) (ring.listed c h)) [
    | inl e ↦ absurd (ne (sym (eqb-true head c e)))
    | inr i ↦ i
  ]

  -- its list has lost c
  pub ring_without : (new : List Node) (c : ℕ) → TakenOut nodes new c → is_in c xs ≡ true → Ring new head place (without c xs)
  ring_without new c t i =
      let ch : c ≢ head = different c head xs i head_not_in in
      record {
        chain =
            chain_without (next_at nodes) (next_at new) (prev_at nodes) (prev_at new) head xs head c t.nexts t.prevs ring.once
            (NoRepeat-push head xs ring.once.1 head_not_in) i ring.chain;
        once = (missing-without head c xs head_not_in, NoRepeat-without c xs ring.once.1);
        placed = λ k j. elim (or_cases (head == k) (is_in k (without c xs)) j) [
          | inl e ↦
              t.places k ∙ place_other k c _ _ (λ s. ch (sym s ∙ sym (eqb-true head k e)))
              ∙ ring.placed k (or_left _ _ e)
          | inr later ↦
              let parts = is_in_from-without k c xs later in
              t.places k ∙ place_other k c _ _ parts.0 ∙ ring.placed k (or_right _ _ parts.1)
        ];
        listed = λ k h.
            let kc : k ≢ c = λ s. cc (sym h ∙ t.places k ∙ place_this k c _ _ s) in
            elim (or_cases (head == k) (is_in k xs) (ring.listed k (sym (t.places k ∙ place_other k c _ _ kc) ∙ h))) [
              | inl e ↦ or_left _ _ e
              | inr later ↦ or_right _ _ (is_in-without k c xs kc ∙ later)
            ];
      }

  -- c came to its back
  pub ring_push : (new : List Node) (c : ℕ) → PutBefore nodes new c head place → place_at nodes c ≡ None → Ring new head place (xs ++ c ∷ [])
  ring_push new c t free =
      let ne : (k : ℕ) → is_in k (head ∷ xs) ≡ true → k ≢ c =
      λ k i e. let h : place_at nodes c ≡ Some place = subst (λ (z : ℕ). place_at nodes z ≡ Some place) e (ring.placed k i) in cc (free, h) in
      let missing : is_in c (head ∷ xs) ≡ false = elim (cases_Bool (is_in c (head ∷ xs))) [
        | inl i ↦ absurd (ne c i refl)
        | inr missed ↦ missed
      ] in
      let hc : head ≢ c = ne head (first_is_in head xs) in
      record {
        chain =
            chain_push (next_at nodes) (next_at new) (prev_at nodes) (prev_at new) head xs head c t.nexts t.prevs ring.once head_not_in
            missing (λ e. hc (sym e)) ring.chain;
        once = (
          is_in-push head c xs ∙ or_from _ _ head_not_in (ne_eqb c head (λ e. hc (sym e))),
          NoRepeat-push c xs ring.once.1 (or_parts _ _ missing).1,
        );
        placed = λ k j. elim (cases_eq k c) [
          | inl e ↦ t.places k ∙ place_this k c _ _ e
          | inr kc ↦
              t.places k ∙ place_other k c _ _ kc ∙ ring.placed k (elim (or_cases (head == k) (is_in k (xs ++ c ∷ [])) j) [
                | inl e ↦ or_left _ _ e
                | inr later ↦ elim (or_cases (is_in k xs) (c == k) (sym (is_in-push k c xs) ∙ later)) [
                  | inl i ↦ or_right _ _ i
                  | inr e ↦ absurd (kc (sym (eqb-true c k e)))
                ]
              ])
        ];
        listed = λ k h. elim (cases_eq k c) [
          | inl e ↦ or_right _ _ (is_in-push k c xs ∙ or_right _ _ (eq-eqb c k (sym e)))
          | inr kc ↦
              elim (or_cases (head == k) (is_in k xs) (ring.listed k (sym (t.places k ∙ place_other k c _ _ kc) ∙ h))) [
                | inl e ↦ or_left _ _ e
                | inr i ↦ or_right _ _ (is_in-push k c xs ∙ or_left _ _ i)
              ]
        ];
      }

  -- a ring stays where no link of its nodes changes
  pub ring_kept : (new : List Node)
      → ((k : ℕ) → is_in k (head ∷ xs) ≡ true → next_at new k ≡ next_at nodes k)
      → ((k : ℕ) → is_in k (head ∷ xs) ≡ true → prev_at new k ≡ prev_at nodes k)
      → ((k : ℕ) → place_at nodes k ≡ Some place → place_at new k ≡ Some place)
      → ((k : ℕ) → place_at new k ≡ Some place → place_at nodes k ≡ Some place)
      → Ring new head place xs
  ring_kept new nexts prevs stays came = record {
    chain =
        keep (next_at nodes) (next_at new) (prev_at nodes) (prev_at new) head xs head nexts
        (λ k i. prevs k (sym (ring_turned head k xs) ∙ i)) ring.chain;
    once = ring.once;
    placed = λ k i. stays k (ring.placed k i);
    listed = λ k h. ring.listed k (came k h);
  }

  -- a node of another place is not of this ring
  apart : (k m : ℕ) (other : Place) → place ≢ other → is_in k (head ∷ xs) ≡ true → place_at nodes m ≡ Some other → k ≢ m
  apart k m other ne i h e =
      let mine : place_at nodes m ≡ Some place = subst (λ (z : ℕ). place_at nodes z ≡ Some place) e (ring.placed k i) in
      ne (cc (mine, h))

  free_apart : (k m : ℕ) → is_in k (head ∷ xs) ≡ true → place_at nodes m ≡ None → k ≢ m
  free_apart k m i h e =
      let mine : place_at nodes m ≡ Some place = subst (λ (z : ℕ). place_at nodes z ≡ Some place) e (ring.placed k i) in
      cc (mine, h)

  -- another list has lost c
  pub ring_besides_out : (new : List Node) (c : ℕ) (other : Place) → TakenOut nodes new c → place ≢ other
      → place_at nodes c ≡ Some other → place_at nodes (prev_at nodes c) ≡ Some other → place_at nodes (next_at nodes c) ≡ Some other
      → Ring new head place (without c xs)
  ring_besides_out new c other t ne here before after =
      let missing : is_in c xs ≡ false = elim (cases_Bool (is_in c xs)) [
        | inl i ↦ absurd (apart c c other ne (or_right _ _ i) here refl)
        | inr missed ↦ missed
      ] in
      subst (λ (ys : List ℕ). Ring new head place ys) (sym (without_none c xs missing))
      (ring_kept new
      (λ k i. t.nexts k (apart k c other ne i here) ∙ number_other k _ _ _ (apart k _ other ne i before))
      (λ k i. t.prevs k (apart k c other ne i here) ∙ number_other k _ _ _ (apart k _ other ne i after))
      (λ k h. t.places k ∙ place_other k c _ _ (apart k c other ne (ring.listed k h) here) ∙ h)
      (λ k h.
      let kc : k ≢ c = λ s. cc (sym h ∙ t.places k ∙ place_this k c _ _ s) in
      sym (t.places k ∙ place_other k c _ _ kc) ∙ h))

  -- c came to the back of another list
  pub ring_besides_in : (new : List Node) (c h : ℕ) (other : Place) → PutBefore nodes new c h other → place ≢ other
      → place_at nodes c ≡ None → place_at nodes h ≡ Some other → place_at nodes (prev_at nodes h) ≡ Some other
      → Ring new head place xs
  ring_besides_in new c h other t ne free at_head at_last = ring_kept new
      (λ k i. t.nexts k ∙ number_other k c _ _ (free_apart k c i free) ∙ number_other k _ _ _ (apart k _ other ne i at_last))
      (λ k i. t.prevs k ∙ number_other k h _ _ (apart k h other ne i at_head) ∙ number_other k c _ _ (free_apart k c i free))
      (λ k e. t.places k ∙ place_other k c _ _ (free_apart k c (ring.listed k e) free) ∙ e)
      (λ k e.
      let kc : k ≢ c = λ s. ne (cc (sym e ∙ t.places k ∙ place_this k c _ _ s)) in
      sym (t.places k ∙ place_other k c _ _ kc) ∙ e)
