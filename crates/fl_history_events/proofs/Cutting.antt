-- What is joined of pieces, and its last step; the events of a core in an order of events, and the last of them.
use Rattle.std.proofs.Common.{ℕ, zero, ◌≡◌, ◌≢◌, ◌⊎◌, inl, inr, ⊎_elim, ◌==◌, if◌then◌else◌, eq-eqb, ne_eqb, List, [], ◌∷◌, ◌++◌, length, get_or, ap, subst, ◌∙◌, sym, refl, append_assoc, append-nil}
use mathlib.Core.Logic.{dite}
use mathlib.Core.Option.{some}
use native.Mathlib.Decide.{ℕ_discrete}
use lib.ListN.{get_elem?}
use Rattle.fl_history_rings.specs.declared.board.Action.{Action}
use Rattle.fl_history_rings.specs.declared.board.Entry.{Entry}
use Rattle.fl_history_rings.specs.Rule.{gather}
use Rattle.fl_history_rings.proofs.Logs.{then_is, else_is}
use Rattle.fl_history_events.specs.Events.{MayFollow, FollowAll, joined, CoreEvent, event, all_steps, events_of}

-- ---- lists

module _ {A : Type 0} where
  -- without the first
  behind : List A → List A
  behind [] = []
  behind (x ∷ xs) = xs

  pub cons_none : (x : A) (xs : List A) → (let none : List A = [] in x ∷ xs ≡ none) → ⊥
  cons_none x xs is = cc

  pub snoc_none : (xs : List A) (x : A) → (let none : List A = [] in none ≡ xs ++ x ∷ []) → ⊥
  snoc_none [] x is = let none : List A = [] in cons_none x none (sym is)
  snoc_none (y ∷ ys) x is = cons_none y (ys ++ x ∷ []) (sym is)

  pub cons_same : (x y : A) (xs ys : List A) → x ∷ xs ≡ y ∷ ys → (x ≡ y) × (xs ≡ ys)
  unfolding behind
  cons_same x y xs ys is = (ap (λ (l : List A). get_or l zero x) is, ap (λ (l : List A). behind l) is)

  pub snoc_same : (xs ys : List A) (x y : A) → xs ++ x ∷ [] ≡ ys ++ y ∷ [] → (xs ≡ ys) × (x ≡ y)
  snoc_same [] [] x y is = (refl, ap (λ (l : List A). get_or l zero x) is)
  snoc_same [] (b ∷ ys) x y is = let none : List A = [] in absurd (snoc_none ys y (cons_same x b none (ys ++ y ∷ []) is).1)
  snoc_same (a ∷ xs) [] x y is = let none : List A = [] in absurd (snoc_none xs x (sym (cons_same a y (xs ++ x ∷ []) none is).1))
  snoc_same (a ∷ xs) (b ∷ ys) x y is =
      let parts = cons_same a b (xs ++ x ∷ []) (ys ++ y ∷ []) is in
      let rest = snoc_same xs ys x y parts.1 in
      (ap (λ (z : A). z ∷ xs) parts.0 ∙ ap (λ (l : List A). b ∷ l) rest.0, rest.1)

  -- a list is empty, or has a last
  pub last_or_none : (xs : List A) → (let none : List A = [] in xs ≡ none) ⊎ ((ys : List A) × (y : A) × (xs ≡ ys ++ y ∷ []))
  last_or_none [] = inl refl
  last_or_none (x ∷ xs) =
      ⊎_elim
      (λ is. let none : List A = [] in inr (none, x, ap (λ (l : List A). x ∷ l) is))
      (λ parts. inr (x ∷ parts.0, parts.1, ap (λ (l : List A). x ∷ l) parts.2))
      (last_or_none xs)

  pub nothing_joined : (xs ys : List A) → (let none : List A = [] in xs ++ ys ≡ none) → (let none : List A = [] in (xs ≡ none) × (ys ≡ none))
  nothing_joined [] ys is = (refl, is)
  nothing_joined (x ∷ xs) ys is = absurd (cons_none x (xs ++ ys) is)

  pub at_middle : (xs : List A) (y : A) (ys : List A) → get_elem? (xs ++ y ∷ ys) (length xs) ≡ some y
  at_middle [] y ys = refl
  at_middle (x ∷ xs) y ys = at_middle xs y ys

-- ---- an event that is begun

-- of steps that follow one another the first do, and the last follows them
pub follow_cut : (past before xs : List Entry) (e : Entry) → FollowAll past before (xs ++ e ∷ []) → FollowAll past before xs × MayFollow past (before ++ xs) e
follow_cut past before [] e follow = (tt, subst (λ (l : List Entry). MayFollow past l e) (sym (append-nil before)) follow.0)
follow_cut past before (x ∷ xs) e follow =
    let rest = follow_cut past (before ++ x ∷ []) xs e follow.1 in
    ((follow.0, rest.0), subst (λ (l : List Entry). MayFollow past l e) (append_assoc before (x ∷ []) xs) rest.1)

-- ---- of steps those by one side

pub gather_join : {A : Type 0} (f : Action → List A) (s : ℕ) (xs ys : List Entry) → gather f s (xs ++ ys) ≡ gather f s xs ++ gather f s ys
gather_join f s [] ys = refl
gather_join {A} f s (x ∷ xs) ys =
    let here : List A = if x.side == s then f x.action else [] in
    ap (λ (l : List A). here ++ l) (gather_join f s xs ys) ∙ sym (append_assoc here (gather f s xs) (gather f s ys))

-- ---- the last step of pieces

-- these pieces come to these steps and one more: the last piece that has steps ends with it
pub record LastStep (pieces : List (List Entry)) (steps : List Entry) (e : Entry) : Type 0 where
  pub before : List (List Entry)
  pub last : List Entry
  pub behind : List (List Entry)
  pub pieces_are : pieces ≡ before ++ (last ++ e ∷ []) ∷ behind
  pub without : joined (before ++ last ∷ []) ≡ steps
  pub none : let none : List Entry = [] in joined behind ≡ none

last_in_first : (x : List Entry) (xs : List (List Entry)) (steps : List Entry) (e : Entry) → (let none : List Entry = [] in joined xs ≡ none)
    → x ++ joined xs ≡ steps ++ e ∷ [] → LastStep (x ∷ xs) steps e
last_in_first x xs steps e none is = record {
  before = [];
  last = steps;
  behind = xs;
  pieces_are = ap (λ (l : List Entry). l ∷ xs) (sym (append-nil x) ∙ ap (λ (l : List Entry). x ++ l) (sym none) ∙ is);
  without = append-nil steps;
  none = none;
}

last_in_rest : (x : List Entry) (xs : List (List Entry)) (steps ys : List Entry) (e : Entry) → x ++ ys ≡ steps → LastStep xs ys e → LastStep (x ∷ xs) steps e
last_in_rest x xs steps ys e is last = record {
  before = x ∷ last.before;
  last = last.last;
  behind = last.behind;
  pieces_are = ap (λ (l : List (List Entry)). x ∷ l) last.pieces_are;
  without = ap (λ (l : List Entry). x ++ l) last.without ∙ is;
  none = last.none;
}

last_behind : (x : List Entry) (xs : List (List Entry)) (steps ys : List Entry) (y e : Entry) → joined xs ≡ ys ++ y ∷ [] → x ++ joined xs ≡ steps ++ e ∷ []
    → (joined xs ≡ ys ++ e ∷ [] → LastStep xs ys e) → LastStep (x ∷ xs) steps e
last_behind x xs steps ys y e ends_so is find =
    let both : x ++ (ys ++ y ∷ []) ≡ steps ++ e ∷ [] = ap (λ (l : List Entry). x ++ l) (sym ends_so) ∙ is in
    let same = snoc_same (x ++ ys) steps y e (append_assoc x ys (y ∷ []) ∙ both) in
    last_in_rest x xs steps ys e same.0 (find (ends_so ∙ ap (λ (z : Entry). ys ++ z ∷ []) same.1))

pub last_step : (pieces : List (List Entry)) (steps : List Entry) (e : Entry) → joined pieces ≡ steps ++ e ∷ [] → LastStep pieces steps e
last_step [] steps e is = absurd (snoc_none steps e is)
last_step (x ∷ xs) steps e is =
    ⊎_elim
    (λ none. last_in_first x xs steps e none is)
    (λ parts. last_behind x xs steps parts.0 parts.1 e parts.2 is (last_step xs parts.0 e))
    (last_or_none (joined xs))

-- ---- the events of a core in an order

pub events_here : (k : ℕ) (d : CoreEvent) (ds : List CoreEvent) → d.core ≡ k → events_of k (d ∷ ds) ≡ d.steps ∷ events_of k ds
events_here k d ds is = then_is (d.core == k) (d.steps ∷ events_of k ds) (events_of k ds) (eq-eqb d.core k is)

pub events_else : (k : ℕ) (d : CoreEvent) (ds : List CoreEvent) → d.core ≢ k → events_of k (d ∷ ds) ≡ events_of k ds
events_else k d ds ne = else_is (d.core == k) (d.steps ∷ events_of k ds) (events_of k ds) (ne_eqb d.core k ne)

pub events_both : (k : ℕ) (xs ys : List CoreEvent) → events_of k (xs ++ ys) ≡ events_of k xs ++ events_of k ys
events_both k [] ys = refl
events_both k (d ∷ xs) ys =
    dite (ℕ_discrete d.core k)
    (λ here.
    events_here k d (xs ++ ys) here
    ∙ ap (λ (l : List (List Entry)). d.steps ∷ l) (events_both k xs ys)
    ∙ ap (λ (l : List (List Entry)). l ++ events_of k ys) (sym (events_here k d xs here)))
    (λ ne.
    events_else k d (xs ++ ys) ne
    ∙ events_both k xs ys
    ∙ ap (λ (l : List (List Entry)). l ++ events_of k ys) (sym (events_else k d xs ne)))

pub steps_both : (xs ys : List CoreEvent) → all_steps (xs ++ ys) ≡ all_steps xs ++ all_steps ys
steps_both [] ys = refl
steps_both (d ∷ xs) ys =
    ap (λ (l : List Entry). d.steps ++ l) (steps_both xs ys) ∙ sym (append_assoc d.steps (all_steps xs) (all_steps ys))

-- the last event of a core
pub record LastEvent (k : ℕ) (order : List CoreEvent) (rest : List (List Entry)) (last : List Entry) : Type 0 where
  pub before : List CoreEvent
  pub behind : List CoreEvent
  pub order_is : order ≡ before ++ event k last ∷ behind
  pub rest_is : events_of k before ≡ rest
  pub none_behind : let none : List (List Entry) = [] in events_of k behind ≡ none

last_first : (k : ℕ) (d : CoreEvent) (ds : List CoreEvent) (last : List Entry) → d.core ≡ k → d.steps ∷ events_of k ds ≡ last ∷ [] → LastEvent k (d ∷ ds) [] last
last_first k d ds last here is =
    let none : List (List Entry) = [] in
    let parts = cons_same d.steps last (events_of k ds) none is in
    record {
      before = [];
      behind = ds;
      order_is = ap (λ (c : ℕ). event c d.steps ∷ ds) here ∙ ap (λ (l : List Entry). event k l ∷ ds) parts.0;
      rest_is = refl;
      none_behind = parts.1;
    }

last_later : (k : ℕ) (d : CoreEvent) (ds : List CoreEvent) (r : List Entry) (rest : List (List Entry)) (last : List Entry) → d.core ≡ k → d.steps ≡ r
    → LastEvent k ds rest last → LastEvent k (d ∷ ds) (r ∷ rest) last
last_later k d ds r rest last here is found = record {
  before = d ∷ found.before;
  behind = found.behind;
  order_is = ap (λ (l : List CoreEvent). d ∷ l) found.order_is;
  rest_is =
      events_here k d found.before here ∙ ap (λ (l : List Entry). l ∷ events_of k found.before) is
      ∙ ap (λ (l : List (List Entry)). r ∷ l) found.rest_is;
  none_behind = found.none_behind;
}

last_else : (k : ℕ) (d : CoreEvent) (ds : List CoreEvent) (rest : List (List Entry)) (last : List Entry) → d.core ≢ k → LastEvent k ds rest last → LastEvent k (d ∷ ds) rest last
last_else k d ds rest last ne found = record {
  before = d ∷ found.before;
  behind = found.behind;
  order_is = ap (λ (l : List CoreEvent). d ∷ l) found.order_is;
  rest_is = events_else k d found.before ne ∙ found.rest_is;
  none_behind = found.none_behind;
}

last_here : (k : ℕ) (d : CoreEvent) (ds : List CoreEvent) (rest : List (List Entry)) (last : List Entry) → d.core ≡ k
    → ((less : List (List Entry)) → events_of k ds ≡ less ++ last ∷ [] → LastEvent k ds less last)
    → d.steps ∷ events_of k ds ≡ rest ++ last ∷ [] → LastEvent k (d ∷ ds) rest last
last_here k d ds [] last here find is = last_first k d ds last here is
last_here k d ds (r ∷ rest) last here find is =
    let parts = cons_same d.steps r (events_of k ds) (rest ++ last ∷ []) is in
    last_later k d ds r rest last here parts.0 (find rest parts.1)

pub last_event : (k : ℕ) (order : List CoreEvent) (rest : List (List Entry)) (last : List Entry) → events_of k order ≡ rest ++ last ∷ [] → LastEvent k order rest last
last_event k [] rest last is = absurd (snoc_none rest last is)
last_event k (d ∷ ds) rest last is =
    dite (ℕ_discrete d.core k)
    (λ here. last_here k d ds rest last here (λ less of_less. last_event k ds less last of_less) (sym (events_here k d ds here) ∙ is))
    (λ ne. last_else k d ds rest last ne (last_event k ds rest last (sym (events_else k d ds ne) ∙ is)))

-- ---- events of one core

abbrev pub each_of : ℕ → List (List Entry) → List CoreEvent
each_of k [] = []
each_of k (steps ∷ more) = event k steps ∷ each_of k more

pub each_own : (k : ℕ) (pieces : List (List Entry)) → events_of k (each_of k pieces) ≡ pieces
each_own k [] = refl
each_own k (steps ∷ more) =
    events_here k (event k steps) (each_of k more) refl ∙ ap (λ (l : List (List Entry)). steps ∷ l) (each_own k more)

pub each_else : (k j : ℕ) (pieces : List (List Entry)) → k ≢ j → (let none : List (List Entry) = [] in events_of j (each_of k pieces) ≡ none)
each_else k j [] ne = refl
each_else k j (steps ∷ more) ne = events_else j (event k steps) (each_of k more) ne ∙ each_else k j more ne

pub each_steps : (k : ℕ) (pieces : List (List Entry)) → all_steps (each_of k pieces) ≡ joined pieces
each_steps k [] = refl
each_steps k (steps ∷ more) = ap (λ (l : List Entry). steps ++ l) (each_steps k more)
