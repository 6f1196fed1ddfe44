-- What a core did by one side is an event.
use Rattle.std.proofs.Common.{ℕ, zero, suc, ◌≡◌, ◌≢◌, ◌==◌, if◌then◌else◌, eq-eqb, ne_eqb, List, [], ◌∷◌, ◌++◌, set, slice_get, slice_set, Some, ap, subst, ◌∙◌, sym, refl}
use Rattle.std.specs.List.{AllByRecursion}
use mathlib.Core.Logic.{dite}
use native.Mathlib.Decide.{ℕ_discrete}
use Rattle.fl_history_rings.specs.declared.board.Action.{Action}
use Rattle.fl_history_rings.specs.declared.board.Entry.{Entry}
use Rattle.fl_history_rings.specs.Rings.{entry}
use Rattle.fl_history_rings.specs.Rule.{gather, one_action}
use Rattle.fl_history_rings.specs.Cores.{TheCore}
use Rattle.fl_history_rings.proofs.Logs.{then_is, else_is}
use Rattle.fl_history_sides.specs.States.{TheHistorySide, numbers_of}
use Rattle.fl_history_sides.specs.Core.{IsStepBy, AreSidesOf}
use Rattle.fl_history_sides.proofs.Prefixes.{Numbered, numbered}
use Rattle.fl_history_events.specs.Events.{known_to_stand}
use Rattle.fl_history_events.proofs.Cutting.{cons_none}
use Rattle.fl_history_entries.specs.Entries.{DidAnEvent}
use Rattle.fl_history_entries.proofs.Acting.{entries, piece_here, piece_else, FollowActs, acts_are_event}
use Rattle.fl_history_entries.proofs.Growing.{Grew, grew_not, GrewAt, DidMore, did_more}

-- ---- places of a list

pub set_here : {A : Type 0} (xs : List A) (n : ℕ) (x y : A) → slice_get xs n ≡ Some x → slice_get (set xs n y) n ≡ Some y
set_here [] n x y at = absurd (cc)
set_here (z ∷ zs) zero x y at = refl
set_here (z ∷ zs) (suc n) x y at = set_here zs n x y at

pub set_else : {A : Type 0} (xs : List A) (n i : ℕ) (y : A) → i ≢ n → slice_get (set xs n y) i ≡ slice_get xs i
set_else [] n i y ne = refl
set_else (z ∷ zs) zero zero y ne = absurd (ne refl)
set_else (z ∷ zs) zero (suc i) y ne = refl
set_else (z ∷ zs) (suc n) zero y ne = refl
set_else (z ∷ zs) (suc n) (suc i) y ne = set_else zs n i y (λ e. ne (ap suc e))

pub one_there : {A : Type 0} (xs : List A) (i : ℕ) (x y : A) → slice_get xs i ≡ Some x → slice_get xs i ≡ Some y → x ≡ y
one_there xs i x y a b = cc

pub numbers_set : (ss : List TheHistorySide) (n : ℕ) (p q : TheHistorySide) → slice_get ss n ≡ Some p → q.number ≡ p.number → numbers_of (set ss n q) ≡ numbers_of ss
numbers_set [] n p q at same = refl
numbers_set (z ∷ zs) zero p q at same =
    let here : z ≡ p = cc in
    ap (λ (b : ℕ). b ∷ numbers_of zs) (same ∙ ap (λ (x : TheHistorySide). x.number) (sym here))
numbers_set (z ∷ zs) (suc n) p q at same = ap (λ (l : List ℕ). z.number ∷ l) (numbers_set zs n p q at same)

pub number_at : (ss : List TheHistorySide) (i : ℕ) (p : TheHistorySide) → slice_get ss i ≡ Some p → slice_get (numbers_of ss) i ≡ Some p.number
number_at [] i p at = absurd (cc)
number_at (x ∷ xs) zero p at = let same : x ≡ p = cc in ap (λ (y : TheHistorySide). Some y.number) same
number_at (x ∷ xs) (suc i) p at = number_at xs i p at

-- ---- steps by one side alone

only_side : (k : ℕ) (numbers : List ℕ) (s : ℕ) (rest : List Entry) → AllByRecursion (IsStepBy k numbers) rest
    → ((i m : ℕ) → slice_get numbers i ≡ Some m → m ≢ s → (let none : List Action = [] in gather one_action m rest ≡ none))
    → rest ≡ entries k s (gather one_action s rest)
only_side k numbers s [] all_so others = refl
only_side k numbers s (e ∷ es) all_so others =
    dite (ℕ_discrete e.side s)
    (λ here.
    let less : (i m : ℕ) → slice_get numbers i ≡ Some m → m ≢ s → (let none : List Action = [] in gather one_action m es ≡ none) =
    λ i m at ne. sym (piece_else m e es (λ d. ne (sym d ∙ here))) ∙ others i m at ne in
    let same : e ≡ entry k s e.action =
    ap (λ (x : ℕ). entry x e.side e.action) all_so.0.0 ∙ ap (λ (x : ℕ). entry k x e.action) here in
    ap (λ (x : Entry). x ∷ es) same
    ∙ ap (λ (l : List Entry). entry k s e.action ∷ l) (only_side k numbers s es all_so.1 less)
    ∙ ap (entries k s) (sym (piece_here s e es here)))
    (λ ne.
    absurd (cons_none e.action (gather one_action e.side es) (sym (piece_here e.side e es refl) ∙ others all_so.0.1.0 e.side all_so.0.1.1 ne)))

module _ (c d : TheCore) (ss : List TheHistorySide) (n : ℕ) (p q : TheHistorySide) (h : AreSidesOf c ss) (k : AreSidesOf d (slice_set ss n q))
    (at : slice_get ss n ≡ Some p) (did : List Action) (grew : Grew did p q) where
  abbrev acts : ℕ → List Action
  acts i = if i == n then did else []

  abbrev nothing : List Action
  nothing = []

  acts_here : (i : ℕ) → i ≡ n → acts i ≡ did
  acts_here i is = then_is (i == n) did nothing (eq-eqb i n is)

  acts_else : (i : ℕ) → i ≢ n → acts i ≡ nothing
  acts_else i ne = else_is (i == n) did nothing (ne_eqb i n ne)

  grew_each : (i : ℕ) (x : TheHistorySide) → slice_get ss i ≡ Some x → GrewAt (acts i) x (set ss n q) i
  grew_each i x there =
      dite (ℕ_discrete i n)
      (λ is.
      let same : p ≡ x = one_there ss i p x (ap (slice_get ss) is ∙ at) there in
      record {
        side = q;
        there = subst (λ (j : ℕ). slice_get (set ss n q) j ≡ Some q) (sym is) (set_here ss n p q at);
        grew = subst (λ (z : TheHistorySide). Grew (acts i) z q) same (subst (λ (l : List Action). Grew l p q) (sym (acts_here i is)) grew);
      })
      (λ ne.
      record {
        side = x;
        there = set_else ss n i q ne ∙ there;
        grew = subst (λ (l : List Action). Grew l x x) (sym (acts_else i ne)) (grew_not x);
      })

  more : DidMore c d ss (set ss n q) h k (numbers_set ss n p q at grew.number) acts grew_each
  more = did_more c d ss (set ss n q) h k (numbers_set ss n p q at grew.number) acts grew_each

  rest_is : more.rest ≡ entries d.number p.number did
  rest_is =
      only_side d.number (numbers_of ss) p.number more.rest more.by_core
      (λ i m there ne.
      let x : Numbered ss i m = numbered ss i m there in
      let away : i ≢ n =
      λ is. ne (sym x.number ∙ ap (λ (z : TheHistorySide). z.number) (one_there ss i x.side p x.there (ap (slice_get ss) is ∙ at))) in
      subst (λ (j : ℕ). gather one_action j more.rest ≡ nothing) x.number (more.by_side i x.side x.there ∙ acts_else i away))
      ∙ ap (entries d.number p.number) (more.by_side n p at ∙ acts_here n refl)

  pub by_one_side : FollowActs (known_to_stand p.number c.steps) [] did → DidAnEvent c d
  by_one_side follow = record {
    steps = entries d.number p.number did;
    did = more.steps_are ∙ ap (λ (l : List Entry). c.steps ++ l) rest_is;
    is_event = acts_are_event d.number p.number c.steps did follow;
  }
