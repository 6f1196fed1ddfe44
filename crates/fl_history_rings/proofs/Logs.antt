-- A history with one step more, what it says of a side, and lists.
use Rattle.std.proofs.Common.{ℕ, zero, suc, ◌≡◌, ◌≢◌, ◌<◌, ◌==◌, Bool, true, false, if◌then◌else◌, eq-eqb, ne_eqb, List, [], ◌∷◌, ◌++◌, length, replicate, get_or, ap, subst, ◌∙◌, sym, refl, arith, append_assoc, append-nil}
use Rattle.std.proofs.lemmas.Bool.{false≢true}
use mathlib.Core.Logic.{dite}
use mathlib.Core.Option.{some, some-injective, some-ne-none}
use native.Mathlib.Decide.{ℕ_discrete}
use lib.ListN.{get_elem?}
use Rattle.fl_base.specs.Control.{told_of}
use Rattle.fl_ring.specs.Counts.{count_from}
use Rattle.fl_history_rings.specs.declared.board.Action.{Action}
use Rattle.fl_history_rings.specs.declared.board.Entry.{Entry}
use Rattle.fl_history_rings.specs.Rings.{Runs, steps_of}
use Rattle.fl_history_rings.specs.Rule.{gather, known_from}

-- ---- lists

-- where something stands
pub within : {A : Type 0} (l : List A) (i : ℕ) (a : A) → get_elem? l i ≡ some a → i < length l
within [] i a e = absurd (some-ne-none a (sym e))
within (x ∷ xs) zero a e = omega arith
within (x ∷ xs) (suc i) a e = let rest = within xs i a e in omega (arith, rest)

pub there : {A : Type 0} (l : List A) (i : ℕ) → i < length l → (a : A) × (get_elem? l i ≡ some a)
there [] i h = absurd (omega arith)
there (x ∷ xs) zero h = (x, refl)
there (x ∷ xs) (suc i) h = there xs i (omega arith)

pub same_there : {A : Type 0} (l : List A) (i : ℕ) (a b : A) → get_elem? l i ≡ some a → get_elem? l i ≡ some b → a ≡ b
same_there l i a b p q = some-injective a b (sym p ∙ q)

pub all_alike : {A : Type 0} (count i : ℕ) (x a : A) → get_elem? (replicate count x) i ≡ some a → x ≡ a
all_alike zero i x a e = absurd (some-ne-none a (sym e))
all_alike (suc count) zero x a e = some-injective x a e
all_alike (suc count) (suc i) x a e = all_alike count i x a e

-- what is read there
pub read_there : {A : Type 0} (l : List A) (i : ℕ) (a d : A) → get_elem? l i ≡ some a → get_or l i d ≡ a
read_there [] i a d e = absurd (some-ne-none a (sym e))
read_there (x ∷ xs) zero a d e = some-injective x a e
read_there (x ∷ xs) (suc i) a d e = read_there xs i a d e

-- ---- a choice by a test

pub then_is : {A : Type 0} (b : Bool) (x y : A) → b ≡ true → (if b then x else y) ≡ x
then_is true x y is = refl
then_is false x y is = absurd (false≢true is)

pub else_is : {A : Type 0} (b : Bool) (x y : A) → b ≡ false → (if b then x else y) ≡ y
else_is true x y is = absurd (false≢true (sym is))
else_is false x y is = refl

-- ---- histories

cons_if : (b : Bool) (x e : Entry) (xs ys : List Entry) → ys ≡ xs ++ e ∷ [] → (if b then x ∷ ys else ys) ≡ (if b then x ∷ xs else xs) ++ e ∷ []
cons_if true x e xs ys is = ap (λ (zs : List Entry). x ∷ zs) is
cons_if false x e xs ys is = is

first_if : (b : Bool) (e : Entry) → b ≡ true → (if b then e ∷ [] else []) ≡ e ∷ []
first_if true e is = refl
first_if false e is = absurd (false≢true is)

none_if : (b : Bool) (e : Entry) → b ≡ false → (let none : List Entry = [] in (if b then e ∷ [] else []) ≡ none)
none_if true e is = absurd (false≢true (sym is))
none_if false e is = refl

-- a step more is one more of its core's, and none of another's
pub steps_more : (n : ℕ) (es : List Entry) (e : Entry) → e.core ≡ n → steps_of n (es ++ e ∷ []) ≡ steps_of n es ++ e ∷ []
steps_more n [] e is = first_if (e.core == n) e (eq-eqb e.core n is)
steps_more n (x ∷ es) e is = cons_if (x.core == n) x e (steps_of n es) (steps_of n (es ++ e ∷ [])) (steps_more n es e is)

pub steps_same : (n : ℕ) (es : List Entry) (e : Entry) → e.core ≢ n → steps_of n (es ++ e ∷ []) ≡ steps_of n es
steps_same n [] e ne = none_if (e.core == n) e (ne_eqb e.core n ne)
steps_same n (x ∷ es) e ne = ap (λ (zs : List Entry). if x.core == n then x ∷ zs else zs) (steps_same n es e ne)

-- a step behind others
pub runs_more : {S E : Type 0} (R : S → E → S → Type 0) (before : S) (es : List E) (between after : S) (e : E) → Runs R before es between → R between e after → Runs R before (es ++ e ∷ []) after
runs_more {S} R before [] between after e same step = (after, subst (λ (s : S). R s e after) (sym same) step, refl)
runs_more R before (x ∷ es) between after e run step = (run.0, run.1, runs_more R run.0 es between after e run.2 step)

-- ---- what a history says of a side

-- what a step adds
abbrev piece : {A : Type 0} → (Action → List A) → ℕ → Entry → List A
piece f k e = if e.side == k then f e.action else []

gather_more : {A : Type 0} (f : Action → List A) (k : ℕ) (es : List Entry) (e : Entry) → gather f k (es ++ e ∷ []) ≡ gather f k es ++ piece f k e
gather_more f k [] e = append-nil (piece f k e)
gather_more {A} f k (x ∷ es) e =
    ap (λ (ys : List A). piece f k x ++ ys) (gather_more f k es e) ∙ sym (append_assoc (piece f k x) (gather f k es) (piece f k e))

pub gather_here : {A : Type 0} (f : Action → List A) (k : ℕ) (es : List Entry) (e : Entry) → e.side ≡ k → gather f k (es ++ e ∷ []) ≡ gather f k es ++ f e.action
gather_here {A} f k es e is =
    let none : List A = [] in
    gather_more f k es e ∙ ap (λ (ys : List A). gather f k es ++ ys) (then_is (e.side == k) (f e.action) none (eq-eqb e.side k is))

pub gather_else : {A : Type 0} (f : Action → List A) (k : ℕ) (es : List Entry) (e : Entry) → e.side ≢ k → gather f k (es ++ e ∷ []) ≡ gather f k es
gather_else {A} f k es e ne =
    let none : List A = [] in
    gather_more f k es e ∙ (ap (λ (ys : List A). gather f k es ++ ys) (else_is (e.side == k) (f e.action) none (ne_eqb e.side k ne)) ∙ append-nil (gather f k es))

pub not_gathered : {A : Type 0} (f : Action → List A) (k : ℕ) (es : List Entry) (e : Entry) → (let none : List A = [] in f e.action ≡ none) → gather f k (es ++ e ∷ []) ≡ gather f k es
not_gathered {A} f k es e none =
    dite (ℕ_discrete e.side k)
    (λ is. gather_here f k es e is ∙ (ap (λ (ys : List A). gather f k es ++ ys) none ∙ append-nil (gather f k es)))
    (λ ne. gather_else f k es e ne)

-- one control word more is found
pub known_push : (known : ℕ) (xs : List ℕ) (x : ℕ) → known_from known (xs ++ x ∷ []) ≡ count_from (known_from known xs) (told_of x)
known_push known [] x = refl
known_push known (y ∷ ys) x = known_push (count_from known (told_of y)) ys x
