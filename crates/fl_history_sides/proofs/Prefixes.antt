-- What all sides of a core tell of its steps.
use Rattle.std.proofs.Common.{ℕ, zero, suc, ◌≡◌, ◌≢◌, ◌<◌, ◌≤◌, ◌+◌, ◌==◌, ◌||◌, ◌⊎◌, inl, inr, Bool, true, false, List, [], ◌∷◌, ◌++◌, length, slice_get, Some, ap, ◌∙◌, sym, refl, arith, length-append, append-nil, append_assoc}
use Rattle.std.proofs.lemmas.Bool.{false≢true}
use Rattle.std.specs.List.{AllByRecursion}
use Rattle.fl_history_rings.specs.declared.board.Action.{Action}
use Rattle.fl_history_rings.specs.declared.board.Entry.{Entry}
use Rattle.fl_history_rings.specs.Rings.{entry}
use Rattle.fl_history_rings.specs.Cores.{TheCore, noting}
use Rattle.fl_history_rings.proofs.Logs.{then_is, else_is}
use Rattle.fl_history_sides.specs.States.{TheHistorySide, acts_in, until_last, numbers_of}
use Rattle.fl_history_sides.specs.Noted.{noting_all}
use Rattle.fl_history_sides.proofs.Until.{until_else, since_of}

-- ---- lists

pub record EndsWith {A : Type 0} (xs : List A) : Type 0 where
  pub before : List A
  pub last : A
  pub is : xs ≡ before ++ last ∷ []

pub last_of : {A : Type 0} (xs : List A) → (xs ≡ []) ⊎ EndsWith xs
last_of [] = inl refl
last_of {A} (x ∷ xs) = by (last_of xs)
  where
    by : (xs ≡ []) ⊎ EndsWith xs → (x ∷ xs ≡ []) ⊎ EndsWith (x ∷ xs)
    by (inl none) = inr (record { before = []; last = x; is = ap (λ (l : List A). x ∷ l) none })
    by (inr some) = inr (record { before = x ∷ some.before; last = some.last; is = ap (λ (l : List A). x ∷ l) some.is })

-- one list goes on as the other
abbrev pub Begins : {A : Type 0} → List A → List A → Type 0
Begins {A} xs ys = (more : List A) × (ys ≡ xs ++ more)

no_more : {A : Type 0} (more : List A) → length more ≡ 0 → (let none : List A = [] in more ≡ none)
no_more [] none = refl
no_more (x ∷ xs) none = absurd (omega (arith, none))

pub both_begin : {A : Type 0} (xs ys : List A) → Begins xs ys → Begins ys xs → xs ≡ ys
both_begin {A} xs ys (more, is) (again, back) =
    let long : length ys ≡ length xs + length more = ap length is ∙ length-append xs more in
    let short : length xs ≡ length ys + length again = ap length back ∙ length-append ys again in
    let none : (let nothing : List A = [] in more ≡ nothing) = no_more more (omega (arith, long, short)) in
    sym (is ∙ ap (λ (l : List A). xs ++ l) none ∙ append-nil xs)

pub all_before : {A : Type 0} (P : A → Type 0) (xs ys : List A) → AllByRecursion P (xs ++ ys) → AllByRecursion P xs
all_before P [] ys all = tt
all_before P (x ∷ xs) ys all = (all.0, all_before P xs ys all.1)

pub all_last : {A : Type 0} (P : A → Type 0) (xs : List A) (x : A) → AllByRecursion P (xs ++ x ∷ []) → P x
all_last P [] x all = all.0
all_last P (y ∷ xs) x all = all_last P xs x all.1

-- ---- steps up to the last by a side

pub begins_until : (s : ℕ) (es : List Entry) → Begins (until_last s es) es
begins_until s es = let t = since_of s es in (t.since, t.all)

-- no side's part gets shorter as the core goes on
acts_more : (s : ℕ) (xs ys : List Entry) → acts_in s xs ≡ true → acts_in s (xs ++ ys) ≡ true
acts_more s [] ys is = absurd (false≢true is)
acts_more s (x ∷ xs) ys is = by (x.side == s) (acts_in s xs) (acts_in s (xs ++ ys)) is (acts_more s xs ys)
  where
    by : (a b c : Bool) → (a || b) ≡ true → (b ≡ true → c ≡ true) → (a || c) ≡ true
    by true b c is more = refl
    by false b c is more = more is

pub until_grows : (s : ℕ) (xs ys : List Entry) → length (until_last s xs) ≤ length (until_last s (xs ++ ys))
until_grows s [] ys = omega arith
until_grows s (x ∷ xs) ys = by (acts_in s (x ∷ xs)) refl (until_grows s xs ys)
  where
    none : List Entry
    none = []

    by : (b : Bool) → acts_in s (x ∷ xs) ≡ b → length (until_last s xs) ≤ length (until_last s (xs ++ ys)) → length (until_last s (x ∷ xs)) ≤ length (until_last s (x ∷ (xs ++ ys)))
    by true is less =
        let one : length (until_last s (x ∷ xs)) ≡ length (x ∷ until_last s xs) = ap length (then_is (acts_in s (x ∷ xs)) (x ∷ until_last s xs) none is) in
        let two : length (until_last s (x ∷ (xs ++ ys))) ≡ length (x ∷ until_last s (xs ++ ys)) = ap length (then_is (acts_in s (x ∷ (xs ++ ys))) (x ∷ until_last s (xs ++ ys)) none (acts_more s (x ∷ xs) ys is)) in
        omega (arith, less, one, two)
    by false is less =
        let one : length (until_last s (x ∷ xs)) ≡ 0 = ap length (else_is (acts_in s (x ∷ xs)) (x ∷ until_last s xs) none is) in
        omega (arith, one)

-- ---- a core that did more by one side

pub until_still : (c : TheCore) (s m : ℕ) (did : List Action) → s ≢ m → until_last m (noting_all c s did).steps ≡ until_last m c.steps
until_still c s m [] ne = refl
until_still c s m (d ∷ did) ne = until_still (noting c s d) s m did ne ∙ until_else m c.steps (entry c.number s d) ne

pub noting_grows : (c : TheCore) (s : ℕ) (did : List Action) → Begins c.steps (noting_all c s did).steps
noting_grows c s [] = ([], sym (append-nil c.steps))
noting_grows c s (d ∷ did) =
    let rest = noting_grows (noting c s d) s did in
    (entry c.number s d ∷ rest.0, rest.1 ∙ append_assoc c.steps (entry c.number s d ∷ []) rest.0)

pub noting_longer : (c : TheCore) (s : ℕ) (d : Action) (did : List Action) → length c.steps < length (noting_all c s (d ∷ did)).steps
noting_longer c s d did =
    let rest = noting_grows (noting c s d) s did in
    let one = length-append c.steps (entry c.number s d ∷ []) in
    let long = ap length rest.1 ∙ length-append (c.steps ++ entry c.number s d ∷ []) rest.0 in
    omega (arith, one, long)

-- ---- a side by its number

pub record Numbered (ss : List TheHistorySide) (i k : ℕ) : Type 0 where
  pub side : TheHistorySide
  pub there : slice_get ss i ≡ Some side
  pub number : side.number ≡ k

pub numbered : (ss : List TheHistorySide) (i k : ℕ) → slice_get (numbers_of ss) i ≡ Some k → Numbered ss i k
numbered [] i k at = absurd (cc)
numbered (p ∷ ps) zero k at = record { side = p; there = refl; number = cc }
numbered (p ∷ ps) (suc i) k at = let rest = numbered ps i k at in record { side = rest.side; there = rest.there; number = rest.number }
