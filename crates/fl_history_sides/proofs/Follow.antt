-- A core did what one of its sides noted, where the others stayed.
use Rattle.std.proofs.Common.{ℕ, zero, suc, ◌≡◌, ◌≢◌, ◌<◌, ◌≤◌, ◌⊎◌, inl, inr, false, Option, List, [], ◌∷◌, ◌++◌, length, slice_get, set, Some, ap, subst, ◌∙◌, sym, refl, arith, length-append, append-nil, append_assoc}
use Rattle.std.proofs.lemmas.Bool.{false≢true}
use mathlib.Core.Logic.{dite}
use native.Mathlib.Decide.{ℕ_discrete}
use Rattle.std.specs.List.{AllByRecursion}
use Rattle.fl_history_rings.specs.declared.board.Action.{Action}
use Rattle.fl_history_rings.specs.declared.board.Entry.{Entry}
use Rattle.fl_history_rings.specs.Cores.{TheCore}
use Rattle.fl_history_sides.specs.States.{TheHistorySide, acts_in, until_last, with_steps, core_until, numbers_of}
use Rattle.fl_history_sides.specs.Noted.{GoesOn, noting_all}
use Rattle.fl_history_sides.specs.Core.{IsStepBy, AreSidesOf}
use Rattle.fl_history_sides.specs.Laws.{CoresFollow, SidesTellCore}
use Rattle.fl_history_sides.proofs.Lists.{map_set}
use Rattle.fl_history_sides.proofs.Until.{until_here, acts_here}
use Rattle.fl_history_sides.proofs.Prefixes.{EndsWith, last_of, Begins, both_begin, all_before, all_last, begins_until, until_grows, until_still, noting_grows, noting_longer, Numbered, numbered}
use Rattle.fl_history_sides.proofs.Laws.{told_by, Tells, teller}

-- ---- lists

set_here : {A : Type 0} (xs : List A) (n : ℕ) (x y : A) → slice_get xs n ≡ Some x → slice_get (set xs n y) n ≡ Some y
set_here [] n x y at = absurd (cc)
set_here (z ∷ zs) zero x y at = refl
set_here (z ∷ zs) (suc n) x y at = set_here zs n x y at

set_else : {A : Type 0} (xs : List A) (n i : ℕ) (y : A) → i ≢ n → slice_get (set xs n y) i ≡ slice_get xs i
set_else [] n i y ne = refl
set_else (z ∷ zs) zero zero y ne = absurd (ne refl)
set_else (z ∷ zs) zero (suc i) y ne = refl
set_else (z ∷ zs) (suc n) zero y ne = refl
set_else (z ∷ zs) (suc n) (suc i) y ne = set_else zs n i y (λ e. ne (ap suc e))

number_at : (ss : List TheHistorySide) (i : ℕ) (p : TheHistorySide) → slice_get ss i ≡ Some p → slice_get (numbers_of ss) i ≡ Some p.number
number_at [] i p at = absurd (cc)
number_at (x ∷ xs) zero p at = let same : x ≡ p = cc in ap (λ (y : TheHistorySide). Some y.number) same
number_at (x ∷ xs) (suc i) p at = number_at xs i p at

one_number : (o : Option ℕ) (j k : ℕ) → o ≡ Some j → o ≡ Some k → j ≡ k
one_number o j k a b = cc

-- a core all of whose steps one side tells goes on as another of which it tells as much
begins_by : (m : ℕ) (xs ys : List Entry) → until_last m xs ≡ xs → until_last m xs ≡ until_last m ys → Begins xs ys
begins_by m xs ys whole same = let b = begins_until m ys in (b.0, b.1 ∙ ap (λ (l : List Entry). l ++ b.0) (sym same ∙ whole))

none_begins : (xs ys : List Entry) → (let none : List Entry = [] in xs ≡ none) → Begins xs ys
none_begins xs ys none = (ys, ap (λ (l : List Entry). l ++ ys) (sym none))

module _ (c d : TheCore) (ss : List TheHistorySide) (n : ℕ) (p q : TheHistorySide) (h : AreSidesOf c ss) (k : AreSidesOf d (set ss n q)) (at : slice_get ss n ≡ Some p) (same : q.number ≡ p.number) where
  s : ℕ
  s = p.number

  here : slice_get (numbers_of ss) n ≡ Some p.number
  here = number_at ss n p at

  numbers_same : numbers_of (set ss n q) ≡ numbers_of ss
  numbers_same = map_set (λ (x : TheHistorySide). x.number) ss n p q at same

  own_c : p.core ≡ core_until p.number c
  own_c = told_by c ss h n p at

  own_d : q.core ≡ core_until p.number d
  own_d = told_by d (set ss n q) k n q (set_here ss n p q at) ∙ ap (λ (m : ℕ). core_until m d) same

  -- the others tell the same
  others : (i m : ℕ) → i ≢ n → slice_get (numbers_of ss) i ≡ Some m → until_last m c.steps ≡ until_last m d.steps
  others i m ne there =
      let x : Numbered ss i m = numbered ss i m there in
      let by_c : x.side.core ≡ core_until x.side.number c = told_by c ss h i x.side x.there in
      let by_d : x.side.core ≡ core_until x.side.number d = told_by d (set ss n q) k i x.side (set_else ss n i q ne ∙ x.there) in
      let steps : until_last x.side.number c.steps ≡ until_last x.side.number d.steps = ap (λ (y : TheCore). y.steps) (sym by_c ∙ by_d) in
      subst (λ (j : ℕ). until_last j c.steps ≡ until_last j d.steps) x.number steps

  is_own : (i m : ℕ) → i ≡ n → slice_get (numbers_of ss) i ≡ Some m → m ≡ p.number
  is_own i m e there = one_number (slice_get (numbers_of ss) n) m p.number (ap (λ (j : ℕ). slice_get (numbers_of ss) j) (sym e) ∙ there) here

  is_other : (i m : ℕ) → i ≢ n → slice_get (numbers_of ss) i ≡ Some m → p.number ≢ m
  is_other i m ne there e = ne (h.apart i n m there (here ∙ ap (λ (j : ℕ). Some j) e))

  told_c : EndsWith c.steps → (i : ℕ) × (m : ℕ) × (slice_get (numbers_of ss) i ≡ Some m) × (until_last m c.steps ≡ c.steps)
  told_c end = let t : Tells c ss = teller c ss h end in (t.place, t.side.number, number_at ss t.place t.side t.there, t.whole)

  told_d : EndsWith d.steps → (i : ℕ) × (m : ℕ) × (slice_get (numbers_of ss) i ≡ Some m) × (until_last m d.steps ≡ d.steps)
  told_d end =
      let t : Tells d (set ss n q) = teller d (set ss n q) k end in
      (t.place, t.side.number, subst (λ (l : List ℕ). slice_get l t.place ≡ Some t.side.number) numbers_same (number_at (set ss n q) t.place t.side t.there), t.whole)

  -- ---- nothing was noted

  module _ (still : q.core ≡ p.core) where
    all_same : (i m : ℕ) → slice_get (numbers_of ss) i ≡ Some m → until_last m c.steps ≡ until_last m d.steps
    all_same i m there =
        dite (ℕ_discrete i n)
        (λ e. subst (λ (j : ℕ). until_last j c.steps ≡ until_last j d.steps) (sym (is_own i m e there)) (ap (λ (y : TheCore). y.steps) (sym own_c ∙ (sym still ∙ own_d))))
        (λ ne. others i m ne there)

    forth : Begins c.steps d.steps
    forth = by (last_of c.steps)
      where
        by : (c.steps ≡ []) ⊎ EndsWith c.steps → Begins c.steps d.steps
        by (inl none) = none_begins c.steps d.steps none
        by (inr end) = let t = told_c end in begins_by t.1 c.steps d.steps t.3 (all_same t.0 t.1 t.2)

    back : Begins d.steps c.steps
    back = by (last_of d.steps)
      where
        by : (d.steps ≡ []) ⊎ EndsWith d.steps → Begins d.steps c.steps
        by (inl none) = none_begins d.steps c.steps none
        by (inr end) = let t = told_d end in begins_by t.1 d.steps c.steps t.3 (sym (all_same t.0 t.1 t.2))

    same_core : d ≡ c
    same_core =
        let steps : d.steps ≡ c.steps = both_begin d.steps c.steps back forth in
        let cores : core_until p.number d ≡ core_until p.number c = sym own_d ∙ (still ∙ own_c) in
        ap (λ (x : TheCore). with_steps x d.steps) cores ∙ ap (λ (l : List Entry). with_steps c l) steps

  -- ---- these were noted

  module _ (a : Action) (did : List Action) (since : List Entry) (none : acts_in p.number since ≡ false) (is : q.core ≡ noting_all (with_steps p.core (p.core.steps ++ since)) p.number (a ∷ did)) where
    abbrev before : TheCore
    before = with_steps p.core (p.core.steps ++ since)

    abbrev after : TheCore
    after = noting_all (with_steps p.core (p.core.steps ++ since)) p.number (a ∷ did)

    part_d : until_last p.number d.steps ≡ after.steps
    part_d = ap (λ (x : TheCore). x.steps) (sym own_d ∙ is)

    longer : length (until_last p.number c.steps) < length (until_last p.number d.steps)
    longer =
        let long = noting_longer before p.number a did in
        let own : length p.core.steps ≡ length (until_last p.number c.steps) = ap (λ (x : TheCore). length x.steps) own_c in
        let sum = length-append p.core.steps since in
        let all = ap length part_d in
        omega (arith, long, own, sum, all)

    whole_d : until_last p.number d.steps ≡ d.steps
    whole_d = by (last_of d.steps)
      where
        by : (d.steps ≡ []) ⊎ EndsWith d.steps → until_last p.number d.steps ≡ d.steps
        by (inl nothing) = ap (λ (l : List Entry). until_last p.number l) nothing ∙ sym nothing
        by (inr end) =
            let t = told_d end in
            dite (ℕ_discrete t.0 n)
            (λ e. ap (λ (m : ℕ). until_last m d.steps) (sym (is_own t.0 t.1 e t.2)) ∙ t.3)
            (λ ne.
            let b : Begins d.steps c.steps = begins_by t.1 d.steps c.steps t.3 (sym (others t.0 t.1 ne t.2)) in
            let grows : length (until_last p.number d.steps) ≤ length (until_last p.number c.steps) = subst (λ (l : List Entry). length (until_last p.number d.steps) ≤ length (until_last p.number l)) (sym b.1) (until_grows p.number d.steps b.0) in
            absurd (omega (arith, longer, grows)))

    steps_d : d.steps ≡ after.steps
    steps_d = sym whole_d ∙ part_d

    -- what another side tells was there before
    from_before : (i m : ℕ) → i ≢ n → slice_get (numbers_of ss) i ≡ Some m → until_last m c.steps ≡ until_last m before.steps
    from_before i m ne there =
        others i m ne there ∙ (ap (λ (l : List Entry). until_last m l) steps_d ∙ until_still before p.number m (a ∷ did) (is_other i m ne there))

    own_steps : p.core.steps ≡ until_last p.number c.steps
    own_steps = ap (λ (x : TheCore). x.steps) own_c

    forth_to : Begins c.steps before.steps
    forth_to = by (last_of c.steps)
      where
        by : (c.steps ≡ []) ⊎ EndsWith c.steps → Begins c.steps before.steps
        by (inl nothing) = none_begins c.steps before.steps nothing
        by (inr end) =
            let t = told_c end in
            dite (ℕ_discrete t.0 n)
            (λ e. let own : p.core.steps ≡ c.steps = own_steps ∙ (ap (λ (m : ℕ). until_last m c.steps) (sym (is_own t.0 t.1 e t.2)) ∙ t.3) in (since, ap (λ (l : List Entry). l ++ since) own))
            (λ ne. begins_by t.1 c.steps before.steps t.3 (from_before t.0 t.1 ne t.2))

    last_other : EndsWith since → Begins before.steps c.steps
    last_other end =
        let ends : before.steps ≡ (p.core.steps ++ end.before) ++ end.last ∷ [] = ap (λ (l : List Entry). p.core.steps ++ l) end.is ∙ sym (append_assoc p.core.steps end.before (end.last ∷ [])) in
        let grows = noting_grows before p.number (a ∷ did) in
        let all : AllByRecursion (IsStepBy d.number (numbers_of ss)) ((p.core.steps ++ end.before) ++ end.last ∷ []) =
        subst (λ (l : List Entry). AllByRecursion (IsStepBy d.number (numbers_of ss)) l) ends (all_before (IsStepBy d.number (numbers_of ss)) before.steps grows.0
        (subst (λ (l : List Entry). AllByRecursion (IsStepBy d.number (numbers_of ss)) l) (steps_d ∙ grows.1) (subst (λ (l : List ℕ). AllByRecursion (IsStepBy d.number l) d.steps) numbers_same k.did))) in
        let one : IsStepBy d.number (numbers_of ss) end.last = all_last (IsStepBy d.number (numbers_of ss)) (p.core.steps ++ end.before) end.last all in
        let m : ℕ = end.last.side in
        let away : one.1.0 ≢ n = λ e. absurd (false≢true (sym none ∙ (ap (λ (l : List Entry). acts_in p.number l) end.is ∙ acts_here p.number end.before end.last (is_own one.1.0 end.last.side e one.1.1)))) in
        let whole : until_last end.last.side before.steps ≡ before.steps = ap (λ (l : List Entry). until_last end.last.side l) ends ∙ (until_here end.last.side (p.core.steps ++ end.before) end.last refl ∙ sym ends) in
        begins_by end.last.side before.steps c.steps whole (sym (from_before one.1.0 end.last.side away one.1.1))

    back_to : Begins before.steps c.steps
    back_to = by (last_of since)
      where
        by : (since ≡ []) ⊎ EndsWith since → Begins before.steps c.steps
        by (inl nothing) =
            let own : before.steps ≡ until_last p.number c.steps = ap (λ (l : List Entry). p.core.steps ++ l) nothing ∙ (append-nil p.core.steps ∙ own_steps) in
            let b = begins_until p.number c.steps in
            (b.0, b.1 ∙ ap (λ (l : List Entry). l ++ b.0) (sym own))
        by (inr end) = last_other end

    follows : d ≡ noting_all c p.number (a ∷ did)
    follows =
        let steps : before.steps ≡ c.steps = both_begin before.steps c.steps back_to forth_to in
        let start : before ≡ c = ap (λ (x : TheCore). with_steps x (p.core.steps ++ since)) own_c ∙ ap (λ (l : List Entry). with_steps c l) steps in
        ap (λ (l : List Entry). with_steps d l) (sym whole_d) ∙ (sym own_d ∙ (is ∙ ap (λ (x : TheCore). noting_all x p.number (a ∷ did)) start))

by_actions : (c d : TheCore) (ss : List TheHistorySide) (n : ℕ) (p q : TheHistorySide) (did : List Action) → AreSidesOf c ss → AreSidesOf d (set ss n q) → slice_get ss n ≡ Some p → q.number ≡ p.number → GoesOn p.number p.core did q.core
    → d ≡ noting_all c p.number did
by_actions c d ss n p q [] h k at same goes = same_core c d ss n p q h k at same goes
by_actions c d ss n p q (a ∷ did) h k at same (since, none, is) = follows c d ss n p q h k at same a did since none is

pub cores_follow : CoresFollow
cores_follow = by_actions

-- ---- no other core has these sides

alone : (c d : TheCore) (ss : List TheHistorySide) → AreSidesOf c ss → AreSidesOf d ss → 0 < length ss → d ≡ c
alone c d [] h k some = absurd (omega (arith, some))
alone c d (p ∷ ss) h k some = cores_follow c d (p ∷ ss) 0 p p [] h k refl refl refl

pub sides_tell_core : SidesTellCore
sides_tell_core = alone
