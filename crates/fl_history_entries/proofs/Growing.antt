-- What a core did more, by what its sides tell.
use Rattle.std.proofs.Common.{ℕ, zero, suc, ◌≡◌, ⊎_elim, ◌||◌, eq-eqb, ne_eqb, Bool, true, false, List, [], ◌∷◌, ◌++◌, slice_get, Some, ap, subst, ◌∙◌, sym, refl, append_assoc, append-nil}
use Rattle.std.proofs.lemmas.Bool.{false≢true}
use Rattle.std.specs.List.{AllByRecursion}
use mathlib.Core.Logic.{dite}
use native.Mathlib.Decide.{ℕ_discrete}
use Rattle.fl_history_rings.specs.declared.board.Action.{Action}
use Rattle.fl_history_rings.specs.declared.board.Entry.{Entry}
use Rattle.fl_history_rings.specs.Rings.{entry}
use Rattle.fl_history_rings.specs.Rule.{gather, one_action}
use Rattle.fl_history_rings.specs.Cores.{TheCore, noting}
use Rattle.fl_history_sides.specs.States.{TheHistorySide, acts_in, until_last, with_steps, shown_of, numbers_of}
use Rattle.fl_history_sides.specs.Noted.{noting_all, GoesOn}
use Rattle.fl_history_sides.specs.Core.{IsStepBy, AreSidesOf}
use Rattle.fl_history_sides.proofs.Until.{until_here, since_of}
use Rattle.fl_history_sides.proofs.Prefixes.{Numbered, numbered}
use Rattle.fl_history_events.proofs.Cutting.{cons_same, last_or_none, gather_join}
use Rattle.fl_history_entries.proofs.Acting.{entries, piece_else, gather_entries}

-- ---- lists

pub all_at : {A : Type 0} (P : A → Type 0) (xs : List A) (n : ℕ) (x : A) → AllByRecursion P xs → slice_get xs n ≡ Some x → P x
all_at P [] n x all_so at = absurd (cc)
all_at P (y ∷ ys) zero x all_so at = let same : y ≡ x = cc in subst (λ z. P z) same all_so.0
all_at P (y ∷ ys) (suc n) x all_so at = all_at P ys n x all_so.1 at

pub all_behind : {A : Type 0} (P : A → Type 0) (xs ys : List A) → AllByRecursion P (xs ++ ys) → AllByRecursion P ys
all_behind P [] ys all_so = all_so
all_behind P (x ∷ xs) ys all_so = all_behind P xs ys all_so.1

pub cancel : {A : Type 0} (xs ys zs : List A) → xs ++ ys ≡ xs ++ zs → ys ≡ zs
cancel [] ys zs is = is
cancel (x ∷ xs) ys zs is = cancel xs ys zs (cons_same x x (xs ++ ys) (xs ++ zs) is).1

-- ---- a side's part of steps

true_or : (b : Bool) → (true || b) ≡ true
true_or true = refl
true_or false = refl

gather_none : (s : ℕ) (es : List Entry) → acts_in s es ≡ false → (let none : List Action = [] in gather one_action s es ≡ none)
gather_none s [] is = refl
gather_none s (e ∷ es) is =
    dite (ℕ_discrete e.side s)
    (λ here. absurd (false≢true (sym is ∙ ap (λ (b : Bool). b || acts_in s es) (eq-eqb e.side s here) ∙ true_or (acts_in s es))))
    (λ ne. piece_else s e es ne ∙ gather_none s es (ap (λ (b : Bool). b || acts_in s es) (sym (ne_eqb e.side s ne)) ∙ is))

pub gather_until : (s : ℕ) (es : List Entry) → gather one_action s (until_last s es) ≡ gather one_action s es
gather_until s es =
    let t = since_of s es in
    sym (append-nil (gather one_action s (until_last s es)))
    ∙ ap (λ (l : List Action). gather one_action s (until_last s es) ++ l) (sym (gather_none s t.since t.none))
    ∙ sym (gather_join one_action s (until_last s es) t.since)
    ∙ ap (gather one_action s) (sym t.all)

-- ---- a core that did more

-- by side s it did these actions, and by others maybe more
pub record Grows (s : ℕ) (c : TheCore) (acts : List Action) (d : TheCore) : Type 0 where
  pub more : List Entry
  pub steps_are : d.steps ≡ c.steps ++ more
  pub acts_are : gather one_action s more ≡ acts

noting_steps : (c : TheCore) (s : ℕ) (did : List Action) → (noting_all c s did).steps ≡ c.steps ++ entries c.number s did
noting_steps c s [] = sym (append-nil c.steps)
noting_steps c s (a ∷ did) = noting_steps (noting c s a) s did ∙ append_assoc c.steps (entry c.number s a ∷ []) (entries c.number s did)

grows_on : (s : ℕ) (c : TheCore) (did : List Action) (d : TheCore) → GoesOn s c did d → Grows s c did d
grows_on s c [] d is = record { more = []; steps_are = ap (λ (z : TheCore). z.steps) is ∙ sym (append-nil c.steps); acts_are = refl }
grows_on s c (a ∷ did) d (since, none, is) = record {
  more = since ++ entries c.number s (a ∷ did);
  steps_are =
      ap (λ (z : TheCore). z.steps) is
      ∙ noting_steps (with_steps c (c.steps ++ since)) s (a ∷ did)
      ∙ append_assoc c.steps since (entries c.number s (a ∷ did));
  acts_are =
      gather_join one_action s since (entries c.number s (a ∷ did))
      ∙ ap (λ (l : List Action). l ++ gather one_action s (entries c.number s (a ∷ did))) (gather_none s since none)
      ∙ gather_entries c.number s (a ∷ did);
}

grows_then : (s : ℕ) (c m d : TheCore) (xs ys : List Action) → Grows s c xs m → Grows s m ys d → Grows s c (xs ++ ys) d
grows_then s c m d xs ys one two = record {
  more = one.more ++ two.more;
  steps_are = two.steps_are ∙ ap (λ (l : List Entry). l ++ two.more) one.steps_are ∙ append_assoc c.steps one.more two.more;
  acts_are =
      gather_join one_action s one.more two.more
      ∙ ap (λ (l : List Action). l ++ gather one_action s two.more) one.acts_are
      ∙ ap (λ (l : List Action). xs ++ l) two.acts_are;
}

-- a side by which its core did these
pub record Grew (acts : List Action) (p q : TheHistorySide) : Type 0 where
  pub number : q.number ≡ p.number
  pub grows : Grows p.number p.core acts q.core

pub grew_on : (p q : TheHistorySide) (did : List Action) → q.number ≡ p.number → GoesOn p.number p.core did q.core → Grew did p q
grew_on p q did number goes = record { number = number; grows = grows_on p.number p.core did q.core goes }

pub grew_not : (p : TheHistorySide) → Grew [] p p
grew_not p = record { number = refl; grows = grows_on p.number p.core [] p.core refl }

pub grew_then : (p m q : TheHistorySide) (xs ys : List Action) → Grew xs p m → Grew ys m q → Grew (xs ++ ys) p q
grew_then p m q xs ys one two = record {
  number = two.number ∙ one.number;
  grows = grows_then p.number p.core m.core q.core xs ys one.grows (subst (λ (s : ℕ). Grows s m.core ys q.core) one.number two.grows);
}

-- ---- all sides of a core

pub record GrewAt (acts : List Action) (p : TheHistorySide) (ts : List TheHistorySide) (i : ℕ) : Type 0 where
  pub side : TheHistorySide
  pub there : slice_get ts i ≡ Some side
  pub grew : Grew acts p side

module _ (c d : TheCore) (ss ts : List TheHistorySide) (h : AreSidesOf c ss) (k : AreSidesOf d ts) (numbers : numbers_of ts ≡ numbers_of ss)
    (acts : ℕ → List Action) (grew : (i : ℕ) (p : TheHistorySide) → slice_get ss i ≡ Some p → GrewAt (acts i) p ts i) where
  own_c : (i : ℕ) (p : TheHistorySide) → slice_get ss i ≡ Some p → p.core.steps ≡ until_last p.number c.steps
  own_c i p at = ap (λ (z : TheHistorySide). z.core.steps) (all_at (λ (z : TheHistorySide). z ≡ shown_of c z.side.size z.number) ss i p h.each at)

  own_d : (i : ℕ) (q : TheHistorySide) → slice_get ts i ≡ Some q → q.core.steps ≡ until_last q.number d.steps
  own_d i q at = ap (λ (z : TheHistorySide). z.core.steps) (all_at (λ (z : TheHistorySide). z ≡ shown_of d z.side.size z.number) ts i q k.each at)

  -- up to the last step by a side
  part : (i : ℕ) (p : TheHistorySide) (at : slice_get ss i ≡ Some p) → until_last p.number d.steps ≡ until_last p.number c.steps ++ (grew i p at).grew.grows.more
  part i p at =
      let g = grew i p at in
      ap (λ (n : ℕ). until_last n d.steps) (sym g.grew.number) ∙ sym (own_d i g.side g.there) ∙ g.grew.grows.steps_are
      ∙ ap (λ (l : List Entry). l ++ g.grew.grows.more) (own_c i p at)

  pub record Goes : Type 0 where
    pub rest : List Entry
    pub steps_are : d.steps ≡ c.steps ++ rest

  goes_by : (i : ℕ) (p : TheHistorySide) (at : slice_get ss i ≡ Some p) → until_last p.number c.steps ≡ c.steps → Goes
  goes_by i p at whole =
      let g = (grew i p at).grew.grows in
      let t = since_of p.number d.steps in
      record {
        rest = g.more ++ t.since;
        steps_are =
            t.all ∙ ap (λ (l : List Entry). l ++ t.since) (part i p at)
            ∙ ap (λ (l : List Entry). (l ++ g.more) ++ t.since) whole
            ∙ append_assoc c.steps g.more t.since;
      }

  -- the side by which the core stepped last tells all that it did
  goes_last : (ys : List Entry) (e : Entry) → c.steps ≡ ys ++ e ∷ [] → Goes
  goes_last ys e is =
      let all_so : AllByRecursion (IsStepBy c.number (numbers_of ss)) (ys ++ e ∷ []) =
      subst (λ (l : List Entry). AllByRecursion (IsStepBy c.number (numbers_of ss)) l) is h.did in
      let by : IsStepBy c.number (numbers_of ss) e = (all_behind (IsStepBy c.number (numbers_of ss)) ys (e ∷ []) all_so).0 in
      let x : Numbered ss by.1.0 e.side = numbered ss by.1.0 e.side by.1.1 in
      goes_by by.1.0 x.side x.there
      (ap (λ (l : List Entry). until_last x.side.number l) is ∙ until_here x.side.number ys e (sym x.number) ∙ sym is)

  goes : Goes
  goes =
      ⊎_elim
      (λ none. record { rest = d.steps; steps_are = ap (λ (l : List Entry). l ++ d.steps) (sym none) })
      (λ parts. goes_last parts.0 parts.1 parts.2)
      (last_or_none c.steps)

  -- what it did since by each side
  by_side : (r : Goes) (i : ℕ) (p : TheHistorySide) → slice_get ss i ≡ Some p → gather one_action p.number r.rest ≡ acts i
  by_side r i p at =
      let g = (grew i p at).grew.grows in
      let done : List Action = gather one_action p.number c.steps in
      cancel done (gather one_action p.number r.rest) (acts i)
      (sym (gather_join one_action p.number c.steps r.rest)
      ∙ ap (gather one_action p.number) (sym r.steps_are)
      ∙ sym (gather_until p.number d.steps)
      ∙ ap (gather one_action p.number) (part i p at)
      ∙ gather_join one_action p.number (until_last p.number c.steps) g.more
      ∙ ap (λ (l : List Action). l ++ gather one_action p.number g.more) (gather_until p.number c.steps)
      ∙ ap (λ (l : List Action). done ++ l) g.acts_are)

  by_core : (r : Goes) → AllByRecursion (IsStepBy d.number (numbers_of ss)) r.rest
  by_core r =
      all_behind (IsStepBy d.number (numbers_of ss)) c.steps r.rest
      (subst (λ (l : List Entry). AllByRecursion (IsStepBy d.number (numbers_of ss)) l) r.steps_are
      (subst (λ (l : List ℕ). AllByRecursion (IsStepBy d.number l) d.steps) numbers k.did))

  -- It did more, by each side these actions, and by no others.
  pub record DidMore : Type 0 where
    pub rest : List Entry
    pub steps_are : d.steps ≡ c.steps ++ rest
    pub by_side : (i : ℕ) (p : TheHistorySide) → slice_get ss i ≡ Some p → gather one_action p.number rest ≡ acts i
    pub by_core : AllByRecursion (IsStepBy d.number (numbers_of ss)) rest

  pub did_more : DidMore
  did_more = record { rest = goes.rest; steps_are = goes.steps_are; by_side = by_side goes; by_core = by_core goes }
