-- A core's steps up to the last by one of its sides.
use Rattle.std.proofs.Common.{ℕ, ◌≡◌, ◌≢◌, ◌==◌, ◌||◌, Bool, true, false, if◌then◌else◌, eq-eqb, ne_eqb, List, [], ◌∷◌, ◌++◌, ap, ◌∙◌, sym, refl, append_assoc, append-nil}
use Rattle.fl_history_rings.specs.declared.board.Action.{Action}
use Rattle.fl_history_rings.specs.declared.board.Entry.{Entry}
use Rattle.fl_history_rings.specs.Rule.{gather}
use Rattle.fl_history_rings.specs.Cores.{TheCore, noting}
use Rattle.fl_history_rings.proofs.Logs.{then_is, else_is}
use Rattle.fl_history_sides.specs.States.{acts_in, until_last, with_steps, core_until}
use Rattle.fl_history_sides.specs.Noted.{noting_all, GoesOn}

-- ---- tests

either_true : (b : Bool) → (b || true) ≡ true
either_true true = refl
either_true false = refl

first_true : (a b : Bool) → a ≡ true → (a || b) ≡ true
first_true a b is = ap (λ (x : Bool). x || b) is

second_true : (a b : Bool) → b ≡ true → (a || b) ≡ true
second_true a b is = ap (λ (x : Bool). a || x) is ∙ either_true a

-- ---- one step more

pub acts_here : (s : ℕ) (es : List Entry) (e : Entry) → e.side ≡ s → acts_in s (es ++ e ∷ []) ≡ true
acts_here s [] e is = first_true (e.side == s) false (eq-eqb e.side s is)
acts_here s (x ∷ es) e is = second_true (x.side == s) (acts_in s (es ++ e ∷ [])) (acts_here s es e is)

acts_else : (s : ℕ) (es : List Entry) (e : Entry) → e.side ≢ s → acts_in s (es ++ e ∷ []) ≡ acts_in s es
acts_else s [] e ne = ap (λ (b : Bool). b || false) (ne_eqb e.side s ne)
acts_else s (x ∷ es) e ne = ap (λ (b : Bool). (x.side == s) || b) (acts_else s es e ne)

-- by that side: up to the end
pub until_here : (s : ℕ) (es : List Entry) (e : Entry) → e.side ≡ s → until_last s (es ++ e ∷ []) ≡ es ++ e ∷ []
until_here s [] e is = then_is (acts_in s (e ∷ [])) (e ∷ []) (let none : List Entry = [] in none) (acts_here s [] e is)
until_here s (x ∷ es) e is =
    let none : List Entry = [] in
    then_is (acts_in s (x ∷ (es ++ e ∷ []))) (x ∷ until_last s (es ++ e ∷ [])) none (acts_here s (x ∷ es) e is) ∙ ap (λ (l : List Entry). x ∷ l) (until_here s es e is)

-- by another: as before
pub until_else : (s : ℕ) (es : List Entry) (e : Entry) → e.side ≢ s → until_last s (es ++ e ∷ []) ≡ until_last s es
until_else s [] e ne = else_is (acts_in s (e ∷ [])) (e ∷ []) (let none : List Entry = [] in none) (acts_else s [] e ne)
until_else s (x ∷ es) e ne =
    ap (λ (b : Bool). if b then x ∷ until_last s (es ++ e ∷ []) else []) (acts_else s (x ∷ es) e ne)
    ∙ ap (λ (l : List Entry). if acts_in s (x ∷ es) then x ∷ l else []) (until_else s es e ne)

-- ---- and what was done since

pub record TheSince (s : ℕ) (es : List Entry) : Type 0 where
  pub since : List Entry
  pub none : acts_in s since ≡ false
  pub all : es ≡ until_last s es ++ since

pub since_of : (s : ℕ) (es : List Entry) → TheSince s es
since_of s [] = record { since = []; none = refl; all = refl }
since_of s (x ∷ es) = by (acts_in s (x ∷ es)) refl (since_of s es)
  where
    by : (b : Bool) → acts_in s (x ∷ es) ≡ b → TheSince s es → TheSince s (x ∷ es)
    by true is rest =
        let whole : until_last s (x ∷ es) ≡ x ∷ until_last s es = then_is (acts_in s (x ∷ es)) (x ∷ until_last s es) (let none : List Entry = [] in none) is in
        record {
          since = rest.since;
          none = rest.none;
          all = ap (λ (l : List Entry). x ∷ l) rest.all ∙ ap (λ (l : List Entry). l ++ rest.since) (sym whole);
        }
    by false is rest =
        let nothing : until_last s (x ∷ es) ≡ (let none : List Entry = [] in none) = else_is (acts_in s (x ∷ es)) (x ∷ until_last s es) (let none : List Entry = [] in none) is in
        record { since = x ∷ es; none = is; all = ap (λ (l : List Entry). l ++ x ∷ es) (sym nothing) }

-- ---- what they say of the side

no_first : (a b : Bool) → (a || b) ≡ false → a ≡ false
no_first true b is = absurd (cc)
no_first false b is = refl

no_second : (a b : Bool) → (a || b) ≡ false → b ≡ false
no_second true b is = absurd (cc)
no_second false b is = is

none_gathered : {A : Type 0} (f : Action → List A) (s : ℕ) (es : List Entry) → acts_in s es ≡ false → (let none : List A = [] in gather f s es ≡ none)
none_gathered f s [] none = refl
none_gathered {A} f s (e ∷ es) none =
    let nothing : List A = [] in
    ap (λ (xs : List A). xs ++ gather f s es) (else_is (e.side == s) (f e.action) nothing (no_first (e.side == s) (acts_in s es) none))
    ∙ none_gathered f s es (no_second (e.side == s) (acts_in s es) none)

gather_both : {A : Type 0} (f : Action → List A) (s : ℕ) (es more : List Entry) → gather f s (es ++ more) ≡ gather f s es ++ gather f s more
gather_both f s [] more = refl
gather_both {A} f s (e ∷ es) more =
    let one : List A = if e.side == s then f e.action else [] in
    ap (λ (xs : List A). one ++ xs) (gather_both f s es more) ∙ sym (append_assoc one (gather f s es) (gather f s more))

pub gather_until : {A : Type 0} (f : Action → List A) (s : ℕ) (es : List Entry) → gather f s (until_last s es) ≡ gather f s es
gather_until {A} f s es =
    let t = since_of s es in
    sym (ap (λ (l : List Entry). gather f s l) t.all
    ∙ (gather_both f s (until_last s es) t.since ∙ (ap (λ (xs : List A). gather f s (until_last s es) ++ xs) (none_gathered f s t.since t.none) ∙ append-nil (gather f s (until_last s es)))))

-- ---- of a core

-- it did these by that side: up to the end
pub noted_whole : (c : TheCore) (s : ℕ) (d : Action) (did : List Action) → core_until s (noting_all c s (d ∷ did)) ≡ noting_all c s (d ∷ did)
noted_whole c s d [] = ap (λ (l : List Entry). with_steps c l) (until_here s c.steps (record { core = c.number; side = s; action = d }) refl)
noted_whole c s d (d2 ∷ did) = noted_whole (noting c s d) s d2 did

pub goes_on : (c : TheCore) (s : ℕ) (did : List Action) → GoesOn s (core_until s c) did (core_until s (noting_all c s did))
goes_on c s [] = refl
goes_on c s (d ∷ did) =
    let t = since_of s c.steps in (
      t.since,
      t.none,
      noted_whole c s d did ∙ ap (λ (l : List Entry). noting_all (with_steps c l) s (d ∷ did)) t.all,
    )

-- one action more
pub noting_push : (c : TheCore) (s : ℕ) (did : List Action) (d : Action) → noting_all c s (did ++ d ∷ []) ≡ noting (noting_all c s did) s d
noting_push c s [] d = refl
noting_push c s (d1 ∷ did) d = noting_push (noting c s d1) s did d
