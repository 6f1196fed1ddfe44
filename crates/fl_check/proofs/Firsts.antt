-- The first fault as a place of the list, and that there is one or none.
use Rattle.std.proofs.Common.{◌≡◌, ◌≤◌, ℕ, min, List, [], ◌∷◌, Option, Some, None, option_map, refl, sym, ap, ◌∙◌, subst, arith, ◌⊎◌, inl, inr, Result, Ok, Err, IfSome}
use Rattle.std.proofs.lemmas.Bool.{cases_lt}
use Rattle.std.specs.List.{All, Contains}
use Rattle.std.proofs.lemmas.List.Elements.{All-nil, All-cons, All-head, All-tail, All-weaker, All-contains, Contains-push, Contains-append_left, Contains-append_right}
use Rattle.fl_check.specs.Places.{TextPlace}
use Rattle.fl_interface.specs.Interface.{TheInterface, TheMessage}
use Rattle.fl_interface.specs.declared.interface.Interface.{Interface}
use Rattle.fl_check.specs.declared.fault.CheckFault.{CheckFault}
use Rattle.fl_check.specs.declared.fault.CheckFault.TheVariants.{Broken, Memory}
use Rattle.std.specs.Result.{IsErrAnd}
use Rattle.fl_check.specs.Faults.{Tells, rule_number}
use Rattle.fl_check.specs.Outcome.{outcome_of, SomeOutcome, OneOutcome}
use Rattle.fl_check.specs.Checks.{Fault, IsSound, FirstFault, least_of, fault_at, first_fault, Checks, CheckOutcome, checked, check_fault, places, interface_from}
use Rattle.fl_parse.specs.Tree.{TheTree}
use Rattle.fl_check.proofs.FirstFaults.{none_after}

abbrev told_at : TextPlace → ℕ → Fault
told_at p n = record { number = n; at = p.at }

pub contains_head : {X : Type 0} (x : X) (xs : List X) → Contains (x ∷ xs) x
contains_head x xs = Contains-append_left (x ∷ []) xs x (Contains-push [] x)

pub contains_tail : {X : Type 0} (y : X) (xs : List X) (x : X) → Contains xs x → Contains (y ∷ xs) x
contains_tail y xs x h = Contains-append_right (y ∷ []) xs x h

pub contains_none : {X : Type 0} (x : X) → Contains [] x → ⊥
contains_none x h = omega (arith, h.1)

abbrev lesser : ℕ → Option ℕ → Option ℕ
lesser n o = elim o as (λ _. Option ℕ) [ None ↦ Some n | Some k ↦ Some (min n k) ]

lesser_some : (n : ℕ) (o : Option ℕ) → lesser n o ≡ None → ⊥
lesser_some n None e = cc
lesser_some n (Some k) e = cc

none_is_nil : (ns : List ℕ) → least_of ns ≡ None → ns ≡ []
none_is_nil [] e = refl
none_is_nil (n ∷ ns) e = absurd (lesser_some n (least_of ns) e)

-- a number is the least of some
abbrev IsLeast : List ℕ → ℕ → Type 0
IsLeast ns n = Contains ns n × All (λ m. n ≤ m) ns

by_cases : (a b : ℕ) → ((min a b ≡ a) × (a ≤ b)) ⊎ ((min a b ≡ b) × (b ≤ a))
by_cases a b = elim (cases_lt a b) as (λ _. ((min a b ≡ a) × (a ≤ b)) ⊎ ((min a b ≡ b) × (b ≤ a))) [ inl h ↦ inl (omega arith) | inr h ↦ inr (omega arith) ]

weaker : (n k : ℕ) (ns : List ℕ) → n ≤ k → All (λ m. k ≤ m) ns → All (λ m. n ≤ m) ns
weaker n k ns h a = All-weaker (λ m. k ≤ m) (λ m. n ≤ m) (λ x g. omega arith) ns a

lesser_is : (n0 k n : ℕ) (ns : List ℕ) → IsLeast ns k → min n0 k ≡ n → ((min n0 k ≡ n0) × (n0 ≤ k)) ⊎ ((min n0 k ≡ k) × (k ≤ n0)) → IsLeast (n0 ∷ ns) n
lesser_is n0 k n ns ih e (inl h) =
    let q : n0 ≡ n = cc in
    subst (IsLeast (n0 ∷ ns)) q (contains_head n0 ns, All-cons (λ m. n0 ≤ m) n0 ns (omega arith) (weaker n0 k ns h.1 ih.1))
lesser_is n0 k n ns ih e (inr h) =
    let q : k ≡ n = cc in
    subst (IsLeast (n0 ∷ ns)) q (contains_tail n0 ns k ih.0, All-cons (λ m. k ≤ m) n0 ns h.1 ih.1)

one_is : (n0 n : ℕ) (ns : List ℕ) → ns ≡ [] → n0 ≡ n → IsLeast (n0 ∷ ns) n
one_is n0 n ns e q =
    subst (IsLeast (n0 ∷ ns)) q (
      contains_head n0 ns,
      subst (λ l. All (λ m. n0 ≤ m) (n0 ∷ l)) (sym e) (All-cons (λ m. n0 ≤ m) n0 [] (omega arith) (All-nil (λ m. n0 ≤ m))),
    )

least_step : (n0 : ℕ) (ns : List ℕ) (o : Option ℕ) → ((k : ℕ) → o ≡ Some k → IsLeast ns k) → (o ≡ None → ns ≡ []) → (n : ℕ) → lesser n0 o ≡ Some n → IsLeast (n0 ∷ ns) n
least_step n0 ns None ih nil n e = one_is n0 n ns (nil refl) (cc)
least_step n0 ns (Some k) ih nil n e = let q : min n0 k ≡ n = cc in lesser_is n0 k n ns (ih k refl) q (by_cases n0 k)

least_is : (ns : List ℕ) (n : ℕ) → least_of ns ≡ Some n → IsLeast ns n
least_is [] n e = cc
least_is (n0 ∷ ns) n e = least_step n0 ns (least_of ns) (λ k q. least_is ns k q) (λ q. none_is_nil ns q) n e

-- the least is the only one
least_from : (ns : List ℕ) (n : ℕ) (o : Option ℕ) → o ≡ least_of ns → IsLeast ns n → o ≡ Some n
least_from ns n None q h =
    let e = none_is_nil ns (sym q) in absurd (contains_none n (subst (λ l. Contains l n) e h.0))
least_from ns n (Some k) q h =
    let g = least_is ns k (sym q) in
    let a : n ≤ k = All-contains (λ m. n ≤ m) ns k h.1 g.0 in
    let b : k ≤ n = All-contains (λ m. k ≤ m) ns n g.1 h.0 in
    let r : k ≡ n = omega arith in
    cc

abbrev pub told : ℕ → ℕ → Fault
told n at = record { number = n; at = at }

-- the fault at a place, by the least number broken there
tells_of : (p : TextPlace) (o : Option ℕ) (n at : ℕ) → option_map (told_at p) o ≡ Some (told n at) → (o ≡ Some n) × (p.at ≡ at)
tells_of p None n at e = cc
tells_of p (Some k) n at e = (let q : told k p.at ≡ told n at = cc in ap (λ (f : Fault). Some f.number) q, let q : told k p.at ≡ told n at = cc in ap (λ (f : Fault). f.at) q)

none_of : (p : TextPlace) (o : Option ℕ) → option_map (told_at p) o ≡ None → o ≡ None
none_of p None e = refl
none_of p (Some k) e = cc

sound_at : (p : TextPlace) → fault_at p ≡ None → IsSound p
sound_at p e = none_is_nil p.broken (none_of p (least_of p.broken) e)

nothing_at : (p : TextPlace) → IsSound p → fault_at p ≡ None
nothing_at p e = ap (λ l. option_map (told_at p) (least_of l)) e

abbrev or_else : Option Fault → Option Fault → Option Fault
or_else o p = elim o as (λ _. Option Fault) [ None ↦ p | Some f ↦ Some f ]

-- a fault at the first of these places
first_here : (p : TextPlace) (ps : List TextPlace) (n at : ℕ) → fault_at p ≡ Some (told n at) → FirstFault (p ∷ ps) n at
first_here p ps n at e =
    let t = tells_of p (least_of p.broken) n at e in
    let l = least_is p.broken n t.0 in
    record { prefix = []; here = p; rest = ps; stands = refl; sound = All-nil IsSound; place = t.1; broken = l.0; least = l.1 }

-- a sound place before these
first_later : (p : TextPlace) (ps : List TextPlace) (n at : ℕ) → IsSound p → FirstFault ps n at → FirstFault (p ∷ ps) n at
first_later p ps n at s f = record {
  prefix = p ∷ f.prefix;
  here = f.here;
  rest = f.rest;
  stands = ap (λ l. p ∷ l) f.stands;
  sound = All-cons IsSound p f.prefix s f.sound;
  place = f.place;
  broken = f.broken;
  least = f.least;
}

first_step : (p : TextPlace) (ps : List TextPlace) (n at : ℕ) (o r : Option Fault) → o ≡ fault_at p → (r ≡ Some (told n at) → FirstFault ps n at) → or_else o r ≡ Some (told n at) → FirstFault (p ∷ ps) n at
first_step p ps n at None r q ih e = first_later p ps n at (sound_at p (sym q)) (ih e)
first_step p ps n at (Some f) r q ih e = let g : fault_at p ≡ Some (told n at) = sym q ∙ e in first_here p ps n at g

pub first_is : (ps : List TextPlace) (n at : ℕ) → first_fault ps ≡ Some (told n at) → FirstFault ps n at
unfolding first_fault
first_is [] n at e = cc
first_is (p ∷ ps) n at e = first_step p ps n at (fault_at p) (first_fault ps) refl (λ h. first_is ps n at h) e

sound_step : (p : TextPlace) (ps : List TextPlace) (o r : Option Fault) → o ≡ fault_at p → (r ≡ None → All IsSound ps) → or_else o r ≡ None → All IsSound (p ∷ ps)
sound_step p ps None r q ih e = All-cons IsSound p ps (sound_at p (sym q)) (ih e)
sound_step p ps (Some f) r q ih e = cc

pub all_sound : (ps : List TextPlace) → first_fault ps ≡ None → All IsSound ps
unfolding first_fault
all_sound [] e = All-nil IsSound
all_sound (p ∷ ps) e = sound_step p ps (fault_at p) (first_fault ps) refl (λ h. all_sound ps h) e

pub no_fault : (ps : List TextPlace) → All IsSound ps → first_fault ps ≡ None
unfolding first_fault
no_fault [] s = refl
no_fault (p ∷ ps) s = ap (λ o. or_else o (first_fault ps)) (nothing_at p (All-head IsSound p ps s)) ∙ no_fault ps (All-tail IsSound p ps s)

here_first : (p : TextPlace) (ps : List TextPlace) (f : Fault) → fault_at p ≡ Some f → first_fault (p ∷ ps) ≡ Some f
unfolding first_fault
here_first p ps f e = ap (λ o. or_else o (first_fault ps)) e

pub fault_from : (ps : List TextPlace) (n at : ℕ) → FirstFault ps n at → first_fault ps ≡ Some (told n at)
fault_from ps n at f =
    let l = least_from f.here.broken n (least_of f.here.broken) refl (f.broken, f.least) in
    let h : fault_at f.here ≡ Some (told n at) = ap (option_map (told_at f.here)) l ∙ ap (λ a. Some (told n a)) f.place in
    ap first_fault f.stands ∙ none_after f.prefix (f.here ∷ f.rest) (no_fault f.prefix f.sound) ∙ here_first f.here f.rest (told n at) h

-- each tree has an outcome
some_by : (tree : TheTree) (o : Option Fault) → first_fault (places tree) ≡ o → (outcome : CheckOutcome) × Checks tree outcome
some_by tree None e = (checked (interface_from tree), (all_sound (places tree) e, refl))
some_by tree (Some f) e = (check_fault f.number f.at, first_is (places tree) f.number f.at e)

pub some_outcome : SomeOutcome
some_outcome tree = some_by tree (first_fault (places tree)) refl

-- a tree has one outcome
pub one_outcome : OneOutcome
one_outcome tree (checked i) (checked j) h g = ap checked (h.1 ∙ sym g.1)
one_outcome tree (checked i) (check_fault n at) h g =
    let s = no_fault (places tree) h.0 in let f = fault_from (places tree) n at g in cc
one_outcome tree (check_fault n at) (checked i) h g =
    let s = no_fault (places tree) g.0 in let f = fault_from (places tree) n at h in cc
one_outcome tree (check_fault n at) (check_fault m to) h g =
    let f = fault_from (places tree) n at h in let k = fault_from (places tree) m to g in
    let q : told n at ≡ told m to = cc in
    ap (λ (x : Fault). check_fault x.number x.at) q

-- the error of a `?` in the checker
pub err_outcome : (tree : TheTree) (r : Result Interface CheckFault) (e : CheckFault) → IsErrAnd r (λ x. x ≡ e) → Tells e (first_fault (places tree)) → IfSome (outcome_of r) (λ o. Checks tree o)
err_outcome tree (Ok v) e h t = absurd h
err_outcome tree (Err x) (Broken k at) h t = subst (λ y. IfSome (outcome_of (Err y)) (λ o. Checks tree o)) (sym h) (first_is (places tree) (rule_number k) at t)
err_outcome tree (Err x) Memory h t = subst (λ y. IfSome (outcome_of (Err y)) (λ o. Checks tree o)) (sym h) tt

pub same_interface : (n m : List ℕ) (a b : List TheMessage) → n ≡ m → a ≡ b → (let i : TheInterface = record { name = n; messages = a } in i) ≡ (let i : TheInterface = record { name = m; messages = b } in i)
same_interface n m a b p q = cc
