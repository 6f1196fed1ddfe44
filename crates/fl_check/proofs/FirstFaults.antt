-- The first fault of places that follow one another.
use Rattle.std.proofs.Common.{◌≡◌, List, [], ◌∷◌, ◌++◌, take, Option, Some, None, refl, sym, ◌∙◌, subst, Result, Ok, Err, OnOk, IfErr}
use Rattle.std.specs.Result.{IsErrAnd}
use Rattle.std.proofs.lemmas.Result.{on_ok_weaker}
use Rattle.fl_check.specs.Places.{TextPlace}
use Rattle.fl_check.specs.Checks.{Fault, fault_at, first_fault}
use Rattle.fl_check.specs.Faults.{Tells}
use Rattle.fl_check.specs.declared.fault.CheckFault.{CheckFault}
use Rattle.fl_check.specs.declared.fault.CheckFault.TheVariants.{Broken, Memory}

-- a fault there, or else another answer
abbrev or_else : Option Fault → Option Fault → Option Fault
or_else o p = elim o as (λ _. Option Fault) [ None ↦ p | Some f ↦ Some f ]

none_both : (o a b c : Option Fault) → (a ≡ None → b ≡ c) → or_else o a ≡ None → or_else o b ≡ c
none_both None a b c k h = k h
none_both (Some f) a b c k h = cc

some_both : (o a b : Option Fault) (f : Fault) → (a ≡ Some f → b ≡ Some f) → or_else o a ≡ Some f → or_else o b ≡ Some f
some_both None a b f k h = k h
some_both (Some g) a b f k h = h

pub none_past : (p : TextPlace) (ps : List TextPlace) → first_fault (p ∷ []) ≡ None → first_fault (p ∷ ps) ≡ first_fault ps
unfolding first_fault
none_past p ps h = none_both (fault_at p) None (first_fault ps) (first_fault ps) (λ _. refl) h

pub fault_here : (p : TextPlace) (ps : List TextPlace) (f : Fault) → first_fault (p ∷ []) ≡ Some f → first_fault (p ∷ ps) ≡ Some f
unfolding first_fault
fault_here p ps f h = some_both (fault_at p) None (first_fault ps) f (λ e. cc) h

pub none_after : (ps qs : List TextPlace) → first_fault ps ≡ None → first_fault (ps ++ qs) ≡ first_fault qs
unfolding first_fault
none_after [] qs h = refl
none_after (p ∷ ps) qs h = none_both (fault_at p) (first_fault ps) (first_fault (ps ++ qs)) (first_fault qs) (λ e. none_after ps qs e) h

pub none_prefix : (ps qs : List TextPlace) → first_fault (ps ++ qs) ≡ None → first_fault ps ≡ None
unfolding first_fault
none_prefix [] qs h = refl
none_prefix (p ∷ ps) qs h = none_both (fault_at p) (first_fault (ps ++ qs)) (first_fault ps) None (λ e. none_prefix ps qs e) h

-- of places that keep the rules the first does
pub first_sound : (ps : List TextPlace) → first_fault ps ≡ None → first_fault (take 1 ps) ≡ None
unfolding first_fault
first_sound [] h = h
first_sound (p ∷ ps) h = none_both (fault_at p) (first_fault ps) None None (λ e. refl) h

pub fault_prefix : (ps qs : List TextPlace) (f : Fault) → first_fault ps ≡ Some f → first_fault (ps ++ qs) ≡ Some f
unfolding first_fault
fault_prefix [] qs f h = cc
fault_prefix (p ∷ ps) qs f h = some_both (fault_at p) (first_fault ps) (first_fault (ps ++ qs)) f (λ e. fault_prefix ps qs f e) h

pub tells_here : (e : CheckFault) (p : TextPlace) (ps : List TextPlace) → Tells e (first_fault (p ∷ [])) → Tells e (first_fault (p ∷ ps))
tells_here (Broken r at) p ps h = fault_here p ps _ h
tells_here Memory p ps h = tt

pub tells_past : (e : CheckFault) (p : TextPlace) (ps : List TextPlace) → first_fault (p ∷ []) ≡ None → Tells e (first_fault ps) → Tells e (first_fault (p ∷ ps))
tells_past (Broken r at) p ps n h = none_past p ps n ∙ h
tells_past Memory p ps n h = tt

pub tells_prefix : (e : CheckFault) (ps qs : List TextPlace) → Tells e (first_fault ps) → Tells e (first_fault (ps ++ qs))
tells_prefix (Broken r at) ps qs h = fault_prefix ps qs _ h
tells_prefix Memory ps qs h = tt

pub tells_after : (e : CheckFault) (ps qs : List TextPlace) → first_fault ps ≡ None → Tells e (first_fault qs) → Tells e (first_fault (ps ++ qs))
tells_after (Broken r at) ps qs n h = none_after ps qs n ∙ h
tells_after Memory ps qs n h = tt

-- the error of a `?` is the callee's
pub err_of : {T : Type 0} (r : Result T CheckFault) (e : CheckFault) (f : Option Fault) → IsErrAnd r (λ x. x ≡ e) → Tells e f → IfErr r (λ x. Tells x f)
err_of (Ok v) e f h t = absurd h
err_of (Err x) e f h t = subst (λ y. Tells y f) (sym h) t

-- a call at the end answers for all places where those before it are sound
pub sound_at_end : {T : Type 0} (r : Result T CheckFault) (f g : Option Fault) → f ≡ g → OnOk r (g ≡ None) → OnOk r (f ≡ None)
sound_at_end r f g e h = on_ok_weaker r (λ k. e ∙ k) h

pub fault_at_end : {T : Type 0} (r : Result T CheckFault) (f g : Option Fault) → f ≡ g → IfErr r (λ e. Tells e g) → IfErr r (λ e. Tells e f)
fault_at_end {T} r f g e h = subst (λ k. IfErr r (λ x. Tells x k)) (sym e) h

-- a call at the end that only wants memory tells nothing, behind places that are sound
pub memory_tells : {T : Type 0} (r : Result T CheckFault) (f : Option Fault) → IfErr r (λ e. e ≡ Memory) → IfErr r (λ e. Tells e f)
memory_tells (Ok v) f h = tt
memory_tells (Err e) f h = subst (λ x. Tells x f) (sym h) tt

pub ok_by : {T : Type 0} (r : Result T CheckFault) (P : Type 0) → P → OnOk r P
ok_by (Ok v) P p = p
ok_by (Err e) P p = tt

pub ruleset places = (none_past, none_after, tells_here, tells_past, tells_prefix, tells_after)
