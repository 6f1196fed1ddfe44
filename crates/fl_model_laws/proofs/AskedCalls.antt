-- Each call that an end was asked for and that was accepted fits the interface: it fitted when it was accepted, and a binding keeps
-- its interface.
use Rattle.std.proofs.Common.{◌≡◌, refl, sym, ◌∙◌, subst, Bool, true, false, not, nat_le}
use Rattle.std.proofs.Common.{List, [], ◌∷◌, if◌then◌else◌, length, Some}
use Rattle.fl_base.specs.declared.identity.EndId.{EndId}
use Rattle.fl_value_data.specs.Value.{TheCall}
use Rattle.fl_value_data.specs.Fits.{fits_of}
use Rattle.fl_model.specs.Events.{Event, call}
use Rattle.fl_model.specs.Calls.{Planned}
use Rattle.fl_model.specs.Ends.{is_bound, is_busy}
use Rattle.fl_model.specs.State.{Binding, State, StepOutcome, binding_of, interface_of, end_in}
use Rattle.fl_model.specs.Sending.{makes_call}
use Rattle.fl_model.specs.SoundCalls.{AllFit}
use Rattle.fl_model.specs.Step.{step}
use Rattle.fl_model.specs.Runs.{same_end, accepted_in, run, reached, calls_accepted}
use Rattle.fl_model.specs.Worlds.{start_with, AskedCallsFit}
use Rattle.fl_model_laws.proofs.Cases.{Each, either, by_given, none_at_end, each_push}
use Rattle.fl_model_laws.proofs.Walk.{At, run_keeps}
use Rattle.fl_model_laws.proofs.Ends.{same_end_true}
use Rattle.fl_model_laws.proofs.BindingsStep.{IsBoundTo, bound_keep, bindings_keep}
use Rattle.fl_model_laws.proofs.Small.{is_not, each_join}

-- the call fits the interface of the end's binding
record FitsAt (e : EndId) (s : State) (c : TheCall) : Type 0 where
  binding : Binding
  interface : Planned
  at : At s e binding interface
  fits : fits_of interface.interface c ≡ true

-- ---- one event

abbrev AnswerFits : EndId → EndId → TheCall → State → StepOutcome → Type 0
AnswerFits e f c s o = Each (FitsAt e s) (accepted_in e (call f c) o.answer)

chosen_fits : (t : Bool) (e f : EndId) (c : TheCall) (s : State) → same_end e f ≡ t → FitsAt f s c → Each (FitsAt e s) (if t then c ∷ [] else [])
chosen_fits true e f c s q h =
    each_push (FitsAt e s) [] c (none_at_end (FitsAt e s)) (subst (λ (g : EndId). FitsAt g s c) (sym (same_end_true e f q)) h)
chosen_fits false e f c s q h = none_at_end (FitsAt e s)

made_fits : (e f : EndId) (c : TheCall) (b : Binding) (i : Planned) (s : State) → At s f b i → AnswerFits e f c s (makes_call f c i (end_in f.side b) s)
made_fits e f c b i s at =
    either (AnswerFits e f c s) (nat_le (length i.interface.messages) c.msg) _ _ (λ q. none_at_end (FitsAt e s))
    (λ q. either (AnswerFits e f c s) (not (fits_of i.interface c)) _ _ (λ r. none_at_end (FitsAt e s))
    (λ r. either (AnswerFits e f c s) (not (is_bound (end_in f.side b))) _ _ (λ t. none_at_end (FitsAt e s))
    (λ t. either (AnswerFits e f c s) (is_busy i (end_in f.side b).out) _ _ (λ u. none_at_end (FitsAt e s))
    (λ u. chosen_fits (same_end e f) e f c s refl (record { binding = b; interface = i; at = at; fits = is_not _ r })))))

asked_fits : (e : EndId) (v : Event) (s : State) → Each (FitsAt e s) (accepted_in e v (step s v).answer)
asked_fits e (call f c) s =
    by_given (AnswerFits e f c s) (binding_of s f) _ _ (none_at_end (FitsAt e s))
    (λ b q. by_given (AnswerFits e f c s) (interface_of s b) _ _ (none_at_end (FitsAt e s))
    (λ i r. made_fits e f c b i s (record { binding = q; interface = r })))
asked_fits e v s = none_at_end (FitsAt e s)

-- ---- a run

fits_later : (e : EndId) (vs : List Event) (z : State) (b : Binding) (i : Planned) (c : TheCall) → binding_of (reached z vs) e ≡ Some b
    → interface_of (reached z vs) b ≡ Some i → FitsAt e z c → fits_of i.interface c ≡ true
fits_later e vs z b i c q r h =
    let there : IsBoundTo e.binding h.interface (reached z vs) =
    run_keeps (IsBoundTo e.binding h.interface) (bindings_keep (IsBoundTo e.binding h.interface) (bound_keep e.binding h.interface)) vs z
    (record { binding = h.binding; there = h.at.binding; interface = h.at.interface }) in
    let one : there.binding ≡ b = let u : Some there.binding ≡ Some b = sym there.there ∙ q in cc in
    let has : interface_of (reached z vs) b ≡ Some h.interface =
    subst (λ (w : Binding). interface_of (reached z vs) w ≡ Some h.interface) one there.interface in
    let same : h.interface ≡ i = let u : Some h.interface ≡ Some i = sym has ∙ r in cc in
    subst (λ (j : Planned). fits_of j.interface c ≡ true) same h.fits

asked_since : (e : EndId) (vs : List Event) (z : State) (b : Binding) (i : Planned) → binding_of (reached z vs) e ≡ Some b
    → interface_of (reached z vs) b ≡ Some i → AllFit i (calls_accepted e (run z vs))
asked_since e [] z b i q r = none_at_end (λ (c : TheCall). fits_of i.interface c ≡ true)
asked_since e (v ∷ vs) z b i q r =
    each_join (λ (c : TheCall). fits_of i.interface c ≡ true) (accepted_in e v (step z v).answer) (calls_accepted e (run (step z v).state vs))
    (λ n c p. fits_later e (v ∷ vs) z b i c q r (asked_fits e v z n c p)) (asked_since e vs (step z v).state b i q r)

pub asked_calls_fit : AskedCallsFit
asked_calls_fit cores vs e b i q r = asked_since e vs (start_with cores) b i q r
