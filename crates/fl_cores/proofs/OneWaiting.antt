-- How many replies wait at an end of one core by itself: as many as in the machine, and none where nothing is left to do.
use Rattle.std.proofs.Common.{◌≡◌, refl, sym, ◌∙◌, ap, ℕ, ◌&&◌, not, Bool, true, false, if◌then◌else◌, List, [], ◌∷◌, length, slice_get, rules}
use Rattle.std.proofs.Common.{Option, Some, None, is_some, IsSome}
use Rattle.std.proofs.lemmas.List.{length-map}
use Rattle.fl_base.specs.declared.identity.EndId.{EndId}
use Rattle.fl_base.specs.declared.identity.Side.{Side}
use Rattle.fl_base.specs.declared.identity.Side.TheVariants.{Client, Server}
use Rattle.fl_base.specs.Given.{given}
use Rattle.fl_value_data.specs.Value.{TheCall}
use Rattle.fl_endpoint.specs.View.{TheOutgoing}
use Rattle.fl_core.specs.BoardView.{TheEndAtChannel}
use Rattle.fl_core.specs.View.{TheCore, place_of}
use Rattle.fl_model.specs.Calls.{Planned}
use Rattle.fl_model.specs.Ends.{End, is_bound, is_busy}
use Rattle.fl_model.specs.Laws.{waiting_at}
use Rattle.fl_model.specs.Sound.{Sound}
use Rattle.fl_model.specs.SoundRoutes.{BoundBy, BothBound, BoundWhere}
use Rattle.fl_model.specs.State.{OpeningVerdict, undecided, granted, denied, Route, Back, local, over_ring, over_route, Binding, State}
use Rattle.fl_model.specs.State.{binding_of, interface_of, end_in}
use Rattle.fl_model_laws.proofs.Small.{both_are}
use Rattle.fl_world_refines.specs.View.{TheWorld}
use Rattle.fl_world_refines.specs.ShowsState.{Shows}
use Rattle.fl_world_refines.proofs.FramesBase.{end_of_binding}
use Rattle.fl_world_refines.proofs.FramesFind.{interface_known}
use Rattle.fl_core_run.specs.Run.{TheRun}
use Rattle.fl_core_run.specs.Accepted.{count_waiting}
use Rattle.fl_core_run.proofs.Accepting.{waiting_is}
use Rattle.fl_core_refines.specs.AloneTurns.{MachineRun, progress_at, is_there, is_still, is_clear, is_done_at}
use Rattle.fl_core_refines.specs.AloneShown.{ShowsAlone}
use Rattle.fl_core_refines.proofs.Standing.{stands}
use Rattle.fl_core_refines.proofs.Serving.{end_away}

-- ---- an end without a seat isn't bound, and has accepted nothing

some_none : {X : Type 0} (o : Option X) → IsSome o → o ≡ None → ⊥
some_none None some none = search (rules, some)
some_none (Some x) some none = absurd (cc)

none_by : {X : Type 0} (o : Option X) → is_some o ≡ false → o ≡ None
none_by None q = refl
none_by (Some x) q = absurd (cc)

both_seated : (b : Binding) (side : Side) → BothBound b → (end_in side b).seat ≡ None → ⊥
both_seated b Client bound none = some_none b.client.seat bound.2 none
both_seated b Server bound none = some_none b.server.seat bound.3 none

server_unbound : (route : Route) (verdict : OpeningVerdict) (b : Binding) → BoundBy route verdict b → b.server.seat ≡ None → b.server.circuit ≡ None
server_unbound route undecided b bound none = bound.1
server_unbound route (denied i fault) b bound none = bound.1
server_unbound route (granted i) b bound none = absurd (some_none b.server.seat bound.2 none)

unbound_by : (s : State) (n : ℕ) (b : Binding) (side : Side) (back : Back) → Sound s → slice_get s.bindings n ≡ Some b → b.back ≡ back → BoundWhere back b
    → (end_in side b).seat ≡ None → (end_in side b).circuit ≡ None
unbound_by s n b side local sound is back bound none = absurd (both_seated b side bound none)
unbound_by s n b side (over_ring m) sound is back bound none = absurd (both_seated b side bound none)
unbound_by s n b Client (over_route route) sound is back bound none =
    let leads = sound.routes n route (record { binding = b; there = is; back = back }) in
    absurd (let clash : Some leads.client ≡ None = sym leads.client_is ∙ none in cc)
unbound_by s n b Server (over_route route) sound is back bound none = server_unbound route route.verdict b bound none

waits_of : (s : State) (e : EndId) (b : Binding) → binding_of s e ≡ Some b → waiting_at s e ≡ (end_in e.side b).out.waiting
waits_of s e b is = ap (λ (o : Option End). given o [] λ x. x.out.waiting) (end_of_binding s e b is)

unseated_waits : (w : TheWorld) (s : State) (e : EndId) (b : Binding) → Shows w s → binding_of s e ≡ Some b → (end_in e.side b).seat ≡ None
    → waiting_at s e ≡ []
unseated_waits w s e b shown is none =
    let unbound = unbound_by s e.binding b e.side b.back shown.sound is refl (shown.sound.bound e.binding b is) none in
    waits_of s e b is ∙ (shown.showing.bindings.silent e (end_in e.side b) (end_of_binding s e b is) unbound).waiting

-- so it is of one that isn't there
away_waits : (w : TheWorld) (s : State) (e : EndId) → Shows w s → is_there s e ≡ false → waiting_at s e ≡ []
away_waits w s e shown away = by (binding_of s e) refl
  where
    by : (o : Option Binding) → binding_of s e ≡ o → waiting_at s e ≡ []
    by None q = ap (λ (o : Option Binding). given (given o None λ b. Some (end_in e.side b)) [] λ (x : End). x.out.waiting) q
    by (Some b) q =
        let seat : (end_in e.side b).seat ≡ None
        = none_by (end_in e.side b).seat (sym (ap (λ (o : Option End). given o false λ x. is_some x.seat) (end_of_binding s e b q)) ∙ away) in
        unseated_waits w s e b shown q seat

-- ---- as many as in the machine

same_core : (c d : TheCore) → Some c ≡ Some d → c ≡ d
same_core c d q = cc

pub waits_same : {S : Type 0} (w : TheWorld) (r : TheRun S) (a : MachineRun) (e : EndId) → ShowsAlone w r a
    → count_waiting r e ≡ length (waiting_at a.state e)
waits_same w r a e x = by (place_of r.core e) refl
  where
    by : (o : Option ℕ) → place_of r.core e ≡ o → count_waiting r e ≡ length (waiting_at a.state e)
    by None q =
        ap (λ (o : Option ℕ). given o 0 λ p. given (slice_get r.core.board.seats p) 0 λ (s : TheEndAtChannel). length s.end.outgoing.waiting) q
        ∙ sym (ap (λ (calls : List TheCall). length calls) (away_waits _ a.state e x.shows (end_away w r a e x q)))
    by (Some place) q =
        let h = stands w r a e place x q in
        let core : r.core ≡ h.core = same_core r.core h.core h.core_is in
        let seat : slice_get r.core.board.seats place ≡ Some h.at = ap (λ (c : TheCore). slice_get c.board.seats place) core ∙ h.at_is in
        let end = end_in e.side h.binding in
        waiting_is r e place h.at q seat
        ∙ ap (λ (o : TheOutgoing). length o.waiting) h.shows.outgoing
        ∙ length-map end.out.waiting _
        ∙ sym (ap (λ (calls : List TheCall). length calls) (waits_of a.state e h.binding h.binding_is))

-- ---- where nothing is left to do

not_true : (b : Bool) → not b ≡ true → b ≡ true → ⊥
not_true true q r = cc
not_true false q r = cc

still_waits : (s : State) (e : EndId) (b : Binding) → Sound s → binding_of s e ≡ Some b → is_still s e ≡ true → waiting_at s e ≡ []
still_waits s e b sound is still =
    let i = interface_known s e b sound is in
    let out = (end_in e.side b).out in
    let both : (is_bound (end_in e.side b) && not (is_busy i.0 out)) ≡ true =
    sym (ap (λ (o : Option Binding). given o true λ y. given (interface_of s y) true λ j.
    is_bound (end_in e.side y) && not (is_busy j (end_in e.side y).out)) is
    ∙ ap (λ (o : Option Planned). given o true λ j. is_bound (end_in e.side b) && not (is_busy j out)) i.1) ∙ still in
    let quiet = (both_are (is_bound (end_in e.side b)) (not (is_busy i.0 out)) both).1 in
    waits_of s e b is ∙ by out.waiting refl i.0 i.1 quiet
  where
    by : (waiting : List TheCall) → (end_in e.side b).out.waiting ≡ waiting → (i : Planned) → interface_of s b ≡ Some i
        → not (is_busy i (end_in e.side b).out) ≡ true → (end_in e.side b).out.waiting ≡ []
    by [] q i i_is quiet = q
    by (c ∷ cs) q i i_is quiet =
        absurd (not_true (is_busy i (end_in e.side b).out) quiet
        (sound.busy e b i is i_is (λ none. let clash : c ∷ cs ≡ [] = sym q ∙ none in absurd (cc))))

pub done_waits : {S : Type 0} (w : TheWorld) (r : TheRun S) (a : MachineRun) (e : EndId) → ShowsAlone w r a → is_done_at a e ≡ true → waiting_at a.state e ≡ []
done_waits w r a e x done =
    let rest = (both_are (is_clear (progress_at a e)) (if is_there a.state e then is_still a.state e else true) done).1 in
    by (is_there a.state e) refl rest
  where
    there : (o : Option Binding) → binding_of a.state e ≡ o → is_still a.state e ≡ true → waiting_at a.state e ≡ []
    there None q still = ap (λ (o : Option Binding). given (given o None λ b. Some (end_in e.side b)) [] λ (y : End). y.out.waiting) q
    there (Some b) q still = still_waits a.state e b x.shows.sound q still

    by : (b : Bool) → is_there a.state e ≡ b → (if b then is_still a.state e else true) ≡ true → waiting_at a.state e ≡ []
    by false q rest = away_waits _ a.state e x.shows q
    by true q rest = there (binding_of a.state e) refl rest
