-- Whether anything is left to do at a core by itself is seen in the machine's state and the ends' progress.
use Rattle.std.proofs.Common.{◌≡◌, refl, sym, ◌∙◌, ap, ℕ, zero, suc, ◌&&◌, ◌==◌, not, nat_lt, Bool, true, false, if◌then◌else◌, List, [], ◌∷◌}
use Rattle.std.proofs.Common.{length, map, slice_get, Option, Some, None, is_some}
use Rattle.fl_base.specs.declared.fragment.Frag.{Frag}
use Rattle.fl_base.specs.declared.identity.EndId.{EndId}
use Rattle.fl_base.specs.Ends.{other}
use Rattle.fl_base.specs.Given.{given}
use Rattle.fl_base.specs.Numbered.{most_bindings}
use Rattle.fl_value_data.specs.Value.{call_of}
use Rattle.fl_hop.proofs.Lists.{at_within, within}
use Rattle.fl_endpoint.specs.View.{TheEnd, is_circuit, are_some, is_busy as is_busy_at}
use Rattle.fl_core.specs.BoardView.{TheEndAtChannel}
use Rattle.fl_core.specs.View.{TheCore, place_of, slot_of}
use Rattle.fl_model.specs.Calls.{Planned}
use Rattle.fl_model.specs.Ends.{End, Direction, is_bound, is_busy}
use Rattle.fl_model.specs.State.{Binding, interface_of, end_in}
use Rattle.fl_world_refines.specs.Ends.{EndShows}
use Rattle.fl_world_refines.proofs.EndCalling.{busy_is, idle_is}
use Rattle.fl_world_refines.proofs.Tests.{true_lt}
use Rattle.fl_world_refines.specs.View.{TheWorld}
use Rattle.fl_core_run.specs.declared.opening_status.OpeningStatus.{OpeningStatus}
use Rattle.fl_core_run.specs.declared.opening_status.OpeningStatus.TheVariants.{Silent}
use Rattle.fl_core_run.specs.EndProgress.{TheEndProgress, is_clear as is_clear_progress}
use Rattle.fl_core_run.specs.Run.{TheRun}
use Rattle.fl_core_run.specs.Finished.{is_still as is_still_end, is_at_rest, is_progress_clear, is_done_at as done_at, is_done, all_done}
use Rattle.fl_core_refines.specs.AloneTurns.{MachineRun, progress_at, is_there, is_still, is_clear, is_done_at, are_done}
use Rattle.fl_core_refines.specs.AloneShown.{progress_of, ShowsAlone, HasFew, AreSilent}
use Rattle.fl_core_refines.proofs.Standing.{stands}
use Rattle.fl_core_refines.proofs.Progress.{get_some, get_none, progress_is, past}
use Rattle.fl_core_refines.proofs.Serving.{end_there, end_away}

-- ---- an end

bound_same : (o : Option ℕ) → is_circuit o ≡ is_some o
bound_same None = refl
bound_same (Some c) = refl

busy_same : (i : Planned) (x : End) (peer : Direction) (t : TheEnd) → EndShows i x peer t → is_busy_at t.outgoing ≡ is_busy i x.out
busy_same i x peer t h = by t.outgoing.unwritten refl
  where
    by : (frags : List Frag) → t.outgoing.unwritten ≡ frags → are_some t.outgoing.unwritten ≡ is_busy i x.out
    by [] q = ap are_some q ∙ sym (idle_is i x peer t h q)
    by (f ∷ frags) q = ap are_some q ∙ sym (busy_is i x peer t h (λ none. let both : [] ≡ f ∷ frags = sym none ∙ q in absurd (cc)))

still_same : (i : Planned) (x : End) (peer : Direction) (t : TheEnd) → EndShows i x peer t → is_still_end t ≡ (is_bound x && not (is_busy i x.out))
still_same i x peer t h =
    ap (λ b. b && not (is_busy_at t.outgoing)) (ap is_circuit h.circuit ∙ bound_same x.circuit)
    ∙ ap (λ b. is_bound x && not b) (busy_same i x peer t h)

rests_here : {S : Type 0} (w : TheWorld) (r : TheRun S) (a : MachineRun) (e : EndId) (place : ℕ) → ShowsAlone w r a → place_of r.core e ≡ Some place
    → is_at_rest r.core e ≡ is_still a.state e
rests_here w r a e place x at =
    let h = stands w r a e place x at in
    let same : Some r.core ≡ Some h.core = h.core_is in
    let core : r.core ≡ h.core = cc in
    let seat : slice_get r.core.board.seats place ≡ Some h.at = ap (λ (c : TheCore). slice_get c.board.seats place) core ∙ h.at_is in
    let found : is_still a.state e ≡ (is_bound (end_in e.side h.binding) && not (is_busy h.interface (end_in e.side h.binding).out))
    = ap (λ (o : Option Binding). given o true λ b. given (interface_of a.state b) true λ i. is_bound (end_in e.side b) && not (is_busy i
    (end_in e.side b).out)) h.binding_is
    ∙ ap (λ (o : Option Planned). given o true λ i. is_bound (end_in e.side h.binding) && not (is_busy i (end_in e.side h.binding).out)) h.interface_is in
    ap (λ o. given o true λ n. given (slice_get r.core.board.seats n) true λ (s : TheEndAtChannel). is_still_end s.end) at
    ∙ ap (λ o. given o true λ (s : TheEndAtChannel). is_still_end s.end) seat
    ∙ still_same h.interface (end_in e.side h.binding) (end_in (other e.side) h.binding).out h.at.end h.shows
    ∙ sym found

rests : {S : Type 0} (w : TheWorld) (r : TheRun S) (a : MachineRun) (e : EndId) → ShowsAlone w r a
    → is_at_rest r.core e ≡ (if is_there a.state e then is_still a.state e else true)
rests w r a e x = by (place_of r.core e) refl
  where
    by : (o : Option ℕ) → place_of r.core e ≡ o → is_at_rest r.core e ≡ (if is_there a.state e then is_still a.state e else true)
    by None q =
        ap (λ o. given o true λ n. given (slice_get r.core.board.seats n) true λ (s : TheEndAtChannel). is_still_end s.end) q
        ∙ sym (ap (λ b. if b then is_still a.state e else true) (end_away w r a e x q))
    by (Some place) q = rests_here w r a e place x q ∙ sym (ap (λ b. if b then is_still a.state e else true) (end_there w r a e place x q))

-- ---- its end's progress

long_map : {X Y : Type 0} (f : X → Y) (xs : List X) → length (map f xs) ≡ length xs
long_map f [] = refl
long_map f (x ∷ xs) = ap suc (long_map f xs)

clear_same : (d : TheEndProgress) → is_clear_progress d ≡ is_clear (Some (progress_of d))
clear_same d = ap (λ n. (d.done == length d.jobs) && (n == d.due)) (sym (long_map call_of d.handled))

clear : {S : Type 0} (w : TheWorld) (r : TheRun S) (a : MachineRun) (e : EndId) → ShowsAlone w r a → nat_lt e.binding most_bindings ≡ true
    → is_progress_clear r e ≡ is_clear (progress_at a e)
clear w r a e x few = by (nat_lt (slot_of e) (length r.progresses)) refl
  where
    there : (b : Bool) → nat_lt (slot_of e) (length r.progresses) ≡ b
        → is_progress_clear r e ≡ given (if b then Some (slot_of e) else None) true λ n. given (slice_get r.progresses n) true is_clear_progress
    there b q = ap (λ o. given o true λ n. given (slice_get r.progresses n) true is_clear_progress) (progress_is r.progresses e b few q)

    by : (b : Bool) → nat_lt (slot_of e) (length r.progresses) ≡ b → is_progress_clear r e ≡ is_clear (progress_at a e)
    by true q =
        let d = at_within r.progresses (slot_of e) (true_lt (slot_of e) (length r.progresses) q) in
        let here : slice_get a.progresses (slot_of e) ≡ Some (progress_of d.0) = ap (λ ds. slice_get ds (slot_of e)) x.progresses
        ∙ get_some progress_of r.progresses (slot_of e) d.0 d.1 in
        there true q ∙ ap (λ o. given o true is_clear_progress) d.1 ∙ clear_same d.0 ∙ sym (ap is_clear here)
    by false q =
        let none : slice_get a.progresses (slot_of e) ≡ None = ap (λ ds. slice_get ds (slot_of e)) x.progresses
        ∙ get_none progress_of r.progresses (slot_of e) (past r.progresses (slot_of e) q) in
        there false q ∙ sym (ap is_clear none)

-- ---- all ends

done_same : {S : Type 0} (w : TheWorld) (r : TheRun S) (a : MachineRun) (e : EndId) → ShowsAlone w r a → nat_lt e.binding most_bindings ≡ true
    → done_at r e Silent ≡ is_done_at a e
done_same w r a e x few =
    ap (λ b. b && is_at_rest r.core e) (clear w r a e x few)
    ∙ ap (λ b. is_clear (progress_at a e) && b) (rests w r a e x)

pub all_same : {S : Type 0} (w : TheWorld) (r : TheRun S) (a : MachineRun) (ends : List EndId) (words : List OpeningStatus) (n : ℕ) → ShowsAlone w r a
    → HasFew ends → AreSilent ends words
    → all_done r ends words n ≡ are_done a ends n
all_same w r a ends words zero x few silent = refl
all_same w r a ends words (suc n) x few silent =
    ap (λ b. b && is_done r ends words n) (all_same w r a ends words n x few silent)
    ∙ ap (λ b. are_done a ends n && b) (by (slice_get ends n) refl)
  where
    by : (o : Option EndId) → slice_get ends n ≡ o → is_done r ends words n ≡ given (slice_get ends n) true (is_done_at a)
    by None q =
        ap (λ o. given o true λ name. given (slice_get words n) true λ word. done_at r name word) q ∙ sym (ap (λ o. given o true (is_done_at a)) q)
    by (Some e) q =
        ap (λ o. given o true λ name. given (slice_get words n) true λ word. done_at r name word) q
        ∙ ap (λ o. given o true λ word. done_at r e word) (silent n (within ends n e q))
        ∙ done_same w r a e x (few n e q)
        ∙ sym (ap (λ o. given o true (is_done_at a)) q)
