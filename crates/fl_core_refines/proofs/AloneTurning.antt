-- A dispatcher's turn of one core by itself is the machine's.
use Rattle.std.proofs.Common.{◌≡◌, inl, refl, sym, ◌∙◌, ap, subst, ℕ, not, true, length, map, slice_get, Option, Some, None}
use Rattle.std.specs.Prelude.{Ok}
use Rattle.fl_base.specs.declared.identity.EndId.{EndId}
use Rattle.fl_hop.proofs.Lists.{within}
use Rattle.fl_link.specs.Queue.{QueueTakes}
use Rattle.fl_endpoint.specs.Accounts.{Sound as IsEnd}
use Rattle.fl_core.specs.declared.turn_answer.TurnAnswer.{TurnAnswer}
use Rattle.fl_core.specs.declared.turn_answer.TurnAnswer.TheVariants.{Handle, Part, Ready, Quiet, Full, Nothing, Refused}
use Rattle.fl_core.specs.BoardView.{TheDispatcher, due, due_in}
use Rattle.fl_core.specs.BoardEvents.{Holds}
use Rattle.fl_core.specs.BoardTurns.{Turns, over}
use Rattle.fl_core.specs.declared.wiring.Inlet.{Inlet}
use Rattle.fl_core.specs.declared.wiring.Inlet.TheVariants as inlet
use Rattle.fl_core.specs.View.{TheCore, place_of, inlet_of}
use Rattle.fl_core.specs.Ends.{OnBoard}
use Rattle.fl_model.specs.Events.{turn}
use Rattle.fl_world_refines.proofs.Tests.{lt_true}
use Rattle.fl_world_refines.specs.View.{Given, If, TheWorld, has_dispatcher}
use Rattle.fl_world_refines.specs.Lending.{Refuses, DoesNothing, OverQueue}
use Rattle.fl_world_refines.specs.Taking.{turn_answer, as_turn, TurnsWith, TurnsAt, HasTurn}
use Rattle.fl_world_refines.specs.Step.{Steps}
use Rattle.fl_world_refines.specs.Laws.{StepAgrees, StepsAgree}
use Rattle.fl_world_refines.proofs.FramesBase.{same_some}
use Rattle.fl_core_run.specs.EndProgress.{with_handled as and_handled}
use Rattle.fl_core_run.specs.Run.{SideRelations, TheRun}
use Rattle.fl_core_run.specs.LogEntries.{OnQueue, NotesTurned, turned, Happens, IsSound}
use Rattle.fl_core_refines.specs.AloneTurns.{MachineRun, goes, here, with_handled, turn_noted}
use Rattle.fl_core_refines.specs.AloneShown.{progress_of, world_with, ShowsAlone}
use Rattle.fl_core_refines.specs.AloneLaws.{TurnsAsMachine, TurnsAreTheMachines}
use Rattle.fl_value_data.specs.Value.{call_of}
use Rattle.fl_core_refines.proofs.Standing.{stands, Wired, wired}
use Rattle.fl_core_refines.proofs.Whole.{whole_of, whole_after}
use Rattle.fl_core_refines.proofs.Keeping.{turn_keeps}
use Rattle.fl_core_refines.proofs.Progress.{is_few, same_handled, progress_shown, same_core}
use Rattle.fl_core_refines.proofs.Writing.{settled_same, wrote_world}

-- ---- the dispatcher is there

due_there : (o : Option TheDispatcher) (e : ℕ) → due_in o ≡ Some e → (d : TheDispatcher) × (o ≡ Some d)
due_there None e q = absurd (cc)
due_there (Some d) e q = (d, refl)

pub has_turns : {S : Type 0} (w : TheWorld) (s : TheRun S) (d e : ℕ) → due s.core.board d ≡ Some e → has_dispatcher (world_with w s) (here d) ≡ true
has_turns w s d e q =
    let there = due_there (slice_get s.core.board.dispatchers d) e q in
    lt_true d (length s.core.board.dispatchers) (within s.core.board.dispatchers d there.0 there.1)

-- ---- the event

turn_agrees : {S : Type 0} (law : StepsAgree) (w : TheWorld) (s m : TheRun S) (a : MachineRun) (d : ℕ) (name : EndId) (place from : ℕ) (answer : TurnAnswer)
    → ShowsAlone w s a → IsSound s.core → IsSound m.core → place_of s.core name ≡ Some place → inlet_of s.core place ≡ Some (inlet.Queue from)
    → due s.core.board d ≡ Some place → Holds s.core.board place (λ x. IsEnd x.end)
    → OnQueue from s (λ k p k2 q. OnBoard k (λ b c. Turns QueueTakes d place (over b p) (Ok answer) (over c q)) k2) m
    → StepAgrees (turn (here d)) a.state (turn_answer name answer) (world_with w m)
turn_agrees {S} law w s m a d name place from answer x before sound at takes is_due ready on =
    let whole = whole_of w s a x before in
    let lent : OverQueue (world_with w s) 0 from (TurnsWith QueueTakes (as_turn d place name (turn_answer name answer))) (world_with w m) = record {
      before = s.core;
      before_is = refl;
      whole = whole;
      queue = on.before;
      queue_is = on.before_is;
      after = m.core;
      still = whole_after s.core m.core whole sound (ap (λ (c : TheCore). c.monitor) on.event.rest);
      left = on.after;
      event = (answer, ready, on.event, refl);
      rest = wrote_world w s m from on.after on.rest;
    } in
    let turns : TurnsAt (here d) place (world_with w s) (turn_answer name answer) (world_with w m) =
    (name, inlet.Queue from, record { core = s.core; core_is = refl; due_is = is_due; name_is = at; inlet_is = takes }, inl lent) in
    let given : Given (due s.core.board d) (DoesNothing (world_with w s) (turn_answer name answer) (world_with w m))
    (λ e. TurnsAt (here d) e (world_with w s) (turn_answer name answer) (world_with w m))
    = subst (λ o. Given o (DoesNothing (world_with w s) (turn_answer name answer) (world_with w m))
    (λ e. TurnsAt (here d) e (world_with w s) (turn_answer name answer) (world_with w m))) (sym is_due) turns in
    let does : HasTurn (here d) (world_with w s) (turn_answer name answer) (world_with w m)
    = subst (λ b. If (not b) (Refuses 92 (world_with w s) (turn_answer name answer) (world_with w m))
    (Given (due s.core.board d) (DoesNothing (world_with w s) (turn_answer name answer) (world_with w m))
    (λ e. TurnsAt (here d) e (world_with w s) (turn_answer name answer) (world_with w m)))) (sym (has_turns w s d place is_due)) given in
    let steps : Steps (turn (here d)) (world_with w s) (turn_answer name answer) (world_with w m)
    = record { made = world_with w m; does = does; rest = sym (settled_same w m (turn_answer name answer)) } in
    law (turn (here d)) (world_with w s) (world_with w m) a.state (turn_answer name answer) x.shows steps

noted_core : {S : Type 0} (name : EndId) (answer : TurnAnswer) (m t : TheRun S) → NotesTurned name answer m t → t.core ≡ m.core
noted_core name (Handle c) m t h = same_core m t name (and_handled c) h
noted_core {S} name Part m t h = ap (λ (r : TheRun S). r.core) h
noted_core {S} name Ready m t h = ap (λ (r : TheRun S). r.core) h
noted_core {S} name Quiet m t h = ap (λ (r : TheRun S). r.core) h
noted_core {S} name Full m t h = ap (λ (r : TheRun S). r.core) h
noted_core {S} name Nothing m t h = ap (λ (r : TheRun S). r.core) h
noted_core {S} name (Refused fault) m t h = ap (λ (r : TheRun S). r.core) h

noted_shown : {S : Type 0} (w : TheWorld) (name : EndId) (place : ℕ) (answer : TurnAnswer) (m t : TheRun S) (b : MachineRun) → place_of m.core name ≡ Some place
    → ShowsAlone w m b → NotesTurned name answer m t → ShowsAlone w t (turn_noted (turn_answer name answer) b)
noted_shown w name place (Handle c) m t b at x h = progress_shown w m t b name (and_handled c) (with_handled (call_of c)) (is_few m.core name place at)
    (same_handled c) x h
noted_shown {S} w name place Part m t b at x h = subst (λ (r : TheRun S). ShowsAlone w r b) (sym h) x
noted_shown {S} w name place Ready m t b at x h = subst (λ (r : TheRun S). ShowsAlone w r b) (sym h) x
noted_shown {S} w name place Quiet m t b at x h = subst (λ (r : TheRun S). ShowsAlone w r b) (sym h) x
noted_shown {S} w name place Full m t b at x h = subst (λ (r : TheRun S). ShowsAlone w r b) (sym h) x
noted_shown {S} w name place Nothing m t b at x h = subst (λ (r : TheRun S). ShowsAlone w r b) (sym h) x
noted_shown {S} w name place (Refused fault) m t b at x h = subst (λ (r : TheRun S). ShowsAlone w r b) (sym h) x

pub turn_steps : {S : Type 0} (ways : SideRelations S) (law : StepsAgree) (w : TheWorld) (s t : TheRun S) (a : MachineRun) (d : ℕ) (name : EndId) (place : ℕ)
    (answer : TurnAnswer)
    (k : Wired s name place) → ShowsAlone w s a → place_of s.core name ≡ Some place → Happens ways (turned d name (inlet.Queue k.from) answer) s t
    → TurnsAsMachine w (record { before = s; after = t }) a d name answer
turn_steps {S} ways law w s t a d name place answer k x at (m, (e, found, is_due, on), notes, before, soundly, whole) =
    let core = noted_core name answer m t notes in
    let there : e ≡ place = same_some (place_of s.core name) e place found at in
    let kept = turn_keeps s.core m.core d e on.before on.after answer before on.event in
    let h = stands w s a name place x at in
    let same : Some s.core ≡ Some h.core = h.core_is in
    let one : s.core ≡ h.core = cc in
    let seat : slice_get s.core.board.seats place ≡ Some h.at = ap (λ (c : TheCore). slice_get c.board.seats place) one ∙ h.at_is in
    let agrees = turn_agrees law w s m a d name place k.from answer x before kept at k.inlet_is (subst (λ i. due s.core.board d ≡ Some i) there is_due)
    (h.at, seat, soundly place h.at at seat)
    (subst (λ i. OnQueue k.from s (λ c p c2 q. OnBoard c (λ b b2. Turns QueueTakes d i (over b p) (Ok answer) (over b2 q)) c2) m) there on) in
    let shown : ShowsAlone w m (goes (turn (here d)) a) = record {
      core = kept.core;
      shows = agrees.shows;
      no_rings = ap (λ (r : TheRun S). r.rings) on.rest ∙ x.no_rings;
      no_links = ap (λ (c : TheCore). c.link_sides) on.event.rest ∙ x.no_links;
      progresses = x.progresses ∙ ap (λ (r : TheRun S). map progress_of r.progresses) (sym on.rest);
    } in
    let places : place_of m.core name ≡ Some e = ap (λ (c : TheCore). place_of c name) on.event.rest ∙ found in
    record {
      answers = agrees.answer;
      shows = subst (λ v. ShowsAlone w t (turn_noted v (goes (turn (here d)) a))) (sym agrees.answer)
          (noted_shown w name e answer m t (goes (turn (here d)) a) places shown notes);
      places = ap (λ (c : TheCore). c.places) core ∙ ap (λ (c : TheCore). c.places) on.event.rest;
    }

pub turns_are : {S : Type 0} (ways : SideRelations S) → StepsAgree → TurnsAreTheMachines ways
turns_are {S} ways law w s t a d name place from answer x at there u =
    let k = wired w s a name place x at in
    let same : from ≡ inlet.Queue k.from = same_some (inlet_of s.core place) from (inlet.Queue k.from) there k.inlet_is in
    turn_steps ways law w s t a d name place answer k x at (subst (λ (i : Inlet). Happens ways (turned d name i answer) s t) same u)
