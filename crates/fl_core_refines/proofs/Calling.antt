-- A call and a reply rule of an end of one core by itself are the machine's.
use Rattle.std.proofs.Common.{◌≡◌, ◌≢◌, refl, sym, ◌∙◌, ap, subst, ℕ, map, Some}
use Rattle.std.specs.Prelude.{Result, Ok, Err}
use Rattle.fl_base.specs.declared.identity.EndId.{EndId}
use Rattle.fl_value_data.specs.Value.{TheCall}
use Rattle.fl_endpoint.specs.declared.fault.EndFault.{EndFault}
use Rattle.fl_endpoint.specs.declared.fault.EndFault.TheVariants.{Memory, Spent, Busy, UnknownMessage, Misfit, NotBound, Failed, Wire}
use Rattle.fl_endpoint.specs.Faults.{fault_number}
use Rattle.fl_endpoint.specs.Events.{Calls, SetsRule}
use Rattle.fl_core.specs.BoardEvents.{ChangesEnd}
use Rattle.fl_core.specs.View.{TheCore, place_of}
use Rattle.fl_core.specs.Sound.{IsCore}
use Rattle.fl_core.specs.Ends.{OnBoard}
use Rattle.fl_model.specs.Events.{Event, call, reply, Answer, accepted, done, refused}
use Rattle.fl_world_refines.specs.View.{TheWorld, WhereEnd, made, with_core}
use Rattle.fl_world_refines.specs.Sending.{IsCalled, CallsAt, MakesCall}
use Rattle.fl_world_refines.specs.Taking.{IsRuled, reply_rule, RulesAt, SetsReply}
use Rattle.fl_world_refines.specs.Step.{Steps}
use Rattle.fl_world_refines.specs.Laws.{StepAgrees, StepsAgree}
use Rattle.fl_core_run.specs.EndProgress.{advanced as one_more}
use Rattle.fl_core_run.specs.Run.{SideRelations, TheRun}
use Rattle.fl_core_run.specs.LogEntries.{OnCore, NotesCalled, IsSound}
use Rattle.fl_core_refines.specs.AloneTurns.{MachineRun, goes, advanced, call_noted}
use Rattle.fl_core_refines.specs.AloneShown.{progress_of, world_with, ShowsAlone}
use Rattle.fl_core_refines.specs.AloneLaws.{CallsAreTheMachines, RulesAreTheMachines}
use Rattle.fl_core_refines.proofs.Standing.{location_is, stands}
use Rattle.fl_core_refines.proofs.Whole.{whole_of, whole_after}
use Rattle.fl_core_refines.proofs.Keeping.{call_keeps, rule_keeps}
use Rattle.fl_core_refines.proofs.Progress.{is_few, same_advanced, progress_shown, same_core}
use Rattle.fl_core_refines.proofs.Writing.{settled_same}

-- ---- an event at the core's board alone

core_world : {S : Type 0} (w : TheWorld) (s m : TheRun S) → m ≡ record s { core = m.core } → world_with w m ≡ with_core (world_with w s) 0 m.core
core_world {S} w s m h = ap (λ (x : TheRun S). world_with w x) h

-- the core alone has changed; it shows what the world shows
pub core_shown : {S : Type 0} (w : TheWorld) (s m : TheRun S) (a : MachineRun) (event : Event) (answer : Answer) → ShowsAlone w s a → IsCore m.core
    → m ≡ record s { core = m.core }
    → m.core.link_sides ≡ s.core.link_sides → StepAgrees event a.state answer (world_with w m) → ShowsAlone w m (goes event a)
core_shown {S} w s m a event answer x core rest link_sides agrees = record {
  core = core;
  shows = agrees.shows;
  no_rings = ap (λ (r : TheRun S). r.rings) rest ∙ x.no_rings;
  no_links = link_sides ∙ x.no_links;
  progresses = x.progresses ∙ ap (λ (r : TheRun S). map progress_of r.progresses) (sym rest);
}

-- ---- a call

abbrev pub call_answer : Result (Unit {0}) EndFault → Answer
call_answer (Ok unit) = accepted
call_answer (Err fault) = refused (fault_number fault)

is_called : (r : Result (Unit {0}) EndFault) → r ≢ Err Memory → IsCalled r (call_answer r)
is_called (Ok unit) h = refl
is_called (Err Memory) h = absurd (h refl)
is_called (Err Spent) h = refl
is_called (Err Busy) h = refl
is_called (Err UnknownMessage) h = refl
is_called (Err Misfit) h = refl
is_called (Err NotBound) h = refl
is_called (Err Failed) h = refl
is_called (Err (Wire f)) h = refl

call_agrees : {S : Type 0} (law : StepsAgree) (w : TheWorld) (s m : TheRun S) (a : MachineRun) (name : EndId) (c : TheCall) (place : ℕ) (answer : Result
    (Unit {0}) EndFault)
    → ShowsAlone w s a → IsSound s.core → IsSound m.core → place_of s.core name ≡ Some place → answer ≢ Err Memory
    → OnCore s (λ k k2. OnBoard k (λ b b2. ChangesEnd b place (λ x y. Calls x c answer y) b2) k2) m
    → StepAgrees (call name c) a.state (call_answer answer) (world_with w m)
call_agrees {S} law w s m a name c place answer x before sound at some on =
    let h = stands w s a name place x at in
    let whole = whole_of w s a x before in
    let is = is_called answer some in
    let by : CallsAt (made 0 place) name c (world_with w s) (call_answer answer) (world_with w m) = record {
      before = s.core;
      before_is = refl;
      whole = whole;
      after = m.core;
      still = whole_after s.core m.core whole sound (ap (λ (k : TheCore). k.monitor) on.event.rest);
      event = (answer, on.event, is);
      rest = core_world w s m on.rest;
    } in
    let does : MakesCall name c (world_with w s) (call_answer answer) (world_with w m)
    = subst (λ (location : WhereEnd). CallsAt location name c (world_with w s) (call_answer answer) (world_with w m))
    (sym (location_is (world_with w s) a.state name 0 place h x.shows.showing)) by in
    let steps : Steps (call name c) (world_with w s) (call_answer answer) (world_with w m)
    = record { made = world_with w m; does = does; rest = sym (settled_same w m (call_answer answer)) } in
    law (call name c) (world_with w s) (world_with w m) a.state (call_answer answer) x.shows steps

noted_core : {S : Type 0} (name : EndId) (answer : Result (Unit {0}) EndFault) (m t : TheRun S) → NotesCalled name answer m t → t.core ≡ m.core
noted_core name (Ok unit) m t h = same_core m t name one_more h
noted_core {S} name (Err fault) m t h = ap (λ (r : TheRun S). r.core) h

noted_shown : {S : Type 0} (w : TheWorld) (name : EndId) (place : ℕ) (answer : Result (Unit {0}) EndFault) (m t : TheRun S) (b : MachineRun)
    → place_of m.core name ≡ Some place
    → ShowsAlone w m b → NotesCalled name answer m t → ShowsAlone w t (call_noted name (call_answer answer) b)
noted_shown w name place (Ok unit) m t b at x h = progress_shown w m t b name one_more advanced (is_few m.core name place at) same_advanced x h
noted_shown {S} w name place (Err fault) m t b at x h = subst (λ (r : TheRun S). ShowsAlone w r b) (sym h) x

pub calls_are : {S : Type 0} (ways : SideRelations S) → StepsAgree → CallsAreTheMachines ways
calls_are {S} ways law w s t a name c answer x some (m, (e, found, on), notes, before, soundly, whole) =
    let core = noted_core name answer m t notes in
    let kept = call_keeps s.core m.core e c answer before on.event in
    let agrees = call_agrees law w s m a name c e answer x before kept found some on in
    let shown = core_shown w s m a (call name c) (call_answer answer) x kept.core on.rest (ap (λ (k : TheCore). k.link_sides) on.event.rest) agrees in
    let places : place_of m.core name ≡ Some e = ap (λ (k : TheCore). place_of k name) on.event.rest ∙ found in
    let noted = noted_shown w name e answer m t (goes (call name c) a) places shown notes in
    record {
      answers = subst (IsCalled answer) (sym agrees.answer) (is_called answer some);
      shows = subst (λ v. ShowsAlone w t (call_noted name v (goes (call name c) a))) (sym agrees.answer) noted;
      places = ap (λ (k : TheCore). k.places) core ∙ ap (λ (k : TheCore). k.places) on.event.rest;
    }

-- ---- a reply rule

abbrev rule_answer : Result (Unit {0}) EndFault → Answer
rule_answer (Ok unit) = done
rule_answer (Err fault) = refused (fault_number fault)

is_ruled : (r : Result (Unit {0}) EndFault) → IsRuled r (rule_answer r)
is_ruled (Ok unit) = refl
is_ruled (Err fault) = refl

rule_agrees : {S : Type 0} (law : StepsAgree) (w : TheWorld) (s m : TheRun S) (a : MachineRun) (name : EndId) (msg answer : ℕ) (place : ℕ) (r : Result
    (Unit {0}) EndFault)
    → ShowsAlone w s a → IsSound s.core → IsSound m.core → place_of s.core name ≡ Some place
    → OnCore s (λ k k2. OnBoard k (λ b b2. ChangesEnd b place (λ x y. SetsRule x msg answer r y) b2) k2) m
    → StepAgrees (reply name msg answer) a.state (rule_answer r) (world_with w m)
rule_agrees {S} law w s m a name msg answer place r x before sound at on =
    let h = stands w s a name place x at in
    let whole = whole_of w s a x before in
    let by : RulesAt (made 0 place) (reply_rule name msg answer) (world_with w s) (rule_answer r) (world_with w m) = record {
      before = s.core;
      before_is = refl;
      whole = whole;
      after = m.core;
      still = whole_after s.core m.core whole sound (ap (λ (k : TheCore). k.monitor) on.event.rest);
      event = (r, on.event, is_ruled r);
      rest = core_world w s m on.rest;
    } in
    let does : SetsReply name msg answer (world_with w s) (rule_answer r) (world_with w m)
    = subst (λ (location : WhereEnd). RulesAt location (reply_rule name msg answer) (world_with w s) (rule_answer r) (world_with w m))
    (sym (location_is (world_with w s) a.state name 0 place h x.shows.showing)) by in
    let steps : Steps (reply name msg answer) (world_with w s) (rule_answer r) (world_with w m)
    = record { made = world_with w m; does = does; rest = sym (settled_same w m (rule_answer r)) } in
    law (reply name msg answer) (world_with w s) (world_with w m) a.state (rule_answer r) x.shows steps

pub rules_are : {S : Type 0} (ways : SideRelations S) → StepsAgree → RulesAreTheMachines ways
rules_are {S} ways law w s t a name msg answer r x (m, (e, found, on), notes, before, soundly, whole) =
    let core = same_core m t name one_more notes in
    let kept = rule_keeps s.core m.core e msg.0 answer.0 r before on.event in
    let agrees = rule_agrees law w s m a name msg.0 answer.0 e r x before kept found on in
    let shown = core_shown w s m a (reply name msg.0 answer.0) (rule_answer r) x kept.core on.rest (ap (λ (k : TheCore). k.link_sides) on.event.rest) agrees in
    let places : place_of m.core name ≡ Some e = ap (λ (k : TheCore). place_of k name) on.event.rest ∙ found in
    record {
      answers = subst (IsRuled r) (sym agrees.answer) (is_ruled r);
      shows = progress_shown w m t (goes (reply name msg.0 answer.0) a) name one_more advanced (is_few m.core name e places) same_advanced shown notes;
      places = ap (λ (k : TheCore). k.places) core ∙ ap (λ (k : TheCore). k.places) on.event.rest;
    }
