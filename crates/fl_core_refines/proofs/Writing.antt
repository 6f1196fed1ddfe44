-- A write of an end of one core by itself is the machine's.
use Rattle.std.proofs.Common.{◌≡◌, inl, refl, sym, ◌∙◌, ap, subst, ℕ, map, slice_set, Some}
use Rattle.std.specs.Prelude.{Result, Ok, Err}
use Rattle.fl_base.specs.declared.identity.EndId.{EndId}
use Rattle.fl_link.specs.Queue.{TheQueue, QueuePuts}
use Rattle.fl_endpoint.specs.declared.fault.EndFault.{EndFault}
use Rattle.fl_endpoint.specs.declared.answer.WriteAnswer.{WriteAnswer}
use Rattle.fl_endpoint.specs.declared.answer.WriteAnswer.TheVariants.{Written, Full, Nothing}
use Rattle.fl_endpoint.specs.Faults.{fault_number}
use Rattle.fl_core.specs.declared.wiring.Outlet.{Outlet}
use Rattle.fl_core.specs.declared.wiring.Outlet.TheVariants as outlet
use Rattle.fl_core.specs.View.{TheCore, place_of, outlet_of}
use Rattle.fl_core.specs.Ends.{at_side, WritesAt}
use Rattle.fl_model.specs.Events.{write, Answer, nothing, full, written, refused}
use Rattle.fl_world_refines.specs.View.{TheWorld, WhereEnd, made, with_core, with_queue}
use Rattle.fl_world_refines.specs.Lending.{answer_at, OverQueue}
use Rattle.fl_world_refines.specs.Sending.{IsWritten, WritesWith, WritesBy, WritesFragment}
use Rattle.fl_world_refines.specs.Step.{settled_by, Steps}
use Rattle.fl_world_refines.specs.Laws.{StepAgrees, StepsAgree}
use Rattle.fl_world_refines.proofs.FramesBase.{same_some}
use Rattle.fl_core_run.specs.Run.{SideRelations, TheRun}
use Rattle.fl_core_run.specs.LogEntries.{wrote, Happens}
use Rattle.fl_core_refines.specs.AloneTurns.{MachineRun, goes}
use Rattle.fl_core_refines.specs.AloneShown.{progress_of, world_with, ShowsAlone}
use Rattle.fl_core_refines.specs.AloneLaws.{WritesAsMachine, WritesAreTheMachines}
use Rattle.fl_core_refines.proofs.Standing.{location_is, stands, Wired, wired}
use Rattle.fl_core_refines.proofs.Whole.{whole_of, whole_after}
use Rattle.fl_core_refines.proofs.Keeping.{write_keeps}

-- ---- the world of one core settles as it is

pub settled_same : {S : Type 0} (w : TheWorld) (r : TheRun S) (a : Answer) → settled_by a (world_with w r) ≡ world_with w r
settled_same w r (refused n) = refl
settled_same w r a = refl

-- ---- the answer

abbrev write_answer : Result WriteAnswer EndFault → Answer
write_answer (Ok (Written k n)) = written k n
write_answer (Ok Full) = full
write_answer (Ok Nothing) = nothing
write_answer (Err fault) = refused (fault_number fault)

is_written : (r : Result WriteAnswer EndFault) → IsWritten r (write_answer r)
is_written (Ok (Written k n)) = refl
is_written (Ok Full) = refl
is_written (Ok Nothing) = refl
is_written (Err fault) = refl

-- ---- the event

-- what is changed of the world is what is changed of the core and its queues
pub wrote_world : {S : Type 0} (w : TheWorld) (s m : TheRun S) (n : ℕ) (q : TheQueue) → m ≡ record s { core = m.core; queues = slice_set s.queues n q }
    → world_with w m ≡ with_queue (with_core (world_with w s) 0 m.core) n q
wrote_world {S} w s m n q h = ap (λ (x : TheRun S). world_with w x) h

pub write_steps : {S : Type 0} (ways : SideRelations S) (law : StepsAgree) (w : TheWorld) (s t : TheRun S) (a : MachineRun) (name : EndId) (place : ℕ)
    (answer : Result WriteAnswer EndFault)
    (k : Wired s name place) → ShowsAlone w s a → place_of s.core name ≡ Some place → Happens ways (wrote name (outlet.Queue k.out) answer) s t
    → WritesAsMachine w (record { before = s; after = t }) a name answer
write_steps {S} ways law w s t a name place answer k x at (m, (e, found, on), same, before, soundly, whole) =
    let h = stands w s a name place x at in
    let there : e ≡ place = same_some (place_of s.core name) e place found at in
    let whole = whole_of w s a x before in
    let kept = write_keeps s.core m.core e on.before on.after answer before on.event in
    let over : OverQueue (world_with w s) 0 k.out (WritesWith QueuePuts (answer_at place (write_answer answer))) (world_with w m) = record {
      before = s.core;
      before_is = refl;
      whole = whole;
      queue = on.before;
      queue_is = on.before_is;
      after = m.core;
      still = whole_after s.core m.core whole kept (ap (λ (c : TheCore). c.monitor) on.event.rest);
      left = on.after;
      event = (answer, subst (λ (i : ℕ). WritesAt QueuePuts i (at_side s.core on.before) answer (at_side m.core on.after)) there on.event, is_written answer);
      rest = wrote_world w s m k.out on.after on.rest;
    } in
    let by : WritesBy (made 0 place) (world_with w s) (write_answer answer) (world_with w m)
    = (outlet.Queue k.out, record { core = s.core; core_is = refl; outlet_is = k.outlet_is }, inl over) in
    let does : WritesFragment name (world_with w s) (write_answer answer) (world_with w m)
    = subst (λ (location : WhereEnd). WritesBy location (world_with w s) (write_answer answer) (world_with w m)) (sym (location_is
    (world_with w s) a.state name 0 place h x.shows.showing)) by in
    let steps : Steps (write name) (world_with w s) (write_answer answer) (world_with w m)
    = record { made = world_with w m; does = does; rest = sym (settled_same w m (write_answer answer)) } in
    let agrees : StepAgrees (write name) a.state (write_answer answer) (world_with w m)
    = law (write name) (world_with w s) (world_with w m) a.state (write_answer answer) x.shows steps in
    let shown : ShowsAlone w m (goes (write name) a) = record {
      core = kept.core;
      shows = agrees.shows;
      no_rings = ap (λ (r : TheRun S). r.rings) on.rest ∙ x.no_rings;
      no_links = ap (λ (c : TheCore). c.link_sides) on.event.rest ∙ x.no_links;
      progresses = x.progresses ∙ ap (λ (r : TheRun S). map progress_of r.progresses) (sym on.rest);
    } in
    record {
      answers = subst (IsWritten answer) (sym agrees.answer) (is_written answer);
      shows = subst (λ (r : TheRun S). ShowsAlone w r (goes (write name) a)) (sym same) shown;
      places = ap (λ (r : TheRun S). r.core.places) same ∙ ap (λ (c : TheCore). c.places) on.event.rest;
    }

-- ---- the law

pub writes_are : {S : Type 0} (ways : SideRelations S) → StepsAgree → WritesAreTheMachines ways
writes_are {S} ways law w s t a name place out answer x at there u =
    let k = wired w s a name place x at in
    let same : out ≡ outlet.Queue k.out = same_some (outlet_of s.core place) out (outlet.Queue k.out) there k.outlet_is in
    write_steps ways law w s t a name place answer k x at (subst (λ (o : Outlet). Happens ways (wrote name o answer) s t) same u)
