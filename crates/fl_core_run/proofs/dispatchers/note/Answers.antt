use Rattle.std.proofs.Common.{◌<◌, length, subst, sym, slice_set, arith}
use Rattle.std.proofs.lemmas.Result.{on_ok_weaker}
use Rattle.fl_core.specs.declared.turn_answer.TurnAnswer.{TurnAnswer}
use Rattle.fl_core_run.specs.LogEntries.{NotesTurned}
use Rattle.fl_core_run.specs.EndProgress.{with_handled}
use Rattle.fl_core_run.specs.Run.{run_by}
use Rattle.fl_core_run.specs.Inside.{OfProgress}
use Rattle.fl_core_run.proofs.AtProgress.{no_progress, some_within, at_progress}
use Rattle.fl_core_run.proofs.Stopping.{call_left}
use Rattle.fl_core_run.proofs.dispatchers.note.Goals as goal

pub index_mut-requires : goal.index_mut-requires
index_mut-requires g c =
    let within : c.in-Some.place < length c.args.run.now.progresses.items =
    some_within c.args.progress c.in-Some.place (length c.args.run.now.progresses.items) c.in-Some.is c.requires.there in
    omega (arith, within, c.args.run.now.progresses.ok.0)

pub returns-in-Some-clause-left : goal.returns-in-Some-clause-left
returns-in-Some-clause-left g c =
    call_left (run_by g.S.CoreSides.states c.args.run.now) c.args.answer c.in-Handle.call c.in-Some.place c.index_mut.result.now c.take.new.self c.take.result c.in-Handle.is
    (some_within c.args.progress c.in-Some.place (length c.args.run.now.progresses.items) c.in-Some.is c.requires.there) c.index_mut.ensures.value c.take.ensures.kept

pub returns-in-None-clause-notes : goal.returns-in-None-clause-notes
returns-in-None-clause-notes g c =
    subst (λ (a : TurnAnswer). OfProgress c.args.progress (run_by g.S.CoreSides.states c.args.run.now) (λ name. NotesTurned name a (run_by g.S.CoreSides.states c.args.run.now) (run_by g.S.CoreSides.states c.args.run.now)))
    (sym c.in-Handle.is) (no_progress (run_by g.S.CoreSides.states c.args.run.now) c.args.progress (with_handled c.in-Handle.call) c.in-None.is)

pub returns-in-Some-clause-notes : goal.returns-in-Some-clause-notes
returns-in-Some-clause-notes g c =
    let run = run_by g.S.CoreSides.states c.args.run.now in
    on_ok_weaker c.take.result (λ taken.
    subst (λ (a : TurnAnswer). OfProgress c.args.progress run (λ name. NotesTurned name a run
    (record run { progresses = slice_set c.args.run.now.progresses.items c.in-Some.place c.take.new.self }))) (sym c.in-Handle.is)
    (at_progress run c.args.progress c.in-Some.place c.index_mut.result.now c.in-Some.is
    (some_within c.args.progress c.in-Some.place (length c.args.run.now.progresses.items) c.in-Some.is c.requires.there)
    c.index_mut.ensures.value (with_handled c.in-Handle.call) c.take.new.self taken)) c.take.ensures.taken
