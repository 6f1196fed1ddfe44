use Rattle.std.proofs.Common.{◌∙◌, refl, sym, ap, subst, inl, true, false, List, length}
use Rattle.std.specs.Prelude.{◌<◌, IfSome}
use Rattle.std.proofs.lemmas.Result.{IfOk-from_err, on_ok_weaker, on_err_weaker}
use Rattle.fl_core_run.specs.EndProgress.{TheEndProgress, progress_place}
use Rattle.fl_core_run.specs.LogEntries.{dispatcher_turn}
use Rattle.fl_core_run.specs.Run.{run_by}
use Rattle.fl_core_run.specs.Steps.{awaits}
use Rattle.fl_core_run.proofs.Stopping.{on_err, handled_left, taken, left_turn}
use Rattle.fl_core_run.proofs.Turning.{same_progresses}
use Rattle.fl_core_run.proofs.dispatchers.turn.Goals as goal

pub law_sound_at-requires : goal.law_sound_at-requires
law_sound_at-requires g c = record { there = c.in-Some.ensures.there }

pub awaits-requires : goal.awaits-requires
awaits-requires g c = record { there = c.progress_of-progress.ensures.within }

pub returns-then-awaits-clause-turns : goal.returns-then-awaits-clause-turns
returns-then-awaits-clause-turns g c =
    taken g.S.CoreSides.ways c.args.jobs.now c.args.dispatcher c.name-name.result c.in-Some.at (run_by g.S.CoreSides.states c.args.run.now) (run_by g.S.CoreSides.states c.args.run.now) c.in-Some.ensures.due c.name-name.ensures.place
    true (c.if-awaits.ensures.awaits c.name-name.result (sym c.progress_of-progress.ensures.place)) refl

pub turn_over-requires : goal.turn_over-requires
turn_over-requires g c = record {
  there = c.in-Some.ensures.dispatcher;
  due = c.in-Some.ensures.is_due;
  inlet = c.in-Some.ensures.inlet;
  lent = c.in-Some.ensures.lent;
}

pub returns-in_err-answer : goal.returns-in_err-answer
returns-in_err-answer g c = record {
  turns = IfOk-from_err c.from_residual.result _ c.from_residual.ensures.0;
  left = on_err c.from_residual.result
      (left_turn g.S.CoreSides.ways c.args.jobs.now c.args.dispatcher c.name-name.result c.in-Some.at (run_by g.S.CoreSides.states c.args.run.now) (run_by g.S.CoreSides.states c.turn_over.new.run) c.in-Some.ensures.due c.name-name.ensures.place
      (sym (c.if-awaits.ensures.awaits c.name-name.result (sym c.progress_of-progress.ensures.place))) (inl (c.in_err-answer.field-0.0, c.in_err-answer.ensures.turns)));
}

pub note-requires : goal.note-requires
note-requires g c = record {
  there = subst (λ (xs : List TheEndProgress). IfSome c.progress_of-progress.result (λ n. n < length xs))
      (sym (same_progresses g.S.CoreSides.ways (dispatcher_turn c.args.dispatcher c.in-Some.at.end c.turn_over.result) c.in-Some.at.inlet (run_by g.S.CoreSides.states c.args.run.now) (run_by g.S.CoreSides.states c.turn_over.new.run) c.turn_over.ensures.turns))
      c.progress_of-progress.ensures.within;
}

pub returns-clause-turns : goal.returns-clause-turns
returns-clause-turns g c =
    let found = ap (λ (xs : List TheEndProgress). progress_place xs c.name-name.result)
    (same_progresses g.S.CoreSides.ways (dispatcher_turn c.args.dispatcher c.in-Some.at.end c.turn_over.result) c.in-Some.at.inlet (run_by g.S.CoreSides.states c.args.run.now) (run_by g.S.CoreSides.states c.turn_over.new.run) c.turn_over.ensures.turns)
    ∙ sym c.progress_of-progress.ensures.place in
    on_ok_weaker c.note.result (λ notes.
    taken g.S.CoreSides.ways c.args.jobs.now c.args.dispatcher c.name-name.result c.in-Some.at (run_by g.S.CoreSides.states c.args.run.now) (run_by g.S.CoreSides.states c.note.new.run) c.in-Some.ensures.due c.name-name.ensures.place
    false (c.if-awaits.ensures.awaits c.name-name.result (sym c.progress_of-progress.ensures.place)) (
      c.in_ok-answer.answer,
      (
        run_by g.S.CoreSides.states c.turn_over.new.run,
        (c.in-Some.at.end, c.name-name.ensures.place, c.in-Some.ensures.is_due, c.in_ok-answer.ensures.turns),
        notes c.name-name.result found,
        c.law_sound.ensures.sound,
        c.law_sound_at.ensures.sound c.name-name.result c.name-name.ensures.place,
        c.law_sound.ensures.whole,
      ),
    )) c.note.ensures.notes

pub returns-clause-left : goal.returns-clause-left
returns-clause-left g c =
    on_err_weaker c.note.result (λ h.
    left_turn g.S.CoreSides.ways c.args.jobs.now c.args.dispatcher c.name-name.result c.in-Some.at (run_by g.S.CoreSides.states c.args.run.now) (run_by g.S.CoreSides.states c.note.new.run) c.in-Some.ensures.due c.name-name.ensures.place h.0 h.1)
    (handled_left g.S.CoreSides.ways c.args.dispatcher c.name-name.result c.in-Some.at (awaits c.args.jobs.now (run_by g.S.CoreSides.states c.args.run.now) c.name-name.result) c.in_ok-answer.answer
    (run_by g.S.CoreSides.states c.args.run.now) (run_by g.S.CoreSides.states c.turn_over.new.run) (run_by g.S.CoreSides.states c.note.new.run) c.note.result
    (sym (c.if-awaits.ensures.awaits c.name-name.result (sym c.progress_of-progress.ensures.place)))
    (c.in-Some.at.end, c.name-name.ensures.place, c.in-Some.ensures.is_due, c.in_ok-answer.ensures.turns) c.note.ensures.left)
