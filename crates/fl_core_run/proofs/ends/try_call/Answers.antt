use Rattle.std.proofs.Common.{◌≡◌, refl, sym, ◌∙◌, subst, ℕ, ◌<◌, length, Option, Some, Result}
use Rattle.fl_endpoint.specs.declared.fault.EndFault.{EndFault}
use Rattle.fl_endpoint.specs.View.{with_parts}
use Rattle.fl_value_data.specs.Value.{call_of}
use Rattle.fl_core.specs.BoardView.{TheBoard}
use Rattle.fl_core.specs.BoardEvents.{Holds}
use Rattle.fl_core_run.specs.Run.{run_by}
use Rattle.fl_core_run.specs.LogEntries.{NotesCalled}
use Rattle.fl_core_run.specs.Steps.{CallsAt}
use Rattle.fl_core_run.proofs.Refusing.{calls_nothing}
use Rattle.fl_core_run.proofs.Calling.{call_left, called, accepting, placed_still, placed_then}
use Rattle.fl_core_run.proofs.ends.try_call.Goals as goal

pub returns-then-is_busy : goal.returns-then-is_busy
returns-then-is_busy g c = record {
  calls = calls_nothing g.S.CoreSides.ways c.args.name c.args.next.now (run_by g.S.CoreSides.states c.args.run.now) c.in-Some.e (with_parts c.end.result.now c.end.ensures.end.0.end.parts)
      (sym c.place.ensures.place ∙ c.in-Some.is)
      (subst (λ (b : TheBoard). Holds b c.in-Some.e (λ seat. with_parts c.end.result.now c.end.ensures.end.0.end.parts ≡ seat.end)) c.board.ensures.board (c.end.ensures.end.0, c.end.ensures.end.1, sym c.end.ensures.end.2))
      (sym c.is_busy.ensures.busy ∙ c.if-is_busy.true) c.law_sound.ensures.sound c.law_sound.ensures.whole (c.law_sound_at.ensures.sound c.args.name (sym c.in-Some.ensures.place));
  place = record { is = sym c.in-Some.ensures.place; within = c.in-Some.ensures.within };
  kept = tt;
  accepts = tt;
}

pub law_sound_at-requires : goal.law_sound_at-requires
law_sound_at-requires g c = record { there = c.in-Some.ensures.within }

pub end-requires : goal.end-requires
end-requires g c = subst (λ (b : TheBoard). c.in-Some.e < length b.seats) (sym c.board.ensures.board) c.in-Some.ensures.within

pub call_compact-answer-requires : goal.call_compact-answer-requires
call_compact-answer-requires g c = c.in-Some.ensures.within

pub returns-then-is_memory-clause-kept : goal.returns-then-is_memory-clause-kept
returns-then-is_memory-clause-kept g c =
    call_left (run_by g.S.CoreSides.states c.args.run.now) c.call_compact-answer.new.self c.call_compact-answer.result (sym c.is_memory.ensures.memory ∙ c.if-is_memory.true) c.call_compact-answer.ensures.kept

pub returns-then-is_memory-clause-accepts : goal.returns-then-is_memory-clause-accepts
returns-then-is_memory-clause-accepts g c =
    accepting c.args.run.now.core c.call_compact-answer.new.self c.args.name c.in-Some.e (call_of c.args.next.now) c.call_compact-answer.result
    (sym c.is_memory.ensures.memory ∙ c.if-is_memory.true) c.in-Some.ensures.place c.call_compact-answer.ensures.calls

pub advance-requires : goal.advance-requires
advance-requires g c = record { left = c.requires.left }

pub returns-in-None-clause-calls : goal.returns-in-None-clause-calls
returns-in-None-clause-calls g c = subst (λ (o : Option ℕ). CallsAt g.S.CoreSides.ways c.args.name c.args.next.now o (run_by g.S.CoreSides.states c.args.run.now) (run_by g.S.CoreSides.states c.args.run.now)) c.in-None.ensures.place refl

pub returns-in-None-clause-place : goal.returns-in-None-clause-place
returns-in-None-clause-place g c = record { is = sym c.in-None.ensures.place; within = tt }

pub returns-in-Ok-clause-calls : goal.returns-in-Ok-clause-calls
returns-in-Ok-clause-calls g c =
    called g.S.CoreSides.ways c.args.name (run_by g.S.CoreSides.states c.args.run.now) (run_by g.S.CoreSides.states c.advance.new.run) c.in-Some.e c.call_compact-answer.new.self
    c.call_compact-answer.result c.in-Some.ensures.place c.law_sound.ensures.sound c.law_sound.ensures.whole (c.law_sound_at.ensures.sound c.args.name (sym c.in-Some.ensures.place))
    c.args.next.now c.call_compact-answer.ensures.calls (sym c.is_memory.ensures.memory ∙ c.if-is_memory.false)
    (subst (λ (a : Result (Unit {0}) EndFault). NotesCalled c.args.name a (record (run_by g.S.CoreSides.states c.args.run.now) { core = c.call_compact-answer.new.self }) (run_by g.S.CoreSides.states c.advance.new.run))
    (sym c.in-Ok.is) (c.advance.ensures.advanced c.args.name c.requires.found))

pub returns-in-Ok-clause-place : goal.returns-in-Ok-clause-place
returns-in-Ok-clause-place g c =
    placed_then (record (run_by g.S.CoreSides.states c.args.run.now) { core = c.call_compact-answer.new.self }) (run_by g.S.CoreSides.states c.advance.new.run) c.args.name (Some c.in-Some.e)
    (c.advance.ensures.advanced c.args.name c.requires.found)
    (placed_still c.args.run.now.core c.call_compact-answer.new.self c.args.name c.in-Some.e c.call_compact-answer.ensures.calls.event.seat c.call_compact-answer.ensures.calls.event.end
    c.in-Some.ensures.place c.in-Some.ensures.within c.call_compact-answer.ensures.calls.rest c.call_compact-answer.ensures.calls.event.board)

pub returns-in-Err-clause-calls : goal.returns-in-Err-clause-calls
returns-in-Err-clause-calls g c =
    called g.S.CoreSides.ways c.args.name (run_by g.S.CoreSides.states c.args.run.now) _ c.in-Some.e c.call_compact-answer.new.self
    c.call_compact-answer.result c.in-Some.ensures.place c.law_sound.ensures.sound c.law_sound.ensures.whole (c.law_sound_at.ensures.sound c.args.name (sym c.in-Some.ensures.place))
    c.args.next.now c.call_compact-answer.ensures.calls (sym c.is_memory.ensures.memory ∙ c.if-is_memory.false)
    (subst (λ (a : Result (Unit {0}) EndFault). NotesCalled c.args.name a (record (run_by g.S.CoreSides.states c.args.run.now) { core = c.call_compact-answer.new.self })
    (record (run_by g.S.CoreSides.states c.args.run.now) { core = c.call_compact-answer.new.self })) (sym c.in-Err.is) refl)

pub returns-in-Err-clause-place : goal.returns-in-Err-clause-place
returns-in-Err-clause-place g c =
    placed_still c.args.run.now.core c.call_compact-answer.new.self c.args.name c.in-Some.e c.call_compact-answer.ensures.calls.event.seat c.call_compact-answer.ensures.calls.event.end
    c.in-Some.ensures.place c.in-Some.ensures.within c.call_compact-answer.ensures.calls.rest c.call_compact-answer.ensures.calls.event.board
