use Rattle.std.proofs.Common.{refl, sym, ◌∙◌, subst, Bool}
use Rattle.std.proofs.lemmas.Result.{IfOk-from_err}
use Rattle.fl_core.specs.Making.{asked}
use Rattle.fl_core_run.specs.Run.{run_by}
use Rattle.fl_core_run.specs.Steps.{may_ask, OpensIf}
use Rattle.fl_core_run.proofs.Asking.{may, refused_before, asked_left}
use Rattle.fl_core_run.proofs.Stopping.{on_err}
use Rattle.fl_core_run.proofs.opening.open.Goals as goal

pub returns-then-not-may_ask-clause-opens : goal.returns-then-not-may_ask-clause-opens
returns-then-not-may_ask-clause-opens g c = λ name at.
    subst (λ (b : Bool). OpensIf g.S.CoreSides.ways b name c.args.request.now (run_by g.S.CoreSides.states c.args.run.now) (run_by g.S.CoreSides.states c.args.run.now)) c.if-not-may_ask.ensures.may refl

pub may_open-requires : goal.may_open-requires
may_open-requires g c = (may (run_by g.S.CoreSides.states c.args.run.now) c.args.request.now c.if-not-may_ask.ensures.may).dispatcher

pub note-requires : goal.note-requires
note-requires g c = record { left = c.requires.left }

pub returns-in-Err-clause-opens : goal.returns-in-Err-clause-opens
returns-in-Err-clause-opens g c =
    refused_before g.S.CoreSides.ways (run_by g.S.CoreSides.states c.args.run.now) (run_by g.S.CoreSides.states c.note.new.run) c.args.progress c.args.request.now c.in-Err.fault
    (may_ask (run_by g.S.CoreSides.states c.args.run.now) c.args.request.now) c.if-not-may_ask.ensures.may
    (may (run_by g.S.CoreSides.states c.args.run.now) c.args.request.now c.if-not-may_ask.ensures.may).program c.in-Err.ensures.refused c.note.ensures.notes
    c.law_sound.ensures.sound c.law_sound.ensures.whole

pub copy-requires : goal.copy-requires
copy-requires g c = (may (run_by g.S.CoreSides.states c.args.run.now) c.args.request.now c.if-not-may_ask.ensures.may).program

pub returns-in_err-program : goal.returns-in_err-program
returns-in_err-program g c = record {
  opens = IfOk-from_err c.from_residual.result _ c.from_residual.ensures.0;
  kept = on_err c.from_residual.result refl;
  begins = on_err c.from_residual.result (sym c.if-not-may_ask.ensures.may, c.in_default.ensures.may);
}

pub open-answer-requires : goal.open-answer-requires
open-answer-requires g c = let asks = may (run_by g.S.CoreSides.states c.args.run.now) c.args.request.now c.if-not-may_ask.ensures.may in
    record { dispatcher = asks.dispatcher; few = asks.few; new = asks.new }

pub returns-then-is_memory-clause-kept : goal.returns-then-is_memory-clause-kept
returns-then-is_memory-clause-kept g c =
    asked_left (asked c.args.request.now.dispatcher c.in_ok-program.program c.args.request.now.link c.args.request.now.opening) (run_by g.S.CoreSides.states c.args.run.now) c.open-answer.new.self
    c.open-answer.result (sym c.is_memory.ensures.memory ∙ c.if-is_memory.true) c.open-answer.ensures.asks

pub returns-then-is_memory-clause-begins : goal.returns-then-is_memory-clause-begins
returns-then-is_memory-clause-begins g c = (sym c.if-not-may_ask.ensures.may, c.in_default.ensures.may)

pub note-requires-2 : goal.note-requires-2
note-requires-2 g c = record { left = c.requires.left }

pub returns-clause-opens : goal.returns-clause-opens
returns-clause-opens g c = λ name at. subst (λ (b : Bool). OpensIf g.S.CoreSides.ways b name c.args.request.now (run_by g.S.CoreSides.states c.args.run.now) (run_by g.S.CoreSides.states c.note-2.new.run)) c.if-not-may_ask.ensures.may (
  c.open-answer.result,
  (
    record (run_by g.S.CoreSides.states c.args.run.now) { core = c.open-answer.new.self },
    record {
      event = record { program = c.in_ok-program.program; copy = c.in_ok-program.ensures.copy; asks = c.open-answer.ensures.asks };
      rest = refl;
    },
    c.note-2.ensures.notes name at,
    c.law_sound.ensures.sound,
    tt,
    c.law_sound.ensures.whole,
  ),
  sym c.is_memory.ensures.memory ∙ c.if-is_memory.false,
)
