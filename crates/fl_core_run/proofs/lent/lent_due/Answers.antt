use Rattle.std.proofs.Common.{◌≡◌, ◌∙◌, sym, subst, true, false, Some, None}
use Rattle.fl_core.specs.BoardView.{TheBoard, due}
use Rattle.fl_core_run.specs.Run.{run_by}
use Rattle.fl_core_run.proofs.Lending.{no_due, due_by}
use Rattle.fl_core_run.proofs.lent.lent_due.Goals as goal

pub returns-in_default-clause-due : goal.returns-in_default-clause-due
returns-in_default-clause-due g c = sym (no_due (run_by g.S.CoreSides.states c.args.run.now) c.args.dispatcher (sym (subst (λ (b : TheBoard). None ≡ due b c.args.dispatcher) c.board-2.ensures.board c.in_default.ensures.due)))

pub returns-then-not-lends_in-clause-due : goal.returns-then-not-lends_in-clause-due
returns-then-not-lends_in-clause-due g c = sym (due_by (run_by g.S.CoreSides.states c.args.run.now) c.args.dispatcher c.in-Some.end c.inlet-inlet.result false
    (sym (subst (λ (b : TheBoard). Some c.in-Some.end ≡ due b c.args.dispatcher) c.board-2.ensures.board c.in-Some.ensures.due))
    c.inlet-inlet.ensures.inlet (sym c.lends_in.ensures.lends ∙ c.if-not-lends_in.true))

pub returns-clause-due : goal.returns-clause-due
returns-clause-due g c = sym (due_by (run_by g.S.CoreSides.states c.args.run.now) c.args.dispatcher c.in-Some.end c.inlet-inlet.result true
    (sym (subst (λ (b : TheBoard). Some c.in-Some.end ≡ due b c.args.dispatcher) c.board-2.ensures.board c.in-Some.ensures.due))
    c.inlet-inlet.ensures.inlet (sym c.lends_in.ensures.lends ∙ c.if-not-lends_in.false))

pub returns-clause-is_due : goal.returns-clause-is_due
returns-clause-is_due g c = sym (subst (λ (b : TheBoard). Some c.in-Some.end ≡ due b c.args.dispatcher) c.board-2.ensures.board c.in-Some.ensures.due)

pub returns-clause-inlet : goal.returns-clause-inlet
returns-clause-inlet g c = c.inlet-inlet.ensures.inlet

pub returns-clause-lent : goal.returns-clause-lent
returns-clause-lent g c = sym c.lends_in.ensures.lends ∙ c.if-not-lends_in.false
