use Rattle.std.proofs.Common.{◌∙◌, refl, ap, inl, Ok}
use Rattle.fl_core.specs.declared.answer.LinkFront.TheVariants.{Acknowledged, Message, Onward, Arrival}
use Rattle.fl_core_run.specs.Run.{run_by}
use Rattle.fl_core_run.proofs.Dealing.{foreseen, handed_out}
use Rattle.fl_core_run.proofs.Stopping.{on_err}
use Rattle.fl_core_run.proofs.links.hand_out.Goals as goal

pub hear-requires-clause-seen : goal.hear-requires-clause-seen
hear-requires-clause-seen g c = foreseen g.S.CoreSides.ways c.args.n c.args.link c.args.found c.in-Ok-Message.field-0 (Message c.in-Ok-Message.frag) (run_by g.S.CoreSides.states c.args.run.now) c.in-Ok-Message.is (rw c.in-Ok-Message.is at c.in-Ok-Message.field-0-is) c.requires.foreseen

pub returns-in_err-answer-in-Ok-Message-clause-left : goal.returns-in_err-answer-in-Ok-Message-clause-left
returns-in_err-answer-in-Ok-Message-clause-left g c = on_err c.from_residual.result
    (c.in-Ok-Message.frag, c.in-Ok-Message.is ∙ ap Ok (rw c.in-Ok-Message.is at c.in-Ok-Message.field-0-is), c.in_err-answer-in-Ok-Message.ensures.kept, c.in_err-answer-in-Ok-Message.ensures.last)

pub cross-requires-clause-seen : goal.cross-requires-clause-seen
cross-requires-clause-seen g c = (foreseen g.S.CoreSides.ways c.args.n c.args.link c.args.found c.in-Ok-Onward.field-0 (Onward c.in-Ok-Onward.frag c.in-Ok-Onward.to c.in-Ok-Onward.circuit) (run_by g.S.CoreSides.states c.args.run.now) c.in-Ok-Onward.is (rw c.in-Ok-Onward.is at c.in-Ok-Onward.field-0-is) c.requires.foreseen).0

pub cross-requires-clause-call : goal.cross-requires-clause-call
cross-requires-clause-call g c = (foreseen g.S.CoreSides.ways c.args.n c.args.link c.args.found c.in-Ok-Onward.field-0 (Onward c.in-Ok-Onward.frag c.in-Ok-Onward.to c.in-Ok-Onward.circuit) (run_by g.S.CoreSides.states c.args.run.now) c.in-Ok-Onward.is (rw c.in-Ok-Onward.is at c.in-Ok-Onward.field-0-is) c.requires.foreseen).1

pub arrive-outcome-requires-clause-seen : goal.arrive-outcome-requires-clause-seen
arrive-outcome-requires-clause-seen g c = (foreseen g.S.CoreSides.ways c.args.n c.args.link c.args.found c.in-Ok-Arrival.field-0 (Arrival c.in-Ok-Arrival.frag c.in-Ok-Arrival.end) (run_by g.S.CoreSides.states c.args.run.now) c.in-Ok-Arrival.is (rw c.in-Ok-Arrival.is at c.in-Ok-Arrival.field-0-is) c.requires.foreseen).0

pub arrive-outcome-requires-clause-call : goal.arrive-outcome-requires-clause-call
arrive-outcome-requires-clause-call g c = (foreseen g.S.CoreSides.ways c.args.n c.args.link c.args.found c.in-Ok-Arrival.field-0 (Arrival c.in-Ok-Arrival.frag c.in-Ok-Arrival.end) (run_by g.S.CoreSides.states c.args.run.now) c.in-Ok-Arrival.is (rw c.in-Ok-Arrival.is at c.in-Ok-Arrival.field-0-is) c.requires.foreseen).1

pub returns-in-Ok-Acknowledged-clause-hands_out : goal.returns-in-Ok-Acknowledged-clause-hands_out
returns-in-Ok-Acknowledged-clause-hands_out g c = handed_out g.S.CoreSides.ways c.args.n c.args.link c.args.found c.in-Ok-Acknowledged.field-0 Acknowledged (run_by g.S.CoreSides.states c.args.run.now) c.in-Ok-Acknowledged.is (rw c.in-Ok-Acknowledged.is at c.in-Ok-Acknowledged.field-0-is) (run_by g.S.CoreSides.states c.args.run.now) refl

pub returns-in_ok-answer-in-Ok-Message-clause-hands_out : goal.returns-in_ok-answer-in-Ok-Message-clause-hands_out
returns-in_ok-answer-in-Ok-Message-clause-hands_out g c = handed_out g.S.CoreSides.ways c.args.n c.args.link c.args.found c.in-Ok-Message.field-0 (Message c.in-Ok-Message.frag) (run_by g.S.CoreSides.states c.args.run.now) c.in-Ok-Message.is (rw c.in-Ok-Message.is at c.in-Ok-Message.field-0-is) (run_by g.S.CoreSides.states c.note.new.run)
    (c.in_ok-answer-in-Ok-Message.answer, (run_by g.S.CoreSides.states c.hear.new.run, c.in_ok-answer-in-Ok-Message.ensures.heard, c.note.ensures.notes, c.law_sound.ensures.sound, tt, c.law_sound.ensures.whole), c.in_ok-answer-in-Ok-Message.ensures.memory)

pub returns-then-to-count-clause-hands_out : goal.returns-then-to-count-clause-hands_out
returns-then-to-count-clause-hands_out g c = handed_out g.S.CoreSides.ways c.args.n c.args.link c.args.found c.in-Ok-Onward.field-0 (Onward c.in-Ok-Onward.frag c.in-Ok-Onward.to c.in-Ok-Onward.circuit) (run_by g.S.CoreSides.states c.args.run.now) c.in-Ok-Onward.is (rw c.in-Ok-Onward.is at c.in-Ok-Onward.field-0-is) (run_by g.S.CoreSides.states c.cross.new.run)
    (inl (c.cross.result, (run_by g.S.CoreSides.states c.cross.new.run, c.cross.ensures.passed, refl, c.law_sound.ensures.sound, tt, c.law_sound.ensures.whole)))

pub returns-then-matches-clause-hands_out : goal.returns-then-matches-clause-hands_out
returns-then-matches-clause-hands_out g c = handed_out g.S.CoreSides.ways c.args.n c.args.link c.args.found c.in-Ok-Arrival.field-0 (Arrival c.in-Ok-Arrival.frag c.in-Ok-Arrival.end) (run_by g.S.CoreSides.states c.args.run.now) c.in-Ok-Arrival.is (rw c.in-Ok-Arrival.is at c.in-Ok-Arrival.field-0-is) (run_by g.S.CoreSides.states c.arrive-outcome.new.run)
    (c.arrive-outcome.result, (run_by g.S.CoreSides.states c.arrive-outcome.new.run, c.arrive-outcome.ensures.arrived, refl, c.law_sound.ensures.sound, tt, c.law_sound.ensures.whole))

pub returns-else-matches-clause-hands_out : goal.returns-else-matches-clause-hands_out
returns-else-matches-clause-hands_out g c = handed_out g.S.CoreSides.ways c.args.n c.args.link c.args.found c.in-Ok-Arrival.field-0 (Arrival c.in-Ok-Arrival.frag c.in-Ok-Arrival.end) (run_by g.S.CoreSides.states c.args.run.now) c.in-Ok-Arrival.is (rw c.in-Ok-Arrival.is at c.in-Ok-Arrival.field-0-is) (run_by g.S.CoreSides.states c.arrive-outcome.new.run)
    (c.arrive-outcome.result, (run_by g.S.CoreSides.states c.arrive-outcome.new.run, c.arrive-outcome.ensures.arrived, refl, c.law_sound.ensures.sound, tt, c.law_sound.ensures.whole))
