use Rattle.std.proofs.Common.{◌∙◌, sym, ap, subst, List}
use Rattle.fl_compile.specs.declared.program.Program.{Program}
use Rattle.fl_core.specs.Hearing.{HearsFrag, HearsFragLast}
use Rattle.fl_core.specs.declared.fault.LinkReceiveFault.TheVariants.{Memory}
use Rattle.fl_core_run.specs.Run.{run_by}
use Rattle.fl_core_run.proofs.Sides.{all_left, unheard, unheard_last}
use Rattle.fl_core_run.proofs.links.hear.Goals as goal

pub hear-answer-requires-clause-side : goal.hear-answer-requires-clause-side
hear-answer-requires-clause-side g c = c.requires.side

pub hear-answer-requires-clause-link : goal.hear-answer-requires-clause-link
hear-answer-requires-clause-link g c = c.requires.link

pub hear-answer-requires-clause-seen : goal.hear-answer-requires-clause-seen
hear-answer-requires-clause-seen g c = c.requires.seen

pub returns-then-is_memory-clause-kept : goal.returns-then-is_memory-clause-kept
returns-then-is_memory-clause-kept g c =
    let takes = c.hear-answer.ensures.takes in
    all_left (run_by g.S.CoreSides.states c.args.run.now) c.args.n _ _ takes c.hear-answer.new.core
    (unheard g.S.CoreSides.ways.takes _ c.args.link c.args.frag.now c.args.run.now.core c.hear-answer.new.core takes.before takes.after c.hear-answer.result
    (sym c.is_memory.ensures.memory ∙ c.if-is_memory.true) c.hear-answer.ensures.hears takes.event)

pub returns-then-is_memory-clause-last : goal.returns-then-is_memory-clause-last
returns-then-is_memory-clause-last g c =
    subst (λ (xs : List Program). HearsFragLast (record { names = c.args.run.now.names; programs = xs }) c.args.link c.args.frag.now c.args.run.now.core Memory) c.deref.ensures.value
    (unheard_last _ c.hear-answer.result (sym c.is_memory.ensures.memory ∙ c.if-is_memory.true) c.hear-answer.ensures.last)

pub returns-then-not-matches-clause-heard : goal.returns-then-not-matches-clause-heard
returns-then-not-matches-clause-heard g c = record {
  before = c.hear-answer.ensures.takes.before;
  before_is = c.hear-answer.ensures.takes.before_is;
  after = c.hear-answer.ensures.takes.after;
  event = (
    subst (λ (xs : List Program). HearsFrag (record { names = c.args.run.now.names; programs = xs }) c.args.link c.args.frag.now c.args.run.now.core c.hear-answer.result c.hear-answer.new.core)
        c.deref.ensures.value c.hear-answer.ensures.hears,
    c.hear-answer.ensures.takes.event,
  );
  rest = ap (λ (xs : List g.S.CoreSides.State). record (run_by g.S.CoreSides.states c.args.run.now) { core = c.hear-answer.new.core; rings = xs }) c.hear-answer.ensures.takes.rest;
}

pub returns-then-not-matches-clause-memory : goal.returns-then-not-matches-clause-memory
returns-then-not-matches-clause-memory g c = sym c.is_memory.ensures.memory ∙ c.if-is_memory.false

pub returns-else-not-matches-clause-heard : goal.returns-else-not-matches-clause-heard
returns-else-not-matches-clause-heard g c = record {
  before = c.hear-answer.ensures.takes.before;
  before_is = c.hear-answer.ensures.takes.before_is;
  after = c.hear-answer.ensures.takes.after;
  event = (
    subst (λ (xs : List Program). HearsFrag (record { names = c.args.run.now.names; programs = xs }) c.args.link c.args.frag.now c.args.run.now.core c.hear-answer.result c.hear-answer.new.core)
        c.deref.ensures.value c.hear-answer.ensures.hears,
    c.hear-answer.ensures.takes.event,
  );
  rest = ap (λ (xs : List g.S.CoreSides.State). record (run_by g.S.CoreSides.states c.args.run.now) { core = c.hear-answer.new.core; rings = xs }) c.hear-answer.ensures.takes.rest;
}

pub returns-else-not-matches-clause-memory : goal.returns-else-not-matches-clause-memory
returns-else-not-matches-clause-memory g c = sym c.is_memory.ensures.memory ∙ c.if-is_memory.false
