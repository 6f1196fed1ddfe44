use Rattle.std.proofs.Common.{ℕ, sym, ◌∙◌, subst}
use Rattle.fl_model.specs.Events.{refused}
use Rattle.fl_world_events.specs.Routes.{IsAnsweredIn}
use Rattle.fl_world_events.proofs.Last.{answered_there, answered_refused}
use Rattle.fl_world_events.proofs.by_route.answer_in.Goals as goal

pub returns-then-has_end : goal.returns-then-has_end
returns-then-has_end c = record {
  answer = answered_there c.args.dispatcher c.args.link c.args.opening.now c.args.core.now c.law_whole.ensures.whole (sym c.has_end.ensures.end ∙ c.if-has_end.true);
  may = tt;
}

pub returns-in-Err : goal.returns-in-Err
returns-in-Err c = record {
  answer = subst (λ (n : ℕ). IsAnsweredIn c.args.dispatcher c.args.link c.args.opening.now (refused n) c.args.core.now) (sym c.number.ensures.number)
      (answered_refused c.args.dispatcher c.args.link c.args.opening.now c.args.core.now c.law_whole.ensures.whole c.in-Err.fault c.in-Err.ensures.refused);
  may = tt;
}
