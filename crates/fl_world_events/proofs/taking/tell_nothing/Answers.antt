use Rattle.std.proofs.Common.{sym, ◌∙◌}
use Rattle.fl_endpoint.specs.View.{with_parts}
use Rattle.fl_world_events.proofs.Ends.{tells_bound, tells_unbound}
use Rattle.fl_world_events.proofs.taking.tell_nothing.Goals as goal

pub returns-then-is_bound : goal.returns-then-is_bound
returns-then-is_bound c = record { tells = tells_bound c.args.core.now _ c.board.ensures.board c.args.place (with_parts c.end.result.now c.end.ensures.end.0.end.parts) (c.end.ensures.end.0, c.end.ensures.end.1, sym c.end.ensures.end.2) (sym c.is_bound.ensures.bound ∙ c.if-is_bound.true) }

pub returns-else-is_bound : goal.returns-else-is_bound
returns-else-is_bound c = record { tells = tells_unbound c.args.core.now _ c.board.ensures.board c.args.place (with_parts c.end.result.now c.end.ensures.end.0.end.parts) (c.end.ensures.end.0, c.end.ensures.end.1, sym c.end.ensures.end.2) (sym c.is_bound.ensures.bound ∙ c.if-is_bound.false) }
