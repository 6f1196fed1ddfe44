use Rattle.std.proofs.Common.{sym}
use Rattle.fl_endpoint.specs.View.{with_parts}
use Rattle.fl_world_events.proofs.Following.{holds_like, holds_other}
use Rattle.fl_world_events.proofs.forwarding.is_like.Goals as goal

pub returns-clause-like : goal.returns-clause-like
returns-clause-like c = holds_like c.args.core.now _ c.board.ensures.board c.args.place (with_parts c.end.result.now c.end.ensures.end.0.end.parts) c.args.kept.now (c.end.ensures.end.0, c.end.ensures.end.1, sym c.end.ensures.end.2) c.are_like.result c.are_like.ensures.like

pub returns-clause-other : goal.returns-clause-other
returns-clause-other c = holds_other c.args.core.now _ c.board.ensures.board c.args.place (with_parts c.end.result.now c.end.ensures.end.0.end.parts) c.args.kept.now (c.end.ensures.end.0, c.end.ensures.end.1, sym c.end.ensures.end.2) c.are_like.result c.are_like.ensures.like
