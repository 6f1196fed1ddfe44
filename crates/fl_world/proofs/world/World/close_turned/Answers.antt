use Rattle.std.proofs.Common.{sym, ◌∙◌}
use Rattle.fl_world.proofs.Runs.{open_by, closed_by}
use Rattle.fl_world.proofs.world.World.close_turned.Goals as goal

pub returns-then-is_turn_refused : goal.returns-then-is_turn_refused
returns-then-is_turn_refused c = record { closed = λ call. sym (open_by _ _ (sym (c.is_turn_refused.ensures.refused call) ∙ c.if-is_turn_refused.true)) }

pub returns : goal.returns
returns c = record { closed = λ call. closed_by _ c.args.self.now _ c.self.view_is (sym (c.is_turn_refused.ensures.refused call) ∙ c.if-is_turn_refused.false) }
