use Rattle.std.proofs.Common.{sym, ◌∙◌}
use Rattle.fl_world.proofs.Runs.{open_by, closed_by}
use Rattle.fl_world.proofs.world.World.close_brief.Goals as goal

pub returns-then-is_brief_refused : goal.returns-then-is_brief_refused
returns-then-is_brief_refused c = record { closed = sym (open_by _ _ (sym c.is_brief_refused.ensures.refused ∙ c.if-is_brief_refused.true)) }

pub returns : goal.returns
returns c = record { closed = closed_by _ c.args.self.now _ c.self.view_is (sym c.is_brief_refused.ensures.refused ∙ c.if-is_brief_refused.false) }
