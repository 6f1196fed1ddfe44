use Rattle.std.proofs.Common.{◌∙◌}
use Rattle.fl_world_events.proofs.Ends.{side_previews}
use Rattle.fl_world_events.proofs.sending.show_by_ring.Goals as goal

pub returns-clause-shows : goal.returns-clause-shows
returns-clause-shows c = side_previews c.args.core.now c.args.place c.side-side.result c.args.ring.now c.args.m c.side-side.ensures.ring (c.side-side.ensures.side ∙ c.which_at.ensures.which) c.show.result c.show.ensures.shows _ c.answer_show.ensures.shown
