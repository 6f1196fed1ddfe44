use Rattle.std.proofs.Common.{sym, ◌∙◌, inl}
use Rattle.fl_world_events.proofs.forwarding.take_rules_of.Goals as goal

pub returns : goal.returns
returns c = record { takes = inl (_, sym c.take_kept.ensures.kept ∙ c.in-Some.is, c.take_rules_in.ensures.takes, c.take_kept.ensures.none) }
