use Rattle.std.proofs.Common.{refl, sym, ◌∙◌}
use Rattle.fl_model.specs.Views.{event_of}
use Rattle.fl_world.proofs.Kept.{on_any}
use Rattle.fl_world.proofs.Stepped.{stays_by, settles_by}
use Rattle.fl_world.proofs.world.World.settle_by.Goals as goal

pub returns-then-is_interface : goal.returns-then-is_interface
returns-then-is_interface c = record {
  settled = stays_by (event_of c.args.event.now) c.args.self.now c.args.outcome.now (sym c.is_interface.ensures.interface ∙ c.if-is_interface.true);
  kept = on_any _ c.args.outcome.now refl;
}

pub returns : goal.returns
returns c = record {
  settled = settles_by (event_of c.args.event.now) c.args.self.now c.close_by.new.self c.args.outcome.now
      (sym c.is_interface.ensures.interface ∙ c.if-is_interface.false) c.close_by.ensures.closed;
  kept = c.close_by.ensures.kept;
}
