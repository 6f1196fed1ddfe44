use Rattle.std.proofs.Common.{◌⊎◌, refl, subst, Option}
use Rattle.fl_model.specs.Events.{refused}
use Rattle.fl_model.specs.Views.{answer_of}
use Rattle.fl_world_refines.specs.View.{Given, ring_at}
use Rattle.fl_world_refines.specs.Lending.{Refuses, OverSide, IsStray}
use Rattle.fl_world_refines.specs.Linking.{LinkNumbers, MonitorWritesWith}
use Rattle.fl_world.proofs.world.World.monitor_write.Goals as goal

pub returns-in-None : goal.returns-in-None
returns-in-None c = record { writes = subst (λ (o : Option LinkNumbers). Given o (Refuses 73 c.args.self.now (refused 73) c.args.self.now) (λ at. OverSide c.args.self.now c.args.core at.side (MonitorWritesWith at.link (refused 73)) c.args.self.now ⊎ IsStray c.args.self.now.rings (ring_at at.side) c.args.self.now (refused 73) c.args.self.now)) c.in-None.ensures.link_side (refl, refl) }

pub write_over-requires : goal.write_over-requires
write_over-requires c = record { link = c.in-Some.ensures.there }

pub returns-in-Some : goal.returns-in-Some
returns-in-Some c = record { writes = subst (λ (o : Option LinkNumbers). Given o (Refuses 73 c.args.self.now (answer_of c.write_over.result) c.write_over.new.self) (λ at. OverSide c.args.self.now c.args.core at.side (MonitorWritesWith at.link (answer_of c.write_over.result)) c.write_over.new.self ⊎ IsStray c.args.self.now.rings (ring_at at.side) c.args.self.now (answer_of c.write_over.result) c.write_over.new.self)) c.in-Some.ensures.link_side c.write_over.ensures.writes }
