use Rattle.std.proofs.Common.{◌⊎◌, refl, subst, Option}
use Rattle.fl_model.specs.Events.{refused}
use Rattle.fl_model.specs.Views.{answer_of}
use Rattle.fl_world_refines.specs.View.{Given, ring_at}
use Rattle.fl_world_refines.specs.Lending.{Refuses, OverSide, IsStray}
use Rattle.fl_world_refines.specs.Linking.{LinkNumbers, AcksLinkWith}
use Rattle.fl_world.proofs.world.World.monitor_ack.Goals as goal

pub returns-in-None : goal.returns-in-None
returns-in-None c = record { acks = subst (λ (o : Option LinkNumbers). Given o (Refuses 73 c.args.self.now (refused 73) c.args.self.now) (λ at. OverSide c.args.self.now c.args.core at.side (AcksLinkWith (refused 73)) c.args.self.now ⊎ IsStray c.args.self.now.rings (ring_at at.side) c.args.self.now (refused 73) c.args.self.now)) c.in-None.ensures.link_side (refl, refl) }

pub ack_over-requires : goal.ack_over-requires
ack_over-requires c = record { link = c.in-Some.ensures.there }

pub returns-in-Some : goal.returns-in-Some
returns-in-Some c = record { acks = subst (λ (o : Option LinkNumbers). Given o (Refuses 73 c.args.self.now (answer_of c.ack_over.result) c.ack_over.new.self) (λ at. OverSide c.args.self.now c.args.core at.side (AcksLinkWith (answer_of c.ack_over.result)) c.ack_over.new.self ⊎ IsStray c.args.self.now.rings (ring_at at.side) c.args.self.now (answer_of c.ack_over.result) c.ack_over.new.self)) c.in-Some.ensures.link_side c.ack_over.ensures.acks }
