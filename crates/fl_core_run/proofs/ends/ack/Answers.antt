use Rattle.std.proofs.Common.{refl, subst, Option}
use Rattle.fl_core_run.specs.declared.lent.LentRingEnd.{LentRingEnd}
use Rattle.fl_core_run.specs.Run.{run_by}
use Rattle.fl_core_run.specs.Steps.{AcksFrom}
use Rattle.fl_core_run.proofs.Inlets.{side_lent}
use Rattle.fl_core_run.proofs.Crossing.{acked}
use Rattle.fl_core_run.proofs.ends.ack.Goals as goal

pub ack-requires-clause-there : goal.ack-requires-clause-there
ack-requires-clause-there g c = c.in-Some.ensures.there

pub ack-requires-clause-lent : goal.ack-requires-clause-lent
ack-requires-clause-lent g c = side_lent c.args.run.now.core c.in-Some.ring_end.end c.in-Some.ring_end.side c.in-Some.ensures.inlet

pub returns-in-None : goal.returns-in-None
returns-in-None g c = record { acks = subst (λ (o : Option LentRingEnd). AcksFrom g.S.CoreSides.ways c.args.name o (run_by g.S.CoreSides.states c.args.run.now) (run_by g.S.CoreSides.states c.args.run.now)) c.in-None.ensures.ring_end refl }

pub returns-in-Some : goal.returns-in-Some
returns-in-Some g c = record {
  acks = acked g.S.CoreSides.ways (run_by g.S.CoreSides.states c.args.run.now) c.in-Some.ring_end.side (g.S.CoreSides.states c.ack.new.sides)
      c.law_sound.ensures.sound c.law_sound.ensures.whole c.args.name c.in-Some.ring_end.end c.ack.result c.in-Some.ensures.ring_end c.in-Some.ensures.place c.ack.ensures.acks;
}
