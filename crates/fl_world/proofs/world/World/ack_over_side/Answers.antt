use Rattle.std.proofs.Common.{refl, arith, inl, inr}
use Rattle.fl_world.proofs.Lifts.{core_read, over_side_alone, end_read}
use Rattle.fl_world.proofs.Lent.{past_end, stray_ring, lent_side, inlet_read, read_is}
use Rattle.fl_world.proofs.world.World.ack_over_side.Goals as goal

pub returns : goal.returns
returns c = record { acks = λ k. inl (over_side_alone c.args.self.now _ c.self.view_is c.args.n c.args.m _ c.ring_at.ensures.ring (core_read c.args.self.now _ c.self.view_is c.args.n c.args.place c.requires.end) (omega (arith, c.in-Some.ensures.variant.0 refl, c.self.inside.rings.ok.0)) _ _ c.index.ensures refl _ _ c.in-Some.ensures.value refl _ _ c.ack_by_ring.ensures.acks) }

pub invariant_of-self : goal.invariant_of-self
invariant_of-self c = c.self.invariant

pub invariant_of-self-2 : goal.invariant_of-self-2
invariant_of-self-2 c = c.self.invariant

pub index-requires : goal.index-requires
index-requires c = omega (arith, core_read c.args.self.now _ c.self.view_is c.args.n c.args.place c.requires.end, c.self.inside.cores.ok.0)

pub ack_by_ring-requires-clause-place : goal.ack_by_ring-requires-clause-place
ack_by_ring-requires-clause-place c = end_read c.args.self.now _ c.self.view_is c.args.n c.args.place c.requires.end c.index.result.now _ c.index.ensures refl

pub ack_by_ring-requires-clause-lent : goal.ack_by_ring-requires-clause-lent
ack_by_ring-requires-clause-lent c = lent_side c.index.result.now c.args.place c.args.m (inlet_read c.args.self.now c.args.n c.args.place _ c.requires.inlet c.index.result.now (read_is c.args.self.now _ c.self.view_is c.args.n c.args.place c.requires.end c.index.result.now c.index.ensures))

pub returns-in_default : goal.returns-in_default
returns-in_default c = record { acks = λ k. inr (stray_ring c.args.self.now _ c.self.view_is c.args.m _ c.ring_at.ensures.ring (omega (arith, past_end _ _ c.in_default.ensures.variant.1, c.self.inside.rings.ok.0))) }
